-- The one that is kept is the one that decides, and there is only one.
use Rattle.std.proofs.Common.{◌≡◌, ℕ, zero, suc, Bool, true, false, ◌⊎◌, inl, inr, List, [], ◌∷◌, Option, Some, None, refl, sym, ap, subst, ◌∙◌, arith, cond}
use Rattle.std.proofs.lemmas.Bool.Decides.{nat_tests}
use Rattle.homeo_syntax.specs.Source as s
use Rattle.homeo_syntax.specs.declared.workload.Refusal.{Refusal}
use Rattle.homeo_meaning.specs.Key.{definitions}
use Rattle.homeo_meaning.specs.Faults.{rank, code, comes_before, IsFaultIn, NoneBefore, Decides, IsRefusedBy, faults}
use Rattle.homeo_rules.specs.inner.Deciding.{keep_all}
use Rattle.homeo_meaning.specs.declared.call.Purpose.{Purpose}
use Rattle.homeo_meaning.specs.declared.rules.Fault.{Fault}
use Rattle.homeo_meaning.specs.declared.rules.Phase.{Phase}
use Rattle.homeo_meaning.specs.declared.rules.Phase.TheVariants as P

pub irreflexive : (f : Fault) → comes_before f f ≡ false
unfolding definitions
irreflexive f = grind (arith, nat_tests)

-- what is beaten by one that does not beat f does not beat f
beaten : (f g b : Fault) → comes_before g b ≡ true → comes_before g f ≡ false → comes_before b f ≡ false
unfolding definitions
beaten f g b x y = grind (arith, nat_tests)

-- what does not beat one that does not beat f does not beat f
pub weaker : (f g b : Fault) → comes_before g b ≡ false → comes_before b f ≡ false → comes_before g f ≡ false
unfolding definitions
weaker f g b x y = grind (arith, nat_tests)

record Kept (b : Fault) (fs : List Fault) (f : Fault) : Type 0 where
  there : (b ≡ f) ⊎ IsFaultIn f fs
  start : comes_before b f ≡ false
  first : NoneBefore f fs

abbrev of_some : (b : Fault) → Option Fault → Fault
of_some b None = b
of_some b (Some f) = f

-- the step: what is kept of the rest, from the one or from the other
kept_step : (b g : Fault) (fs : List Fault) (f : Fault) → (keep_all (Some g) fs ≡ Some f → Kept g fs f) → (keep_all (Some b) fs ≡ Some f → Kept b fs f) → (c : Bool) → comes_before g b ≡ c → keep_all (cond c (Some g) (Some b)) fs ≡ Some f → Kept b (g ∷ fs) f
kept_step b g fs f new old true h e =
    let k : Kept g fs f = new e in
    record { there = inr k.there; start = beaten f g b h k.start; first = (k.start, k.first) }
kept_step b g fs f new old false h e =
    let k : Kept b fs f = old e in
    let there : (b ≡ f) ⊎ IsFaultIn f (g ∷ fs) = elim k.there [ inl x ↦ inl x | inr y ↦ inr (inr y) ] in
    record { there = there; start = k.start; first = (weaker f g b h k.start, k.first) }

kept : (b : Fault) (fs : List Fault) (f : Fault) → keep_all (Some b) fs ≡ Some f → Kept b fs f
unfolding definitions
kept b [] f e =
    let same : b ≡ f = ap (of_some b) e in
    record { there = inl same; start = subst (λ x. comes_before b x ≡ false) same (irreflexive b); first = tt }
kept b (g ∷ fs) f e = kept_step b g fs f (kept g fs f) (kept b fs f) (comes_before g b) refl e

pub decides : (fs : List Fault) (f : Fault) → keep_all None fs ≡ Some f → Decides fs f
unfolding definitions
decides [] f e = cc
decides (g ∷ fs) f e =
    let k : Kept g fs f = kept g fs f e in
    record { there = k.there; first = (k.start, k.first) }

-- some fault is kept where there is one
some_step : (b g : Fault) (fs : List Fault) → (keep_all (Some g) fs ≡ None → ⊥) → (keep_all (Some b) fs ≡ None → ⊥) → (c : Bool) → keep_all (cond c (Some g) (Some b)) fs ≡ None → ⊥
some_step b g fs new old true e = new e
some_step b g fs new old false e = old e

some_kept : (b : Fault) (fs : List Fault) → keep_all (Some b) fs ≡ None → ⊥
unfolding definitions
some_kept b [] e = cc
some_kept b (g ∷ fs) e = some_step b g fs (some_kept g fs) (some_kept b fs) (comes_before g b) e

pub none_left : (fs : List Fault) → keep_all None fs ≡ None → fs ≡ []
unfolding definitions
none_left [] e = refl
none_left (g ∷ fs) e = absurd (some_kept g fs e)

-- ---- only one decides
abbrev phase_at : ℕ → Phase
phase_at zero = P.Duplicate
phase_at (suc zero) = P.Unknown
phase_at (suc (suc zero)) = P.Kind
phase_at (suc (suc (suc zero))) = P.Arity
phase_at (suc (suc (suc (suc zero)))) = P.Bounds
phase_at (suc (suc (suc (suc (suc zero))))) = P.Limits
phase_at (suc (suc (suc (suc (suc (suc zero)))))) = P.Schedule
phase_at (suc (suc (suc (suc (suc (suc (suc zero))))))) = P.Size
phase_at (suc (suc (suc (suc (suc (suc (suc (suc zero)))))))) = P.Weight
phase_at (suc (suc (suc (suc (suc (suc (suc (suc (suc n))))))))) = P.Rows

phase_of : (p : Phase) → phase_at (rank p) ≡ p
unfolding definitions
phase_of P.Duplicate = refl
phase_of P.Unknown = refl
phase_of P.Kind = refl
phase_of P.Arity = refl
phase_of P.Bounds = refl
phase_of P.Limits = refl
phase_of P.Schedule = refl
phase_of P.Size = refl
phase_of P.Weight = refl
phase_of P.Rows = refl

same_rank : (f g : Fault) → comes_before f g ≡ false → comes_before g f ≡ false → rank f.phase ≡ rank g.phase
unfolding definitions
same_rank f g x y = grind (arith, nat_tests)

same_offset : (f g : Fault) → comes_before f g ≡ false → comes_before g f ≡ false → f.offset ≡ g.offset
unfolding definitions
same_offset f g x y = grind (arith, nat_tests)

same_fault : (f g : Fault) → comes_before f g ≡ false → comes_before g f ≡ false → f ≡ g
same_fault f g x y =
    let phases : f.phase ≡ g.phase = sym (phase_of f.phase) ∙ ap phase_at (same_rank f g x y) ∙ phase_of g.phase in
    let offsets : f.offset ≡ g.offset = same_offset f g x y in
    λ i. record { phase = phases i; offset = offsets i }

not_before : (fs : List Fault) (f g : Fault) → NoneBefore f fs → IsFaultIn g fs → comes_before g f ≡ false
not_before [] f g x y = elim y [ ]
not_before (h ∷ fs) f g (x, rest) (inl e) = subst (λ k. comes_before k f ≡ false) e x
not_before (h ∷ fs) f g (x, rest) (inr there) = not_before fs f g rest there

pub one_decides : (fs : List Fault) (f g : Fault) → Decides fs f → Decides fs g → f ≡ g
one_decides fs f g d e = same_fault f g (not_before fs g f e.first d.there) (not_before fs f g d.first e.there)

-- a refusal by the fault that is kept
pub refused-by : (purpose : Purpose) (w : s.Workload) (f : Fault) (r : Refusal) → keep_all None (faults purpose w) ≡ Some f → r.code ≡ code f.phase → r.offset ≡ f.offset → IsRefusedBy purpose w r
refused-by purpose w f r e c o = record { fault = f; decides = decides (faults purpose w) f e; same_code = c; same_offset = o }

-- ---- verdicts
pub one_refusal : (purpose : Purpose) (w : s.Workload) (r q : Refusal)
    → IsRefusedBy purpose w r → IsRefusedBy purpose w q → r ≡ q
one_refusal purpose w r q x y =
    let same : x.fault ≡ y.fault = one_decides (faults purpose w) x.fault y.fault x.decides y.decides in
    let codes : r.code ≡ q.code = x.same_code ∙ ap (λ (f : Fault). code f.phase) same ∙ sym y.same_code in
    let offsets : r.offset ≡ q.offset = x.same_offset ∙ ap (λ (f : Fault). f.offset) same ∙ sym y.same_offset in
    λ i. record { code = codes i; offset = offsets i }

pub accepted_or_refused : (purpose : Purpose) (w : s.Workload) → (faults purpose w ≡ []) ⊎ ((r : Refusal) × IsRefusedBy purpose w r)
accepted_or_refused purpose w = by_kept (keep_all None (faults purpose w)) refl
  where
    by_kept : (o : Option Fault) → keep_all None (faults purpose w) ≡ o → (faults purpose w ≡ []) ⊎ ((r : Refusal) × IsRefusedBy purpose w r)
    by_kept None e = inl (none_left (faults purpose w) e)
    by_kept (Some f) e =
        let r : Refusal = record { code = code f.phase; offset = f.offset } in
        inr (r, refused-by purpose w f r e refl refl)

pub not_both : (purpose : Purpose) (w : s.Workload) (r : Refusal) → faults purpose w ≡ [] → IsRefusedBy purpose w r → ⊥
not_both purpose w r none refused =
    let there : IsFaultIn refused.fault [] = subst (IsFaultIn refused.fault) none refused.decides.there in
    elim there [ ]

pub ruleset deciding = (decides, none_left)
