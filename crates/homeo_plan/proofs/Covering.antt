-- From a template back to the atoms of each call that it covers.
use Rattle.homeo_meaning.specs.Key.{definitions as meaning_definitions}
use Rattle.homeo_plan.specs.Key.{definitions}
use Rattle.std.proofs.Common.{◌≡◌, ℕ, Bool, true, false, cond, ◌||◌, List, [], ◌∷◌, ◌++◌, ℤ, pos, ◌+ℤ◌, ◌≤ℤ◌, neg_ℤ, refl, sym, ap₂, subst, inl, inr, ⊎_elim, true≢false, arith, map}
use Rattle.std.proofs.lemmas.Int.{ints}
use Rattle.std.specs.Ordering.{int_eq}
use Rattle.std.specs.List.{list_any}
use Rattle.std.proofs.lemmas.Bool.{and_parts}
use Rattle.homeo_lemmas.proofs.Integers.{int_is}
use Rattle.homeo_meaning.specs.LowMeaning.{State}
use Rattle.homeo_plan.specs.Each.{Each, Member}
use Rattle.homeo_plan.specs.declared.forms.Delta.{Delta}
use Rattle.homeo_plan.specs.declared.forms.Term.{Term}
use Rattle.homeo_plan.specs.Linear.{same_delta, Linear, add_deltas, is_empty, terms_value, IsZeroAt}
use Rattle.homeo_plan.specs.Holding.{AtomHolds}
use Rattle.homeo_plan.specs.Template.{PlannedCall, atoms_of, needs_of, Clause, clause_of, same_term, same_terms, same_clause, with_clause, clauses_from, atoms_of_sets, put_all, template, Covers}
use Rattle.homeo_plan.proofs.Factors.{same_delta_is}
use Rattle.homeo_plan.proofs.Tracked.{each_add_deltas}
use Rattle.homeo_plan.proofs.Atoms.{each_append}
use Rattle.homeo_plan.specs.Tracking.{IsBelowAtBase, ClauseHolds}

pub same_terms_is : (ts us : List Term) → same_terms ts us ≡ true → ts ≡ us
unfolding definitions meaning_definitions
same_terms_is [] [] e = refl
same_terms_is [] (u ∷ us) e = absurd (true≢false (sym e))
same_terms_is (t ∷ ts) [] e = absurd (true≢false (sym e))
same_terms_is (t ∷ ts) (u ∷ us) e =
    let p = and_parts (same_term t u) (same_terms ts us) e in
    let q = and_parts (same_delta t.delta u.delta) (int_eq t.factor u.factor) p.0 in
    let x = same_delta_is t.delta u.delta q.0 in
    let y = int_is t.factor u.factor q.1 in
    let z : t ≡ u = λ i. record { delta = x i; factor = y i } in
    ap₂ ◌∷◌ z (same_terms_is ts us p.1)

same_clause_is : (a b : Clause) → same_clause a b ≡ true → a ≡ b
unfolding definitions meaning_definitions
same_clause_is a b e =
    let p = and_parts (same_terms a.terms b.terms) (int_eq a.slack b.slack) e in
    let x = same_terms_is a.terms b.terms p.0 in
    let y = int_is a.slack b.slack p.1 in
    λ i. record { terms = x i; slack = y i }

among : (P : Clause → Type 0) (c : Clause) (cs : List Clause) → list_any (same_clause c) cs ≡ true → Each P cs → P c
unfolding definitions meaning_definitions
among P c [] e h = absurd (true≢false (sym e))
among P c (a ∷ cs) e h = go (same_clause c a) refl (among P c cs) e
  where
    go : (v : Bool) → same_clause c a ≡ v → (list_any (same_clause c) cs ≡ true → Each P cs → P c) → (v || list_any (same_clause c) cs) ≡ true → P c
    go true q ih e = subst P (sym (same_clause_is c a q)) h.0
    go false q ih e = ih e h.1

from_with_clause : (P : Clause → Type 0) (cs : List Clause) (a : Linear) → Each P (with_clause cs a) → Each P cs × (is_empty a.terms ≡ false → P (clause_of a))
unfolding definitions meaning_definitions
from_with_clause P cs a h = go (is_empty a.terms) (list_any (same_clause (clause_of a)) cs) refl h
  where
    go :
        (v w : Bool) → list_any (same_clause (clause_of a)) cs ≡ w → Each P (cond v cs (cond w cs (cs ++ clause_of a ∷ []))) →
        Each P cs × (v ≡ false → P (clause_of a))
    go true w q h = (h, λ e. absurd (true≢false e))
    go false true q h = (h, λ e. among P (clause_of a) cs q h)
    go false false q h = let k = each_append P cs (clause_of a ∷ []) h in (k.0, λ e. k.1.0)

from_clauses :
    (P : Clause → Type 0) (cs : List Clause) (atoms : List Linear) → Each P (clauses_from cs atoms) →
    Each P cs × Each (λ a. is_empty a.terms ≡ false → P (clause_of a)) atoms
unfolding definitions meaning_definitions
from_clauses P cs [] h = (h, tt)
from_clauses P cs (a ∷ more) h =
    let k = from_clauses P (with_clause cs a) more h in
    let m = from_with_clause P cs a k.0 in
    (m.0, (m.1, k.1))

from_all_atoms :
    (P : Linear → Type 0) (k : ℕ) (b : ℕ → ℤ) (g : PlannedCall) (gs : List PlannedCall) → Member g gs →
    Each P (atoms_of_sets (map (atoms_of k b) gs)) → Each P (atoms_of k b g)
unfolding definitions meaning_definitions
from_all_atoms P k b g [] m h = absurd m
from_all_atoms P k b g (e ∷ gs) m h =
    let p = each_append P (atoms_of k b e) (atoms_of_sets (map (atoms_of k b) gs)) h in
    ⊎_elim (λ q. subst (λ z. Each P (atoms_of k b z)) q p.0) (λ n. from_all_atoms P k b g gs n p.1) m

from_put_all : (P : Delta → Type 0) (lists : List (List Delta)) (out : List Delta) → Each P (put_all lists out) → Each (Each P) lists × Each P out
unfolding definitions meaning_definitions
from_put_all P [] out h = (tt, h)
from_put_all P (ds ∷ more) out h =
    let p = from_put_all P more (add_deltas ds out) h in
    let q = each_add_deltas P ds out p.1 in
    ((q.0, p.0), q.1)

from_mixed : (P : Delta → Type 0) (atoms : List Linear) → Each (Each P) (map (λ a. a.mixed) atoms) → Each (λ a. Each P a.mixed) atoms
unfolding definitions meaning_definitions
from_mixed P [] h = tt
from_mixed P (a ∷ more) h = (h.0, from_mixed P more h.1)

from_needs :
    (P : Delta → Type 0) (k : ℕ) (b : ℕ → ℤ) (g : PlannedCall) (gs : List PlannedCall) → Member g gs →
    Each (Each P) (map (needs_of k b) gs) → Each P (needs_of k b g)
unfolding definitions meaning_definitions
from_needs P k b g [] m h = absurd m
from_needs P k b g (e ∷ gs) m h =
    ⊎_elim (λ q. subst (λ z. Each P (needs_of k b z)) q h.0) (λ n. from_needs P k b g gs n h.1) m

atom_holds : (s : State) (a : Linear) → IsBelowAtBase a → (is_empty a.terms ≡ false → ClauseHolds s (clause_of a)) → Each (IsZeroAt s) a.mixed → AtomHolds s a
unfolding definitions meaning_definitions
atom_holds s a low c z = record { below = go a.terms c; mixed = z }
  where
    go : (ts : List Term) → (is_empty ts ≡ false → terms_value ts s ≤ℤ neg_ℤ a.constant) → (a.constant +ℤ terms_value ts s) ≤ℤ pos 0
    go [] c = omega (arith, ints, low)
    go (t ∷ ts) c = let h = c refl in omega (arith, ints)

pub atoms_hold :
    (s : State) (atoms : List Linear) → Each IsBelowAtBase atoms →
    Each (λ a. is_empty a.terms ≡ false → ClauseHolds s (clause_of a)) atoms → Each (λ a. Each (IsZeroAt s) a.mixed) atoms →
    Each (AtomHolds s) atoms
unfolding definitions meaning_definitions
atoms_hold s [] low c z = tt
atoms_hold s (a ∷ more) low c z = (atom_holds s a low.0 c.0 z.0, atoms_hold s more low.1 c.1 z.1)

pub each_member : {X : Type 0} (P : X → Type 0) (x : X) (xs : List X) → Each P xs → Member x xs → P x
unfolding definitions meaning_definitions
each_member P x [] h m = absurd m
each_member P x (y ∷ xs) h m = ⊎_elim (λ e. subst P e h.0) (each_member P x xs h.1) m

pub each_map : {X : Type 0} (P Q : X → Type 0) → ((x : X) → P x → Q x) → (xs : List X) → Each P xs → Each Q xs
unfolding definitions meaning_definitions
each_map P Q f [] h = tt
each_map P Q f (x ∷ xs) h = (f x h.0, each_map P Q f xs h.1)

pub each_in : {X : Type 0} (xs ys : List X) → ((x : X) → Member x xs → Member x ys) → Each (λ x. Member x ys) xs
unfolding definitions meaning_definitions
each_in [] ys h = tt
each_in (x ∷ xs) ys h = (h x (inl refl), each_in xs ys (λ y m. h y (inr m)))

-- the template of all calls covers each
pub template_covers : (k : ℕ) (b : ℕ → ℤ) (gs : List PlannedCall) (g : PlannedCall) → Member g gs → Covers (template k b gs) k b g
unfolding definitions meaning_definitions
template_covers k b gs g m =
    let cs = (template k b gs).clauses in
    let ds = (template k b gs).freezes in
    let atoms = atoms_of_sets (map (atoms_of k b) gs) in
    let frozen = from_put_all (λ d. Member d ds) (map (needs_of k b) gs) (put_all (map (λ a. a.mixed) atoms) []) (each_in ds ds (λ d q. q)) in
    let mixed = from_put_all (λ d. Member d ds) (map (λ a. a.mixed) atoms) [] frozen.1 in
    record {
      clauses =
          from_all_atoms (λ a. is_empty a.terms ≡ false → Member (clause_of a) cs) k b g gs m
          (from_clauses (λ c. Member c cs) [] atoms (each_in cs cs (λ c q. q))).1;
      mixed = from_all_atoms (λ a. Each (λ d. Member d ds) a.mixed) k b g gs m (from_mixed (λ d. Member d ds) atoms mixed.0);
      needs = from_needs (λ d. Member d ds) k b g gs m frozen.0;
    }
