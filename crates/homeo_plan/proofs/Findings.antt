-- There is a finding exactly where the treaty doesn't hold.
use Rattle.homeo_meaning.specs.Key.{definitions as meaning_definitions}
use Rattle.homeo_plan.specs.declared.treaty.Broken.{Broken}
use Rattle.homeo_plan.specs.Key.{definitions}
use Rattle.std.proofs.Common.{◌≡◌, ℕ, suc, ◌==◌, Bool, true, false, cond, not, ◌&&◌, List, [], ◌∷◌, pos, int_le, ◌≤ℤ◌, Option, Some, None, refl, sym, ◌∙◌, true≢false, arith}
use Rattle.std.specs.Ordering.{int_eq}
use Rattle.std.proofs.lemmas.Bool.Decides.{nat_tests}
use Rattle.homeo_lemmas.proofs.Integers.{int_is, at_most, not_at_most, int_is_not}
use Rattle.homeo_lemmas.proofs.Options.{some_not_none}
use Rattle.homeo_plan.specs.declared.forms.Delta.{Delta}
use Rattle.homeo_plan.specs.Template.{Clause, Template}
use Rattle.homeo_plan.specs.Joined.{Deltas}
use Rattle.homeo_plan.specs.Config.{Config}
use Rattle.homeo_plan.specs.Treaty.{site_sum, bound_at, KeepsClauses, KeepsFreezes, broken_freeze, broken_from, Finds}

-- an option that has nothing exactly where P holds
record Tells (P : Type 0) (o : Option Broken) : Type 0 where
  none : o ≡ None → P
  some : (f : Broken) → o ≡ Some f → P → ⊥

freezes_tell : (n i : ℕ) (x : Deltas) (ds : List Delta) → Tells (KeepsFreezes i x ds) (broken_freeze n i x ds)
unfolding definitions meaning_definitions
freezes_tell n i x [] = record { none = λ e. tt; some = λ f e h. some_not_none f (sym e) }
freezes_tell n i x (d ∷ ds) = go (freezes_tell (suc n) i x ds) (d.site == i) (int_eq (x d.object) (pos 0)) refl refl
  where
    one : Broken
    one = record { clause = n; sum = x d.object; bound = pos 0 }

    go :
        Tells (KeepsFreezes i x ds) (broken_freeze (suc n) i x ds) → (u v : Bool) → (d.site == i) ≡ u →
        int_eq (x d.object) (pos 0) ≡ v →
        Tells ((d.site ≡ i → x d.object ≡ pos 0) × KeepsFreezes i x ds) (cond (u && not v) (Some one) (broken_freeze (suc n) i x ds))
    go rest false v p q =
        record { none = λ e. (λ s. absurd (true≢false (sym (grind (arith, nat_tests)) ∙ p)), rest.none e); some = λ f e h. rest.some f e h.1 }
    go rest true true p q =
        record { none = λ e. (λ s. int_is (x d.object) (pos 0) q, rest.none e); some = λ f e h. rest.some f e h.1 }
    go rest true false p q =
        record { none = λ e. absurd (some_not_none one e); some = λ f e h. int_is_not (x d.object) (pos 0) q (h.0 (grind (arith, nat_tests))) }

clauses_tell :
    (n i : ℕ) (x : Deltas) (cs : List Clause) (bs : Config) (ds : List Delta) →
    Tells (KeepsClauses i x cs bs × KeepsFreezes i x ds) (broken_from n i x cs bs ds)
unfolding definitions meaning_definitions
clauses_tell n i x [] bs ds =
    let t = freezes_tell n i x ds in
    record { none = λ e. (tt, t.none e); some = λ f e h. t.some f e h.1 }
clauses_tell n i x (c ∷ cs) [] ds = record { none = λ e. absurd (some_not_none _ e); some = λ f e h. h.0 }
clauses_tell n i x (c ∷ cs) (b ∷ bs) ds = go (clauses_tell (suc n) i x cs bs ds) (int_le (site_sum i c.terms x) (bound_at b i)) refl
  where
    one : Broken
    one = record { clause = n; sum = site_sum i c.terms x; bound = bound_at b i }

    go :
        Tells (KeepsClauses i x cs bs × KeepsFreezes i x ds) (broken_from (suc n) i x cs bs ds) → (v : Bool) →
        int_le (site_sum i c.terms x) (bound_at b i) ≡ v →
        Tells (((site_sum i c.terms x ≤ℤ bound_at b i) × KeepsClauses i x cs bs) × KeepsFreezes i x ds) (cond v (broken_from (suc n) i x cs bs ds) (Some one))
    go rest true q =
        record { none = λ e. let r = rest.none e in ((at_most _ _ q, r.0), r.1); some = λ f e h. rest.some f e (h.0.1, h.1) }
    go rest false q =
        record { none = λ e. absurd (some_not_none one e); some = λ f e h. not_at_most _ _ q h.0.0 }

pub finding_law : (t : Template) (config : Config) (i : ℕ) (x : Deltas) → Finds t config i x
unfolding definitions meaning_definitions
finding_law t config i x =
    let r = clauses_tell 0 i x t.clauses config t.freezes in
    record { none = λ e. let h = r.none e in record { clauses = h.0; freezes = h.1 }; some = λ f e h. r.some f e (h.clauses, h.freezes) }
