-- Base plus own deltas stays within bounds along a replay: it is the fold where every other site's deltas are 0.
use Rattle.homeo_meaning.specs.Key.{definitions as meaning_definitions}
use Rattle.homeo_plan.specs.Key.{definitions}
use Rattle.std.proofs.Common.{◌≡◌, ℕ, zero, suc, ◌==◌, ◌<◌, nat_lt, Bool, true, false, cond, List, [], ◌∷◌, ℤ, pos, ◌+ℤ◌, ◌*ℤ◌, ◌≤ℤ◌, refl, sym, ap, ap₂, ◌∙◌, subst, arith}
use mathlib.Core.Path.{fun_ext}
use Rattle.std.proofs.lemmas.Int.{ints}
use Rattle.std.proofs.lemmas.Bool.Decides.{nat_tests}
use Rattle.homeo_meaning.specs.Bounds.{AllWithin}
use Rattle.homeo_meaning.specs.LowMeaning.{Location, TempAt, BaseAt, DeltaAt, exec, whole}
use Rattle.homeo_plan.specs.Each.{Each}
use Rattle.homeo_plan.specs.Joined.{Deltas, join, alone, folded, with_site}
use Rattle.homeo_plan.specs.declared.forms.Delta.{Delta}
use Rattle.homeo_plan.specs.declared.forms.Term.{Term}
use Rattle.homeo_plan.specs.Template.{Clause, Template, PlannedCall}
use Rattle.homeo_plan.specs.Config.{Config, Fits}
use Rattle.homeo_plan.specs.Treaty.{site_sum, bound_at, KeepsClauses, KeepsFreezes, Treaty}
use Rattle.homeo_plan.specs.Local.{local_deltas, no_deltas, replay}
use Rattle.homeo_plan.specs.Soundness.{StepsFold}
use Rattle.homeo_plan.specs.Replay.{KeepsAlong, CanStep}
use Rattle.homeo_plan.proofs.Sums.{sum_same, sum_at}
use Rattle.homeo_plan.proofs.Stepped.{stepped}
use Rattle.homeo_meaning.specs.Schema.{Schema}

-- ---- deltas 0 keep every treaty
pub site_sum_zero : (i : ℕ) (ts : List Term) → site_sum i ts no_deltas ≡ pos 0
unfolding definitions meaning_definitions
site_sum_zero i [] = refl
site_sum_zero i (t ∷ ts) = ap₂ ◌+ℤ◌ (go (t.delta.site == i)) (site_sum_zero i ts)
  where
    go : (v : Bool) → cond v (t.factor *ℤ pos 0) (pos 0) ≡ pos 0
    go true = omega (arith, ints)
    go false = refl

pub bound_not_negative : (ns : List ℤ) (i : ℕ) → Each (λ n. pos 0 ≤ℤ n) ns → pos 0 ≤ℤ bound_at ns i
unfolding definitions meaning_definitions
bound_not_negative [] i h = omega (arith, ints)
bound_not_negative (n ∷ ns) zero h = h.0
bound_not_negative (n ∷ ns) (suc i) h = bound_not_negative ns i h.1

pub zero_keeps_clauses : (k i : ℕ) (cs : List Clause) (bs : Config) → Fits k cs bs → KeepsClauses i no_deltas cs bs
unfolding definitions meaning_definitions
zero_keeps_clauses k i [] bs f = tt
zero_keeps_clauses k i (c ∷ cs) [] f = absurd f
zero_keeps_clauses k i (c ∷ cs) (n ∷ bs) f =
    (subst (λ z. z ≤ℤ bound_at n i) (sym (site_sum_zero i c.terms)) (bound_not_negative n i f.0.not_negative), zero_keeps_clauses k i cs bs f.1)

pub zero_keeps_freezes : (i : ℕ) (ds : List Delta) → KeepsFreezes i no_deltas ds
unfolding definitions meaning_definitions
zero_keeps_freezes i [] = tt
zero_keeps_freezes i (e ∷ ds) = (λ q. refl, zero_keeps_freezes i ds)

pub zero_keeps : (k : ℕ) (t : Template) (config : Config) (i : ℕ) → Fits k t.clauses config → Treaty t config i no_deltas
unfolding definitions meaning_definitions
zero_keeps k t config i fits =
    record { clauses = zero_keeps_clauses k i t.clauses config fits; freezes = zero_keeps_freezes i t.freezes }

-- ---- one site's deltas alone
abbrev pub only : ℕ → Deltas → ℕ → Deltas
only i x = with_site (λ j. no_deltas) i x

pub only_keeps :
    (k : ℕ) (t : Template) (config : Config) (i : ℕ) (x : Deltas) → Fits k t.clauses config → Treaty t config i x → (j : ℕ) →
    Treaty t config j (only i x j)
unfolding definitions meaning_definitions
only_keeps k t config i x fits h j = go (i == j) refl
  where
    go : (v : Bool) → (i == j) ≡ v → Treaty t config j (cond v x no_deltas)
    go true q = let s : i ≡ j = grind (arith, nat_tests) in subst (λ n. Treaty t config n x) s h
    go false q = zero_keeps k t config j fits

pub only_here : (i : ℕ) (x : Deltas) → only i x i ≡ x
unfolding definitions meaning_definitions
only_here i x =
    let q : (i == i) ≡ true = grind (arith, nat_tests) in ap (λ (v : Bool). let d : Deltas = cond v x no_deltas in d) q

pub only_again : (i : ℕ) (x y : Deltas) → with_site (only i x) i y ≡ only i y
unfolding definitions meaning_definitions
only_again i x y = fun_ext (λ j. go (i == j))
  where
    go : (v : Bool) → cond v y (cond v x no_deltas) ≡ cond v y no_deltas
    go true = refl
    go false = refl

pub only_folded : (k : ℕ) (b : ℕ → ℤ) (i : ℕ) (x : Deltas) → i < k → folded k b (only i x) ≡ (λ n. b n +ℤ x n)
unfolding definitions meaning_definitions
only_folded k b i x lt = fun_ext at
  where
    swap : (n j : ℕ) (u v : Bool) → nat_lt j k ≡ u → (i == j) ≡ v → cond u (cond v x no_deltas n) (pos 0) ≡ cond v (x n) (pos 0)
    swap n j true true p q = refl
    swap n j true false p q = refl
    swap n j false true p q = let s : i ≡ j = grind (arith, nat_tests) in absurd (below j s p)
      where
        below : (j : ℕ) → i ≡ j → nat_lt j k ≡ false → ⊥
        below j s p = grind (arith, nat_tests)
    swap n j false false p q = refl

    there : nat_lt i k ≡ true
    there = grind (arith, nat_tests)

    at : (n : ℕ) → folded k b (only i x) n ≡ b n +ℤ x n
    at n =
        ap (λ z. b n +ℤ z)
        (sum_same 0 k _ (λ j. cond (i == j) (x n) (pos 0)) (λ j. swap n j (nat_lt j k) (i == j) refl refl)
        ∙ sum_at i k (λ j. x n) ∙ ap (λ v. cond v (x n) (pos 0)) there)

-- what a site sees of a round is what all sites have where the others' deltas are 0
pub alone_is_joined : (k : ℕ) (b : ℕ → ℤ) (i : ℕ) (x : Deltas) → i < k → alone b i x ≡ join k b (only i x)
unfolding definitions meaning_definitions
alone_is_joined k b i x lt = fun_ext at
  where
    delta :
        (n j : ℕ) (u v w : Bool) → (j == i) ≡ u → nat_lt j k ≡ v → (i == j) ≡ w →
        cond u (x n) (pos 0) ≡ cond v (cond w x no_deltas n) (pos 0)
    delta n j true true true p q r = refl
    delta n j true true false p q r = absurd (grind (arith, nat_tests))
    delta n j true false w p q r = absurd (grind (arith, nat_tests))
    delta n j false true true p q r = absurd (grind (arith, nat_tests))
    delta n j false true false p q r = refl
    delta n j false false w p q r = refl

    at : (p : Location) → alone b i x p ≡ join k b (only i x) p
    at (TempAt t) = refl
    at (BaseAt n) = refl
    at (DeltaAt n j) = delta n j (j == i) (nat_lt j k) (i == j) refl refl refl

-- ---- one local step, whether or not it keeps the treaty
pub step_within :
    (x : Schema) (k : ℕ) (b : ℕ → ℤ) (t : Template) (config : Config) (i : ℕ) (d : Deltas) (g : PlannedCall) →
    Fits k t.clauses config → i < k → CanStep x k b t i g → Treaty t config i d → AllWithin x (λ n. b n +ℤ d n) →
    AllWithin x (λ n. b n +ℤ local_deltas k b g d n)
unfolding definitions meaning_definitions
step_within x k b t config i d g fits lt can h within =
    subst (AllWithin x)
    (one.after ∙ ap (λ y. folded k b (with_site (only i d) i (local_deltas k b g y))) (only_here i d)
    ∙ ap (folded k b) (only_again i d (local_deltas k b g d)) ∙ only_folded k b i (local_deltas k b g d) lt)
    stays
  where
    one : StepsFold k b (only i d) g i
    one =
        subst (StepsFold k b (only i d) g) can.at_site
        (stepped k b t config (only i d) fits (λ j l. only_keeps k t config i d fits h j) g can.covers
        (subst (λ j. j < k) (sym can.at_site) lt) can.whole)

    stays : AllWithin x (λ n. (exec g.command (whole (folded k b (only i d)))).state (BaseAt n))
    stays = can.stays (folded k b (only i d)) (subst (AllWithin x) (sym (only_folded k b i d lt)) within)

pub own_within :
    (x : Schema) (k : ℕ) (b : ℕ → ℤ) (t : Template) (config : Config) (i : ℕ) (d : Deltas) (gs : List PlannedCall) →
    Fits k t.clauses config → i < k → Each (CanStep x k b t i) gs → Treaty t config i d → AllWithin x (λ n. b n +ℤ d n) →
    KeepsAlong k b t config i d gs → AllWithin x (λ n. b n +ℤ replay k b gs d n)
unfolding definitions meaning_definitions
own_within x k b t config i d [] fits lt can h within keeps = within
own_within x k b t config i d (g ∷ gs) fits lt can h within keeps =
    own_within x k b t config i (local_deltas k b g d) gs fits lt can.1 keeps.0
    (step_within x k b t config i d g fits lt can.0 h within) keeps.1
