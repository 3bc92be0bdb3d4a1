-- Deltas of other sites, and those that are written.
use Rattle.std.proofs.Common.{◌≡◌, ℕ, ◌+◌, ◌<◌, ◌≤◌, ◌==◌, Bool, true, false, not, cond, List, [], ◌∷◌, ◌++◌, drop, get_or, length, refl, sym, ap, ◌∙◌, add-one, drop_of_length-le, append-nil}
use Rattle.std.proofs.Math.Seq.{drop-cons}
use Rattle.std.proofs.lemmas.List.{append_assoc}
use Rattle.homeo_syntax.specs.declared.low.SplitName.{SplitName}
use Rattle.homeo_syntax.specs.declared.low.SplitName.TheVariants as split
use Rattle.homeo_plan.specs.Key.{definitions as plan_definitions}
use Rattle.homeo_plan.specs.Linear.{add_deltas}
use Rattle.homeo_plan.specs.Needs.{remote, add_written}
use Rattle.homeo_plan.specs.declared.forms.Delta.{Delta}
use Rattle.homeo_form.proofs.DeltasInOrder.{adds_append}

-- ---- remote deltas
module _ (i : ℕ) (out ds : List Delta) (n : ℕ) (x : Delta) (h : n < length ds) where
  remote_next : (b : Bool) → (get_or ds n x).site == i ≡ b → remote i (drop n ds) ≡ cond b (remote i (drop (n + 1) ds)) (get_or ds n x ∷ remote i (drop (n + 1) ds))
  unfolding plan_definitions
  remote_next b e =
      let next : drop n ds ≡ get_or ds n x ∷ drop (n + 1) ds = rw add-one (drop-cons ds n x h) in
      ap (remote i) next ∙ ap (λ v. cond v (remote i (drop (n + 1) ds)) (get_or ds n x ∷ remote i (drop (n + 1) ds))) e

  pub remote_more : true ≡ not ((get_or ds n x).site == i) → (out ++ get_or ds n x ∷ []) ++ remote i (drop (n + 1) ds) ≡ out ++ remote i (drop n ds)
  remote_more e =
      append_assoc out (get_or ds n x ∷ []) (remote i (drop (n + 1) ds))
      ∙ ap (λ l. out ++ l) (sym (remote_next false (is_not ((get_or ds n x).site == i) e)))
    where
      is_not : (b : Bool) → true ≡ not b → b ≡ false
      is_not true k = k
      is_not false k = refl

  pub remote_less : false ≡ not ((get_or ds n x).site == i) → out ++ remote i (drop (n + 1) ds) ≡ out ++ remote i (drop n ds)
  remote_less e = ap (λ l. out ++ l) (sym (remote_next true (is_true ((get_or ds n x).site == i) e)))
    where
      is_true : (b : Bool) → false ≡ not b → b ≡ true
      is_true true k = refl
      is_true false k = k

pub remote_end : (i : ℕ) (out ds : List Delta) (n : ℕ) → length ds ≤ n → out ≡ out ++ remote i (drop n ds)
unfolding plan_definitions
remote_end i out ds n h = sym (ap (λ l. out ++ remote i l) (drop_of_length-le ds h) ∙ append-nil out)

-- ---- the deltas written
pub written_more : (ws vs : List Delta) (x : SplitName) (d : Delta) → vs ≡ ws ++ d ∷ [] → x ≡ split.Delta d.object d.site →
    add_deltas vs [] ≡ add_written x (add_deltas ws [])
unfolding plan_definitions
written_more ws vs x d p q = ap (λ l. add_deltas l []) p ∙ adds_append ws (d ∷ []) [] ∙ sym (ap (λ y. add_written y (add_deltas ws [])) q)
