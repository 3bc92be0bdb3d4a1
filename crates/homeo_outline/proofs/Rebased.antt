-- What is asked at one base and at another, item by item.
use mir.Syntax.{w128}
use Rattle.std.proofs.Common.{◌≡◌, ℕ, ◌+◌, ◌<◌, ◌≤◌, true, List, length, drop, get_or, ℤ, ◌+ℤ◌, ◌-ℤ◌, ◌*ℤ◌, neg_ℤ, Option, None, Some, SomeIff, IfSome, FitsSigned, Decides, sym, ap, ap₂, ◌∙◌}
use Rattle.std.specs.Ordering.{int_eq}
use Rattle.std.specs.Option.{option_eq}
use Rattle.std.specs.Cmp.Lexicographic.{pointwise, pointwise_decides}
use Rattle.std.proofs.Math.IntN.{+ℤ_assoc, +ℤ_idr}
use Rattle.std.proofs.lemmas.List.{at_drop_more, at_drop_all}
use Rattle.homeo_lemmas.proofs.Integers.{int_is}
use Rattle.homeo_plan.specs.declared.forms.Delta.{Delta}
use Rattle.homeo_plan.specs.declared.forms.Term.{Term}
use Rattle.homeo_plan.specs.Linear.{same_delta}
use Rattle.homeo_plan.proofs.Covering.{same_terms_is}
use Rattle.homeo_plan.proofs.Factors.{same_delta_is, same_delta_refl}
use Rattle.homeo_follow.specs.Key.{definitions}
use Rattle.homeo_follow.specs.Rebased.{gained}
use Rattle.homeo_follow.proofs.TermTests.{term_test, same-terms}

-- ---- sums of what objects gained
module _ (g : ℕ → ℤ) where
  pub gained_more :
      (ts : List Term) (i : ℕ) (d : Term) (sum more : ℤ) → i < length ts → sum +ℤ gained g (drop i ts) ≡ gained g ts →
      (let t : Term = get_or ts i d in more ≡ sum +ℤ (t.factor *ℤ g t.delta.object)) → more +ℤ gained g (drop (i + 1) ts) ≡ gained g ts
  unfolding definitions
  gained_more ts i d sum more lt so_far next =
      let t : Term = get_or ts i d in
      ap (λ z. z +ℤ gained g (drop (i + 1) ts)) next
      ∙ +ℤ_assoc sum (t.factor *ℤ g t.delta.object) (gained g (drop (i + 1) ts))
      ∙ ap (λ z. sum +ℤ z) (sym (at_drop_more (gained g) ts i d lt))
      ∙ so_far

  pub gained_all : (ts : List Term) (i : ℕ) (sum : ℤ) → length ts ≤ i → sum +ℤ gained g (drop i ts) ≡ gained g ts → sum ≡ gained g ts
  unfolding definitions
  gained_all ts i sum past so_far = sym (ap (λ z. sum +ℤ z) (at_drop_all (gained g) ts i past) ∙ +ℤ_idr sum) ∙ so_far

-- ---- sums and products that are checked to be in range
-- the numbers as the code reads them are those that they stand for
pub checked :
    (op : ℤ → ℤ → ℤ) (r : Option ℤ) (a b m n : ℤ) → SomeIff r (FitsSigned w128 (op a b)) (op a b) → a ≡ m → b ≡ n → IfSome r (λ k. k ≡ op m n)
checked op None a b m n is p q = tt
checked op (Some x) a b m n is p q = is.1 ∙ ap₂ op p q

-- a number that is found to be one that was checked
pub found_number : (r : Option ℤ) (n new there : ℤ) → IfSome r (λ k. k ≡ there) → option_eq int_eq r (Some n) ≡ true → n ≡ new → new ≡ there
found_number None n new there is same p = absurd cc
found_number (Some x) n new there is same p = sym p ∙ sym (int_is x n same) ∙ is

-- ---- lists whose items are found equal
pub terms_same : (ts us : List Term) → pointwise term_test ts us ≡ true → ts ≡ us
terms_same ts us h = same_terms_is ts us (sym (same-terms ts us) ∙ h)

same_delta_decides : (d e : Delta) → Decides (same_delta d e) (d ≡ e)
same_delta_decides d e = (same_delta_is d e, λ p. ap (same_delta d) (sym p) ∙ same_delta_refl d)

pub deltas_same : (ds es : List Delta) → pointwise same_delta ds es ≡ true → ds ≡ es
deltas_same ds es = (pointwise_decides same_delta_decides ds es).0
