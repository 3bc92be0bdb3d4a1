-- Where a command is light, the forms along its row are small.
use Rattle.homeo_plan.specs.Key.{definitions}
use Rattle.homeo_meaning.specs.Key.{definitions as meaning_definitions}
use Rattle.std.proofs.Common.{◌≡◌, ℕ, zero, ◌+◌, ◌*◌, ◌≤◌, Bool, true, false, cond, ℤ, pos, ◌+ℤ◌, refl, sym, subst, arith, ◌<◌}
use Rattle.std.specs.Int.RustNames.{unsigned_abs}
use Rattle.std.proofs.lemmas.Int.{ints}
use Rattle.homeo_lemmas.proofs.Integers.{plus_zero}
use Rattle.homeo_meaning.specs.LowMeaning.{Location, TempAt, BaseAt, DeltaAt, whole}
use Rattle.homeo_meaning.specs.LowWeights.{first_weights, is_light}
use Rattle.homeo_meaning.specs.Schema.{Schema}
use Rattle.homeo_meaning.specs.Bounds.{all_bounds, AllWithin}
use Rattle.homeo_meaning.specs.LowWeights.{weight_at}
use Rattle.homeo_meaning.specs.Small.{IsSmall}
use Rattle.homeo_plan.specs.Split.{shift}
use Rattle.homeo_plan.specs.Table.{last_row, walk_before, walk}
use Rattle.homeo_plan.specs.Linear.{delta_of, same_delta, delta_form, base_forms}
use Rattle.homeo_plan.specs.FormSizes.{CanCond}
use Rattle.homeo_plan.specs.SmallForms.{HasSmallForms}
use Rattle.homeo_plan.proofs.Factors.{at_delta}
use Rattle.homeo_plan.proofs.Sizes.{within_constant}
use Rattle.homeo_plan.proofs.Others.{others_from, IsBit, others_bit, none_own}
use Rattle.homeo_plan.proofs.Cleared.{can_clear_cond}
use Rattle.homeo_plan.proofs.AtomSizes.{true_of_cond}
use Rattle.homeo_plan.proofs.WholeReads.{Own, Holds}
use Rattle.homeo_plan.proofs.Followed.{follow}
use Rattle.homeo_syntax.specs.Low.{Command}
use Rattle.homeo_meaning.specs.Whole.{IsWhole}
use Rattle.homeo_lform.proofs.Light.{size_at, one_at}

one_of : (o : ℤ) (b : Bool) → IsBit o → (b ≡ true → o ≡ pos 0) → unsigned_abs (o +ℤ (cond b (pos 1) (pos 0) +ℤ pos 0)) ≤ 1
one_of o true t h =
    subst (λ z. unsigned_abs (z +ℤ (pos 1 +ℤ pos 0)) ≤ 1) (sym (h refl)) (grind (arith, ints))
one_of o false t h = grind (arith, ints, t.low, t.high)

start : (k i : ℕ) (x : Schema) (base : ℕ → ℤ) → AllWithin x base → Holds k i base (first_weights x) (base_forms base)
unfolding definitions meaning_definitions
start k i x base h =
    record {
      temps = λ t. within_constant 1 (pos 0) (omega arith);
      bases = λ n. record { constant = refl; factors = λ d. refl; sorted = tt };
      deltas = λ n j q. record { constant = refl; factors = λ d. plus_zero (at_delta (delta_of n j) (pos 1) d); sorted = (tt, tt) };
      own = λ n. own n;
      ones = ones;
    }
  where
    own : (n : ℕ) → Own k i base n (weight_at (all_bounds x) n) (delta_form (delta_of n i))
    own n =
        record {
          constant =
              subst (λ z. unsigned_abs z ≤ weight_at (all_bounds x) n) (sym (plus_zero (base n)))
              (size_at (all_bounds x) n (base n) (h n));
          factors = λ d.
              omega (
                arith,
                one_at (all_bounds x) n,
                one_of (others_from i n 0 k d) (same_delta (delta_of n i) d) (others_bit i n 0 k d) (none_own i n 0 k d),
              );
          sorted = (tt, tt);
        }

    ones : (p : Location) → 1 ≤ first_weights x p
    ones (TempAt t) = omega arith
    ones (BaseAt n) = one_at (all_bounds x) n
    ones (DeltaAt n j) = omega arith

pub small_forms :
    (b : ℕ) (x : Schema) (k i : ℕ) (c : Command) (base : ℕ → ℤ) → i < k → IsWhole c → AllWithin x base →
    ((n : ℕ) → IsSmall b (base n)) → is_light b c (first_weights x) ≡ true →
    HasSmallForms (2 * b + 1) base (walk (shift k i c) (whole base))
unfolding definitions meaning_definitions
small_forms b x k i c base inside w h small l =
    let r = follow b k i base inside small c w (first_weights x) (whole base) (base_forms base) (start k i x base h) l in
    let formula : CanCond (IsSmall (2 * b + 1)) (base_forms base) (walk (shift k i c) (whole base)).formula =
    can_clear_cond base (IsSmall (2 * b + 1)) (walk_before (shift k i c) (whole base) last_row).formula (r.formula last_row tt) in
    record { formula = formula; atoms = true_of_cond (IsSmall (2 * b + 1)) base _ formula; residual = r.residual last_row tt }
