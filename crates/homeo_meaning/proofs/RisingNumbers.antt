-- A sorted set of numbers is the list of them in rising order.
use Rattle.std.proofs.Common.{◌≡◌, ℕ, ◌==◌, nat_lt, cond, Bool, true, false, List, [], ◌∷◌, refl, ap, ◌∙◌}
use Rattle.std.specs.BTreeSet.{insert_key}
use Rattle.std.specs.Ordering.{nat_cmp, match_ordering}
use Rattle.std.specs.declared.cmp.Ordering.TheVariants.{Less, Equal, Greater}
use Rattle.homeo_meaning.specs.Key.{definitions}
use Rattle.homeo_meaning.specs.LowWrites.{with_number}

pub put : (ns : List ℕ) (n : ℕ) → insert_key nat_cmp ns n ≡ with_number n ns
unfolding definitions
put [] n = refl
put (m ∷ ms) n = ap (λ ns. match_ordering (nat_cmp n m) (n ∷ m ∷ ms) (m ∷ ms) (m ∷ ns)) (put ms n) ∙ by_order (nat_lt n m) (n == m) (n ∷ m ∷ ms) (m ∷ ms) (m ∷ with_number n ms)
  where
    by_order : (less same : Bool) (a b c : List ℕ) → match_ordering (cond less Less (cond same Equal Greater)) a b c ≡ cond less a (cond same b c)
    by_order true same a b c = refl
    by_order false true a b c = refl
    by_order false false a b c = refl
