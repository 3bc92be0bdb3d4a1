-- Numbers in lists, and the numbers of what passes a test.
use Rattle.std.proofs.Common.{◌≡◌, ℕ, suc, ◌+◌, ◌<◌, ◌≤◌, ◌==◌, Bool, true, false, cond, List, [], ◌∷◌, length, get_or, All, refl, subst, arith}
use Rattle.std.specs.Prelude.{◌||◌}
use Rattle.std.proofs.lemmas.Bool.Decides.{nat_tests}
use Rattle.std.proofs.lemmas.List.Elements.{All-nil, All-cons}
use Rattle.std.proofs.lemmas.List.Folds.{list_any_at}
use Rattle.homeo_outline.specs.Numbers.{has, numbers_where}

-- the numbers of what passes a test are within those of the list
within_numbers :
    {X : Type 0} (test : X → Bool) (n : ℕ) (xs : List X) → All (λ m. (n ≤ m) × (m < n + length xs)) (numbers_where test n xs)
within_numbers test n [] = All-nil (λ m. (n ≤ m) × (m < n + 0))
within_numbers test n (x ∷ xs) = go (test x) (wider (numbers_where test (suc n) xs) (within_numbers test (suc n) xs))
  where
    wider :
        (ms : List ℕ) → All (λ m. (suc n ≤ m) × (m < suc n + length xs)) ms →
        All (λ m. (n ≤ m) × (m < n + suc (length xs))) ms
    wider ms h k d lt = let here = h k d lt in (omega (arith, here.0), omega (arith, here.1))

    go :
        (v : Bool) → All (λ m. (n ≤ m) × (m < n + suc (length xs))) (numbers_where test (suc n) xs) →
        All (λ m. (n ≤ m) × (m < n + suc (length xs))) (cond v (n ∷ numbers_where test (suc n) xs) (numbers_where test (suc n) xs))
    go true h =
        All-cons (λ m. (n ≤ m) × (m < n + suc (length xs))) n (numbers_where test (suc n) xs) (omega arith, omega arith) h
    go false h = h

-- ---- numbers in a list
pub record Placed (n : ℕ) (ns : List ℕ) : Type 0 where
  pub place : ℕ
  pub below : place < length ns
  pub is : get_or ns place 0 ≡ n

pub placed : (n : ℕ) (ns : List ℕ) → has n ns ≡ true → Placed n ns
placed n [] h = cc
placed n (m ∷ ns) h = go (n == m) refl (placed n ns) h
  where
    go : (v : Bool) → (n == m) ≡ v → (has n ns ≡ true → Placed n ns) → (v || has n ns) ≡ true → Placed n (m ∷ ns)
    go true e later h = record { place = 0; below = omega arith; is = grind (arith, nat_tests) }
    go false e later h = let rest = later h in record { place = suc rest.place; below = omega (arith, rest.below); is = rest.is }

pub number_within : {X : Type 0} (test : X → Bool) (first n : ℕ) (xs : List X) → has n (numbers_where test first xs) ≡ true → (first ≤ n) × (n < first + length xs)
number_within test first n xs h =
    let p = placed n (numbers_where test first xs) h in
    subst (λ m. (first ≤ m) × (m < first + length xs)) p.is (within_numbers test first xs p.place 0 p.below)

-- all numbers of a list are where each that it has is
pub all_of_has : (P : ℕ → Type 0) (ns : List ℕ) → ((n : ℕ) → has n ns ≡ true → P n) → All P ns
all_of_has P ns h k d lt = h (get_or ns k d) (list_any_at (λ m. get_or ns k d == m) ns k d lt (grind (arith, nat_tests)))
