-- Which numbers of items that pass a test there are with one more item.
use Rattle.std.proofs.Common.{◌≡◌, ◌⊎◌, ℕ, zero, suc, ◌==◌, ◌+◌, ◌<◌, Bool, true, false, cond, ◌&&◌, List, [], ◌∷◌, ◌++◌, take, get_or, length, refl, sym, ap, ap₂, ◌∙◌, inl, inr, ⊎_elim, arith}
use Rattle.std.specs.Prelude.{◌||◌}
use Rattle.std.proofs.lemmas.Bool.Decides.{nat_tests}
use Rattle.std.proofs.lemmas.List.Folds.{list_any-append, list_any_more}
use Rattle.std.proofs.lemmas.Bool.{or_right}
use Rattle.homeo_lemmas.proofs.Bools.{or_false}
use Rattle.homeo_outline.specs.Numbers.{has, numbers_where}

-- ---- one more item
pub numbers_more :
    {X : Type 0} (test : X → Bool) (first : ℕ) (xs : List X) (x : X) →
    numbers_where test first (xs ++ x ∷ []) ≡ numbers_where test first xs ++ cond (test x) ((first + length xs) ∷ []) []
numbers_more test first [] x = let e : first ≡ first + 0 = omega arith in ap (λ m. cond (test x) (m ∷ []) []) e
numbers_more test first (y ∷ xs) x =
    go (test y) (numbers_more test (suc first) xs x ∙ ap (λ m. numbers_where test (suc first) xs ++ cond (test x) (m ∷ []) []) e)
  where
    e : suc first + length xs ≡ first + suc (length xs)
    e = omega arith

    go :
        (v : Bool) →
        numbers_where test (suc first) (xs ++ x ∷ []) ≡ numbers_where test (suc first) xs ++ cond (test x) ((first + suc (length xs)) ∷ []) [] →
        cond v (first ∷ numbers_where test (suc first) (xs ++ x ∷ [])) (numbers_where test (suc first) (xs ++ x ∷ [])) ≡
        cond v (first ∷ numbers_where test (suc first) xs) (numbers_where test (suc first) xs) ++ cond (test x) ((first + suc (length xs)) ∷ []) []
    go true h = ap (λ ns. first ∷ ns) h
    go false h = h

has_one : (n m : ℕ) (v : Bool) → has n (cond v (m ∷ []) []) ≡ (v && (n == m))
has_one n m true = or_false (n == m)
has_one n m false = refl

pub has_more :
    {X : Type 0} (test : X → Bool) (first n : ℕ) (xs : List X) (x : X) →
    has n (numbers_where test first (xs ++ x ∷ [])) ≡ (has n (numbers_where test first xs) || (test x && (n == first + length xs)))
has_more test first n xs x =
    ap (has n) (numbers_more test first xs x)
    ∙ list_any-append (λ m. n == m) (numbers_where test first xs) _
    ∙ ap (λ v. has n (numbers_where test first xs) || v) (has_one n (first + length xs) (test x))

-- ---- the number of an item
none_below : {X : Type 0} (test : X → Bool) (n first : ℕ) (xs : List X) → n < first → has n (numbers_where test first xs) ≡ false
none_below test n first [] h = refl
none_below test n first (x ∷ xs) h = go (test x) (none_below test n (suc first) xs (omega (arith, h)))
  where
    go : (v : Bool) → has n (numbers_where test (suc first) xs) ≡ false → has n (cond v (first ∷ numbers_where test (suc first) xs) (numbers_where test (suc first) xs)) ≡ false
    go true later = let apart : (n == first) ≡ false = grind (arith, nat_tests, h) in ap₂ ◌||◌ apart later
    go false later = later

pub numbered : {X : Type 0} (test : X → Bool) (first m : ℕ) (xs : List X) (d : X) → m < length xs → has (first + m) (numbers_where test first xs) ≡ test (get_or xs m d)
numbered test first m [] d h = absurd (omega (arith, h))
numbered test first zero (x ∷ xs) d h = ap (λ n. has n (numbers_where test first (x ∷ xs))) here ∙ go (test x)
  where
    here : first + 0 ≡ first
    here = omega arith

    go : (v : Bool) → has first (cond v (first ∷ numbers_where test (suc first) xs) (numbers_where test (suc first) xs)) ≡ v
    go true = let same : (first == first) ≡ true = grind (arith, nat_tests) in ap (λ v. v || has first (numbers_where test (suc first) xs)) same
    go false = none_below test first (suc first) xs (omega arith)
numbered test first (suc m) (x ∷ xs) d h = ap (λ n. has n (numbers_where test first (x ∷ xs))) next ∙ go (test x) ∙ numbered test (suc first) m xs d (omega (arith, h))
  where
    next : first + suc m ≡ suc first + m
    next = omega arith

    go : (v : Bool) → has (suc first + m) (cond v (first ∷ numbers_where test (suc first) xs) (numbers_where test (suc first) xs)) ≡ has (suc first + m) (numbers_where test (suc first) xs)
    go true =
        let apart : (suc first + m == first) ≡ false = grind (arith, nat_tests) in
        ap (λ v. v || has (suc first + m) (numbers_where test (suc first) xs)) apart
    go false = refl

-- an item's number is there where it passes the test
pub has_number : {X : Type 0} (test : X → Bool) (m : ℕ) (xs : List X) (d : X) → m < length xs → has m (numbers_where test 0 xs) ≡ test (get_or xs m d)
has_number test m xs d h = let e : m ≡ 0 + m = omega arith in ap (λ n. has n (numbers_where test 0 xs)) e ∙ numbered test 0 m xs d h

-- ---- the first numbers of a list
-- one more of the first numbers
pub more_numbers :
    (ns : List ℕ) (i n d : ℕ) → i < length ns → (has n (take (i + 1) ns) ≡ true → (has n (take i ns) ≡ true) ⊎ (n ≡ get_or ns i d)) ×
    ((has n (take i ns) ≡ true) ⊎ (n ≡ get_or ns i d) → has n (take (i + 1) ns) ≡ true)
more_numbers ns i n d lt = (λ h. back (has n (take i ns)) refl (n == get_or ns i d) refl (sym step ∙ h), λ l. step ∙ ⊎_elim left right l)
  where
    step : has n (take (i + 1) ns) ≡ (has n (take i ns) || (n == get_or ns i d))
    step = list_any_more (λ m. n == m) ns i d lt

    back :
        (u : Bool) → has n (take i ns) ≡ u → (v : Bool) → (n == get_or ns i d) ≡ v → (has n (take i ns) || (n == get_or ns i d)) ≡ true →
        (has n (take i ns) ≡ true) ⊎ (n ≡ get_or ns i d)
    back true p v q h = inl p
    back false p true q h = inr (grind (arith, nat_tests))
    back false p false q h = cc

    left : has n (take i ns) ≡ true → (has n (take i ns) || (n == get_or ns i d)) ≡ true
    left e = ap (λ b. b || (n == get_or ns i d)) e

    right : n ≡ get_or ns i d → (has n (take i ns) || (n == get_or ns i d)) ≡ true
    right e = let same : (n == get_or ns i d) ≡ true = grind (arith, nat_tests) in or_right (has n (take i ns)) (n == get_or ns i d) same
