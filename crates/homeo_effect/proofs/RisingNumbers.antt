-- Numbers of items that pass tests: which there are, and that they rise.
use Rattle.std.proofs.Common.{◌≡◌, ℕ, suc, ◌==◌, eqb, ◌<◌, ◌≤◌, nat_lt, Bool, true, false, cond, List, [], ◌∷◌, refl, sym, ap, ◌∙◌, arith}
use Rattle.std.specs.Prelude.{◌||◌}
use Rattle.std.specs.List.{AllByRecursion, dedup, dedup_from}
use Rattle.std.specs.List.Sorted.{IsStrictlySortedBy}
use Rattle.std.specs.Ordering.{nat_cmp}
use Rattle.std.specs.declared.cmp.Ordering.TheVariants.{Less, Equal, Greater}
use Rattle.std.proofs.lemmas.Bool.{false≢true}
use Rattle.std.proofs.lemmas.Bool.Decides.{nat_tests}
use Rattle.homeo_lemmas.proofs.Bools.{or_again}
use Rattle.homeo_outline.specs.Numbers.{has, numbers_where}

-- ---- two tests
either_test :
    (n first : ℕ) (p q u v w : Bool) → w ≡ (u || v) → (ps : List ℕ) (qs rs : List ℕ) → has n rs ≡ (has n ps || has n qs) →
    has n (cond w (first ∷ rs) rs) ≡ (has n (cond u (first ∷ ps) ps) || has n (cond v (first ∷ qs) qs))
either_test n first p q u v w e ps qs rs h =
    ap (λ t. has n (cond t (first ∷ rs) rs)) e ∙ go u v
  where
    bools : (a b c : Bool) (d : Bool) → d ≡ (b || c) → (a || d) ≡ ((a || b) || (a || c))
    bools true b c d e = refl
    bools false b c d e = e

    left : (a b c : Bool) (d : Bool) → d ≡ (b || c) → (a || d) ≡ ((a || b) || c)
    left true b c d e = refl
    left false b c d e = e

    right : (a b c : Bool) (d : Bool) → d ≡ (b || c) → (a || d) ≡ (b || (a || c))
    right true true c d e = refl
    right true false c d e = refl
    right false b c d e = e

    go : (s t : Bool) → has n (cond (s || t) (first ∷ rs) rs) ≡ (has n (cond s (first ∷ ps) ps) || has n (cond t (first ∷ qs) qs))
    go true true = bools (n == first) (has n ps) (has n qs) (has n rs) h
    go true false = left (n == first) (has n ps) (has n qs) (has n rs) h
    go false true = right (n == first) (has n ps) (has n qs) (has n rs) h
    go false false = h

pub has_either :
    {X : Type 0} (p q r : X → Bool) → ((x : X) → r x ≡ (p x || q x)) → (first n : ℕ) (xs : List X) →
    has n (numbers_where r first xs) ≡ (has n (numbers_where p first xs) || has n (numbers_where q first xs))
has_either p q r e first n [] = refl
has_either p q r e first n (x ∷ xs) =
    either_test n first (p x) (q x) (p x) (q x) (r x) (e x) (numbers_where p (suc first) xs) (numbers_where q (suc first) xs)
    (numbers_where r (suc first) xs) (has_either p q r e (suc first) n xs)

pub has_none : {X : Type 0} (p : X → Bool) → ((x : X) → p x ≡ false) → (first n : ℕ) (xs : List X) → has n (numbers_where p first xs) ≡ false
has_none p e first n [] = refl
has_none p e first n (x ∷ xs) =
    ap (λ v. has n (cond v (first ∷ numbers_where p (suc first) xs) (numbers_where p (suc first) xs))) (e x) ∙ has_none p e (suc first) n xs

-- ---- order
is_less : (m n : ℕ) → m < n → nat_cmp m n ≡ Less
is_less m n h = let p : nat_lt m n ≡ true = grind (arith, nat_tests) in ap (λ v. cond v Less (cond (m == n) Equal Greater)) p

pub numbers_above : {X : Type 0} (test : X → Bool) (m first : ℕ) (xs : List X) → m < first → AllByRecursion (λ y. nat_cmp m y ≡ Less) (numbers_where test first xs)
numbers_above test m first [] h = tt
numbers_above test m first (x ∷ xs) h = go (test x) (numbers_above test m (suc first) xs (omega arith))
  where
    go :
        (v : Bool) → AllByRecursion (λ y. nat_cmp m y ≡ Less) (numbers_where test (suc first) xs) →
        AllByRecursion (λ y. nat_cmp m y ≡ Less) (cond v (first ∷ numbers_where test (suc first) xs) (numbers_where test (suc first) xs))
    go true more = (is_less m first h, more)
    go false more = more

pub numbers_rise : {X : Type 0} (test : X → Bool) (first : ℕ) (xs : List X) → IsStrictlySortedBy nat_cmp (numbers_where test first xs)
unfolding IsStrictlySortedBy
numbers_rise test first [] = tt
numbers_rise test first (x ∷ xs) = go (test x) (numbers_rise test (suc first) xs)
  where
    go :
        (v : Bool) → IsStrictlySortedBy nat_cmp (numbers_where test (suc first) xs) →
        IsStrictlySortedBy nat_cmp (cond v (first ∷ numbers_where test (suc first) xs) (numbers_where test (suc first) xs))
    go true more = (numbers_above test first (suc first) xs (omega arith), more)
    go false more = more

-- ---- rising lists with the same numbers
less_is : (m n : ℕ) → nat_cmp m n ≡ Less → m < n
less_is m n h = go (nat_lt m n) refl
  where
    go : (v : Bool) → nat_lt m n ≡ v → m < n
    go true q = grind (arith, nat_tests)
    go false q = le_from_cmp
      where
        le_from_cmp : m < n
        le_from_cmp = grind (arith, nat_tests)

pub absent : (n x : ℕ) (ys : List ℕ) → n ≤ x → AllByRecursion (λ y. nat_cmp x y ≡ Less) ys → has n ys ≡ false
absent n x [] h a = refl
absent n x (y ∷ ys) h a =
    let lt : x < y = less_is x y a.0 in
    let apart : (n == y) ≡ false = grind (arith, nat_tests) in
    ap (λ v. v || has n ys) apart ∙ absent n x ys h a.1

pub has_first : (x : ℕ) (xs : List ℕ) → has x (x ∷ xs) ≡ true
has_first x xs = let e : (x == x) ≡ true = grind (arith, nat_tests) in ap (λ v. v || has x xs) e

first_at_most :
    (x y : ℕ) (xs ys : List ℕ) → AllByRecursion (λ z. nat_cmp y z ≡ Less) ys → ((n : ℕ) → has n (x ∷ xs) ≡ has n (y ∷ ys)) → y ≤ x
first_at_most x y xs ys a h = go (nat_lt x y) refl
  where
    go : (v : Bool) → nat_lt x y ≡ v → y ≤ x
    go true q =
        let lt : x < y = grind (arith, nat_tests) in
        let apart : (x == y) ≡ false = grind (arith, nat_tests) in
        absurd (false≢true (sym (ap (λ v. v || has x ys) apart ∙ absent x y ys (omega arith) a) ∙ sym (h x) ∙ has_first x xs))
    go false q = grind (arith, nat_tests)

pub same_rising :
    (xs ys : List ℕ) → IsStrictlySortedBy nat_cmp xs → IsStrictlySortedBy nat_cmp ys → ((n : ℕ) → has n xs ≡ has n ys) → xs ≡ ys
unfolding IsStrictlySortedBy
same_rising [] [] s t h = refl
same_rising [] (y ∷ ys) s t h = absurd (false≢true (h y ∙ has_first y ys))
same_rising (x ∷ xs) [] s t h = absurd (false≢true (sym (h x) ∙ has_first x xs))
same_rising (x ∷ xs) (y ∷ ys) s t h =
    let low = first_at_most x y xs ys t.0 h in
    let high = first_at_most y x ys xs s.0 (λ n. sym (h n)) in
    let e : x ≡ y = omega arith in
    (λ i. e i ∷ same_rising xs ys s.1 t.1 (rest e) i)
  where
    rest : x ≡ y → (n : ℕ) → has n xs ≡ has n ys
    rest e n = go (n == x) refl
      where
        go : (v : Bool) → (n == x) ≡ v → has n xs ≡ has n ys
        go true q =
            let is : n ≡ x = grind (arith, nat_tests) in
            absent n x xs (omega arith) s.0 ∙ sym (absent n y ys (omega arith) t.0)
        go false q =
            let other : (n == y) ≡ false = ap (λ z. n == z) (sym e) ∙ q in
            sym (ap (λ v. v || has n xs) q) ∙ h n ∙ ap (λ v. v || has n ys) other

-- ---- what a sort and a `dedup` leave
module _ (n : ℕ) where
  kept_from : (k : ℕ) (xs : List ℕ) → has n (dedup_from eqb k xs) ≡ ((n == k) || has n xs)
  kept_from k [] = refl
  kept_from k (x ∷ xs) = go (kept_from k xs) (kept_from x xs) (x == k) refl
    where
      go :
          has n (dedup_from eqb k xs) ≡ ((n == k) || has n xs) → has n (dedup_from eqb x xs) ≡ ((n == x) || has n xs) →
          (v : Bool) → (x == k) ≡ v → has n (cond v (dedup_from eqb k xs) (k ∷ dedup_from eqb x xs)) ≡ ((n == k) || has n (x ∷ xs))
      go here more true q =
          let e : x ≡ k = grind (arith, nat_tests) in
          here ∙ or_again (n == k) (has n xs) ∙ ap (λ y. (n == k) || ((n == y) || has n xs)) (sym e)
      go here more false q = ap (λ v. (n == k) || v) more

  pub kept : (xs : List ℕ) → has n (dedup eqb xs) ≡ has n xs
  kept [] = refl
  kept (x ∷ xs) = kept_from x xs
