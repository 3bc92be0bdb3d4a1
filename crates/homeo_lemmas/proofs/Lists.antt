-- Lists: their heads, beginnings and maps.
use Rattle.std.proofs.Common.{◌≡◌, ℕ, zero, suc, ◌+◌, ◌<◌, ◌≤◌, true, cond, eqb, List, [], ◌∷◌, ◌++◌, map, length, take, drop, get_or, replicate, slice_set, ℤ, pos, refl, sym, ap, ◌∙◌, take_all, drop_of_length-le, length-take, eq-eqb, ne_eqb, tests, arith}
use Rattle.std.specs.List.{range_with_len}
use Rattle.std.specs.Ordering.{int_eq}
use Rattle.std.specs.Cmp.Lexicographic.{pointwise}
use Rattle.std.proofs.lemmas.Bool.{cond-true, cond-false}
use Rattle.std.proofs.lemmas.Grind.{common_steps}
use Rattle.std.proofs.lemmas.List.{length-map, length-replicate, take_more, take-map, map-append}
use Rattle.homeo_lemmas.proofs.Bools.{and_first, and_second}
use Rattle.homeo_lemmas.proofs.Integers.{int_is}

pub not_nil : {X : Type 0} (x : X) (xs : List X) → x ∷ xs ≡ [] → ⊥
not_nil x xs e = cc

pub cons_head : {X : Type 0} (x y : X) (xs ys : List X) → x ∷ xs ≡ y ∷ ys → x ≡ y
cons_head x y xs ys e = cc

pub cons_tail : {X : Type 0} (x y : X) (xs ys : List X) → x ∷ xs ≡ y ∷ ys → xs ≡ ys
cons_tail x y xs ys e = cc

pub numbers_same : (xs ys : List ℤ) → pointwise int_eq xs ys ≡ true → xs ≡ ys
numbers_same [] [] h = refl
numbers_same [] (y ∷ ys) h = cc
numbers_same (x ∷ xs) [] h = cc
numbers_same (x ∷ xs) (y ∷ ys) h =
    let head : x ≡ y = int_is x y (and_first (int_eq x y) (pointwise int_eq xs ys) h) in
    let tail : xs ≡ ys = numbers_same xs ys (and_second (int_eq x y) (pointwise int_eq xs ys) h) in
    λ i. head i ∷ tail i

-- ---- lengths
pub length_map : {X Y : Type 0} (f : X → Y) (xs : List X) → length (map f xs) ≡ length xs
length_map f xs = length-map xs f

pub length_zeros : (n : ℕ) → length (replicate n (pos 0)) ≡ n
length_zeros n = length-replicate n (pos 0)

pub length_take : {X : Type 0} (xs : List X) (i : ℕ) → i < length xs → length (take i xs) ≡ i
length_take xs i lt = grind (arith, length-take)

-- ---- beginnings and ends
pub take_whole : {X : Type 0} (xs : List X) → take (length xs) xs ≡ xs
take_whole xs = take_all (length xs) xs (omega arith)

pub take_past : {X : Type 0} (xs : List X) (n : ℕ) → length xs ≤ n → take n xs ≡ xs
take_past xs n h = grind (arith, common_steps)

pub drop_past : {X : Type 0} (xs : List X) (n : ℕ) → length xs ≤ n → drop n xs ≡ []
drop_past xs n h = drop_of_length-le xs h

pub map_drop_past : {X Y : Type 0} (f : X → Y) (xs : List X) (n : ℕ) → length xs ≤ n → map f (drop n xs) ≡ []
map_drop_past f xs n h = ap (map f) (drop_past xs n h)

pub map_take : {X Y : Type 0} (f : X → Y) (n : ℕ) (xs : List X) → map f (take n xs) ≡ take n (map f xs)
map_take f n xs = sym (take-map f n xs)

-- ---- one more
pub range_more : (a n : ℕ) → range_with_len a (suc n) ≡ range_with_len a n ++ (a + n) ∷ []
range_more a zero = ap (λ k. k ∷ []) (omega arith)
range_more a (suc n) = ap (λ l. a ∷ l) (range_more (a + 1) n ∙ ap (λ k. range_with_len (a + 1) n ++ k ∷ []) (omega arith))

pub map_take_more : {X Y : Type 0} (f : X → Y) (xs : List X) (i : ℕ) (x : X) → i < length xs → x ≡ get_or xs i x → map f (take (i + 1) xs) ≡ map f (take i xs) ++ f x ∷ []
map_take_more f xs i x within is =
    ap (map f) (take_more xs i x within) ∙ map-append f (take i xs) (get_or xs i x ∷ []) ∙ ap (λ y. map f (take i xs) ++ f y ∷ []) (sym is)

pub take_map_more : {X Y : Type 0} (f : X → Y) (xs : List X) (i : ℕ) (x : X) → i < length xs → x ≡ get_or xs i x → take (suc i) (map f xs) ≡ take i (map f xs) ++ f x ∷ []
take_map_more f [] i x lt e = absurd (omega (arith, lt))
take_map_more f (y ∷ xs) zero x lt e = ap (λ z. f z ∷ []) (sym e)
take_map_more f (y ∷ xs) (suc i) x lt e = ap (λ l. f y ∷ l) (take_map_more f xs i x (omega (arith, lt)) e)

next_eqb : (i k : ℕ) → eqb i k ≡ eqb (suc i) (suc k)
next_eqb i k = grind (arith, tests)

-- one more of a mapped list, whose place k has the value v
set_more : {X Y : Type 0} (f : X → Y) (xs : List X) (k i : ℕ) (v : Y) (x : X) → i < length xs → x ≡ get_or xs i x → take (suc i) (slice_set (map f xs) k v) ≡ take i (slice_set (map f xs) k v) ++ cond (eqb i k) v (f x) ∷ []
set_more f [] k i v x lt e = absurd (omega (arith, lt))
set_more f (y ∷ xs) zero zero v x lt e = ap (λ z. z ∷ []) (sym (cond-true (eqb 0 0) v (f x) (eq-eqb 0 0 refl)))
set_more f (y ∷ xs) zero (suc i) v x lt e =
    ap (λ l. v ∷ l) (take_map_more f xs i x (omega (arith, lt)) e)
    ∙ ap (λ z. v ∷ (take i (map f xs) ++ z ∷ [])) (sym (cond-false (eqb (suc i) 0) v (f x) (ne_eqb (suc i) 0 (λ h. omega (arith, h)))))
set_more f (y ∷ xs) (suc k) zero v x lt e =
    ap (λ z. z ∷ []) (ap f (sym e) ∙ sym (cond-false (eqb 0 (suc k)) v (f x) (ne_eqb 0 (suc k) (λ h. omega (arith, h)))))
set_more f (y ∷ xs) (suc k) (suc i) v x lt e =
    ap (λ l. f y ∷ l) (set_more f xs k i v x (omega (arith, lt)) e)
    ∙ ap (λ t. f y ∷ (take i (slice_set (map f xs) k v) ++ cond t v (f x) ∷ [])) (next_eqb i k)

pub take_set_more : {X Y : Type 0} (f : X → Y) (xs : List X) (k i : ℕ) (v : Y) (x : X) → i < length xs → x ≡ get_or xs i x → take (i + 1) (slice_set (map f xs) k v) ≡ take i (slice_set (map f xs) k v) ++ cond (eqb i k) v (f x) ∷ []
take_set_more f xs k i v x lt e =
    ap (λ n. take n (slice_set (map f xs) k v)) (let h : i + 1 ≡ suc i = omega arith in h) ∙ set_more f xs k i v x lt e
