-- Views and numbered pieces of text, with one more.
use Rattle.std.proofs.Common.{◌≡◌, ℕ, ◌+◌, ◌<◌, List, [], ◌∷◌, ◌++◌, map, length, take, get_or, append-nil, add-zero, zero-add, sym, ap, ◌∙◌, arith}
use Rattle.std.specs.List.{flat_map, enumerate_from}
use Rattle.std.proofs.lemmas.List.{length-map, length-take-le}
use Rattle.std.proofs.lemmas.Grind.{flat_map-append}
use Rattle.homeo_lemmas.proofs.Lists.{map_take_more}

enumerate_push : {X : Type 0} (n : ℕ) (xs : List X) (x : X) → enumerate_from n (xs ++ x ∷ []) ≡ enumerate_from n xs ++ (n + length xs, x) ∷ []
enumerate_push n [] x = ap (λ k. (k, x) ∷ []) (sym (add-zero n))
enumerate_push n (y ∷ xs) x =
    let e : (n + 1) + length xs ≡ n + length (y ∷ xs) = omega arith in
    ap (λ l. (n, y) ∷ l) (enumerate_push (n + 1) xs x ∙ ap (λ k. enumerate_from (n + 1) xs ++ (k, x) ∷ []) e)

-- pieces of text by number, with one more behind the others
pub numbered_push : {Y : Type 0} (g : ℕ → Y → List ℕ) (n i : ℕ) (ys : List Y) (y : Y) → length ys ≡ i
    → flat_map (λ p. g p.0 p.1) (enumerate_from n (ys ++ y ∷ [])) ≡ flat_map (λ p. g p.0 p.1) (enumerate_from n ys) ++ g (n + i) y
numbered_push {Y} g n i ys y count =
    let text : List (ℕ × Y) → List ℕ = flat_map (λ p. g p.0 p.1) in
    ap text (enumerate_push n ys y)
    ∙ flat_map-append (λ (p : ℕ × Y). g p.0 p.1) (enumerate_from n ys) ((n + length ys, y) ∷ [])
    ∙ ap (λ l. text (enumerate_from n ys) ++ l) (append-nil (g (n + length ys) y) ∙ ap (λ k. g (n + k) y) count)

-- pieces of text by number, with one more
pub numbered_more : {X Y : Type 0} (g : ℕ → Y → List ℕ) (f : X → Y) (xs : List X) (i : ℕ) (x : X) → i < length xs → x ≡ get_or xs i x
    → flat_map (λ p. g p.0 p.1) (enumerate_from 0 (map f (take (i + 1) xs))) ≡ flat_map (λ p. g p.0 p.1) (enumerate_from 0 (map f (take i xs))) ++ g i (f x)
numbered_more {X} {Y} g f xs i x within is =
    let text : List (ℕ × Y) → List ℕ = flat_map (λ p. g p.0 p.1) in
    let first : List Y = map f (take i xs) in
    let count : length first ≡ i = omega (arith, length-map (take i xs) f, length-take-le i xs (omega arith)) in
    ap (λ l. text (enumerate_from 0 l)) (map_take_more f xs i x within is)
    ∙ numbered_push g 0 i first (f x) count ∙ ap (λ k. text (enumerate_from 0 first) ++ g k (f x)) (zero-add i)
