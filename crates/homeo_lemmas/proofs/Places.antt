-- Lists by their places.
use Rattle.std.proofs.Common.{◌≡◌, ℕ, zero, suc, ◌<◌, List, [], ◌∷◌, ◌++◌, map, length, take, get_or, replicate, slice_get, slice_set, pos, Some, IsSome, All, refl, sym, ap, subst, arith}
use Rattle.std.proofs.lemmas.Option.{slice_get_within, get_or_from_slice_get}

pub one_placed : {X : Type 0} (xs : List X) (n : ℕ) (x y : X) → slice_get xs n ≡ Some x → slice_get xs n ≡ Some y → x ≡ y
one_placed xs n x y p q = cc

pub place_some : {X : Type 0} (xs : List X) (n : ℕ) → n < length xs → IsSome (slice_get xs n)
place_some [] n lt = absurd (omega arith)
place_some (x ∷ xs) zero lt = refl
place_some (x ∷ xs) (suc n) lt = place_some xs n (omega arith)

pub get_read : {X : Type 0} (xs : List X) (i : ℕ) (x : X) → i < length xs → x ≡ get_or xs i x → slice_get xs i ≡ Some x
get_read [] i x lt e = absurd (omega (arith, lt))
get_read (y ∷ xs) zero x lt e = ap Some (sym e)
get_read (y ∷ xs) (suc i) x lt e = get_read xs i x (omega (arith, lt)) e

pub All-get : {X : Type 0} (P : X → Type 0) (xs : List X) (i : ℕ) (x : X) → All P xs → slice_get xs i ≡ Some x → P x
All-get P xs i x h e = subst P (get_or_from_slice_get xs i x x e) (h i x (slice_get_within xs i x e))

pub get_left : {X : Type 0} (xs ys : List X) (n : ℕ) (x : X) → slice_get xs n ≡ Some x → slice_get (xs ++ ys) n ≡ Some x
get_left [] ys n x h = cc
get_left (z ∷ xs) ys zero x h = h
get_left (z ∷ xs) ys (suc n) x h = get_left xs ys n x h

pub get_take : {X : Type 0} (xs : List X) (m i : ℕ) (x : X) → slice_get (take m xs) i ≡ Some x → slice_get xs i ≡ Some x
get_take [] zero i x e = e
get_take [] (suc m) i x e = e
get_take (y ∷ xs) zero i x e = absurd (cc)
get_take (y ∷ xs) (suc m) zero x e = e
get_take (y ∷ xs) (suc m) (suc i) x e = get_take xs m i x e

pub get_map : {X Y : Type 0} (f : X → Y) (xs : List X) (i : ℕ) (x : X) → slice_get xs i ≡ Some x → slice_get (map f xs) i ≡ Some (f x)
get_map f [] i x e = absurd (cc)
get_map f (y ∷ xs) zero x e = let h : y ≡ x = cc in ap (λ z. Some (f z)) h
get_map f (y ∷ xs) (suc i) x e = get_map f xs i x e

pub get_replicate : {X : Type 0} (n i : ℕ) (x y : X) → slice_get (replicate n x) i ≡ Some y → x ≡ y
get_replicate zero i x y e = absurd (cc)
get_replicate (suc n) zero x y e = cc
get_replicate (suc n) (suc i) x y e = get_replicate n i x y e

pub zeros_at : (n i : ℕ) → get_or (replicate n (pos 0)) i (pos 0) ≡ pos 0
zeros_at zero i = refl
zeros_at (suc n) zero = refl
zeros_at (suc n) (suc i) = zeros_at n i

pub set_itself : {X : Type 0} (xs : List X) (i : ℕ) (x : X) → slice_get xs i ≡ Some x → slice_set xs i x ≡ xs
set_itself [] i x e = refl
set_itself (y ∷ xs) zero x e = let same : y ≡ x = cc in ap (λ z. z ∷ xs) (sym same)
set_itself (y ∷ xs) (suc i) x e = ap (λ l. y ∷ l) (set_itself xs i x e)

pub map_set : {X Y : Type 0} (f : X → Y) (xs : List X) (i : ℕ) (x : X) → map f (slice_set xs i x) ≡ slice_set (map f xs) i (f x)
map_set f [] i x = refl
map_set f (y ∷ xs) zero x = refl
map_set f (y ∷ xs) (suc i) x = ap (λ l. f y ∷ l) (map_set f xs i x)

pub same_list : {X : Type 0} (xs ys : List X) → length xs ≡ length ys → ((i : ℕ) (x y : X) → slice_get xs i ≡ Some x → slice_get ys i ≡ Some y → x ≡ y) → xs ≡ ys
same_list [] [] long same = refl
same_list [] (y ∷ ys) long same = absurd (omega (arith, long))
same_list (x ∷ xs) [] long same = absurd (omega (arith, long))
same_list (x ∷ xs) (y ∷ ys) long same =
    let rest : xs ≡ ys = same_list xs ys (omega (arith, long)) (λ i u v e f. same (suc i) u v e f) in
    let here : x ≡ y = same 0 x y refl refl in
    cc
