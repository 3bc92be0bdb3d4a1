-- Lists that are taken from the front.
use Rattle.std.proofs.Common.{◌≡◌, ℕ, zero, suc, List, [], ◌∷◌, ◌++◌, map, length, take, drop, Option, Some, None, refl, ap, subst, ◌∙◌, arith, length-append}
use Rattle.std.specs.Prelude.{slice_get}
use Rattle.std.specs.Option.{option_to_list}

pub drop_then : {X : Type 0} (n : ℕ) (xs : List X) → drop 1 (drop n xs) ≡ drop (suc n) xs
drop_then zero xs = refl
drop_then (suc n) [] = refl
drop_then (suc n) (x ∷ xs) = drop_then n xs

pub drop_one_more : {X Y : Type 0} (before : List Y) (y : Y) (xs : List X) → drop 1 (drop (length before) xs) ≡ drop (length (before ++ y ∷ [])) xs
drop_one_more before y xs =
    let one : suc (length before) ≡ length (before ++ y ∷ []) = omega (arith, length-append before (y ∷ [])) in
    drop_then (length before) xs ∙ ap (λ n. drop n xs) one

-- the next of those that begin a list
pub next_of : {X : Type 0} (before : List X) (y : X) (after xs : List X) → take (length (before ++ y ∷ after)) xs ≡ before ++ y ∷ after →
    take 1 (drop (length before) xs) ≡ y ∷ []
next_of [] y after [] e = absurd (cc)
next_of [] y after (x ∷ xs) e = let same : x ≡ y = cc in ap (λ z. z ∷ []) same
next_of (z ∷ before) y after [] e = absurd (cc)
next_of (z ∷ before) y after (x ∷ xs) e = let rest : take (length (before ++ y ∷ after)) xs ≡ before ++ y ∷ after = cc in next_of before y after xs rest

-- ---- the first is taken away
module _ {X Y : Type 0} (f : X → Y) (y : Y) where
  pub one_left : (x : X) (queue rest : List X) → queue ≡ x ∷ rest → take 1 (map f queue) ≡ y ∷ [] → f x ≡ y
  one_left x [] rest e h = absurd (cc)
  one_left x (z ∷ queue) rest e h = let same : z ≡ x = cc in let there : f z ≡ y = cc in subst (λ v. f v ≡ y) same there

  pub first_is : (queue rest : List X) (o : Option X) (x : X) → queue ≡ option_to_list o ++ rest → o ≡ Some x → take 1 (map f queue) ≡ y ∷ [] → f x ≡ y
  first_is queue rest None x e is h = absurd (cc)
  first_is queue rest (Some z) x e is h = let same : z ≡ x = cc in subst (λ v. f v ≡ y) same (one_left z queue rest e h)

  pub first_there : (queue rest : List X) (o : Option X) → queue ≡ option_to_list o ++ rest → rest ≡ drop 1 queue → o ≡ None → take 1 (map f queue) ≡ y ∷ [] → ⊥
  first_there [] rest o e g is h = absurd (cc)
  first_there (z ∷ queue) rest (Some x) e g is h = absurd (cc)
  first_there (z ∷ queue) rest None e g is h = let longer : length (z ∷ queue) ≡ length queue = ap length (e ∙ g) in absurd (omega (arith, longer))

-- what stands after others
pub get_after : {X : Type 0} (before : List X) (y : X) (after : List X) → slice_get (before ++ y ∷ after) (length before) ≡ Some y
get_after [] y after = refl
get_after (x ∷ before) y after = get_after before y after
