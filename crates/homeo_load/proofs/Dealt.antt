-- The additions that the clients make are all additions, each once.
use Rattle.std.proofs.Common.{◌≡◌, ℕ, ◌+◌, ◌<◌, ◌%◌, Bool, true, false, cond, List, [], ◌∷◌, length, refl, ◌∙◌, arith}
use Rattle.std.specs.Prelude.{All, ◌==◌, sum_by}
use Rattle.std.proofs.lemmas.List.Elements.{All-nil, All-cons, All-head, All-tail}
use Rattle.std.proofs.lemmas.List.Sums.{sum_by-cons}
use Rattle.homeo_load.specs.Key.{definitions}
use Rattle.homeo_load.specs.Additions.{Addition}
use Rattle.homeo_load.specs.Load.{eight, dealt}
use Rattle.homeo_load.proofs.Cases.{by_eight}
use Rattle.homeo_load.proofs.DrawnAdditions.{IsAddition}

put_fit : (b : Bool) (x : Addition) (rest : List Addition) → IsAddition x → All IsAddition rest → All IsAddition (cond b (x ∷ rest) rest)
put_fit true x rest a more = All-cons IsAddition x rest a more
put_fit false x rest a more = more

pub dealt_fit : (j k : ℕ) (all : List Addition) → All IsAddition all → All IsAddition (dealt j k all)
unfolding definitions
dealt_fit j k [] a = All-nil IsAddition
dealt_fit j k (x ∷ all) a = put_fit ((k % 8) == j) x (dealt j (k + 1) all) (All-head IsAddition x all a) (dealt_fit j (k + 1) all (All-tail IsAddition x all a))

-- one that passes is put in front
put_sum : (g : Addition → ℕ) (b : Bool) (x : Addition) (rest : List Addition) → sum_by g (cond b (x ∷ rest) rest) ≡ cond b (g x) 0 + sum_by g rest
put_sum g true x rest = sum_by-cons g x rest
put_sum g false x rest = omega arith

-- exactly one of eight takes it
abbrev pub OneTakes : (ℕ → ℕ) → ℕ → ℕ → Type 0
OneTakes f v r = sum_by (λ j. cond (r == j) v 0 + f j) eight ≡ v + sum_by f eight

pub one_takes : (f : ℕ → ℕ) (v r : ℕ) → r < 8 → OneTakes f v r
one_takes f v =
    by_eight (OneTakes f v) (omega arith) (omega arith) (omega arith) (omega arith) (omega arith) (omega arith) (omega arith) (omega arith)

-- what all clients' additions sum to is what all additions sum to
pub dealt_sum : (g : Addition → ℕ) (k : ℕ) (all : List Addition) → sum_by (λ j. sum_by g (dealt j k all)) eight ≡ sum_by g all
unfolding definitions
dealt_sum g k [] = refl
dealt_sum g k (x ∷ all) =
    let put : (j : ℕ) → sum_by g (dealt j k (x ∷ all)) ≡ cond ((k % 8) == j) (g x) 0 + sum_by g (dealt j (k + 1) all) = λ j. put_sum g ((k % 8) == j) x (dealt j (k + 1) all) in
    (λ i. sum_by (λ j. put j i) eight)
    ∙ one_takes (λ j. sum_by g (dealt j (k + 1) all)) (g x) (k % 8) (omega arith)
    ∙ omega (arith, dealt_sum g (k + 1) all, sum_by-cons g x all)

pub length_sum : {A : Type 0} (xs : List A) → sum_by (λ x. 1) xs ≡ length xs
length_sum [] = refl
length_sum (x ∷ xs) = omega (arith, sum_by-cons (λ y. 1) x xs, length_sum xs)
