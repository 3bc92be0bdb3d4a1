-- The names of a load are names, no two of them equal.
use Rattle.std.proofs.Common.{◌≡◌, ◌≢◌, ℕ, Bool, true, false, List, [], ◌∷◌, length, refl, sym, ap, ◌∙◌, arith}
use Rattle.std.specs.Prelude.{All, AllPairs, IsTrue, codes, None, not, ◌&&◌, ◌==◌, nat_le}
use Rattle.std.specs.List.{list_all}
use Rattle.std.proofs.lemmas.List.Kept.{AllPairs-cons}
use Rattle.std.proofs.lemmas.List.Elements.{All-nil, All-cons}
use Rattle.std.proofs.lemmas.Bool.Decides.{nat_tests}
use Rattle.std.proofs.lemmas.Bool.{and_parts}
use Rattle.homeo_syntax.specs.Key.{definitions as syntax_definitions}
use Rattle.homeo_syntax.specs.Lexemes.{is_word, reserved, look_up}
use Rattle.homeo_syntax.specs.declared.token.Version.TheVariants.{First}
use Rattle.homeo_syntax.specs.Versions.{also_reserved}
use Rattle.homeo_syntax.specs.WellFormed.{BeginsWithLetter, IsName, Each}
use Rattle.homeo_load.specs.Load.{load_names}

-- ---- no two equal, by a test
abbrev same : List ℕ → List ℕ → Bool
same [] [] = true
same (x ∷ xs) (y ∷ ys) = (x == y) && same xs ys
same _ _ = false

abbrev apart : List (List ℕ) → Bool
apart [] = true
apart (x ∷ xs) = list_all (λ y. not (same x y)) xs && apart xs

abbrev Differs : List ℕ → List ℕ → Type 0
Differs a b = a ≢ b

same_itself : (xs : List ℕ) → same xs xs ≡ true
same_itself [] = refl
same_itself (x ∷ xs) =
    let q : (x == x) ≡ true = grind (arith, nat_tests) in
    (λ i. q i && same xs xs) ∙ same_itself xs

differs : (x y : List ℕ) → not (same x y) ≡ true → x ≢ y
differs x y e f =
    let q : same x y ≡ true = ap (same x) (sym f) ∙ same_itself x in
    let r : not (same x y) ≡ false = ap not q in
    cc

differs_all : (x : List ℕ) (ys : List (List ℕ)) → list_all (λ y. not (same x y)) ys ≡ true → All (Differs x) ys
differs_all x [] e = All-nil (Differs x)
differs_all x (y ∷ ys) e =
    let parts = and_parts (not (same x y)) (list_all (λ y. not (same x y)) ys) e in
    All-cons (Differs x) y ys (differs x y parts.0) (differs_all x ys parts.1)

no_pairs : AllPairs Differs []
no_pairs i j d lt within = absurd (omega arith)

all_apart : (xs : List (List ℕ)) → apart xs ≡ true → AllPairs Differs xs
all_apart [] e = no_pairs
all_apart (x ∷ xs) e =
    let parts = and_parts (list_all (λ y. not (same x y)) xs) (apart xs) e in
    AllPairs-cons Differs x xs (differs_all x xs parts.0) (all_apart xs parts.1)

pub names_apart : AllPairs Differs load_names
names_apart = all_apart load_names refl

-- ---- each a name
spelled : (w : List ℕ) → BeginsWithLetter w → IsTrue (list_all is_word w) → nat_le (length w) 32 ≡ true → look_up reserved w ≡ None → look_up (also_reserved First) w ≡ None → IsName First w
spelled w first all short free also = record { first = first; all = all; short = grind (arith, nat_tests); free = free; also_free = also }

pub names_spelled : Each (IsName First) load_names
unfolding syntax_definitions
names_spelled = (
  spelled (codes "c0") refl refl refl refl refl,
  (
    spelled (codes "c1") refl refl refl refl refl,
    (
      spelled (codes "c2") refl refl refl refl refl,
      (
        spelled (codes "c3") refl refl refl refl refl,
        (
          spelled (codes "c4") refl refl refl refl refl,
          (
            spelled (codes "c5") refl refl refl refl refl,
            (
              spelled (codes "c6") refl refl refl refl refl,
              (
                spelled (codes "c7") refl refl refl refl refl,
                (
                  spelled (codes "add0") refl refl refl refl refl,
                  (
                    spelled (codes "n") refl refl refl refl refl,
                    (
                      spelled (codes "add1") refl refl refl refl refl,
                      (
                        spelled (codes "add2") refl refl refl refl refl,
                        (
                          spelled (codes "add3") refl refl refl refl refl,
                          (
                            spelled (codes "add4") refl refl refl refl refl,
                            (
                              spelled (codes "add5") refl refl refl refl refl,
                              (
                                spelled (codes "add6") refl refl refl refl refl,
                                (
                                  spelled (codes "add7") refl refl refl refl refl,
                                  (
                                    spelled (codes "w0") refl refl refl refl refl,
                                    (
                                      spelled (codes "w1") refl refl refl refl refl,
                                      (
                                        spelled (codes "w2") refl refl refl refl refl,
                                        (
                                          spelled (codes "w3") refl refl refl refl refl,
                                          (
                                            spelled (codes "w4") refl refl refl refl refl,
                                            (
                                              spelled (codes "w5") refl refl refl refl refl,
                                              (
                                                spelled (codes "w6") refl refl refl refl refl,
                                                (spelled (codes "w7") refl refl refl refl refl, tt),
                                              ),
                                            ),
                                          ),
                                        ),
                                      ),
                                    ),
                                  ),
                                ),
                              ),
                            ),
                          ),
                        ),
                      ),
                    ),
                  ),
                ),
              ),
            ),
          ),
        ),
      ),
    ),
  ),
)
