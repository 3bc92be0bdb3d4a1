-- Names to which others are put: what is among them, and its place.
use Rattle.std.proofs.Common.{◌≡◌, ◌<◌, ◌+◌, ℕ, suc, Bool, true, false, cond, List, [], ◌∷◌, ◌++◌, length, get_or, refl, sym, ap, ◌∙◌, arith}
use Rattle.std.specs.Prelude.{◌||◌, not, if◌then◌else◌}
use Rattle.std.specs.List.{list_any}
use Rattle.std.specs.Str.{bytes_eq}
use Rattle.std.proofs.lemmas.Slice.Eq.{bytes_eq-Decides}
use Rattle.std.proofs.lemmas.Bool.{or_right}
use Rattle.homeo_syntax.specs.Lexemes.{Lexeme, Name, Number, Fixed}
use Rattle.homeo_syntax.specs.Tokens.{Scanned, with_name, with_lexeme, names_after, place_of}

-- ---- a name stays among the names
pub bytes_same : (w : List ℕ) → bytes_eq w w ≡ true
bytes_same w = (bytes_eq-Decides w w).1 refl

any_last : (w : List ℕ) (names : List (List ℕ)) → list_any (bytes_eq w) (names ++ w ∷ []) ≡ true
any_last w [] = ap (λ (b : Bool). b || false) (bytes_same w)
any_last w (n ∷ names) = or_right (bytes_eq w n) _ (any_last w names)

or_more : (b c d : Bool) → (b || c) ≡ true → (c ≡ true → d ≡ true) → (b || d) ≡ true
or_more true c d h k = refl
or_more false c d h k = k h

any_more : (w : List ℕ) (names more : List (List ℕ)) → list_any (bytes_eq w) names ≡ true → list_any (bytes_eq w) (names ++ more) ≡ true
any_more w [] more h = let no : ⊥ = cc in absurd no
any_more w (n ∷ names) more h = or_more (bytes_eq w n) (list_any (bytes_eq w) names) _ h (λ e. any_more w names more e)

pub any_put : (names : List (List ℕ)) (w : List ℕ) → list_any (bytes_eq w) (with_name names w) ≡ true
any_put names w = go (list_any (bytes_eq w) names) refl
  where
    go : (b : Bool) → list_any (bytes_eq w) names ≡ b → list_any (bytes_eq w) (if b then names else names ++ w ∷ []) ≡ true
    go true e = e
    go false e = any_last w names

any_name : (w v : List ℕ) (names : List (List ℕ)) → list_any (bytes_eq w) names ≡ true → list_any (bytes_eq w) (with_name names v) ≡ true
any_name w v names h = go (list_any (bytes_eq v) names)
  where
    go : (b : Bool) → list_any (bytes_eq w) (if b then names else names ++ v ∷ []) ≡ true
    go true = h
    go false = any_more w names (v ∷ []) h

pub any_lexeme : (w : List ℕ) (l : Lexeme) (names : List (List ℕ)) → list_any (bytes_eq w) names ≡ true
    → list_any (bytes_eq w) (with_lexeme names l) ≡ true
any_lexeme w (Name v) names h = any_name w v names h
any_lexeme w (Number n) names h = h
any_lexeme w (Fixed m) names h = h

any_after : (w : List ℕ) (ts : List Scanned) (names : List (List ℕ)) → list_any (bytes_eq w) names ≡ true
    → list_any (bytes_eq w) (names_after names ts) ≡ true
any_after w [] names h = h
any_after w (t ∷ ts) names h = any_after w ts (with_lexeme names t.lexeme) (any_lexeme w t.lexeme names h)

-- ---- each name of a text is among its names
abbrev pub InAll : List (List ℕ) → Lexeme → Type 0
InAll all (Name w) = list_any (bytes_eq w) all ≡ true
InAll all (Number n) = Unit {0}
InAll all (Fixed m) = Unit {0}

abbrev pub AllIn : List (List ℕ) → List Scanned → Type 0
AllIn all [] = Unit {0}
AllIn all (t ∷ ts) = InAll all t.lexeme × AllIn all ts

among : (l : Lexeme) (ts : List Scanned) (names : List (List ℕ)) → InAll (names_after (with_lexeme names l) ts) l
among (Name w) ts names = any_after w ts (with_name names w) (any_put names w)
among (Number n) ts names = tt
among (Fixed m) ts names = tt

pub all_among : (ts : List Scanned) (names : List (List ℕ)) → AllIn (names_after names ts) ts
all_among [] names = tt
all_among (t ∷ ts) names = (among t.lexeme ts names, all_among ts (with_lexeme names t.lexeme))

-- ---- places
below_more : (b c : Bool) (m n : ℕ) → (b || c) ≡ true → (c ≡ true → m < n) → cond (not b) (1 + m) 0 < suc n
below_more true c m n h k = omega arith
below_more false c m n h k = let less = k h in omega arith

pub place_below : (w : List ℕ) (names : List (List ℕ)) → list_any (bytes_eq w) names ≡ true → place_of names w < length names
place_below w [] h = let no : ⊥ = cc in absurd no
place_below w (n ∷ names) h =
    below_more (bytes_eq w n) (list_any (bytes_eq w) names) (place_of names w) (length names) h (λ e. place_below w names e)

found_there : (w n : List ℕ) (names : List (List ℕ)) (b c : Bool) (m : ℕ) → bytes_eq w n ≡ b → (b || c) ≡ true
    → (c ≡ true → get_or names m [] ≡ w) → get_or (n ∷ names) (cond (not b) (1 + m) 0) [] ≡ w
found_there w n names true c m e h k = sym ((bytes_eq-Decides w n).0 e)
found_there w n names false c m e h k = let more : 1 + m ≡ suc m = omega arith in ap (λ (i : ℕ). get_or (n ∷ names) i []) more ∙ k h

-- what stands at the place of a name is the name
pub at_place : (w : List ℕ) (names : List (List ℕ)) → list_any (bytes_eq w) names ≡ true → get_or names (place_of names w) [] ≡ w
at_place w [] h = let no : ⊥ = cc in absurd no
at_place w (n ∷ names) h =
    found_there w n names (bytes_eq w n) (list_any (bytes_eq w) names) (place_of names w) refl h (λ e. at_place w names e)
