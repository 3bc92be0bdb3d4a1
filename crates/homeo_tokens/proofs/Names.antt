-- The place of a name among names to which others are put.
use Rattle.std.proofs.Common.{◌≡◌, ℕ, ◌+◌, Bool, true, false, List, [], ◌∷◌, ◌++◌, map, refl, sym, ap, ◌∙◌}
use Rattle.std.specs.Prelude.{◌||◌, not, if◌then◌else◌}
use Rattle.std.specs.Borrow.{Bor}
use Rattle.std.specs.List.{list_any, position_or_len}
use Rattle.std.specs.Str.{bytes_eq}
use Rattle.std.proofs.lemmas.List.{map-append}
use Rattle.homeo_syntax.specs.Lexemes.{Lexeme, Name, Number, Fixed}
use Rattle.homeo_syntax.specs.declared.token.Kind.TheVariants as kind
use Rattle.homeo_syntax.specs.Tokens.{Scanned, with_name, with_lexeme, names_after, place_of, kind_in}
use Rattle.homeo_syntax.proofs.Names.{bytes_same, any_put, any_lexeme}

abbrev Ref : Type 0
Ref = Bor (List ℕ)

abbrev pub seen_all : List Ref → List (List ℕ)
seen_all ks = map (λ (k : Ref). k.now) ks

abbrev pub same_text : Ref → Ref → Bool
same_text a b = bytes_eq a.now b.now

any_seen : (w : Ref) (ks : List Ref) → list_any (bytes_eq w.now) (seen_all ks) ≡ list_any (same_text w) ks
any_seen w [] = refl
any_seen w (k ∷ ks) = ap (λ (b : Bool). bytes_eq w.now k.now || b) (any_seen w ks)

pub place_seen : (w : Ref) (ks : List Ref) → position_or_len (bytes_eq w.now) (seen_all ks) ≡ position_or_len (same_text w) ks
place_seen w [] = refl
place_seen w (k ∷ ks) = ap (λ (n : ℕ). if not (bytes_eq w.now k.now) then 1 + n else 0) (place_seen w ks)

pub put_seen : (w : Ref) (ks : List Ref) → seen_all (if list_any (same_text w) ks then ks else ks ++ w ∷ []) ≡ with_name (seen_all ks) w.now
put_seen w ks = go (list_any (same_text w) ks) (list_any (bytes_eq w.now) (seen_all ks)) (sym (any_seen w ks))
  where
    go : (b d : Bool) → b ≡ d → seen_all (if b then ks else ks ++ w ∷ []) ≡ (if d then seen_all ks else seen_all ks ++ w.now ∷ [])
    go true true e = refl
    go true false e = let no : ⊥ = cc in absurd no
    go false true e = let no : ⊥ = cc in absurd no
    go false false e = map-append (λ (k : Ref). k.now) ks (w ∷ [])

-- a name that is there keeps its place
first_place : (b c : Bool) (m n : ℕ) → (b || c) ≡ true → (c ≡ true → m ≡ n) → (if not b then 1 + m else 0) ≡ (if not b then 1 + n else 0)
first_place true c m n h k = refl
first_place false c m n h k = ap (λ (m : ℕ). 1 + m) (k h)

place_stays : (w : List ℕ) (names more : List (List ℕ)) → list_any (bytes_eq w) names ≡ true → place_of (names ++ more) w ≡ place_of names w
place_stays w [] more h = let no : ⊥ = cc in absurd no
place_stays w (n ∷ names) more h = first_place (bytes_eq w n) (list_any (bytes_eq w) names) _ _ h (λ e. place_stays w names more e)

-- a name that was not there comes last
last_place : (b c : Bool) (m n : ℕ) → (b || c) ≡ false → (c ≡ false → m ≡ n) → (if not b then 1 + m else 0) ≡ (if not b then 1 + n else 0)
last_place true c m n h k = refl
last_place false c m n h k = ap (λ (m : ℕ). 1 + m) (k h)

place_new : (w : List ℕ) (names : List (List ℕ)) → bytes_eq w w ≡ true → list_any (bytes_eq w) names ≡ false → place_of (names ++ w ∷ []) w ≡ place_of names w
place_new w [] r h = ap (λ (b : Bool). if not b then 1 + 0 else 0) r
place_new w (n ∷ names) r h = last_place (bytes_eq w n) (list_any (bytes_eq w) names) _ _ h (λ e. place_new w names r e)

-- the place of a name after it is put to the names
pub place_put : (names : List (List ℕ)) (w : List ℕ) → place_of (with_name names w) w ≡ place_of names w
place_put names w = go (list_any (bytes_eq w) names) refl
  where
    go : (b : Bool) → list_any (bytes_eq w) names ≡ b → place_of (if b then names else names ++ w ∷ []) w ≡ place_of names w
    go true e = refl
    go false e = place_new w names (bytes_same w) e

-- and after further lexemes
after_name : (w v : List ℕ) (names : List (List ℕ)) → list_any (bytes_eq w) names ≡ true → place_of (with_name names v) w ≡ place_of names w
after_name w v names h = go (list_any (bytes_eq v) names)
  where
    go : (b : Bool) → place_of (if b then names else names ++ v ∷ []) w ≡ place_of names w
    go true = refl
    go false = place_stays w names (v ∷ []) h

after_lexeme : (w : List ℕ) (l : Lexeme) (names : List (List ℕ)) → list_any (bytes_eq w) names ≡ true → place_of (with_lexeme names l) w ≡ place_of names w
after_lexeme w (Name v) names h = after_name w v names h
after_lexeme w (Number n) names h = refl
after_lexeme w (Fixed m) names h = refl

pub place_after : (w : List ℕ) (ts : List Scanned) (names : List (List ℕ)) → list_any (bytes_eq w) names ≡ true → place_of (names_after names ts) w ≡ place_of names w
place_after w [] names h = refl
place_after w (t ∷ ts) names h =
    place_after w ts (with_lexeme names t.lexeme) (any_lexeme w t.lexeme names h) ∙ after_lexeme w t.lexeme names h

pub kind_after : (names : List (List ℕ)) (l : Lexeme) (ts : List Scanned) → kind_in (names_after (with_lexeme names l) ts) l ≡ kind_in (with_lexeme names l) l
kind_after names (Name w) ts = ap (λ (n : ℕ). kind.Name n) (place_after w ts (with_name names w) (any_put names w))
kind_after names (Number n) ts = refl
kind_after names (Fixed m) ts = refl
