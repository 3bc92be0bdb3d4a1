-- The names of a text are spelled as names, and its numbers are short.
use Rattle.std.proofs.Common.{◌≡◌, ◌<◌, ◌≤◌, ◌+◌, ◌-◌, ◌*◌, ◌^◌, ℕ, zero, suc, Bool, true, false, cond, List, [], ◌∷◌, length, map, refl, sym, ap, ap₂, subst, ◌∙◌, arith, lt_of_lt_of_le}
use Rattle.std.specs.Prelude.{Option, Some, None, Result, Ok, Err, nat_lt, pos, not, if◌then◌else◌, ◌||◌, ◌&&◌, ◌==◌}
use Rattle.std.specs.List.{list_all, take_while}
use Rattle.std.specs.Result.{result_map_both}
use Rattle.std.proofs.Math.Nat.{pow-succ', pow-le-pow_right, mul-le-mul_right}
use Rattle.std.proofs.lemmas.Bool.{and_parts, not-true}
use Rattle.std.proofs.lemmas.List.Sums.{take_while-cons}
use Rattle.homeo_syntax.specs.Lexemes.{Lexeme, Name, Number, Fixed, value_after, number_value, is_space, is_letter, is_digit, is_word, reserved, look_up, word_as, word_lexeme, number_lexeme, longest, symbol_lexeme, double_symbols, single_symbols, lexeme_of}
use Rattle.homeo_syntax.specs.declared.token.Mark.{Mark}
use Rattle.homeo_syntax.specs.declared.token.Version.{Version}
use Rattle.homeo_syntax.specs.declared.token.Version.TheVariants.{First, Second}
use Rattle.homeo_syntax.specs.Tokens.{Scanned, scanned_from, begins_second, version_of, lexeme_in, scanned_in, in_version, unversioned, scanned_of, found, in_front}
use Rattle.homeo_syntax.specs.Versions.{also_reserved, is_later, CanMark}
use Rattle.homeo_syntax.specs.Marks.{mark_text}
use Rattle.std.specs.Str.{bytes_eq}
use Rattle.homeo_syntax.specs.WellFormed.{IsName, IsShort, BeginsWithLetter}

-- in a text of this version
abbrev pub IsSpelled : Version → Lexeme → Type 0
IsSpelled v (Name w) = IsName v w
IsSpelled v (Number n) = IsShort n
IsSpelled v (Fixed m) = CanMark v m

abbrev pub AllSpelled : Version → List Scanned → Type 0
AllSpelled v [] = Unit {0}
AllSpelled v (t ∷ ts) = IsSpelled v t.lexeme × AllSpelled v ts

-- ---- before the version is looked at, each word is as version 1 has it
abbrev FoundSpelled : Option (Lexeme × ℕ) → Type 0
FoundSpelled None = Unit {0}
FoundSpelled (Some l) = IsSpelled First l.0

abbrev ResultSpelled : Result (List Scanned) ℕ → Type 0
ResultSpelled (Ok ts) = AllSpelled First ts
ResultSpelled (Err at) = Unit {0}

-- ---- runs of bytes
more_taken : (p : ℕ → Bool) (x : ℕ) (xs : List ℕ) (b : Bool) → p x ≡ b → list_all p xs ≡ true → list_all p (cond b (x ∷ xs) []) ≡ true
more_taken p x xs true e h = ap (λ (t : Bool). t && list_all p xs) e ∙ h
more_taken p x xs false e h = refl

all_taken : (p : ℕ → Bool) (xs : List ℕ) → list_all p (take_while p xs) ≡ true
all_taken p [] = refl
all_taken p (x ∷ xs) = ap (list_all p) (take_while-cons p x xs) ∙ more_taken p x (take_while p xs) (p x) refl (all_taken p xs)

-- ---- marks
abbrev is_earlier : Mark → Bool
is_earlier m = not (is_later m)

-- a mark that is looked up among such as every version has is one of these
earlier : (marks : List Mark) (w : List ℕ) (m : Mark) → list_all is_earlier marks ≡ true → look_up marks w ≡ Some m → is_later m ≡ false
earlier [] w m h e = let no : ⊥ = cc in absurd no
earlier (x ∷ marks) w m h e =
    let parts = and_parts (is_earlier x) (list_all is_earlier marks) h in
    found_first (bytes_eq w (mark_text x)) x (look_up marks w) m (not-true (is_later x) parts.0) (λ k. earlier marks w m parts.1 k) e
  where
    found_first : (b : Bool) (x : Mark) (o : Option Mark) (m : Mark) → is_later x ≡ false → (o ≡ Some m → is_later m ≡ false) → (if b then Some x else o) ≡ Some m → is_later m ≡ false
    found_first true x o m h k e = let same : x ≡ m = cc in ap is_later (sym same) ∙ h
    found_first false x o m h k e = k e

-- ---- names
not_longer : (n : ℕ) → nat_lt 32 n ≡ false → n ≤ 32
not_longer n h = grind arith

pub letter_word : (b : ℕ) → is_letter b ≡ true → is_word b ≡ true
letter_word b h = ap (λ (t : Bool). t || is_digit b || (b == 95)) h

letter_first : (b : ℕ) (bytes : List ℕ) → is_letter b ≡ true → b ∷ take_while is_word bytes ≡ take_while is_word (b ∷ bytes)
letter_first b bytes l =
    sym (take_while-cons is_word b bytes ∙ ap (λ (c : Bool). cond c (b ∷ take_while is_word bytes) []) (letter_word b l))

word_spelled : (b : ℕ) (bytes w : List ℕ) → is_letter b ≡ true → w ≡ take_while is_word (b ∷ bytes) → (c : Bool) → nat_lt 32 (length w) ≡ c
    → (o : Option Mark) → look_up reserved w ≡ o → FoundSpelled (if c then None else Some (word_as w o, length w))
word_spelled b bytes w l e true c o f = tt
word_spelled b bytes w l e false c (Some m) f = earlier reserved w m refl f
word_spelled b bytes w l e false c None f = record {
  first = subst BeginsWithLetter (letter_first b bytes l ∙ sym e) l;
  all = ap (list_all is_word) e ∙ all_taken is_word (b ∷ bytes);
  short = not_longer (length w) c;
  free = f;
  also_free = refl;
}

-- ---- numbers
digit_below : (d : ℕ) → is_digit d ≡ true → d - 48 ≤ 9
digit_below d h = grind arith

regroup : (n p : ℕ) → n * (10 * p) ≡ n * 10 * p
regroup n p = omega arith

value_below : (n : ℕ) (ds : List ℕ) → list_all is_digit ds ≡ true → value_after n ds < suc n * 10 ^ length ds
value_below n [] h = omega arith
value_below n (d ∷ ds) h =
    let parts = and_parts (is_digit d) (list_all is_digit ds) h in
    let below = value_below (n * 10 + (d - 48)) ds parts.1 in
    let digit = digit_below d parts.0 in
    let most : suc (n * 10 + (d - 48)) ≤ suc n * 10 = omega arith in
    let product : suc (n * 10 + (d - 48)) * 10 ^ length ds ≤ suc n * 10 * 10 ^ length ds = mul-le-mul_right (10 ^ length ds) most in
    let power : 10 ^ suc (length ds) ≡ 10 * 10 ^ length ds = pow-succ' 10 (length ds) in
    let whole : suc n * 10 ^ suc (length ds) ≡ suc n * 10 * 10 ^ length ds = ap (λ (p : ℕ). suc n * p) power ∙ regroup (suc n) (10 ^ length ds) in
    subst (λ (p : ℕ). value_after (n * 10 + (d - 48)) ds < p) (sym whole) (lt_of_lt_of_le below product)

number_found : (w : List ℕ) (c : Bool) → nat_lt 18 (length w) ≡ c → list_all is_digit w ≡ true
    → FoundSpelled (if c then None else Some (Number (pos (number_value w)), length w))
number_found w true e h = tt
number_found w false e h =
    let below = value_below 0 w h in
    let few : length w ≤ 18 = grind arith in
    let p : 10 ^ length w ≤ 10 ^ 18 = pow-le-pow_right {n = 10} (omega arith) {i = length w} {j = 18} few in
    record { size = number_value w; value = refl; short = omega arith }

number_spelled : (w : List ℕ) → list_all is_digit w ≡ true → FoundSpelled (number_lexeme w)
number_spelled w h = number_found w (nat_lt 18 (length w)) refl h

longest_spelled : (d o : Option Mark) → ((m : Mark) → d ≡ Some m → is_later m ≡ false) → ((m : Mark) → o ≡ Some m → is_later m ≡ false) → FoundSpelled (longest d o)
longest_spelled (Some m) o h k = h m refl
longest_spelled None (Some m) h k = k m refl
longest_spelled None None h k = tt

no_mark : (m : Mark) → None ≡ Some m → is_later m ≡ false
no_mark m e = let no : ⊥ = cc in absurd no

symbol_spelled : (b : ℕ) (bytes : List ℕ) → FoundSpelled (symbol_lexeme b bytes)
symbol_spelled b [] = longest_spelled None (look_up single_symbols (b ∷ [])) no_mark (λ m e. earlier single_symbols (b ∷ []) m refl e)
symbol_spelled b (c ∷ bytes) =
    longest_spelled (look_up double_symbols (b ∷ c ∷ [])) (look_up single_symbols (b ∷ [])) (λ m e. earlier double_symbols (b ∷ c ∷ []) m refl e)
    (λ m e. earlier single_symbols (b ∷ []) m refl e)

-- ---- lexemes
lexeme_spelled : (bytes : List ℕ) → FoundSpelled (lexeme_of bytes)
lexeme_spelled [] = tt
lexeme_spelled (b ∷ bytes) = go (is_letter b) (is_digit b) refl
  where
    go : (x y : Bool) → is_letter b ≡ x → FoundSpelled (if x then word_lexeme (take_while is_word (b ∷ bytes))
        else (if y then number_lexeme (take_while is_digit (b ∷ bytes)) else symbol_lexeme b bytes))
    go true y e = word_spelled b bytes (take_while is_word (b ∷ bytes)) e refl _ refl _ refl
    go false true e = number_spelled (take_while is_digit (b ∷ bytes)) (all_taken is_digit (b ∷ bytes))
    go false false e = symbol_spelled b bytes

front_spelled : (t : Scanned) (r : Result (List Scanned) ℕ) → IsSpelled First t.lexeme → ResultSpelled r → ResultSpelled (in_front t r)
front_spelled t (Ok ts) h k = (h, k)
front_spelled t (Err at) h k = tt

found_spelled : (at : ℕ) (s : Bool) (o : Option (Lexeme × ℕ)) (behind : ℕ → Result (List Scanned) ℕ) → FoundSpelled o
    → ((k : ℕ) → ResultSpelled (behind k)) → ResultSpelled (if s then behind 0 else found at o behind)
found_spelled at true o behind f h = h 0
found_spelled at false None behind f h = tt
found_spelled at false (Some l) behind f h =
    front_spelled (record { lexeme = l.0; offset = at }) (behind (l.1 - 1)) f (h (l.1 - 1))

scan_spelled : (skip at : ℕ) (bytes : List ℕ) → ResultSpelled (scanned_from skip at bytes)
unfolding scanned_from
scan_spelled zero at [] = tt
scan_spelled (suc skip) at [] = tt
scan_spelled (suc skip) at (b ∷ bytes) = scan_spelled skip (at + 1) bytes
scan_spelled zero at (b ∷ bytes) =
    found_spelled at (is_space b) (lexeme_of (b ∷ bytes)) (λ more. scanned_from more (at + 1) bytes)
    (lexeme_spelled (b ∷ bytes)) (λ k. scan_spelled k (at + 1) bytes)

-- ---- as the version has it
word_in : (v : Version) (w : List ℕ) (o : Option Mark) → look_up (also_reserved v) w ≡ o → IsName First w → IsSpelled v (word_as w o)
word_in First w (Some m) e h = let no : ⊥ = cc in absurd no
word_in Second w (Some m) e h = tt
word_in v w None e h = record { first = h.first; all = h.all; short = h.short; free = h.free; also_free = e }

lexeme_spelled_in : (v : Version) (l : Lexeme) → IsSpelled First l → IsSpelled v (lexeme_in v l)
lexeme_spelled_in v (Name w) h = word_in v w (look_up (also_reserved v) w) refl h
lexeme_spelled_in v (Number n) h = h
lexeme_spelled_in First (Fixed m) h = h
lexeme_spelled_in Second (Fixed m) h = tt

all_spelled_in : (v : Version) (ts : List Scanned) → AllSpelled First ts → AllSpelled v (map (scanned_in v) ts)
all_spelled_in v [] h = tt
all_spelled_in v (t ∷ ts) h = (lexeme_spelled_in v t.lexeme h.0, all_spelled_in v ts h.1)

-- ---- the version stays
-- lexemes that begin a text of version 2 are no names
same_begin : (v : Version) (a b : Lexeme) → begins_second a b ≡ true → begins_second (lexeme_in v a) (lexeme_in v b) ≡ true
same_begin v (Fixed m) (Number n) h = h
same_begin v (Fixed m) (Name w) h = let no : ⊥ = cc in absurd no
same_begin v (Fixed m) (Fixed n) h = let no : ⊥ = cc in absurd no
same_begin v (Name w) b h = let no : ⊥ = cc in absurd no
same_begin v (Number n) b h = let no : ⊥ = cc in absurd no

same_in_first : (l : Lexeme) → lexeme_in First l ≡ l
same_in_first (Name w) = refl
same_in_first (Number n) = refl
same_in_first (Fixed m) = refl

begin_kept : (a b : Lexeme) (c : Bool) → begins_second a b ≡ c →
    begins_second (lexeme_in (if c then Second else First) a) (lexeme_in (if c then Second else First) b) ≡ c
begin_kept a b true e = same_begin Second a b e
begin_kept a b false e = ap₂ begins_second (same_in_first a) (same_in_first b) ∙ e

pub version_kept : (ts : List Scanned) → version_of (in_version ts) ≡ version_of ts
version_kept [] = refl
version_kept (t ∷ []) = refl
version_kept (t ∷ (u ∷ ts)) = ap (λ (c : Bool). if c then Second else First) (begin_kept t.lexeme u.lexeme (begins_second t.lexeme u.lexeme) refl)

versioned_spelled : (r : Result (List Scanned) ℕ) (scanned : List Scanned) → ResultSpelled r → result_map_both in_version (λ at. at) r ≡ Ok scanned →
    AllSpelled (version_of scanned) scanned
versioned_spelled (Ok ts) scanned h e =
    let same : in_version ts ≡ scanned = cc in
    subst (λ (us : List Scanned). AllSpelled (version_of us) us) same
    (subst (λ (v : Version). AllSpelled v (in_version ts)) (sym (version_kept ts)) (all_spelled_in (version_of ts) ts h))
versioned_spelled (Err at) scanned h e = let no : ⊥ = cc in absurd no

pub scanned_spelled : (text : List ℕ) (scanned : List Scanned) → scanned_of text ≡ Ok scanned → AllSpelled (version_of scanned) scanned
scanned_spelled text scanned e = versioned_spelled (unversioned text) scanned (scan_spelled 0 0 text) e
