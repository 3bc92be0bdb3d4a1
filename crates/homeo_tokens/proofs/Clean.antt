-- A text that has lexemes has no bad byte.
use Rattle.std.proofs.Common.{◌≡◌, ℕ, zero, suc, ◌+◌, ◌-◌, Bool, true, false, cond, List, [], ◌∷◌, length, take, refl, sym, ap, ◌∙◌, arith}
use Rattle.std.specs.Prelude.{Option, Some, None, Result, Ok, Err, if◌then◌else◌, pos}
use Rattle.std.specs.List.{list_all, take_while}
use Rattle.std.specs.Result.{result_map_both}
use Rattle.std.specs.Str.{bytes_eq}
use Rattle.std.proofs.lemmas.Bool.{and_parts, and_from}
use Rattle.std.proofs.lemmas.List.Sums.{take_while-cons}
use Rattle.std.proofs.lemmas.Slice.Eq.{bytes_eq-Decides}
use Rattle.homeo_syntax.specs.declared.token.Mark.{Mark}
use Rattle.homeo_syntax.specs.Marks.{mark_text}
use Rattle.homeo_syntax.specs.Lexemes.{Lexeme, Number, is_space, is_letter, is_digit, is_word, number_value, reserved, look_up, double_symbols, single_symbols, longest, symbol_lexeme, word_as, word_lexeme, number_lexeme, lexeme_of}
use Rattle.homeo_syntax.specs.Tokens.{is_good, IsClean, Scanned, scanned_from, found, in_front, in_version, unversioned, scanned_of}
use Rattle.homeo_syntax.proofs.Spelling.{letter_word}
use Rattle.homeo_tokens.proofs.Steps.{limited, lexeme_len}

word_good : (b : ℕ) → is_word b ≡ true → is_good b ≡ true
word_good b h = grind arith

digit_good : (b : ℕ) → is_digit b ≡ true → is_good b ≡ true
digit_good b h = grind arith

space_good : (b : ℕ) → is_space b ≡ true → is_good b ≡ true
space_good b h = grind arith

-- a run of good bytes
run_good : (p : ℕ → Bool) → ((b : ℕ) → p b ≡ true → is_good b ≡ true) → (bytes : List ℕ) → list_all is_good (take (length (take_while p bytes)) bytes) ≡ true
run_good p g [] = refl
run_good p g (b ∷ bytes) = ap (λ (l : List ℕ). list_all is_good (take (length l) (b ∷ bytes))) (take_while-cons p b bytes) ∙ go (p b) refl (run_good p g bytes)
  where
    go : (v : Bool) → p b ≡ v → list_all is_good (take (length (take_while p bytes)) bytes) ≡ true → list_all is_good (take (length (cond v (b ∷ take_while p bytes) [])) (b ∷ bytes)) ≡ true
    go true e more = and_from (is_good b) _ (g b e) more
    go false e more = refl

-- the spelling of a mark
spelled_good : (marks : List Mark) (w : List ℕ) (m : Mark) → list_all (λ m. list_all is_good (mark_text m)) marks ≡ true → look_up marks w ≡ Some m → list_all is_good w ≡ true
spelled_good [] w m h e = let no : ⊥ = cc in absurd no
spelled_good (k ∷ marks) w m h e =
    let parts = and_parts (list_all is_good (mark_text k)) (list_all (λ m. list_all is_good (mark_text m)) marks) h in
    go (bytes_eq w (mark_text k)) refl e parts.0 (spelled_good marks w m parts.1)
  where
    go :
        (v : Bool) → bytes_eq w (mark_text k) ≡ v → cond v (Some k) (look_up marks w) ≡ Some m → list_all is_good (mark_text k) ≡ true →
        (look_up marks w ≡ Some m → list_all is_good w ≡ true) → list_all is_good w ≡ true
    go true p e good others = ap (list_all is_good) ((bytes_eq-Decides w (mark_text k)).0 p) ∙ good
    go false p e good others = others e

-- The first byte and the others of a lexeme.
abbrev AreGood : ℕ → List ℕ → ℕ → Type 0
AreGood b bytes n = list_all is_good (b ∷ take (n - 1) bytes) ≡ true

run_lexeme : (p : ℕ → Bool) → ((b : ℕ) → p b ≡ true → is_good b ≡ true) → (b : ℕ) (bytes : List ℕ) (n : ℕ) → p b ≡ true → length (take_while p (b ∷ bytes)) ≡ n → AreGood b bytes n
run_lexeme p g b bytes n h e =
    let more : length (take_while p bytes) ≡ n - 1 = omega (arith, ap length (take_while-cons p b bytes ∙ ap (λ (v : Bool). cond v (b ∷ take_while p bytes) []) h), e) in
    and_from (is_good b) _ (g b h) (ap (λ (k : ℕ). list_all is_good (take k bytes)) (sym more) ∙ run_good p g bytes)

single : (b : ℕ) (bytes : List ℕ) (l : Lexeme × ℕ) (o : Option Mark) → look_up single_symbols (b ∷ []) ≡ o → longest None o ≡ Some l → AreGood b bytes l.1
single b bytes l (Some m) p e = ap (λ (k : ℕ). list_all is_good (b ∷ take (k - 1) bytes)) (sym (ap lexeme_len e)) ∙ spelled_good single_symbols (b ∷ []) m refl p
single b bytes l None p e = let no : ⊥ = cc in absurd no

symbol_good : (b : ℕ) (bytes : List ℕ) (l : Lexeme × ℕ) → symbol_lexeme b bytes ≡ Some l → AreGood b bytes l.1
symbol_good b [] l e = single b [] l (look_up single_symbols (b ∷ [])) refl e
symbol_good b (c ∷ bytes) l e = go (look_up double_symbols (b ∷ c ∷ [])) refl e
  where
    go : (d : Option Mark) → look_up double_symbols (b ∷ c ∷ []) ≡ d → longest d (look_up single_symbols (b ∷ [])) ≡ Some l → AreGood b (c ∷ bytes) l.1
    go (Some m) p e = ap (λ (k : ℕ). list_all is_good (b ∷ take (k - 1) (c ∷ bytes))) (sym (ap lexeme_len e)) ∙ spelled_good double_symbols (b ∷ c ∷ []) m refl p
    go None p e = single b (c ∷ bytes) l (look_up single_symbols (b ∷ [])) refl e

lexeme_good : (b : ℕ) (bytes : List ℕ) (l : Lexeme × ℕ) → lexeme_of (b ∷ bytes) ≡ Some l → AreGood b bytes l.1
lexeme_good b bytes l e = go (is_letter b) (is_digit b) refl refl e
  where
    go : (x y : Bool) → is_letter b ≡ x → is_digit b ≡ y → (if x then word_lexeme (take_while is_word (b ∷ bytes)) else (if y then number_lexeme (take_while is_digit (b ∷ bytes)) else symbol_lexeme b bytes)) ≡ Some l → AreGood b bytes l.1
    go true y p q e = run_lexeme is_word word_good b bytes l.1 (letter_word b p) (limited 32 (length (take_while is_word (b ∷ bytes))) (word_as (take_while is_word (b ∷ bytes)) (look_up reserved (take_while is_word (b ∷ bytes)))) l e)
    go false true p q e = run_lexeme is_digit digit_good b bytes l.1 q (limited 18 (length (take_while is_digit (b ∷ bytes))) (Number (pos (number_value (take_while is_digit (b ∷ bytes))))) l e)
    go false false p q e = symbol_good b bytes l e

-- what comes behind a lexeme
behind : (t : Scanned) (r : Result (List Scanned) ℕ) (ts : List Scanned) → in_front t r ≡ Ok ts → (us : List Scanned) × (r ≡ Ok us)
behind t (Ok us) ts e = (us, refl)
behind t (Err at) ts e = let no : ⊥ = cc in absurd no

scanned_good : (skip at : ℕ) (bytes : List ℕ) (ts : List Scanned) → list_all is_good (take skip bytes) ≡ true → scanned_from skip at bytes ≡ Ok ts → list_all is_good bytes ≡ true
unfolding scanned_from
scanned_good skip at [] ts h e = refl
scanned_good (suc skip) at (b ∷ bytes) ts h e =
    let parts = and_parts (is_good b) (list_all is_good (take skip bytes)) h in
    and_from (is_good b) _ parts.0 (scanned_good skip (at + 1) bytes ts parts.1 e)
scanned_good zero at (b ∷ bytes) ts h e = go (is_space b) (lexeme_of (b ∷ bytes)) refl refl e (λ skip ts. scanned_good skip (at + 1) bytes ts)
  where
    go :
        (v : Bool) (o : Option (Lexeme × ℕ)) → is_space b ≡ v → lexeme_of (b ∷ bytes) ≡ o →
        (if v then scanned_from 0 (at + 1) bytes else found at o (λ more. scanned_from more (at + 1) bytes)) ≡ Ok ts →
        ((skip : ℕ) (ts : List Scanned) → list_all is_good (take skip bytes) ≡ true → scanned_from skip (at + 1) bytes ≡ Ok ts → list_all is_good bytes ≡ true) →
        list_all is_good (b ∷ bytes) ≡ true
    go true o p q e others = and_from (is_good b) _ (space_good b p) (others 0 ts refl e)
    go false None p q e others = let no : ⊥ = cc in absurd no
    go false (Some l) p q e others =
        let parts = and_parts (is_good b) (list_all is_good (take (l.1 - 1) bytes)) (lexeme_good b bytes l q) in
        let r = behind (record { lexeme = l.0; offset = at }) (scanned_from (l.1 - 1) (at + 1) bytes) ts e in
        and_from (is_good b) _ parts.0 (others (l.1 - 1) r.0 parts.1 r.1)

pub clean : (text : List ℕ) (ts : List Scanned) → scanned_of text ≡ Ok ts → IsClean text
clean text ts e = go (unversioned text) refl e
  where
    go : (r : Result (List Scanned) ℕ) → unversioned text ≡ r → result_map_both in_version (λ at. at) r ≡ Ok ts → IsClean text
    go (Ok us) p e = scanned_good 0 0 text us refl p
    go (Err at) p e = let no : ⊥ = cc in absurd no
