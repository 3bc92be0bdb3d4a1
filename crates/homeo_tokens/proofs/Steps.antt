-- One turn of the scan is one step of the lexemes.
use Rattle.std.proofs.Common.{◌≡◌, ℕ, zero, suc, ◌+◌, ◌-◌, ◌^◌, ◌<◌, ◌≤◌, Bool, true, false, IsTrue, List, [], ◌∷◌, ◌++◌, length, get_or, take, drop, slice_index, refl, sym, ap, subst, ◌∙◌, arith, to_z, w64, length-drop, add-one, drop-cons, append_assoc, inl, inr}
use Rattle.std.proofs.lemmas.List.{drop-drop, append-nil, get_or-take, take_all}
use Rattle.std.proofs.Math.ListN.{drop_of_length-le, get_or-eq_default}
use Rattle.std.proofs.lemmas.List.Folds.{length-prefix_len}
use Rattle.std.proofs.lemmas.List.Sums.{prefix_len-le-length, prefix_len_passes}
use Rattle.std.proofs.Math.Nat.{pow-le-pow_right}
use Rattle.std.specs.Prelude.{Option, Some, None, Result, Ok, Err, nat_lt, if◌then◌else◌, IsUtf8, pos, FitsSigned}
use Rattle.std.specs.List.{prefix_len, take_while}
use Rattle.std.proofs.lemmas.Bool.{cases_lt}
use Rattle.std.proofs.lemmas.Int.{fits_signed_from_abs, to_z_pos}
use Rattle.std.proofs.lemmas.Str.{IsUtf8-from_ascii}
use Rattle.homeo_syntax.specs.declared.token.Mark.{Mark}
use Rattle.homeo_syntax.specs.Lexemes.{Lexeme, Number, is_space, is_letter, is_digit, is_word, value_after, number_value, look_up, reserved, double_symbols, single_symbols, longest, symbol_lexeme, word_as, word_lexeme, number_lexeme, lexeme_of}
use Rattle.homeo_syntax.specs.Tokens.{Scanned, scanned_from, found, in_front}
use Rattle.homeo_syntax.proofs.Spelling.{letter_word}
use Rattle.homeo_tokens.proofs.Front.{in_front_all}

-- a few digits fit
pub power_fits : (value index : ℕ) → value < 10 ^ index → index < 18 → value < 10 ^ 17
power_fits value index h k =
    let le : index ≤ 17 = omega arith in
    let p : 10 ^ index ≤ 10 ^ 17 = pow-le-pow_right {n = 10} (omega arith) {i = index} {j = 17} le in
    omega arith

pub power_is_small : (value index : ℕ) → value < 10 ^ index → index ≤ 18 → value < 10 ^ 18
power_is_small value index h k =
    let p : 10 ^ index ≤ 10 ^ 18 = pow-le-pow_right {n = 10} (omega arith) {i = index} {j = 18} k in
    omega arith

-- the value fits a signed number, as it is
pub value_fits : (value : ℕ) → value < 10 ^ 18 → FitsSigned w64 (pos value)
value_fits value h = fits_signed_from_abs w64 (pos value) (omega arith)

pub value_stays : (value n : ℕ) → value < 10 ^ 18 → value ≡ n → to_z w64 value ≡ pos n
value_stays value n h e = to_z_pos w64 value (omega arith) ∙ ap pos e

-- the value of all digits
pub all_digits : (value index : ℕ) (digits : List ℕ) → value_after value (drop index digits) ≡ number_value digits → length digits ≤ index → value ≡ number_value digits
all_digits value index digits e h = sym (ap (value_after value) (drop_of_length-le digits h)) ∙ e

-- a run of bytes that pass a test
pub run_each : (p : ℕ → Bool) (text : List ℕ) (n i : ℕ) → n ≡ prefix_len p text → i < length (take n text) → IsTrue (p (slice_index (take n text) i))
run_each p text n i e h =
    let l : length (take n text) ≡ n = subst (λ (m : ℕ). length (take m text) ≡ m) (sym e) (length-prefix_len p text) in
    let t : p (get_or (take n text) i 0) ≡ true = ap p (get_or-take n text i 0 (omega arith)) ∙ prefix_len_passes p text i 0 (omega arith) in
    t

word_below : (b : ℕ) → IsTrue (is_word b) → b < 128
word_below b h = grind arith

-- words are text
pub word_is_text : (text : List ℕ) → ((i : ℕ) → i < length text → IsTrue (is_word (slice_index text i))) → IsUtf8 text
word_is_text text h = IsUtf8-from_ascii text (λ i. elim (cases_lt i (length text)) [
  | inl l ↦ word_below (slice_index text i) (h i l)
  | inr g ↦ subst (λ (b : ℕ). b < 128) (sym (get_or-eq_default text 0 g)) (omega arith)
])

pub skipped : (n at : ℕ) (bytes : List ℕ) → n ≤ length bytes → scanned_from n at bytes ≡ scanned_from 0 (at + n) (drop n bytes)
unfolding scanned_from
skipped zero at bytes h = ap (λ a. scanned_from 0 a bytes) (omega arith)
skipped (suc n) at [] h = absurd (omega arith)
skipped (suc n) at (b ∷ bytes) h = skipped n (at + 1) bytes (omega arith) ∙ ap (λ a. scanned_from 0 a (drop n bytes)) (omega arith)

pub front_push : (front : List Scanned) (t : Scanned) (r : Result (List Scanned) ℕ) → in_front_all front (in_front t r) ≡ in_front_all (front ++ t ∷ []) r
front_push front t (Ok ts) = ap Ok (sym (append_assoc front (t ∷ []) ts))
front_push front t (Err at) = refl

-- The length of a lexeme.
abbrev Sized : ℕ → List ℕ → Type 0
Sized n bytes = (1 ≤ n) × (n ≤ length bytes)

pub limited : (limit n : ℕ) (k : Lexeme) (l : Lexeme × ℕ) → (if nat_lt limit n then None else Some (k, n)) ≡ Some l → n ≡ l.1
limited limit n k l e = go (nat_lt limit n) e
  where
    len : Option (Lexeme × ℕ) → ℕ
    len None = 0
    len (Some l) = l.1

    go : (b : Bool) → (if b then None else Some (k, n)) ≡ Some l → n ≡ l.1
    go true e = cc
    go false e = ap len e

run_sized : (p : ℕ → Bool) (b : ℕ) (bytes : List ℕ) (n : ℕ) → p b ≡ true → length (take_while p (b ∷ bytes)) ≡ n → Sized n (b ∷ bytes)
run_sized p b bytes n h e =
    let l = length-prefix_len p (b ∷ bytes) in
    let w = prefix_len-le-length p (b ∷ bytes) in
    let one : prefix_len p (b ∷ bytes) ≡ 1 + prefix_len p bytes = ap (λ (t : Bool). if t then 1 + prefix_len p bytes else 0) h in
    (omega arith, omega arith)

abbrev pub lexeme_len : Option (Lexeme × ℕ) → ℕ
lexeme_len None = 0
lexeme_len (Some l) = l.1

one_byte : (o : Option Mark) (l : Lexeme × ℕ) → longest None o ≡ Some l → l.1 ≡ 1
one_byte (Some m) l e = sym (ap lexeme_len e)
one_byte None l e = let no : ⊥ = cc in absurd no

symbol_sized : (a : ℕ) (rest : List ℕ) (l : Lexeme × ℕ) → symbol_lexeme a rest ≡ Some l → Sized l.1 (a ∷ rest)
symbol_sized a [] l e = (omega (arith, one_byte (look_up single_symbols (a ∷ [])) l e), omega (arith, one_byte (look_up single_symbols (a ∷ [])) l e))
symbol_sized a (b ∷ rest) l e = go (look_up double_symbols (a ∷ b ∷ [])) (look_up single_symbols (a ∷ [])) e
  where
    go : (d o : Option Mark) → longest d o ≡ Some l → Sized l.1 (a ∷ b ∷ rest)
    go (Some m) o e = (omega (arith, ap lexeme_len e), omega (arith, ap lexeme_len e))
    go None o e = (omega (arith, one_byte o l e), omega (arith, one_byte o l e))

pub lexeme_sized : (bytes : List ℕ) (l : Lexeme × ℕ) → lexeme_of bytes ≡ Some l → Sized l.1 bytes
lexeme_sized [] l e = let no : ⊥ = cc in absurd no
lexeme_sized (b ∷ bytes) l e = go (is_letter b) (is_digit b) refl refl e
  where
    go : (x y : Bool) → is_letter b ≡ x → is_digit b ≡ y → (if x then word_lexeme (take_while is_word (b ∷ bytes)) else (if y then number_lexeme (take_while is_digit (b ∷ bytes)) else symbol_lexeme b bytes)) ≡ Some l → Sized l.1 (b ∷ bytes)
    go true y p q e = run_sized is_word b bytes l.1 (letter_word b p) (limited 32 (length (take_while is_word (b ∷ bytes))) (word_as (take_while is_word (b ∷ bytes)) (look_up reserved (take_while is_word (b ∷ bytes)))) l e)
    go false true p q e = run_sized is_digit b bytes l.1 q (limited 18 (length (take_while is_digit (b ∷ bytes))) (Number (pos (number_value (take_while is_digit (b ∷ bytes))))) l e)
    go false false p q e = symbol_sized b bytes l e

-- What the tokens from a place on are.
here : (text : List ℕ) (at : ℕ) → at < length text → drop at text ≡ get_or text at 0 ∷ drop (at + 1) text
here text at h = rw add-one (drop-cons text at 0 h)

pub space_step : (text : List ℕ) (at : ℕ) → at < length text → true ≡ is_space (get_or text at 0) → scanned_from 0 at (drop at text) ≡ scanned_from 0 (at + 1) (drop (at + 1) text)
unfolding scanned_from
space_step text at h s = ap (scanned_from 0 at) (here text at h) ∙ ap (λ (b : Bool). if b then scanned_from 0 (at + 1) (drop (at + 1) text) else found at (lexeme_of (get_or text at 0 ∷ drop (at + 1) text)) (λ more. scanned_from more (at + 1) (drop (at + 1) text))) (sym s)

lexeme_step : (text : List ℕ) (at : ℕ) → at < length text → false ≡ is_space (get_or text at 0) → scanned_from 0 at (drop at text) ≡ found at (lexeme_of (drop at text)) (λ more. scanned_from more (at + 1) (drop (at + 1) text))
unfolding scanned_from
lexeme_step text at h s =
    ap (scanned_from 0 at) (here text at h)
    ∙ ap (λ (b : Bool). if b then scanned_from 0 (at + 1) (drop (at + 1) text) else found at (lexeme_of (get_or text at 0 ∷ drop (at + 1) text)) (λ more. scanned_from more (at + 1) (drop (at + 1) text))) (sym s)
    ∙ ap (λ (l : List ℕ). found at (lexeme_of l) (λ more. scanned_from more (at + 1) (drop (at + 1) text))) (sym (here text at h))

pub token_step : (text : List ℕ) (at : ℕ) (k : Lexeme) (n : ℕ) → at < length text → false ≡ is_space (get_or text at 0) → lexeme_of (drop at text) ≡ Some (k, n) →
    scanned_from 0 at (drop at text) ≡ in_front (record { lexeme = k; offset = at }) (scanned_from 0 (at + n) (drop (at + n) text))
token_step text at k n h s e =
    let z = lexeme_sized (drop at text) (k, n) e in
    let room : n ≤ length text - at = omega (arith, z.1, length-drop at text) in
    let some : 1 ≤ n = z.0 in
    lexeme_step text at h s ∙ ap (λ o. found at o (λ more. scanned_from more (at + 1) (drop (at + 1) text))) e
    ∙ ap (in_front (record { lexeme = k; offset = at })) (skipped (n - 1) (at + 1) (drop (at + 1) text) (omega (arith, length-drop (at + 1) text))
    ∙ ap (λ r. scanned_from 0 (at + 1 + (n - 1)) r) (drop-drop (n - 1) (at + 1) text)
    ∙ ap (λ a. scanned_from 0 a (drop a text)) (omega arith))

pub no_step : (text : List ℕ) (at : ℕ) → at < length text → false ≡ is_space (get_or text at 0) → lexeme_of (drop at text) ≡ None → scanned_from 0 at (drop at text) ≡ Err at
no_step text at h s e = lexeme_step text at h s ∙ ap (λ o. found at o (λ more. scanned_from more (at + 1) (drop (at + 1) text))) e

pub end_step : (text : List ℕ) (at : ℕ) → at ≤ length text → length text ≤ at → scanned_from 0 at (drop at text) ≡ Ok []
unfolding scanned_from
end_step text at h k = ap (scanned_from 0 at) (drop_of_length-le text k)

pub front_none : (front : List Scanned) → in_front_all front (Ok []) ≡ Ok front
front_none front = ap Ok (append-nil front)

pub rest_of_text : (text : List ℕ) (at : ℕ) (o : Option (Lexeme × ℕ)) → o ≡ lexeme_of (take (length text - at) (drop at text)) → lexeme_of (drop at text) ≡ o
rest_of_text text at o e = ap lexeme_of (sym (take_all (length text - at) (drop at text) (omega (arith, length-drop at text)))) ∙ sym e
