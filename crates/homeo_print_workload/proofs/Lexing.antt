-- Each token, in front of what may stand behind it, is the lexeme that the text begins with.
use Rattle.std.proofs.Common.{◌≡◌, ℕ, ◌+◌, ◌-◌, ◌*◌, ◌/◌, ◌%◌, ◌^◌, ◌<◌, ◌≤◌, Bool, true, false, List, [], ◌∷◌, ◌++◌, length, refl, sym, ap, ◌∙◌, arith}
use Rattle.std.specs.Prelude.{Some, None, nat_lt, if◌then◌else◌, ◌||◌, ◌&&◌, ◌==◌, ℤ, pos, decimal, unsigned_abs, get_or}
use Rattle.std.specs.List.{take_while, list_all}
use Rattle.std.proofs.lemmas.List.Folds.{list_all-append}
use Rattle.std.proofs.lemmas.List.Sums.{take_while-cons}
use Rattle.std.proofs.lemmas.Bool.Decides.{nat_tests}
use Rattle.std.proofs.lemmas.Fmt.{decimal_by_steps, length-decimal-le}
use Rattle.homeo_lemmas.proofs.Bools.{and_first, and_second, or_first, or_second}
use Rattle.homeo_syntax.specs.declared.token.Mark.{Mark}
use Rattle.homeo_syntax.specs.declared.token.Mark.TheVariants as mark
use Rattle.homeo_syntax.specs.declared.token.Kind.{Kind}
use Rattle.homeo_syntax.specs.declared.token.Kind.TheVariants as kind
use Rattle.homeo_syntax.specs.declared.token.Version.{Version}
use Rattle.homeo_syntax.specs.Versions.{is_later}
use Rattle.homeo_syntax.specs.Lexemes.{Lexeme, Name, Number, Fixed, is_letter, is_digit, is_word, value_after, number_value, look_up, reserved, double_symbols, single_symbols, longest, symbol_lexeme, word_as, word_lexeme, number_lexeme, lexeme_of}
use Rattle.homeo_syntax.specs.WellFormed.{IsName, BeginsWithLetter}
use Rattle.homeo_syntax.specs.Marks.{mark_text}
use Rattle.homeo_print_workload.specs.declared.layout.Before.{Before}
use Rattle.homeo_print_workload.specs.declared.layout.Before.TheVariants as before
use Rattle.homeo_print_workload.specs.Key.{definitions}
use Rattle.homeo_print_workload.specs.Printed.{CanStand}
use Rattle.homeo_print_workload.specs.Layout.{token_text, mark_sort, sort_of, after}

-- ---- bytes that would go on with what stands before
abbrev pub in_word : ℕ → Bool
in_word x = is_word x || (x == 61)

abbrev pub glues : Before → ℕ → Bool
glues before.Tight = λ x. false
glues before.Dot = λ x. x == 46
glues before.Head = in_word
glues before.End = in_word
glues before.Apart = in_word

-- the bytes begin with none that passes the test
abbrev pub BeginsWithout : (ℕ → Bool) → List ℕ → Type 0
BeginsWithout p [] = Unit {0}
BeginsWithout p (x ∷ xs) = p x ≡ false

no_word : (rest : List ℕ) → BeginsWithout in_word rest → BeginsWithout is_word rest
no_word [] h = tt
no_word (x ∷ rest) h = or_first (is_word x) (x == 61) h

digit_is_word : (x : ℕ) → is_word x ≡ false → is_digit x ≡ false
digit_is_word x h = or_second (is_letter x) (is_digit x) (or_first (is_letter x || is_digit x) (x == 95) h)

no_digit : (rest : List ℕ) → BeginsWithout is_word rest → BeginsWithout is_digit rest
no_digit [] h = tt
no_digit (x ∷ rest) h = digit_is_word x h

no_equal : (rest : List ℕ) → BeginsWithout in_word rest → BeginsWithout (λ x. x == 61) rest
no_equal [] h = tt
no_equal (x ∷ rest) h = or_second (is_word x) (x == 61) h

-- ---- runs
abbrev cons_if : Bool → ℕ → List ℕ → List ℕ
cons_if b x xs = if b then x ∷ xs else []

run_ends : (p : ℕ → Bool) (w rest : List ℕ) → list_all p w ≡ true → BeginsWithout p rest → take_while p (w ++ rest) ≡ w
run_ends p [] [] all h = refl
run_ends p [] (x ∷ rest) all h = take_while-cons p x rest ∙ ap (λ b. cons_if b x (take_while p rest)) h
run_ends p (x ∷ w) rest all h =
    take_while-cons p x (w ++ rest) ∙ ap (λ b. cons_if b x (take_while p (w ++ rest))) (and_first (p x) (list_all p w) all)
    ∙ ap (λ l. x ∷ l) (run_ends p w rest (and_second (p x) (list_all p w) all) h)

-- ---- words
word_lexes : (x : ℕ) (w rest : List ℕ) → is_letter x ≡ true → list_all is_word (x ∷ w) ≡ true → nat_lt 32 (length (x ∷ w)) ≡ false → BeginsWithout is_word rest
    → lexeme_of ((x ∷ w) ++ rest) ≡ Some (word_as (x ∷ w) (look_up reserved (x ∷ w)), length (x ∷ w))
word_lexes x w rest letter all short h =
    ap (λ (b : Bool). if b then word_lexeme (take_while is_word (x ∷ (w ++ rest))) else (if is_digit x then number_lexeme (take_while is_digit (x ∷ (w ++ rest))) else symbol_lexeme x (w ++ rest))) letter
    ∙ ap word_lexeme (run_ends is_word (x ∷ w) rest all h)
    ∙ ap (λ (b : Bool). if b then None else Some (word_as (x ∷ w) (look_up reserved (x ∷ w)), length (x ∷ w))) short

within_32 : (n : ℕ) → n ≤ 32 → nat_lt 32 n ≡ false
within_32 n h = grind (arith, nat_tests)

name_lexes : (v : Version) (w rest : List ℕ) → IsName v w → BeginsWithout in_word rest → lexeme_of (w ++ rest) ≡ Some (Name w, length w)
name_lexes v [] rest name h = absurd name.first
name_lexes v (x ∷ w) rest name h =
    word_lexes x w rest name.first name.all (within_32 (length (x ∷ w)) name.short) (no_word rest h)
    ∙ ap (λ o. Some (word_as (x ∷ w) o, length (x ∷ w))) name.free

reserved_lexes : (w rest : List ℕ) (m : Mark) → BeginsWithLetter w → list_all is_word w ≡ true → nat_lt 32 (length w) ≡ false → look_up reserved w ≡ Some m → BeginsWithout in_word rest
    → lexeme_of (w ++ rest) ≡ Some (Fixed m, length w)
reserved_lexes [] rest m letter all short found h = absurd letter
reserved_lexes (x ∷ w) rest m letter all short found h =
    word_lexes x w rest letter all short (no_word rest h) ∙ ap (λ o. Some (word_as (x ∷ w) o, length (x ∷ w))) found

-- ---- numbers
abbrev pub BeginsWithDigit : List ℕ → Type 0
BeginsWithDigit [] = ⊥
BeginsWithDigit (x ∷ xs) = (is_letter x ≡ false) × (is_digit x ≡ true)

pub record Spells (n : ℕ) (ds : List ℕ) : Type 0 where
  pub first : BeginsWithDigit ds
  pub all : list_all is_digit ds ≡ true
  pub value : number_value ds ≡ n

a_digit : (d : ℕ) → d < 10 → is_digit (48 + d) ≡ true
a_digit d h = grind (arith, nat_tests)

no_letter : (d : ℕ) → d < 10 → is_letter (48 + d) ≡ false
no_letter d h = grind (arith, nat_tests)

first_stays : (ds more : List ℕ) → BeginsWithDigit ds → BeginsWithDigit (ds ++ more)
first_stays [] more h = absurd h
first_stays (x ∷ ds) more h = h

value_push : (n : ℕ) (ds : List ℕ) (d : ℕ) → value_after n (ds ++ d ∷ []) ≡ value_after n ds * 10 + (d - 48)
value_push n [] d = refl
value_push n (x ∷ ds) d = value_push (n * 10 + (x - 48)) ds d

one_digit : (n : ℕ) → n < 10 → Spells n ((48 + n) ∷ [])
one_digit n h = record { first = (no_letter n h, a_digit n h); all = ap (λ (b : Bool). b && true) (a_digit n h); value = omega arith }

more_digits : (n : ℕ) (ds : List ℕ) → 10 ≤ n → Spells (n / 10) ds → Spells n (ds ++ ((48 + n % 10) ∷ []))
more_digits n ds h s =
    let small : n % 10 < 10 = omega arith in
    record {
      first = first_stays ds ((48 + n % 10) ∷ []) s.first;
      all = list_all-append is_digit ds ((48 + n % 10) ∷ []) ∙ ap (λ (b : Bool). b && (is_digit (48 + n % 10) && true)) s.all ∙ ap (λ (b : Bool). b && true) (a_digit (n % 10) small);
      value = omega (arith, value_push 0 ds (48 + n % 10), s.value);
    }

pub digits_spell : (n : ℕ) → n < 2 ^ 64 → Spells n (decimal n)
digits_spell n h = decimal_by_steps Spells one_digit more_digits n h

within_18 : (n : ℕ) → n ≤ 18 → nat_lt 18 n ≡ false
within_18 n h = grind (arith, nat_tests)

digits_lex : (n : ℕ) (w rest : List ℕ) → Spells n w → length w ≤ 18 → BeginsWithout is_digit rest → lexeme_of (w ++ rest) ≡ Some (Number (pos n), length w)
digits_lex n [] rest s short h = absurd s.first
digits_lex n (x ∷ w) rest s short h =
    ap (λ (b : Bool). if b then word_lexeme (take_while is_word (x ∷ (w ++ rest))) else (if is_digit x then number_lexeme (take_while is_digit (x ∷ (w ++ rest))) else symbol_lexeme x (w ++ rest))) s.first.0
    ∙ ap (λ (b : Bool). if b then number_lexeme (take_while is_digit (x ∷ (w ++ rest))) else symbol_lexeme x (w ++ rest)) s.first.1
    ∙ ap number_lexeme (run_ends is_digit (x ∷ w) rest s.all h)
    ∙ ap (λ (b : Bool). if b then None else Some (Number (pos (number_value (x ∷ w))), length (x ∷ w))) (within_18 (length (x ∷ w)) short)
    ∙ ap (λ (v : ℕ). Some (Number (pos v), length (x ∷ w))) s.value

number_lexes : (n : ℕ) (rest : List ℕ) → n < 10 ^ 18 → BeginsWithout in_word rest → lexeme_of (decimal n ++ rest) ≡ Some (Number (pos n), length (decimal n))
number_lexes n rest short h =
    let fits : n < 2 ^ 64 = omega arith in
    digits_lex n (decimal n) rest (digits_spell n fits) (length-decimal-le 18 n (omega arith) short fits) (no_digit rest (no_word rest h))

-- ---- symbols
-- the symbols of one byte that begin none of two bytes
lone : (x : ℕ) (m : Mark) (rest : List ℕ) → look_up single_symbols (x ∷ []) ≡ Some m → ((y : ℕ) → look_up double_symbols (x ∷ y ∷ []) ≡ None) → symbol_lexeme x rest ≡ Some (Fixed m, 1)
lone x m [] one none = ap (longest None) one
lone x m (y ∷ rest) one none = ap (λ o. longest o (look_up single_symbols (x ∷ []))) (none y) ∙ ap (longest None) one

less_lexes : (rest : List ℕ) → BeginsWithout (λ x. x == 61) rest → lexeme_of (60 ∷ rest) ≡ Some (Fixed mark.Less, 1)
less_lexes [] h = refl
less_lexes (y ∷ rest) h = ap (λ (b : Bool). longest (if (b && true) then Some mark.LessEqual else None) (Some mark.Less)) h

dot_lexes : (rest : List ℕ) → BeginsWithout (λ x. x == 46) rest → lexeme_of (46 ∷ rest) ≡ Some (Fixed mark.Dot, 1)
dot_lexes [] h = refl
dot_lexes (y ∷ rest) h = ap (λ (b : Bool). longest (if (b && true) then Some mark.Dots else None) (Some mark.Dot)) h

-- ---- marks
-- a mark, or the name that it is before the version is looked at
abbrev pub raw_mark : Mark → Lexeme
raw_mark m = if is_later m then Name (mark_text m) else Fixed m

-- a word that no version reserves always
later_lexes : (w rest : List ℕ) → BeginsWithLetter w → list_all is_word w ≡ true → nat_lt 32 (length w) ≡ false → look_up reserved w ≡ None → BeginsWithout in_word rest
    → lexeme_of (w ++ rest) ≡ Some (Name w, length w)
later_lexes [] rest letter all short free h = absurd letter
later_lexes (x ∷ w) rest letter all short free h = word_lexes x w rest letter all short (no_word rest h) ∙ ap (λ o. Some (word_as (x ∷ w) o, length (x ∷ w))) free

pub mark_lexes : (b : Before) (m : Mark) (rest : List ℕ) → BeginsWithout (glues (after b (mark_sort m))) rest → lexeme_of (mark_text m ++ rest) ≡ Some (raw_mark m, length (mark_text m))
unfolding definitions
mark_lexes b mark.Weights rest h = later_lexes (mark_text mark.Weights) rest refl refl refl refl h
mark_lexes b mark.Abort rest h = later_lexes (mark_text mark.Abort) rest refl refl refl refl h
mark_lexes b mark.Assign rest h = refl
mark_lexes b mark.Dots rest h = refl
mark_lexes b mark.LessEqual rest h = refl
mark_lexes b mark.Less rest h = less_lexes rest (no_equal rest h)
mark_lexes b mark.Dot rest h = dot_lexes rest h
mark_lexes b mark.Equal rest h = lone 61 mark.Equal rest refl (λ y. refl)
mark_lexes b mark.Plus rest h = lone 43 mark.Plus rest refl (λ y. refl)
mark_lexes b mark.Minus rest h = lone 45 mark.Minus rest refl (λ y. refl)
mark_lexes b mark.Star rest h = lone 42 mark.Star rest refl (λ y. refl)
mark_lexes b mark.Open rest h = lone 40 mark.Open rest refl (λ y. refl)
mark_lexes b mark.Close rest h = lone 41 mark.Close rest refl (λ y. refl)
mark_lexes b mark.OpenBracket rest h = lone 91 mark.OpenBracket rest refl (λ y. refl)
mark_lexes b mark.CloseBracket rest h = lone 93 mark.CloseBracket rest refl (λ y. refl)
mark_lexes b mark.OpenBrace rest h = lone 123 mark.OpenBrace rest refl (λ y. refl)
mark_lexes b mark.CloseBrace rest h = lone 125 mark.CloseBrace rest refl (λ y. refl)
mark_lexes b mark.Comma rest h = lone 44 mark.Comma rest refl (λ y. refl)
mark_lexes b mark.Semicolon rest h = lone 59 mark.Semicolon rest refl (λ y. refl)
mark_lexes b m rest h = reserved_lexes (mark_text m) rest m refl refl refl refl h

-- ---- tokens
-- a token as a lexeme before the version is looked at
abbrev pub raw_in : List (List ℕ) → Kind → Lexeme
raw_in names (kind.Name n) = Name (get_or names n [])
raw_in names (kind.Number n) = Number n
raw_in names (kind.Fixed m) = raw_mark m

pub token_lexes : (v : Version) (names : List (List ℕ)) (b : Before) (k : Kind) (rest : List ℕ) → CanStand v names k → BeginsWithout (glues (after b (sort_of k))) rest
    → lexeme_of (token_text names k ++ rest) ≡ Some (raw_in names k, length (token_text names k))
unfolding definitions
token_lexes v names b (kind.Name n) rest can h = name_lexes v (get_or names n []) rest can.1 h
token_lexes v names b (kind.Number n) rest can h =
    ap (λ (z : ℤ). lexeme_of (decimal (unsigned_abs z) ++ rest)) can.value ∙ number_lexes can.size rest can.short h
    ∙ ap (λ (z : ℤ). Some (Number z, length (decimal (unsigned_abs z)))) (sym can.value)
token_lexes v names b (kind.Fixed m) rest can h = mark_lexes b m rest h
