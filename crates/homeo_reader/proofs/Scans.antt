-- Lexemes of lines: no lexeme goes past a newline.
use Rattle.std.proofs.Common.{◌≡◌, ◌∙◌, ℕ, zero, suc, ◌+◌, ◌-◌, ◌≤◌, ◌==◌, Bool, true, false, cond, List, [], ◌∷◌, ◌++◌, length, refl, sym, ap, arith, append_assoc, ◌&&◌, length-append}
use Rattle.std.specs.Prelude.{Option, Some, None, Result, Ok, Err, if◌then◌else◌}
use Rattle.std.specs.List.{take_while}
use Rattle.std.proofs.lemmas.List.Sums.{take_while-cons}
use Rattle.homeo_syntax.specs.declared.token.Mark.{Mark}
use Rattle.homeo_syntax.specs.declared.token.Mark.TheVariants as mark
use Rattle.homeo_syntax.specs.Lexemes.{Lexeme, is_space, is_letter, is_digit, is_word, look_up, double_symbols, single_symbols, longest, symbol_lexeme, word_lexeme, number_lexeme, lexeme_of}
use Rattle.homeo_syntax.specs.Tokens.{Scanned, scanned_from, found, in_front}
use Rattle.homeo_tokens.proofs.Steps.{lexeme_sized}
use Rattle.homeo_reader.specs.Lines.{newline, whole_lines}

abbrev pub in_front_all : List Scanned → Result (List Scanned) ℕ → Result (List Scanned) ℕ
in_front_all front (Ok ts) = Ok (front ++ ts)
in_front_all front (Err at) = Err at

-- lexemes, and then others
abbrev pub and_then : Result (List Scanned) ℕ → Result (List Scanned) ℕ → Result (List Scanned) ℕ
and_then (Ok ts) r = in_front_all ts r
and_then (Err at) r = Err at

nothing_before : (r : Result (List Scanned) ℕ) → in_front_all [] r ≡ r
nothing_before (Ok ts) = refl
nothing_before (Err at) = refl

one_before : (t : Scanned) (a r : Result (List Scanned) ℕ) → in_front t (and_then a r) ≡ and_then (in_front t a) r
one_before t (Ok ts) (Ok us) = refl
one_before t (Ok ts) (Err at) = refl
one_before t (Err at) r = refl

pub and_then-assoc : (a b c : Result (List Scanned) ℕ) → and_then a (and_then b c) ≡ and_then (and_then a b) c
and_then-assoc (Ok ts) (Ok us) (Ok vs) = ap Ok (sym (append_assoc ts us vs))
and_then-assoc (Ok ts) (Ok us) (Err at) = refl
and_then-assoc (Ok ts) (Err at) c = refl
and_then-assoc (Err at) b c = refl

-- ---- a lexeme stops at a newline
run_line : (p : ℕ → Bool) (x y : List ℕ) → p newline ≡ false → take_while p (x ++ newline ∷ y) ≡ take_while p x
run_line p [] y e = take_while-cons p newline y ∙ ap (λ v. cond v (newline ∷ take_while p y) []) e
run_line p (b ∷ x) y e =
    take_while-cons p b (x ++ newline ∷ y) ∙ ap (λ l. cond (p b) (b ∷ l) []) (run_line p x y e) ∙ sym (take_while-cons p b x)

not_both : (x : Bool) (o r : Option Mark) → cond (x && false) o r ≡ r
not_both true o r = refl
not_both false o r = refl

no_double : (b : ℕ) → look_up double_symbols (b ∷ newline ∷ []) ≡ None
no_double b =
    not_both (b == 58) (Some mark.Assign) _ ∙ not_both (b == 46) (Some mark.Dots) _ ∙ not_both (b == 60) (Some mark.LessEqual) None

symbol_line : (b : ℕ) (x y : List ℕ) → symbol_lexeme b (x ++ newline ∷ y) ≡ symbol_lexeme b x
symbol_line b [] y = ap (λ d. longest d (look_up single_symbols (b ∷ []))) (no_double b)
symbol_line b (c ∷ x) y = refl

lexeme_line : (b : ℕ) (x y : List ℕ) → lexeme_of (b ∷ (x ++ newline ∷ y)) ≡ lexeme_of (b ∷ x)
lexeme_line b x y =
    ap (λ w. if is_letter b then word_lexeme w else (if is_digit b then number_lexeme (take_while is_digit (b ∷ (x ++ newline ∷ y))) else symbol_lexeme b (x ++ newline ∷ y)))
    (run_line is_word (b ∷ x) y refl)
    ∙ ap (λ w. if is_letter b then word_lexeme (take_while is_word (b ∷ x)) else (if is_digit b then number_lexeme w else symbol_lexeme b (x ++ newline ∷ y)))
    (run_line is_digit (b ∷ x) y refl)
    ∙ ap (λ o. if is_letter b then word_lexeme (take_while is_word (b ∷ x)) else (if is_digit b then number_lexeme (take_while is_digit (b ∷ x)) else o))
    (symbol_line b x y)

-- ---- lexemes before a newline, and behind it
abbrev later : ℕ → List ℕ → List ℕ → ℕ → Result (List Scanned) ℕ
later b x y at = scanned_from 0 (at + (length (b ∷ x) + 1)) y

pub scan_line :
    (x y : List ℕ) (skip at : ℕ) → skip ≤ length x →
    scanned_from skip at (x ++ newline ∷ y) ≡ and_then (scanned_from skip at x) (scanned_from 0 (at + (length x + 1)) y)
unfolding scanned_from
scan_line [] y zero at le = let same : at + 1 ≡ at + (0 + 1) = omega arith in ap (λ n. scanned_from 0 n y) same ∙ sym (nothing_before (scanned_from 0 (at + (0 + 1)) y))
scan_line [] y (suc skip) at le = absurd (omega arith)
scan_line (b ∷ x) y (suc skip) at le =
    let same : (at + 1) + (length x + 1) ≡ at + (length (b ∷ x) + 1) = omega arith in
    scan_line x y skip (at + 1) (omega arith) ∙ ap (λ n. and_then (scanned_from skip (at + 1) x) (scanned_from 0 n y)) same
scan_line (b ∷ x) y zero at le = go (is_space b) (lexeme_of (b ∷ x)) refl (λ skip h. scan_line x y skip (at + 1) h)
  where
    same : (at + 1) + (length x + 1) ≡ at + (length (b ∷ x) + 1)
    same = omega arith

    go :
        (v : Bool) (o : Option (Lexeme × ℕ)) → lexeme_of (b ∷ x) ≡ o →
        ((skip : ℕ) → skip ≤ length x → scanned_from skip (at + 1) (x ++ newline ∷ y) ≡ and_then (scanned_from skip (at + 1) x) (scanned_from 0 ((at + 1) + (length x + 1)) y)) →
        (if v then scanned_from 0 (at + 1) (x ++ newline ∷ y) else found at (lexeme_of (b ∷ (x ++ newline ∷ y))) (λ more. scanned_from more (at + 1) (x ++ newline ∷ y)))
        ≡ and_then (if v then scanned_from 0 (at + 1) x else found at (lexeme_of (b ∷ x)) (λ more. scanned_from more (at + 1) x)) (later b x y at)
    go true o e more = more 0 (omega arith) ∙ ap (λ n. and_then (scanned_from 0 (at + 1) x) (scanned_from 0 n y)) same
    go false None e more =
        ap (λ l. found at l (λ more. scanned_from more (at + 1) (x ++ newline ∷ y))) (lexeme_line b x y ∙ e)
        ∙ sym (ap (λ l. and_then (found at l (λ more. scanned_from more (at + 1) x)) (later b x y at)) e)
    go false (Some l) e more =
        let size = lexeme_sized (b ∷ x) l e in
        ap (λ l. found at l (λ more. scanned_from more (at + 1) (x ++ newline ∷ y))) (lexeme_line b x y ∙ e)
        ∙ ap (in_front (record { lexeme = l.0; offset = at }))
        (more (l.1 - 1) (omega arith) ∙ ap (λ n. and_then (scanned_from (l.1 - 1) (at + 1) x) (scanned_from 0 n y)) same)
        ∙ one_before (record { lexeme = l.0; offset = at }) (scanned_from (l.1 - 1) (at + 1) x) (later b x y at)
        ∙ sym (ap (λ l. and_then (found at l (λ more. scanned_from more (at + 1) x)) (later b x y at)) e)

-- the lexemes of lines, and of what comes behind them
pub scan_lines :
    (lines : List (List ℕ)) (f : List ℕ) (at : ℕ) →
    scanned_from 0 at (whole_lines lines ++ f) ≡ and_then (scanned_from 0 at (whole_lines lines)) (scanned_from 0 (at + length (whole_lines lines)) f)
unfolding scanned_from
scan_lines [] f at = let same : at ≡ at + 0 = omega arith in ap (λ n. scanned_from 0 n f) same ∙ sym (nothing_before (scanned_from 0 (at + 0) f))
scan_lines (l ∷ lines) f at =
    let next : ℕ = at + (length l + 1) in
    let sizes : next + length (whole_lines lines) ≡ at + length (whole_lines (l ∷ lines)) = omega (arith, length-append l (newline ∷ whole_lines lines)) in
    ap (scanned_from 0 at) (append_assoc l (newline ∷ whole_lines lines) f)
    ∙ scan_line l (whole_lines lines ++ f) 0 at (omega arith)
    ∙ ap (and_then (scanned_from 0 at l)) (scan_lines lines f next)
    ∙ and_then-assoc (scanned_from 0 at l) (scanned_from 0 next (whole_lines lines)) (scanned_from 0 (next + length (whole_lines lines)) f)
    ∙ ap (λ r. and_then r (scanned_from 0 (next + length (whole_lines lines)) f)) (sym (scan_line l (whole_lines lines) 0 at (omega arith)))
    ∙ ap (λ n. and_then (scanned_from 0 at (whole_lines (l ∷ lines))) (scanned_from 0 n f)) sizes
