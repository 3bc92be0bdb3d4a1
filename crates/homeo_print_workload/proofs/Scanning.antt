-- The text of tokens is read as these tokens.
use Rattle.std.proofs.Common.{◌≡◌, ℕ, ◌+◌, ◌-◌, ◌^◌, ◌<◌, Bool, true, false, List, [], ◌∷◌, ◌++◌, length, map, refl, sym, ap, ap₂, pos, subst, ◌∙◌, arith}
use Rattle.std.specs.Prelude.{Some, Ok, if◌then◌else◌, ◌&&◌, ◌==◌, not, ℤ, decimal, unsigned_abs, get_or, nat_le}
use Rattle.std.specs.List.{list_all, flat_map}
use Rattle.std.specs.Result.{result_map_both}
use Rattle.std.proofs.lemmas.List.Folds.{list_all-append}
use Rattle.std.proofs.lemmas.Bool.Decides.{nat_tests}
use Rattle.std.proofs.lemmas.Bool.{and_from, or_right, not-true}
use Rattle.homeo_lemmas.proofs.Bools.{and_first, and_second}
use Rattle.homeo_syntax.specs.declared.token.Mark.{Mark}
use Rattle.homeo_syntax.specs.declared.token.Mark.TheVariants as mark
use Rattle.homeo_syntax.specs.declared.token.Kind.{Kind}
use Rattle.homeo_syntax.specs.declared.token.Kind.TheVariants as kind
use Rattle.homeo_syntax.specs.Key.{definitions as syntax_definitions}
use Rattle.homeo_syntax.specs.Source as s
use Rattle.homeo_syntax.specs.declared.token.Version.{Version}
use Rattle.homeo_syntax.specs.declared.token.Version.TheVariants.{First, Second}
use Rattle.homeo_syntax.specs.Versions.{version_number, CanMark}
use Rattle.homeo_syntax.specs.Tokens as tokens
use Rattle.homeo_syntax.specs.Lexemes.{Lexeme, Name, Number, Fixed, is_space, is_letter, is_digit, is_word, word_as, lexeme_of}
use Rattle.homeo_syntax.specs.Tokens.{is_good, Scanned, in_front, found, scanned_from, begins_second, version_of, scanned_in, in_version}
use Rattle.homeo_syntax.specs.WellFormed.{IsName, Each}
use Rattle.homeo_syntax.specs.Marks.{mark_text}
use Rattle.homeo_print_workload.specs.declared.layout.Sort.{Sort}
use Rattle.homeo_print_workload.specs.declared.layout.Sort.TheVariants as sort
use Rattle.homeo_print_workload.specs.declared.layout.Before.{Before}
use Rattle.homeo_print_workload.specs.declared.layout.Before.TheVariants as before
use Rattle.homeo_print_workload.specs.Key.{definitions}
use Rattle.homeo_print_workload.specs.TokensOf.{mark_of, number_of, weights_kinds, object_kinds, relation_kinds, transaction_kinds, client_kinds, schedule_kinds, workload_kinds}
use Rattle.homeo_print_workload.specs.Printed.{lexeme_in, CanStand, IsPrintable, ScansAs}
use Rattle.homeo_print_workload.specs.Layout.{token_text, mark_sort, sort_of, gap, after, laid}
use Rattle.homeo_print_workload.specs.Print.{print}
use Rattle.homeo_print_workload.proofs.Lexing.{glues, BeginsWithout, BeginsWithDigit, Spells, digits_spell, raw_mark, raw_in, token_lexes}

-- ---- the bytes of a token
-- the bytes begin with one that passes the test
abbrev BeginsWith : (ℕ → Bool) → List ℕ → Type 0
BeginsWith p [] = ⊥
BeginsWith p (x ∷ xs) = p x ≡ true

abbrev no_space : ℕ → Bool
no_space x = not (is_space x)

letter_no_space : (x : ℕ) → is_letter x ≡ true → not (is_space x) ≡ true
letter_no_space x h = grind (arith, nat_tests)

letter_no_dot : (x : ℕ) → is_letter x ≡ true → (x == 46) ≡ false
letter_no_dot x h = grind (arith, nat_tests)

digit_no_space : (x : ℕ) → is_digit x ≡ true → not (is_space x) ≡ true
digit_no_space x h = grind (arith, nat_tests)

word_good : (x : ℕ) → is_word x ≡ true → is_good x ≡ true
word_good x h = grind (arith, nat_tests)

digit_good : (x : ℕ) → is_digit x ≡ true → is_good x ≡ true
digit_good x h = grind (arith, nat_tests)

space_good : (x : ℕ) → is_space x ≡ true → is_good x ≡ true
space_good x h = or_right (nat_le 32 x && nat_le x 126) (is_space x) h

all_pass : (p q : ℕ → Bool) → ((x : ℕ) → p x ≡ true → q x ≡ true) → (xs : List ℕ) → list_all p xs ≡ true → list_all q xs ≡ true
all_pass p q f [] h = refl
all_pass p q f (x ∷ xs) h = and_from (q x) (list_all q xs) (f x (and_first (p x) (list_all p xs) h)) (all_pass p q f xs (and_second (p x) (list_all p xs) h))

name_begins : (v : Version) (w : List ℕ) → IsName v w → BeginsWith no_space w
name_begins v [] name = name.first
name_begins v (x ∷ w) name = letter_no_space x name.first

digits_begin : (ds : List ℕ) → BeginsWithDigit ds → BeginsWith no_space ds
digits_begin [] h = h
digits_begin (x ∷ ds) h = digit_no_space x h.1

mark_begins : (m : Mark) → BeginsWith no_space (mark_text m)
unfolding definitions
mark_begins mark.Assign = refl
mark_begins m = refl

mark_good : (m : Mark) → list_all is_good (mark_text m) ≡ true
unfolding definitions
mark_good mark.Assign = refl
mark_good m = refl

short_spells : (n : ℕ) → n < 10 ^ 18 → Spells n (decimal n)
short_spells n h = let fits : n < 2 ^ 64 = omega arith in digits_spell n fits

token_begins : (v : Version) (names : List (List ℕ)) (k : Kind) → CanStand v names k → BeginsWith no_space (token_text names k)
unfolding definitions
token_begins v names (kind.Name n) can = name_begins v (get_or names n []) can.1
token_begins v names (kind.Number n) can = subst (λ (z : ℤ). BeginsWith no_space (decimal (unsigned_abs z))) (sym can.value) (digits_begin (decimal can.size) (short_spells can.size can.short).first)
token_begins v names (kind.Fixed m) can = mark_begins m

token_good : (v : Version) (names : List (List ℕ)) (k : Kind) → CanStand v names k → list_all is_good (token_text names k) ≡ true
unfolding definitions
token_good v names (kind.Name n) can = all_pass is_word is_good word_good (get_or names n []) can.1.all
token_good v names (kind.Number n) can = ap (λ (z : ℤ). list_all is_good (decimal (unsigned_abs z))) can.value ∙ all_pass is_digit is_good digit_good (decimal can.size) (short_spells can.size can.short).all
token_good v names (kind.Fixed m) can = mark_good m

-- ---- gaps
gap_space : (b : Before) (s : Sort) → list_all is_space (gap b s) ≡ true
unfolding definitions
gap_space before.Tight sort.Line = refl
gap_space before.Tight s = refl
gap_space before.Dot sort.Line = refl
gap_space before.Dot s = refl
gap_space before.Head sort.Line = refl
gap_space before.Head s = refl
gap_space before.End sort.Line = refl
gap_space before.End s = refl
gap_space before.Apart sort.Line = refl
gap_space before.Apart s = refl

-- ---- what stands behind a token doesn't go on with it
never : (xs : List ℕ) → BeginsWithout (λ x. false) xs
never [] = tt
never (x ∷ xs) = refl

name_no_dot : (v : Version) (w rest : List ℕ) → IsName v w → BeginsWithout (λ x. x == 46) (w ++ rest)
name_no_dot v [] rest name = absurd name.first
name_no_dot v (x ∷ w) rest name = letter_no_dot x name.first

clear_name : (v : Version) (b : Before) (w rest : List ℕ) → IsName v w → BeginsWithout (glues b) (gap b sort.Name ++ (w ++ rest))
unfolding definitions
clear_name v before.Tight w rest name = never (w ++ rest)
clear_name v before.Dot w rest name = name_no_dot v w rest name
clear_name v before.Head w rest name = refl
clear_name v before.End w rest name = refl
clear_name v before.Apart w rest name = refl

clear_number : (b : Before) (w rest : List ℕ) → BeginsWithout (glues b) (gap b sort.Number ++ (w ++ rest))
unfolding definitions
clear_number before.Tight w rest = never (w ++ rest)
clear_number before.Dot w rest = refl
clear_number before.Head w rest = refl
clear_number before.End w rest = refl
clear_number before.Apart w rest = refl

clear_mark : (b : Before) (m : Mark) (rest : List ℕ) → BeginsWithout (glues b) (gap b (mark_sort m) ++ (mark_text m ++ rest))
unfolding definitions
clear_mark before.Tight mark.Assign rest = refl
clear_mark before.Tight m rest = refl
clear_mark before.Dot mark.Assign rest = refl
clear_mark before.Dot m rest = refl
clear_mark before.Head mark.Assign rest = refl
clear_mark before.Head m rest = refl
clear_mark before.End mark.Assign rest = refl
clear_mark before.End m rest = refl
clear_mark before.Apart mark.Assign rest = refl
clear_mark before.Apart m rest = refl

clear_token : (v : Version) (names : List (List ℕ)) (b : Before) (k : Kind) (rest : List ℕ) → CanStand v names k → BeginsWithout (glues b) (gap b (sort_of k) ++ (token_text names k ++ rest))
unfolding definitions
clear_token v names b (kind.Name n) rest can = clear_name v b (get_or names n []) rest can.1
clear_token v names b (kind.Number n) rest can = clear_number b (decimal (unsigned_abs n)) rest
clear_token v names b (kind.Fixed m) rest can = clear_mark b m rest

clear_end : (b : Before) → glues b 10 ≡ false
clear_end before.Tight = refl
clear_end before.Dot = refl
clear_end before.Head = refl
clear_end before.End = refl
clear_end before.Apart = refl

clear_laid : (v : Version) (names : List (List ℕ)) (b : Before) (ks : List Kind) → Each (CanStand v names) ks → BeginsWithout (glues b) (laid names b ks)
unfolding definitions syntax_definitions
clear_laid v names b [] can = clear_end b
clear_laid v names b (k ∷ ks) can = clear_token v names b k (laid names (after b (sort_of k)) ks) can.0

-- ---- no byte is bad
laid_good : (v : Version) (names : List (List ℕ)) (b : Before) (ks : List Kind) → Each (CanStand v names) ks → list_all is_good (laid names b ks) ≡ true
unfolding definitions syntax_definitions
laid_good v names b [] can = refl
laid_good v names b (k ∷ ks) can =
    let g = gap b (sort_of k) in
    let w = token_text names k in
    let rest = laid names (after b (sort_of k)) ks in
    list_all-append is_good g (w ++ rest)
    ∙ and_from (list_all is_good g) (list_all is_good (w ++ rest)) (all_pass is_space is_good space_good g (gap_space b (sort_of k)))
    (list_all-append is_good w rest ∙ and_from (list_all is_good w) (list_all is_good rest) (token_good v names k can.0) (laid_good v names (after b (sort_of k)) ks can.1))

-- ---- reading
-- The text is read from an offset on as these tokens.
record ReadFrom (names : List (List ℕ)) (ks : List Kind) (text : List ℕ) (at : ℕ) : Type 0 where
  scanned : List Scanned
  lexemes : scanned_from 0 at text ≡ Ok scanned
  same : map (λ t. t.lexeme) scanned ≡ map (raw_in names) ks

skip_word : (w rest : List ℕ) (at : ℕ) → scanned_from (length w) at (w ++ rest) ≡ scanned_from 0 (at + length w) rest
unfolding scanned_from
skip_word [] rest at = ap (λ a. scanned_from 0 a rest) (omega arith)
skip_word (x ∷ w) rest at = skip_word w rest (at + 1) ∙ ap (λ a. scanned_from 0 a rest) (omega arith)

spaces_read : (names : List (List ℕ)) (ks : List Kind) (g rest : List ℕ) → list_all is_space g ≡ true → ((at : ℕ) → ReadFrom names ks rest at) → (at : ℕ) → ReadFrom names ks (g ++ rest) at
unfolding scanned_from
spaces_read names ks [] rest spaces reads at = reads at
spaces_read names ks (x ∷ g) rest spaces reads at =
    let r = spaces_read names ks g rest (and_second (is_space x) (list_all is_space g) spaces) reads (at + 1) in
    record {
      scanned = r.scanned;
      lexemes = ap (λ (b : Bool). if b then scanned_from 0 (at + 1) (g ++ rest) else found at (lexeme_of (x ∷ (g ++ rest))) (λ more. scanned_from more (at + 1) (g ++ rest))) (and_first (is_space x) (list_all is_space g) spaces) ∙ r.lexemes;
      same = r.same;
    }

token_read : (names : List (List ℕ)) (k : Kind) (ks : List Kind) (w rest : List ℕ) → BeginsWith no_space w → lexeme_of (w ++ rest) ≡ Some (raw_in names k, length w) → ((at : ℕ) → ReadFrom names ks rest at) → (at : ℕ) → ReadFrom names (k ∷ ks) (w ++ rest) at
unfolding scanned_from
token_read names k ks [] rest begins lexes reads at = absurd begins
token_read names k ks (x ∷ w) rest begins lexes reads at =
    let r = reads (at + 1 + length w) in
    let t : Scanned = record { lexeme = raw_in names k; offset = at } in
    let shorter : length (x ∷ w) - 1 ≡ length w = omega arith in
    record {
      scanned = t ∷ r.scanned;
      lexemes = ap (λ (b : Bool). if b then scanned_from 0 (at + 1) (w ++ rest) else found at (lexeme_of (x ∷ (w ++ rest))) (λ more. scanned_from more (at + 1) (w ++ rest))) (not-true (is_space x) begins)
          ∙ ap (λ o. found at o (λ more. scanned_from more (at + 1) (w ++ rest))) lexes
          ∙ ap (λ (n : ℕ). in_front t (scanned_from n (at + 1) (w ++ rest))) shorter
          ∙ ap (in_front t) (skip_word w rest (at + 1) ∙ r.lexemes);
      same = ap (λ l. raw_in names k ∷ l) r.same;
    }

laid_read : (v : Version) (names : List (List ℕ)) (b : Before) (ks : List Kind) → Each (CanStand v names) ks → (at : ℕ) → ReadFrom names ks (laid names b ks) at
unfolding definitions syntax_definitions scanned_from
laid_read v names b [] can at = record { scanned = []; lexemes = refl; same = refl }
laid_read v names b (k ∷ ks) can at =
    let w = token_text names k in
    let rest = laid names (after b (sort_of k)) ks in
    spaces_read names (k ∷ ks) (gap b (sort_of k)) (w ++ rest) (gap_space b (sort_of k))
    (token_read names k ks w rest (token_begins v names k can.0) (token_lexes v names b k rest can.0 (clear_laid v names (after b (sort_of k)) ks can.1)) (laid_read v names (after b (sort_of k)) ks can.1)) at

-- ---- versions
pub version_by :
    (v : Version) (scanned : List Scanned) (more : List Lexeme) → map (λ t. t.lexeme) scanned ≡ Fixed mark.Workload ∷ Number (pos (version_number v)) ∷ more → version_of scanned ≡ v
version_by v [] more e = let no : ⊥ = cc in absurd no
version_by v (t ∷ []) more e = let no : ⊥ = cc in absurd no
version_by v (t ∷ (u ∷ ts)) more e =
    let first : t.lexeme ≡ Fixed mark.Workload = cc in
    let second : u.lexeme ≡ Number (pos (version_number v)) = cc in
    ap₂ (λ a b. if begins_second a b then Second else First) first second ∙ by v
  where
    by : (v : Version) → (if begins_second (Fixed mark.Workload) (Number (pos (version_number v))) then Second else First) ≡ v
    by First = refl
    by Second = refl

-- the lexemes of a workload begin with its version
abbrev pub behind : (Kind → Lexeme) → s.Workload → List Lexeme
unfolding definitions
behind f w =
    map f (kind.Fixed mark.Sites ∷ (number_of w.sites ++ weights_kinds w.weights)
    ++ (flat_map object_kinds w.objects ++ (flat_map relation_kinds w.relations ++ (flat_map transaction_kinds w.transactions ++ (flat_map client_kinds w.clients ++ (schedule_kinds w.schedule ++ mark_of mark.End))))))

pub head_lexemes : (names : List (List ℕ)) (w : s.Workload) (v : Version) → w.version ≡ version_number v →
    map (lexeme_in names) (workload_kinds w) ≡ Fixed mark.Workload ∷ Number (pos (version_number v)) ∷ behind (lexeme_in names) w
unfolding definitions
head_lexemes names w v e = ap (λ (n : ℕ). Fixed mark.Workload ∷ Number (pos n) ∷ behind (lexeme_in names) w) e

raw_lexemes : (names : List (List ℕ)) (w : s.Workload) (v : Version) → w.version ≡ version_number v →
    map (raw_in names) (workload_kinds w) ≡ Fixed mark.Workload ∷ Number (pos (version_number v)) ∷ behind (raw_in names) w
unfolding definitions
raw_lexemes names w v e = ap (λ (n : ℕ). Fixed mark.Workload ∷ Number (pos n) ∷ behind (raw_in names) w) e

mark_in : (v : Version) (m : Mark) → CanMark v m → tokens.lexeme_in v (raw_mark m) ≡ Fixed m
mark_in First m can = ap (λ (b : Bool). tokens.lexeme_in First (if b then Name (mark_text m) else Fixed m)) can
mark_in Second mark.Weights can = refl
mark_in Second mark.Abort can = refl
mark_in Second m can = refl

token_in : (v : Version) (names : List (List ℕ)) (k : Kind) → CanStand v names k → tokens.lexeme_in v (raw_in names k) ≡ lexeme_in names k
token_in v names (kind.Name n) can = ap (word_as (get_or names n [])) can.1.also_free
token_in v names (kind.Number n) can = refl
token_in v names (kind.Fixed m) can = mark_in v m can

all_in : (v : Version) (names : List (List ℕ)) (ks : List Kind) → Each (CanStand v names) ks → map (tokens.lexeme_in v) (map (raw_in names) ks) ≡ map (lexeme_in names) ks
unfolding syntax_definitions
all_in v names [] can = refl
all_in v names (k ∷ ks) can = ap₂ (λ (l : Lexeme) ls. l ∷ ls) (token_in v names k can.0) (all_in v names ks can.1)

lexemes_in : (v : Version) (ts : List Scanned) → map (λ t. t.lexeme) (map (scanned_in v) ts) ≡ map (tokens.lexeme_in v) (map (λ t. t.lexeme) ts)
lexemes_in v [] = refl
lexemes_in v (t ∷ ts) = ap (λ ls. tokens.lexeme_in v t.lexeme ∷ ls) (lexemes_in v ts)

-- ---- the whole text
pub print_scans : (w : s.Workload) (text : List ℕ) → text ≡ print w → IsPrintable w → ScansAs w.names (workload_kinds w) text
unfolding definitions
print_scans w text is can =
    let v = can.form in
    let r = laid_read v w.names before.Tight (workload_kinds w) can.stands 0 in
    let version : version_of r.scanned ≡ v = version_by v r.scanned _ (r.same ∙ raw_lexemes w.names w v can.version) in
    record {
      clean = ap (list_all is_good) is ∙ laid_good v w.names before.Tight (workload_kinds w) can.stands;
      scanned = in_version r.scanned;
      lexemes = ap (result_map_both in_version (λ at. at)) (ap (scanned_from 0 0) is ∙ r.lexemes);
      same = ap (λ (u : Version). map (λ t. t.lexeme) (map (scanned_in u) r.scanned)) version ∙ lexemes_in v r.scanned
          ∙ ap (map (tokens.lexeme_in v)) r.same ∙ all_in v w.names (workload_kinds w) can.stands;
    }
