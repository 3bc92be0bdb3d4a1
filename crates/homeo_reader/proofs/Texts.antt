-- Texts with one beginning.
use Rattle.std.proofs.Common.{◌≡◌, ◌∙◌, ℕ, ◌+◌, ◌≤◌, ◌==◌, Bool, true, false, ◌||◌, cond, List, [], ◌∷◌, ◌++◌, length, take, drop, map, refl, sym, ap, ap₂, subst, arith, inl, inr, length-append}
use Rattle.std.proofs.lemmas.List.{append-nil, map-append, length-map, take-append-drop}
use Rattle.std.proofs.lemmas.Bool.{eqb-true, and_parts}
use Rattle.std.specs.Prelude.{Result, Ok, Err, if◌then◌else◌, nat_eq, codes}
use Rattle.std.specs.Cmp.Lexicographic.{same_text}
use Rattle.std.specs.List.{take_while, list_all, starts_with}
use Rattle.std.specs.Result.{result_map_both}
use Rattle.std.proofs.lemmas.List.Sums.{take_while-cons}
use Rattle.homeo_syntax.specs.declared.token.Mark.TheVariants as mark
use Rattle.homeo_syntax.specs.declared.token.Version.{Version}
use Rattle.homeo_syntax.specs.Classes.{class_of}
use Rattle.homeo_syntax.specs.Lexemes.{Fixed, is_space, is_word, word_lexeme, lexeme_of}
use Rattle.homeo_syntax.specs.Rules.{IsWorkload}
use Rattle.homeo_syntax.specs.Source as s
use Rattle.homeo_syntax.specs.Tokens.{Scanned, version_of, lexeme_in, scanned_in, in_version, unversioned, scanned_from, found, in_front, names_of, kind_in, token_in, tokens_in}
use Rattle.homeo_reader.specs.Lines.{newline, is_blank, is_end, is_end_word, whole_lines}
use Rattle.homeo_reader.specs.Stands.{EndsDeclarations, EndsLexeme, SameDeclarations, TextsStand}
use Rattle.homeo_reader.proofs.Cut.{whole_tokens}
use Rattle.homeo_reader.proofs.Declared.{declarations_stand, three_tokens}
use Rattle.homeo_reader.proofs.Scans.{and_then, scan_line, scan_lines}

-- ---- the line `end`
blank_space : (b : ℕ) → is_blank b ≡ true → is_space b ≡ true
blank_space b h = go (b == 32) (b == 9) (b == 13) (b == 10) h
  where
    go : (x y z n : Bool) → (x || (y || z)) ≡ true → (((x || y) || z) || n) ≡ true
    go true y z n h = refl
    go false true z n h = refl
    go false false true n h = refl
    go false false false n h = cc

blank_no_word : (b : ℕ) → is_blank b ≡ true → is_word b ≡ false
blank_no_word b h = go (b == 32) (b == 9) (b == 13) refl refl refl h
  where
    go : (x y z : Bool) → (b == 32) ≡ x → (b == 9) ≡ y → (b == 13) ≡ z → (x || (y || z)) ≡ true → is_word b ≡ false
    go true y z e f g h = ap is_word (eqb-true b 32 e)
    go false true z e f g h = ap is_word (eqb-true b 9 f)
    go false false true e f g h = ap is_word (eqb-true b 13 g)
    go false false false e f g h = cc

blanks_scanned : (rest : List ℕ) (at : ℕ) → list_all is_blank rest ≡ true → scanned_from 0 at rest ≡ Ok []
unfolding scanned_from
blanks_scanned [] at h = refl
blanks_scanned (b ∷ rest) at h =
    let two = and_parts (is_blank b) (list_all is_blank rest) h in
    ap (λ v. if v then scanned_from 0 (at + 1) rest else found at (lexeme_of (b ∷ rest)) (λ more. scanned_from more (at + 1) rest)) (blank_space b two.0)
    ∙ blanks_scanned rest (at + 1) two.1

run_blanks : (rest : List ℕ) → list_all is_blank rest ≡ true → take_while is_word rest ≡ []
run_blanks [] h = refl
run_blanks (b ∷ rest) h =
    take_while-cons is_word b rest ∙ ap (λ v. cond v (b ∷ take_while is_word rest) []) (blank_no_word b (and_parts (is_blank b) (list_all is_blank rest) h).0)

run_end : (rest : List ℕ) → list_all is_blank rest ≡ true → take_while is_word (101 ∷ 110 ∷ 100 ∷ rest) ≡ 101 ∷ 110 ∷ 100 ∷ []
run_end rest h =
    take_while-cons is_word 101 (110 ∷ 100 ∷ rest)
    ∙ ap (λ l. 101 ∷ l) (take_while-cons is_word 110 (100 ∷ rest) ∙ ap (λ l. 110 ∷ l) (take_while-cons is_word 100 rest ∙ ap (λ l. 100 ∷ l) (run_blanks rest h)))

word_scanned : (rest : List ℕ) (at : ℕ) → list_all is_blank rest ≡ true →
    scanned_from 0 at (101 ∷ 110 ∷ 100 ∷ rest) ≡ Ok (record { lexeme = Fixed mark.End; offset = at } ∷ [])
unfolding scanned_from
word_scanned rest at h =
    ap (λ w. found at (word_lexeme w) (λ more. scanned_from more (at + 1) (110 ∷ 100 ∷ rest))) (run_end rest h)
    ∙ ap (in_front (record { lexeme = Fixed mark.End; offset = at })) (blanks_scanned rest (at + 1 + 1 + 1) h)

record EndWord (line : List ℕ) : Type 0 where
  rest : List ℕ
  are : line ≡ 101 ∷ 110 ∷ 100 ∷ rest
  blank : list_all is_blank rest ≡ true

end_word : (line : List ℕ) → is_end_word line ≡ true → EndWord line
end_word line h =
    let k = and_parts (starts_with nat_eq line (codes "end")) (list_all is_blank (drop 3 line)) h in
    record {
      rest = drop 3 line;
      are = sym (take-append-drop 3 line) ∙ ap (λ l. l ++ drop 3 line) (sym (same_text (codes "end") (take 3 line) (sym k.0)));
      blank = k.1;
    }

pub end_scanned : (line : List ℕ) (at : ℕ) → is_end line ≡ true → (t : Scanned) × (t.lexeme ≡ Fixed mark.End) × (scanned_from 0 at line ≡ Ok (t ∷ []))
unfolding scanned_from
end_scanned [] at h = cc
end_scanned (b ∷ line) at h = go (is_blank b) refl h (λ k. end_scanned line (at + 1) k)
  where
    go : (v : Bool) → is_blank b ≡ v → (if v then is_end line else is_end_word (b ∷ line)) ≡ true →
        (is_end line ≡ true → (t : Scanned) × (t.lexeme ≡ Fixed mark.End) × (scanned_from 0 (at + 1) line ≡ Ok (t ∷ []))) →
        (t : Scanned) × (t.lexeme ≡ Fixed mark.End) × (scanned_from 0 at (b ∷ line) ≡ Ok (t ∷ []))
    go true e k more =
        let rest = more k in (
          rest.0,
          rest.1,
          ap (λ v. if v then scanned_from 0 (at + 1) line else found at (lexeme_of (b ∷ line)) (λ more. scanned_from more (at + 1) line)) (blank_space b e) ∙ rest.2,
        )
    go false e k more =
        let w = end_word (b ∷ line) k in
        (record { lexeme = Fixed mark.End; offset = at }, refl, ap (scanned_from 0 at) w.are ∙ word_scanned w.rest at w.blank)

-- ---- both texts
record Both (a b : Result (List Scanned) ℕ) (all : List Scanned) : Type 0 where
  first : List Scanned
  second : List Scanned
  first_are : a ≡ Ok first
  second_are : b ≡ Ok second
  are : all ≡ first ++ second

split : (a b : Result (List Scanned) ℕ) (all : List Scanned) → and_then a b ≡ Ok all → Both a b all
split (Ok ts) (Ok us) all e = record { first = ts; second = us; first_are = refl; second_are = refl; are = let h : ts ++ us ≡ all = cc in sym h }
split (Ok ts) (Err at) all e = absurd (cc)
split (Err at) b all e = absurd (cc)

same_ok : (x : Result (List Scanned) ℕ) (a b : List Scanned) → x ≡ Ok a → x ≡ Ok b → a ≡ b
same_ok x a b p q = cc

ends_class : (v : Version) (names : List (List ℕ)) (t : Scanned) → EndsLexeme t.lexeme → EndsDeclarations (token_in names (scanned_in v t))
ends_class v names t (inl e) = inl (ap (λ l. class_of (kind_in names (lexeme_in v l))) e)
ends_class v names t (inr (inl e)) = inr (inl (ap (λ l. class_of (kind_in names (lexeme_in v l))) e))
ends_class v names t (inr (inr e)) = inr (inr (ap (λ l. class_of (kind_in names (lexeme_in v l))) e))

pub nothing_more : (ts : List Scanned) (at : ℕ) → and_then (Ok ts) (scanned_from 0 at []) ≡ Ok ts
unfolding scanned_from
nothing_more ts at = ap Ok (append-nil ts)

-- tokens before they are as their version has them
pub record Versioned (x : Result (List Scanned) ℕ) (all : List Scanned) : Type 0 where
  pub words : List Scanned
  pub words_are : x ≡ Ok words
  pub are : all ≡ in_version words

pub versioned : (x : Result (List Scanned) ℕ) (all : List Scanned) → result_map_both in_version (λ at. at) x ≡ Ok all → Versioned x all
versioned (Ok ts) all e = record { words = ts; words_are = refl; are = let h : in_version ts ≡ all = cc in sym h }
versioned (Err at) all e = absurd (cc)

-- two tokens tell the version, whatever comes behind them
pub version_same : (ts us vs : List Scanned) → 2 ≤ length ts → version_of (ts ++ us) ≡ version_of (ts ++ vs)
version_same [] us vs le = absurd (omega arith)
version_same (t ∷ []) us vs le = absurd (omega arith)
version_same (t ∷ (u ∷ ts)) us vs le = refl

-- the workload that these tokens are
abbrev Spelled : s.Workload → List Scanned → Type 0
Spelled w ts = IsWorkload (version_of ts) (names_of ts) w (tokens_in (names_of ts) ts)

enough : (w : s.Workload) (kept : List Scanned) (last : Scanned) → Spelled w (kept ++ last ∷ []) → 2 ≤ length kept
enough w kept last h =
    let ts = kept ++ last ∷ [] in
    omega (
      arith,
      three_tokens (version_of ts) (names_of ts) w (tokens_in (names_of ts) ts) h,
      length-map ts (token_in (names_of ts)),
      length-append kept (last ∷ []),
    )

-- texts with the same tokens up to the last one of the one, which end the declarations there
tokens_stand : (kept : List Scanned) (last first : Scanned) (others : List Scanned) (a b : s.Workload) → Spelled a (kept ++ last ∷ []) → Spelled b (kept ++ first ∷ others) →
    ((names : List (List ℕ)) → EndsDeclarations (token_in names first)) → SameDeclarations a b
tokens_stand kept last first others a b one two ends =
    let head = kept ++ last ∷ [] in
    let batch = kept ++ first ∷ others in
    let same = version_same kept (first ∷ others) (last ∷ []) (enough a kept last one) in
    declarations_stand (version_of head) (names_of head) (names_of batch) a b (tokens_in (names_of kept) kept) (token_in (names_of head) last)
    (token_in (names_of batch) first) (tokens_in (names_of batch) others)
    (subst (IsWorkload (version_of head) (names_of head) a) (whole_tokens kept (last ∷ [])) one)
    (ends (names_of batch))
    (subst (λ (v : Version). IsWorkload v (names_of batch) b (tokens_in (names_of kept) kept ++ token_in (names_of batch) first ∷ tokens_in (names_of batch) others)) same
    (subst (IsWorkload (version_of batch) (names_of batch) b) (whole_tokens kept (first ∷ others)) two))

-- as their versions have them, which are one
words_stand : (kept : List Scanned) (last first : Scanned) (others : List Scanned) (a b : s.Workload) (ats bts : List Scanned) → ats ≡ in_version (kept ++ last ∷ []) →
    bts ≡ in_version (kept ++ first ∷ others) → Spelled a ats → Spelled b bts → EndsLexeme first.lexeme → SameDeclarations a b
words_stand kept last first others a b ats bts ats_are bts_are one two ends =
    let v = version_of (kept ++ last ∷ []) in
    let front = map (scanned_in v) kept in
    let head_is : ats ≡ front ++ scanned_in v last ∷ [] = ats_are ∙ map-append (scanned_in v) kept (last ∷ []) in
    let many : 2 ≤ length front = enough a front (scanned_in v last) (subst (Spelled a) head_is one) in
    let enough_words : 2 ≤ length kept = omega (arith, many, length-map kept (scanned_in v)) in
    let batch_is : bts ≡ front ++ scanned_in v first ∷ map (scanned_in v) others =
    bts_are ∙ ap (λ u. map (scanned_in u) (kept ++ first ∷ others)) (version_same kept (first ∷ others) (last ∷ []) enough_words) ∙ map-append (scanned_in v) kept (first ∷ others) in
    tokens_stand front (scanned_in v last) (scanned_in v first) (map (scanned_in v) others) a b (subst (Spelled a) head_is one) (subst (Spelled b) batch_is two)
    (λ names. ends_class v names first ends)

pub texts_stand : TextsStand
texts_stand lines line frame a b first others head ends begins word batch =
    let size : ℕ = length (whole_lines lines) in
    let head_words = versioned (unversioned (whole_lines lines ++ (line ++ newline ∷ []))) head.scanned head.lexemes in
    let batch_words = versioned (unversioned (whole_lines lines ++ frame)) batch.scanned batch.lexemes in
    let one = split (scanned_from 0 0 (whole_lines lines)) (scanned_from 0 (0 + size) (line ++ newline ∷ [])) head_words.words
    (sym (scan_lines lines (line ++ newline ∷ []) 0) ∙ head_words.words_are) in
    let two = split (scanned_from 0 0 (whole_lines lines)) (scanned_from 0 (0 + size) frame) batch_words.words (sym (scan_lines lines frame 0) ∙ batch_words.words_are) in
    let start : two.first ≡ one.first = same_ok (scanned_from 0 0 (whole_lines lines)) two.first one.first two.first_are one.first_are in
    let end = end_scanned line (0 + size) ends in
    let last : one.second ≡ end.0 ∷ [] = same_ok (scanned_from 0 (0 + size) (line ++ newline ∷ [])) one.second (end.0 ∷ []) one.second_are
    (scan_line line [] 0 (0 + size) (omega arith) ∙ ap (λ r. and_then r (scanned_from 0 (0 + size + (length line + 1)) [])) end.2 ∙ nothing_more (end.0 ∷ []) (0 + size + (length line + 1))) in
    let at_zero : size ≡ 0 + size = omega arith in
    let behind : two.second ≡ first ∷ others = same_ok (scanned_from 0 (0 + size) frame) two.second (first ∷ others) two.second_are (ap (λ n. scanned_from 0 n frame) (sym at_zero) ∙ begins) in
    words_stand one.first end.0 first others a b head.scanned batch.scanned
    (head_words.are ∙ ap in_version (one.are ∙ ap (λ l. one.first ++ l) last))
    (batch_words.are ∙ ap in_version (two.are ∙ ap₂ (λ a b. a ++ b) start behind))
    head.spells batch.spells word
