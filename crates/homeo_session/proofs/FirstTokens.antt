-- The first tokens of batches.
use Rattle.std.proofs.Common.{◌≡◌, ◌∙◌, ℕ, suc, ◌+◌, ◌-◌, ◌≤◌, Bool, true, false, List, [], ◌∷◌, ◌++◌, length, drop, refl, sym, ap, subst, arith, inl, inr, true≢false}
use Rattle.std.proofs.lemmas.List.{append-nil, map-append, length-map}
use Rattle.std.specs.Prelude.{Option, Some, None, Result, Ok, Err, if◌then◌else◌, map}
use Rattle.std.specs.List.{prefix_len}
use Rattle.std.specs.Result.{result_map_both}
use Rattle.homeo_syntax.specs.declared.token.Mark.{Mark}
use Rattle.homeo_syntax.specs.declared.token.Mark.TheVariants as mark
use Rattle.homeo_syntax.specs.Lexemes.{Lexeme, Name, Number, Fixed, is_space, lexeme_of}
use Rattle.homeo_syntax.specs.Tokens.{Scanned, scanned_from, scanned_in, unversioned, version_of, in_version, found, in_front, names_of, token_in, tokens_in}
use Rattle.homeo_syntax.specs.Reads.{Reads}
use Rattle.homeo_syntax.specs.Rules.{IsWorkload}
use Rattle.homeo_syntax.specs.Source as s
use Rattle.homeo_reader.specs.Cut.{IsCutShort}
use Rattle.homeo_reader.specs.Lines.{newline, is_end, whole_lines}
use Rattle.homeo_reader.specs.Stands.{EndsLexeme}
use Rattle.homeo_reader.proofs.Cut.{cut_texts, clean_beginning}
use Rattle.homeo_reader.proofs.Declared.{three_tokens}
use Rattle.homeo_reader.proofs.Scans.{and_then, scan_line, scan_lines}
use Rattle.homeo_reader.proofs.Texts.{versioned, version_same, end_scanned, nothing_more}
use Rattle.homeo_reader.proofs.Unread.{unread}
use Rattle.homeo_session.specs.inner.Tokens.{ends_mark, ends_lexeme}

-- ---- tokens that a batch may begin with
mark_ends : (m : Mark) → ends_mark m ≡ true → EndsLexeme (Fixed m)
mark_ends mark.Client e = inl refl
mark_ends mark.Schedule e = inr (inl refl)
mark_ends mark.End e = inr (inr refl)
mark_ends _ e = absurd (true≢false (sym e))

pub right_token : (l : Lexeme) → ends_lexeme l ≡ true → EndsLexeme l
right_token (Name w) e = absurd (true≢false (sym e))
right_token (Number n) e = absurd (true≢false (sym e))
right_token (Fixed m) e = mark_ends m e

pub wrong_token : (l : Lexeme) → ends_lexeme l ≡ false → EndsLexeme l → ⊥
wrong_token l e (inl is) = true≢false (sym (ap ends_lexeme is) ∙ e)
wrong_token l e (inr (inl is)) = true≢false (sym (ap ends_lexeme is) ∙ e)
wrong_token l e (inr (inr is)) = true≢false (sym (ap ends_lexeme is) ∙ e)

-- ---- the first token of a frame begins at its first byte that is no space
-- it is the lexeme with which the rest begins, and stands so many bytes behind an offset
pub record Starts (rest : List ℕ) (n k : ℕ) (first : Scanned) : Type 0 where
  pub lexeme : Lexeme × ℕ
  pub found_there : lexeme_of rest ≡ Some lexeme
  pub is : first ≡ record { lexeme = lexeme.0; offset = n + k }

front_is : (t first : Scanned) (others : List Scanned) (r : Result (List Scanned) ℕ) → in_front t r ≡ Ok (first ∷ others) → first ≡ t
front_is t first others (Ok ts) e = cc
front_is t first others (Err at) e = absurd (cc)

none_there : (first : Scanned) (others : List Scanned) → (let r : Result (List Scanned) ℕ = Ok [] in r) ≡ Ok (first ∷ others) → ⊥
none_there first others e = cc

not_found : (at : ℕ) (first : Scanned) (others : List Scanned) → (let r : Result (List Scanned) ℕ = Err at in r) ≡ Ok (first ∷ others) → ⊥
not_found at first others e = cc

-- behind one space more
behind_space : (b : ℕ) (frame : List ℕ) (n k m : ℕ) (first : Scanned) → m ≡ 1 + k → Starts (drop k frame) (n + 1) k first → Starts (drop m (b ∷ frame)) n m first
behind_space b frame n k m first e h =
    let same : m ≡ suc k = omega (arith, e) in
    let offset : (n + 1) + k ≡ n + m = omega (arith, e) in
    record {
      lexeme = h.lexeme;
      found_there = ap (λ i. lexeme_of (drop i (b ∷ frame))) same ∙ h.found_there;
      is = h.is ∙ ap (λ i. let t : Scanned = record { lexeme = h.lexeme.0; offset = i } in t) offset;
    }

pub first_here :
    (frame : List ℕ) (n : ℕ) (first : Scanned) (others : List Scanned) → scanned_from 0 n frame ≡ Ok (first ∷ others) →
    Starts (drop (prefix_len is_space frame) frame) n (prefix_len is_space frame) first
unfolding scanned_from
first_here [] n first others e = absurd (none_there first others e)
first_here (b ∷ frame) n first others e = go (is_space b) (lexeme_of (b ∷ frame)) refl e (first_here frame (n + 1) first others)
  where
    go :
        (v : Bool) (o : Option (Lexeme × ℕ)) → lexeme_of (b ∷ frame) ≡ o →
        (if v then scanned_from 0 (n + 1) frame else found n o (λ more. scanned_from more (n + 1) frame)) ≡ Ok (first ∷ others) →
        (scanned_from 0 (n + 1) frame ≡ Ok (first ∷ others) → Starts (drop (prefix_len is_space frame) frame) (n + 1) (prefix_len is_space frame) first) →
        Starts (drop (if v then 1 + prefix_len is_space frame else 0) (b ∷ frame)) n (if v then 1 + prefix_len is_space frame else 0) first
    go true o l h more = behind_space b frame n (prefix_len is_space frame) (1 + prefix_len is_space frame) first refl (more h)
    go false None l h more = absurd (not_found n first others h)
    go false (Some x) l h more =
        let offset : n ≡ n + 0 = omega arith in
        record {
          lexeme = x;
          found_there = l;
          is = front_is (record { lexeme = x.0; offset = n }) first others (scanned_from (x.1 - 1) (n + 1) frame) h
              ∙ ap (λ i. let t : Scanned = record { lexeme = x.0; offset = i } in t) offset;
        }

-- ---- a batch has a token
record HasParts (a b : Result (List Scanned) ℕ) (all : List Scanned) : Type 0 where
  before : List Scanned
  others : List Scanned
  first : a ≡ Ok before
  second : b ≡ Ok others
  are : all ≡ before ++ others

ok_one : (xs ys : List Scanned) → (let a : Result (List Scanned) ℕ = Ok xs in a) ≡ Ok ys → xs ≡ ys
ok_one xs ys e = cc

not_ok : (n : ℕ) (ys : List Scanned) → (let a : Result (List Scanned) ℕ = Err n in a) ≡ Ok ys → ⊥
not_ok n ys e = cc

parts : (a b : Result (List Scanned) ℕ) (all : List Scanned) → and_then a b ≡ Ok all → HasParts a b all
parts (Ok xs) (Ok ys) all e = record { before = xs; others = ys; first = refl; second = refl; are = sym (ok_one (xs ++ ys) all e) }
parts (Ok xs) (Err n) all e = absurd (not_ok n all e)
parts (Err n) b all e = absurd (not_ok n all e)

from_zero :
    (lines : List (List ℕ)) (frame : List ℕ) →
    unversioned (whole_lines lines ++ frame) ≡ and_then (unversioned (whole_lines lines)) (scanned_from 0 (length (whole_lines lines)) frame)
from_zero lines frame =
    let same : 0 + length (whole_lines lines) ≡ length (whole_lines lines) = omega arith in
    scan_lines lines frame 0 ∙ ap (λ n. and_then (unversioned (whole_lines lines)) (scanned_from 0 n frame)) same

line_scanned : (line : List ℕ) (at : ℕ) → is_end line ≡ true → (t : Scanned) × (scanned_from 0 at (line ++ newline ∷ []) ≡ Ok (t ∷ []))
line_scanned line at ends =
    let end = end_scanned line at ends in
    (end.0, scan_line line [] 0 at (omega arith) ∙ ap (λ r. and_then r (scanned_from 0 (at + (length line + 1)) [])) end.2 ∙ nothing_more (end.0 ∷ []) (at + (length line + 1)))

abbrev versions : Result (List Scanned) ℕ → Result (List Scanned) ℕ
versions r = result_map_both in_version (λ at. at) r

-- lines that read as a workload without any frame
no_head :
    (lines : List (List ℕ)) (line frame : List ℕ) (v w : s.Workload) (before : List Scanned) →
    Reads (whole_lines lines ++ (line ++ newline ∷ [])) v → is_end line ≡ true → (batch : Reads (whole_lines lines ++ frame) w) →
    unversioned (whole_lines lines) ≡ Ok before → batch.scanned ≡ in_version before → ⊥
no_head lines line frame v w before head ends batch kept are =
    let end = line_scanned line (length (whole_lines lines)) ends in
    let ts = batch.scanned in
    let many = three_tokens (version_of ts) (names_of ts) w (tokens_in (names_of ts) ts) batch.spells in
    let enough : 2 ≤ length before = omega (arith, many, length-map ts (token_in (names_of ts)), ap length are, length-map before (scanned_in (version_of before))) in
    let all = before ++ end.0 ∷ [] in
    let same : version_of all ≡ version_of before = version_same before (end.0 ∷ []) [] enough ∙ ap version_of (append-nil before) in
    let whole : unversioned (whole_lines lines ++ (line ++ newline ∷ [])) ≡ Ok all =
    from_zero lines (line ++ newline ∷ [])
    ∙ ap (λ r. and_then r (scanned_from 0 (length (whole_lines lines)) (line ++ newline ∷ []))) kept
    ∙ ap (and_then (Ok before)) end.1 in
    let words : in_version all ≡ in_version before ++ scanned_in (version_of before) end.0 ∷ [] =
    ap (λ u. map (scanned_in u) all) same ∙ map-append (scanned_in (version_of before)) before (end.0 ∷ []) in
    let short : IsCutShort (whole_lines lines ++ (line ++ newline ∷ [])) (whole_lines lines) = record {
      rest = line ++ newline ∷ [];
      begins = refl;
      kept = in_version before;
      kept_are = ap versions kept;
      next = scanned_in (version_of before) end.0;
      others = [];
      all_are = ap versions whole ∙ ap Ok words;
    } in
    let reads : Reads (whole_lines lines) w = record {
      clean = clean_beginning (whole_lines lines) frame batch.clean;
      scanned = in_version before;
      lexemes = ap versions kept;
      spells = subst (λ (ts : List Scanned). IsWorkload (version_of ts) (names_of ts) w (tokens_in (names_of ts) ts)) are batch.spells;
    } in
    unread (whole_lines lines) (record { code = 4; offset = length (whole_lines lines) }) w (cut_texts (whole_lines lines ++ (line ++ newline ∷ [])) (whole_lines lines) v head short) reads

pub record HasToken (n : ℕ) (frame : List ℕ) : Type 0 where
  pub first : Scanned
  pub others : List Scanned
  pub begins : scanned_from 0 n frame ≡ Ok (first ∷ others)

pub token_there :
    (lines : List (List ℕ)) (line frame : List ℕ) (v w : s.Workload) →
    Reads (whole_lines lines ++ (line ++ newline ∷ [])) v → is_end line ≡ true → Reads (whole_lines lines ++ frame) w → HasToken (length (whole_lines lines)) frame
token_there lines line frame v w head ends batch =
    let words = versioned (unversioned (whole_lines lines ++ frame)) batch.scanned batch.lexemes in
    let p = parts (unversioned (whole_lines lines)) (scanned_from 0 (length (whole_lines lines)) frame) words.words (sym (from_zero lines frame) ∙ words.words_are) in
    go p.before p.others p.first p.second (words.are ∙ ap in_version p.are)
  where
    go :
        (before others : List Scanned) → unversioned (whole_lines lines) ≡ Ok before → scanned_from 0 (length (whole_lines lines)) frame ≡ Ok others →
        batch.scanned ≡ in_version (before ++ others) → HasToken (length (whole_lines lines)) frame
    go before [] kept none are = absurd (no_head lines line frame v w before head ends batch kept (are ∙ ap in_version (append-nil before)))
    go before (t ∷ ts) kept some are = record { first = t; others = ts; begins = some }
