-- The text of rounds as lines, one after another.
use Rattle.std.proofs.Common.{◌≡◌, ℕ, ◌+◌, Bool, true, List, [], ◌∷◌, ◌++◌, map, length, flat_map, Option, Some, None, append_assoc, append-nil, refl, sym, ap, ap₂, ◌∙◌}
use Rattle.std.specs.Prelude.{All, option_map}
use Rattle.std.specs.List.{list_all, enumerate_from}
use Rattle.std.proofs.lemmas.List.{length-map}
use Rattle.std.proofs.lemmas.List.Elements.{All-head, All-tail}
use Rattle.std.proofs.lemmas.List.Folds.{flat_map-map}
use Rattle.std.proofs.lemmas.Grind.{flat_map-append}
use Rattle.std.proofs.lemmas.Bool.{and_from}
use Rattle.homeo_syntax.specs.Source as s
use Rattle.homeo_history.specs.History.{Entry}
use Rattle.homeo_report.specs.Key.{definitions}
use Rattle.homeo_print.specs.Key.{definitions as print_definitions}
use Rattle.homeo_report.specs.Report.{entries_text, segment_text, segments_text}
use Rattle.homeo_history.specs.History.{Closing, Round}
use Rattle.homeo_plan.specs.declared.treaty.Broken.{Broken}
use Rattle.homeo_report.specs.Report.{closing_text, round_text, rounds_text}
use Rattle.homeo_report.proofs.Splits.{all_append}
use Rattle.homeo_report.proofs.Bytes.{is_not, AreLines, join}
use Rattle.homeo_report.proofs.Blocks.{Block, segments_lines, closing_lines, blocks_lines, AreEntries, IsClosing, AreBlocks}
use Rattle.homeo_report.proofs.Lines.{HasPlainNames, entry_words, closing_words, round_words, site_words, is_entry, has_space, is_close, entry_is_line, entry_is_entry, entry_has_space, round_is_line, site_is_line, round_has_space, site_has_space, closing_is_line, no_entry_closing, closing_has_space, closing_is_close}

-- ---- a round as its lines
abbrev pub closing_pair : s.Workload → Closing → List ℕ × List ℕ
closing_pair w c = (closing_words c.site c.broken, entry_words w c.entry)

abbrev pub block : s.Workload → Round → Block
block w r = record { segments = map (map (entry_words w)) r.segments; closing = option_map (closing_pair w) r.closing }

abbrev pub lines_of : s.Workload → ℕ → List Round → List (List ℕ)
lines_of w n rounds = blocks_lines round_words site_words n (map (block w) rounds)

-- ---- the text
join_append : (a b : List (List ℕ)) → join (a ++ b) ≡ join a ++ join b
join_append a b = flat_map-append (λ (l : List ℕ). l ++ 10 ∷ []) a b

entries_join : (w : s.Workload) (entries : List Entry) → entries_text w entries ≡ join (map (entry_words w) entries)
unfolding definitions print_definitions
entries_join w entries = sym (flat_map-map (λ (l : List ℕ). l ++ 10 ∷ []) (entry_words w) entries)

segments_join : (w : s.Workload) (i : ℕ) (segments : List (List Entry)) → flat_map (λ (s : ℕ × List Entry). segment_text w s.0 s.1) (enumerate_from i segments) ≡ join (segments_lines site_words i (map (map (entry_words w)) segments))
unfolding definitions print_definitions
segments_join w i [] = refl
segments_join w i (s ∷ segments) =
    let rest : List ℕ = flat_map (λ (s : ℕ × List Entry). segment_text w s.0 s.1) (enumerate_from (i + 1) segments) in
    let lines : List (List ℕ) = map (entry_words w) s in
    let more : List (List ℕ) = segments_lines site_words (i + 1) (map (map (entry_words w)) segments) in
    append_assoc (site_words i ++ 10 ∷ []) (entries_text w s) rest
    ∙ ap (λ t. (site_words i ++ 10 ∷ []) ++ t) (ap₂ ◌++◌ (entries_join w s) (segments_join w (i + 1) segments) ∙ sym (join_append lines more))

closing_join : (w : s.Workload) (c : Option Closing) → closing_text w c ≡ join (closing_lines (option_map (closing_pair w) c))
unfolding definitions print_definitions
closing_join w None = refl
closing_join w (Some c) = ap (λ t. (closing_words c.site c.broken ++ 10 ∷ []) ++ t) (sym (append-nil (entry_words w c.entry ++ 10 ∷ [])))

rounds_join : (w : s.Workload) (n : ℕ) (rounds : List Round) → flat_map (λ (r : ℕ × Round). round_text w r.0 r.1) (enumerate_from n rounds) ≡ join (lines_of w n rounds)
unfolding definitions print_definitions
rounds_join w n [] = refl
rounds_join w n (r ∷ rounds) =
    let rest : List ℕ = flat_map (λ (r : ℕ × Round). round_text w r.0 r.1) (enumerate_from (n + 1) rounds) in
    let head : List ℕ = round_words n ++ 10 ∷ [] in
    let segments : List (List ℕ) = segments_lines site_words 0 (map (map (entry_words w)) r.segments) in
    let closing : List (List ℕ) = closing_lines (option_map (closing_pair w) r.closing) in
    let more : List (List ℕ) = lines_of w (n + 1) rounds in
    let inner : closing_text w r.closing ++ rest ≡ join (closing ++ more) = ap₂ ◌++◌ (closing_join w r.closing) (rounds_join w (n + 1) rounds) ∙ sym (join_append closing more) in
    append_assoc (head ++ segments_text w r.segments) (closing_text w r.closing) rest
    ∙ append_assoc head (segments_text w r.segments) (closing_text w r.closing ++ rest)
    ∙ ap (λ t. head ++ t) (ap₂ ◌++◌ (segments_join w 0 r.segments) inner ∙ sym (join_append segments (closing ++ more)))

pub rounds_text_join : (w : s.Workload) (rounds : List Round) → rounds_text w rounds ≡ join (lines_of w 0 rounds)
unfolding definitions print_definitions
rounds_text_join w rounds = rounds_join w 0 rounds

-- ---- what all lines pass
module _ (w : s.Workload) (p : List ℕ → Bool) (entry : (e : Entry) → p (entry_words w e) ≡ true) where
  entries_pass : (entries : List Entry) → list_all p (map (entry_words w) entries) ≡ true
  entries_pass [] = refl
  entries_pass (e ∷ entries) = and_from (p (entry_words w e)) (list_all p (map (entry_words w) entries)) (entry e) (entries_pass entries)

module _ (w : s.Workload) (p : List ℕ → Bool) (entry : (e : Entry) → p (entry_words w e) ≡ true) (round : (n : ℕ) → p (round_words n) ≡ true) (site : (i : ℕ) → p (site_words i) ≡ true) (close : (i : ℕ) (f : Broken) → p (closing_words i f) ≡ true) where
  segments_pass : (i : ℕ) (segments : List (List Entry)) → list_all p (segments_lines site_words i (map (map (entry_words w)) segments)) ≡ true
  segments_pass i [] = refl
  segments_pass i (s ∷ segments) =
      let more : List (List ℕ) = segments_lines site_words (i + 1) (map (map (entry_words w)) segments) in
      and_from (p (site_words i)) _ (site i) (all_append p (map (entry_words w) s) more (entries_pass w p entry s) (segments_pass (i + 1) segments))

  closing_pass : (c : Option Closing) → list_all p (closing_lines (option_map (closing_pair w) c)) ≡ true
  closing_pass None = refl
  closing_pass (Some c) = and_from (p (closing_words c.site c.broken)) _ (close c.site c.broken) (and_from (p (entry_words w c.entry)) true (entry c.entry) refl)

  pub lines_pass : (n : ℕ) (rounds : List Round) → list_all p (lines_of w n rounds) ≡ true
  lines_pass n [] = refl
  lines_pass n (r ∷ rounds) =
      let segments : List (List ℕ) = segments_lines site_words 0 (map (map (entry_words w)) r.segments) in
      let closing : List (List ℕ) = closing_lines (option_map (closing_pair w) r.closing) in
      let more : List (List ℕ) = lines_of w (n + 1) rounds in
      and_from (p (round_words n)) _ (round n) (all_append p segments (closing ++ more) (segments_pass 0 r.segments) (all_append p closing more (closing_pass r.closing) (lines_pass (n + 1) rounds)))

pub lines_are_lines : (w : s.Workload) → HasPlainNames w → (rounds : List Round) → AreLines (lines_of w 0 rounds)
lines_are_lines w names rounds = lines_pass w (λ l. list_all (is_not 10) l) (entry_is_line w names) round_is_line site_is_line closing_is_line 0 rounds

pub lines_have_spaces : (w : s.Workload) (rounds : List Round) → list_all has_space (lines_of w 0 rounds) ≡ true
lines_have_spaces w rounds = lines_pass w has_space (entry_has_space w) round_has_space site_has_space closing_has_space 0 rounds

-- ---- the lines of rounds of k sites are blocks
module _ (w : s.Workload) (names : HasPlainNames w) where
  segments_are : (segments : List (List Entry)) → AreEntries is_entry (map (map (entry_words w)) segments)
  segments_are [] = tt
  segments_are (s ∷ segments) = (entries_pass w is_entry (entry_is_entry w names) s, segments_are segments)

  closing_is : (c : Option Closing) → IsClosing is_entry is_close (option_map (closing_pair w) c)
  closing_is None = tt
  closing_is (Some c) = (closing_is_close c.site c.broken, no_entry_closing c.site c.broken)

  pub are_blocks : (k : ℕ) (rounds : List Round) → All (λ (r : Round). length r.segments ≡ k) rounds → AreBlocks is_entry is_close k (map (block w) rounds)
  are_blocks k [] h = tt
  are_blocks k (r ∷ rounds) h = (
    record {
      sites = length-map r.segments (map (entry_words w)) ∙ All-head (λ (r : Round). length r.segments ≡ k) r rounds h;
      entries = segments_are r.segments;
      closing = closing_is r.closing;
    },
    are_blocks k rounds (All-tail (λ (r : Round). length r.segments ≡ k) r rounds h),
  )
