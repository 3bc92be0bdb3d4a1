-- Two reports with the same bytes are of rounds with the same lines.
use Rattle.std.proofs.Common.{◌≡◌, ℕ, List, [], ◌∷◌, ◌++◌, map, length, flat_map, Option, Some, None, is_some, codes, append_assoc, refl, sym, ap, ap₂, ◌∙◌}
use Rattle.std.specs.Prelude.{All, option_map}
use Rattle.std.specs.Option.{option_to_list}
use Rattle.std.proofs.lemmas.List.{map-append, length-map}
use Rattle.homeo_lemmas.proofs.Lists.{cons_head, cons_tail, not_nil}
use Rattle.homeo_syntax.specs.Source as s
use Rattle.homeo_history.specs.Key.{definitions as history_definitions}
use Rattle.homeo_history.specs.History as h
use Rattle.homeo_history.specs.Legal.{entries_of, calls_of}
use Rattle.homeo_print.specs.Names.{object_names}
use Rattle.homeo_report.specs.Key.{definitions}
use Rattle.homeo_report.specs.Report.{client_text, object_lines, totals_line}
use Rattle.homeo_history.specs.History.{Closing, Round, History}
use Rattle.homeo_report.specs.Report.{report}
use Rattle.homeo_report.proofs.Bytes.{join, lines_same}
use Rattle.homeo_report.proofs.Blocks.{Block, blocks_same}
use Rattle.homeo_report.proofs.Lines.{HasPlainNames, entry_words, round_words, site_words, is_entry, has_space, is_close, no_entry_round, no_entry_site, no_close_round, client_read}
use Rattle.homeo_report.proofs.Texts.{closing_pair, block, lines_of, rounds_text_join, lines_are_lines, lines_have_spaces, are_blocks}
use Rattle.homeo_history.proofs.Choices.{flat}
use Rattle.homeo_history.proofs.Runs.{call_list}
use Rattle.homeo_history.proofs.RoundsTold.{Shape, shape}

-- ---- from bytes to rounds
-- what follows the line of the database
abbrev tail_of : s.Workload → History → List ℕ
tail_of w h =
    object_lines (object_names w) h.last ++ totals_line (length h.rounds) (length (calls_of h.rounds))

report_split : (w : s.Workload) (h : History) → report w h ≡ join (lines_of w 0 h.rounds) ++ (codes "database" ++ 10 ∷ tail_of w h)
unfolding definitions
report_split w h =
    let front : List ℕ = join (lines_of w 0 h.rounds) in
    let objects : List ℕ = object_lines (object_names w) h.last in
    let totals : List ℕ = totals_line (length h.rounds) (length (calls_of h.rounds)) in
    ap (λ t. t ++ codes "database\n" ++ objects ++ totals) (rounds_text_join w h.rounds)
    ∙ ap (λ t. t ++ totals) (append_assoc front (codes "database\n") objects)
    ∙ append_assoc front (codes "database\n" ++ objects) totals

pub blocks_told : (w : s.Workload) → HasPlainNames w → (k : ℕ) (h g : History) → All (λ (r : Round). length r.segments ≡ k) h.rounds → All (λ (r : Round). length r.segments ≡ k) g.rounds → report w h ≡ report w g → map (block w) h.rounds ≡ map (block w) g.rounds
blocks_told w names k h g hk gk e =
    let lines : lines_of w 0 h.rounds ≡ lines_of w 0 g.rounds =
    lines_same has_space (codes "database") (codes "database") (tail_of w h) (tail_of w g) refl refl refl refl (lines_of w 0 h.rounds) (lines_of w 0 g.rounds)
    (lines_are_lines w names h.rounds) (lines_are_lines w names g.rounds) (lines_have_spaces w h.rounds) (lines_have_spaces w g.rounds)
    (sym (report_split w h) ∙ e ∙ report_split w g) in
    blocks_same round_words site_words is_entry is_close no_entry_round no_entry_site no_close_round k 0 (map (block w) h.rounds) (map (block w) g.rounds) (are_blocks w names k h.rounds hk) (are_blocks w names k g.rounds gk) lines

-- ---- shapes
block_shape : Block → Shape
block_shape b = record { sizes = map length b.segments; closed = is_some b.closing }

sizes_kept : (w : s.Workload) (segments : List (List h.Entry)) → map length segments ≡ map length (map (map (entry_words w)) segments)
sizes_kept w [] = refl
sizes_kept w (s ∷ segments) = λ i. sym (length-map s (entry_words w)) i ∷ sizes_kept w segments i

closed_kept : (w : s.Workload) (c : Option Closing) → is_some c ≡ is_some (option_map (closing_pair w) c)
closed_kept w None = refl
closed_kept w (Some c) = refl

shape_kept : (w : s.Workload) (r : Round) → shape r ≡ block_shape (block w r)
unfolding definitions block_shape
shape_kept w r = λ i. record { sizes = sizes_kept w r.segments i; closed = closed_kept w r.closing i }

shapes_kept : (w : s.Workload) (rounds : List Round) → map shape (rounds) ≡ map block_shape (map (block w) rounds)
shapes_kept w [] = refl
shapes_kept w (r ∷ rounds) = λ i. shape_kept w r i ∷ shapes_kept w rounds i

pub shapes_told : (w : s.Workload) (rs ks : List Round) → map (block w) rs ≡ map (block w) ks → map shape (rs) ≡ map shape (ks)
shapes_told w rs ks e = shapes_kept w rs ∙ ap (map block_shape) e ∙ sym (shapes_kept w ks)

-- ---- entries
block_entries : Block → List (List ℕ)
block_entries b = flat_map (λ l. l) b.segments ++ option_to_list (option_map (λ c. c.1) b.closing)

flat_kept : (w : s.Workload) (segments : List (List h.Entry)) → map (entry_words w) (flat segments) ≡ flat_map (λ l. l) (map (map (entry_words w)) segments)
flat_kept w [] = refl
flat_kept w (s ∷ segments) = map-append (entry_words w) s (flat segments) ∙ ap (λ l. map (entry_words w) s ++ l) (flat_kept w segments)

closing_kept : (w : s.Workload) (c : Option Closing) → map (entry_words w) (option_to_list (option_map (λ (c : h.Closing). c.entry) (c))) ≡ option_to_list (option_map (λ c. c.1) (option_map (closing_pair w) c))
unfolding definitions
closing_kept w None = refl
closing_kept w (Some c) = refl

entries_kept : (w : s.Workload) (rounds : List Round) → map (entry_words w) (flat_map entries_of rounds) ≡ flat_map block_entries (map (block w) rounds)
unfolding definitions history_definitions block_entries
entries_kept w [] = refl
entries_kept w (r ∷ rounds) =
    let last : List h.Entry = option_to_list (option_map (λ (c : h.Closing). c.entry) r.closing) in
    map-append (entry_words w) (flat r.segments ++ last) (flat_map entries_of rounds)
    ∙ ap₂ ◌++◌ (map-append (entry_words w) (flat r.segments) last ∙ ap₂ ◌++◌ (flat_kept w r.segments) (closing_kept w r.closing)) (entries_kept w rounds)

clients_read : (w : s.Workload) → HasPlainNames w → (xs ys : List h.Entry) → map (entry_words w) xs ≡ map (entry_words w) ys → map (client_text w) (call_list xs) ≡ map (client_text w) (call_list ys)
clients_read w names [] [] e = refl
clients_read w names [] (y ∷ ys) e = absurd (not_nil _ _ (sym e))
clients_read w names (x ∷ xs) [] e = absurd (not_nil _ _ e)
clients_read w names (x ∷ xs) (y ∷ ys) e =
    let here : client_text w x.call ≡ client_text w y.call = client_read w names x y (cons_head (entry_words w x) (entry_words w y) (map (entry_words w) xs) (map (entry_words w) ys) e) in
    let rest : map (client_text w) (call_list xs) ≡ map (client_text w) (call_list ys) = clients_read w names xs ys (cons_tail (entry_words w x) (entry_words w y) (map (entry_words w) xs) (map (entry_words w) ys) e) in
    λ i. here i ∷ rest i

pub clients_told : (w : s.Workload) → HasPlainNames w → (rs ks : List Round) → map (block w) rs ≡ map (block w) ks → map (client_text w) (calls_of rs) ≡ map (client_text w) (calls_of ks)
unfolding history_definitions
clients_told w names rs ks e =
    clients_read w names (flat_map entries_of rs) (flat_map entries_of ks)
    (entries_kept w rs ∙ ap (flat_map block_entries) e ∙ sym (entries_kept w ks))
