-- The text of entries, segments and rounds, one after another.
use Rattle.std.proofs.Common.{◌≡◌, ℕ, ◌+◌, ◌<◌, List, [], ◌∷◌, ◌++◌, map, length, take, get_or, append-nil, ap, ◌∙◌}
use Rattle.std.specs.List.{flat_map}
use Rattle.std.proofs.lemmas.Grind.{flat_map-append}
use Rattle.homeo_lemmas.proofs.Lists.{map_take_more}
use Rattle.homeo_syntax.specs.Source as s
use Rattle.homeo_history.specs.HistoryView.{plain_entry, plain_segment, plain_round}
use Rattle.homeo_history.specs.declared.history.Entry.{Entry}
use Rattle.homeo_history.specs.declared.history.Segment.{Segment}
use Rattle.homeo_history.specs.declared.history.Round.{Round}
use Rattle.homeo_print.proofs.OneMore.{numbered_more}
use Rattle.homeo_report.specs.Key.{definitions}
use Rattle.homeo_report.specs.Report.{entry_line, entries_text, segment_text, segments_text, round_text, rounds_text}

pub entries_more : (w : s.Workload) (entries : List Entry) (i : ℕ) (e : Entry) → i < length entries → e ≡ get_or entries i e → entries_text w (map plain_entry (take (i + 1) entries)) ≡ entries_text w (map plain_entry (take i entries)) ++ entry_line w (plain_entry e)
unfolding definitions
entries_more w entries i e within is =
    ap (flat_map (entry_line w)) (map_take_more plain_entry entries i e within is)
    ∙ flat_map-append (entry_line w) (map plain_entry (take i entries)) (plain_entry e ∷ [])
    ∙ ap (λ l. flat_map (entry_line w) (map plain_entry (take i entries)) ++ l) (append-nil (entry_line w (plain_entry e)))

pub segments_more : (w : s.Workload) (segments : List Segment) (i : ℕ) (s : Segment) → i < length segments → s ≡ get_or segments i s → segments_text w (map plain_segment (take (i + 1) segments)) ≡ segments_text w (map plain_segment (take i segments)) ++ segment_text w i (plain_segment s)
unfolding definitions
segments_more w segments i s within is = numbered_more (segment_text w) plain_segment segments i s within is

pub rounds_more : (w : s.Workload) (rounds : List Round) (i : ℕ) (r : Round) → i < length rounds → r ≡ get_or rounds i r → rounds_text w (map plain_round (take (i + 1) rounds)) ≡ rounds_text w (map plain_round (take i rounds)) ++ round_text w i (plain_round r)
unfolding definitions
rounds_more w rounds i r within is = numbered_more (round_text w) plain_round rounds i r within is

pub ruleset round_steps = (entries_more, segments_more, rounds_more)
