use Rattle.std.proofs.Common.{◌≡◌, ◌++◌, List, ℕ, length, map, sym, ap, ◌∙◌}
use Rattle.std.specs.Prelude.{codes}
use Rattle.std.proofs.lemmas.List.{length-map}
use Rattle.homeo_syntax.specs.SourceView.{plain_workload}
use Rattle.homeo_history.specs.Key.{definitions as history_definitions}
use Rattle.homeo_history.specs.Legal.{calls_of}
use Rattle.homeo_history.specs.HistoryView.{plain_round}
use Rattle.homeo_report.specs.Key.{definitions}
use Rattle.homeo_print.specs.Names.{object_names}
use Rattle.homeo_report.specs.Report.{rounds_text, object_lines, totals_line}
use Rattle.homeo_report.proofs.rounds.report_of.Goals as goal

pub push_objects-requires : goal.push_objects-requires
unfolding history_definitions
push_objects-requires c = ap length c.as_slice.ensures ∙ c.requires.values ∙ ap length (sym c.in_ok-names.ensures)

assembled : (rounds heading objects totals a b d : List ℕ) → a ≡ rounds → b ≡ a ++ heading → d ≡ b ++ objects → d ++ totals ≡ rounds ++ heading ++ objects ++ totals
assembled rounds heading objects totals a b d first second third =
    ap (λ l. l ++ totals) (third ∙ ap (λ l. l ++ objects) (second ∙ ap (λ l. l ++ heading) first))

pub returns : goal.returns
unfolding definitions history_definitions
returns c =
    let w = plain_workload c.args.w.now in
    let rounds = c.args.history.now.rounds.items in
    let calls = c.in_ok-totals.ensures.calls ∙ ap (λ rs. length (calls_of (map plain_round rs))) c.as_slice-rounds.ensures in
    let count : length c.as_slice-rounds.result.now ≡ length (map plain_round rounds) = ap length c.as_slice-rounds.ensures ∙ sym (length-map rounds plain_round) in
    c.in_ok-push_totals.ensures
    ∙ ap (λ n. c.push_objects.new.out.items ++ totals_line n c.in_ok-totals.totals.calls) count
    ∙ ap (λ n. c.push_objects.new.out.items ++ totals_line (length (map plain_round rounds)) n) calls
    ∙ assembled (rounds_text w (map plain_round rounds)) (codes "database\n") (object_lines (object_names w) c.args.history.now.last.items)
    (totals_line (length (map plain_round rounds)) (length (calls_of (map plain_round rounds)))) c.push_rounds.new.out.items c.push_bytes.new.out.items c.push_objects.new.out.items
    (c.in_ok-push_rounds.ensures ∙ ap (λ l. l ++ rounds_text w (map plain_round c.as_slice-rounds.result.now)) c.in_ok-out.ensures.items
    ∙ ap (λ rs. rounds_text w (map plain_round rs)) c.as_slice-rounds.ensures)
    c.in_ok-push_bytes.ensures
    (c.in_ok-push_objects.ensures ∙ ap (λ names. c.push_bytes.new.out.items ++ object_lines names c.as_slice.result.now) c.in_ok-names.ensures
    ∙ ap (λ vs. c.push_bytes.new.out.items ++ object_lines (object_names w) vs) c.as_slice.ensures)
