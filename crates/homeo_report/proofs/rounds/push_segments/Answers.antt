use Rattle.std.proofs.Common.{◌++◌, map, take, append_assoc, sym, ap, ◌∙◌}
use Rattle.homeo_syntax.specs.SourceView.{plain_workload}
use Rattle.homeo_history.specs.Key.{definitions as history_definitions}
use Rattle.homeo_history.specs.HistoryView.{plain_entry, plain_segment}
use Rattle.homeo_report.specs.Report.{segment_text, segments_text}
use Rattle.homeo_report.proofs.RoundLines.{segments_more}
use Rattle.homeo_report.proofs.rounds.push_segments.Goals as goal

pub loop-site-preserved : goal.loop-site-preserved
unfolding history_definitions
loop-site-preserved c =
    let w = plain_workload c.args.w.now in
    let old = c.args.out.now.items in
    let segments = c.args.segments.now in
    let site = c.loop-site.site in
    let s = c.index-segments-site.result in
    let before = segments_text w (map plain_segment (take site segments)) in
    let own = segment_text w site (plain_segment s) in
    c.in_ok-push_segment.ensures
    ∙ ap (λ es. c.loop-site.out.items ++ segment_text w site (map plain_entry es)) c.as_slice.ensures
    ∙ ap (λ l. l ++ own) c.loop-site.invariant
    ∙ append_assoc old before own
    ∙ ap (λ l. old ++ l) (sym (segments_more w segments site s c.loop-site-test.true c.index-segments-site.is))
