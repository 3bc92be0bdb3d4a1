use Rattle.homeo_core.specs.Key.{definitions as core_definitions}
use Rattle.std.proofs.Common.{◌≡◌, [], ◌∷◌, ◌++◌, map, ap, sym, ◌∙◌}
use Rattle.std.proofs.lemmas.List.{map-append}
use Rattle.homeo_syntax.specs.Listed.{Listed}
use Rattle.homeo_history.specs.HistoryView.{plain_segment}
use Rattle.homeo_history.specs.declared.history.Segment.{Segment}
use Rattle.homeo_site.specs.SiteView.{SiteValue}
use Rattle.homeo_cluster.specs.inner.Cells.{CellValue}
use Rattle.homeo_cluster.proofs.Settles.{segments_more}
use Rattle.homeo_cluster.proofs.finish.into_segments.Goals as goal

pub loop-cell-init : goal.loop-cell-init
unfolding core_definitions
loop-cell-init g c = ap (λ (l : Listed Segment). map plain_segment l.items) c.new-segments.ensures

pub loop-cell-preserved : goal.loop-cell-preserved
loop-cell-preserved g c =
    let v : CellValue = c.in-Some.cell in
    let more : c.push.new.self.items ≡ c.loop-cell.segments.items ++ c.into_segment.result ∷ [] = ap (λ (l : Listed Segment). l.items) c.in_ok-push.ensures.ok in
    let one : plain_segment c.into_segment.result ≡ v.site.state.segment = c.into_segment.ensures ∙ ap (λ (s : SiteValue). s.state.segment) c.into_site.ensures in
    ap (map plain_segment) more
    ∙ map-append plain_segment c.loop-cell.segments.items (c.into_segment.result ∷ [])
    ∙ (λ j. c.loop-cell.invariant j ++ one j ∷ [])
    ∙ sym (segments_more c.loop-cell.yielded v)
