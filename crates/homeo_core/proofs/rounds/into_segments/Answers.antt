use Rattle.homeo_core.proofs.GatheredSites.{segments_more}
use Rattle.homeo_site.specs.SiteView.{SiteValue}
use Rattle.std.proofs.lemmas.List.{map-append}
use Rattle.std.proofs.Common.{ap, map, ◌≡◌, [], ◌∷◌, ◌++◌, sym, ◌∙◌}
use Rattle.homeo_syntax.specs.Listed.{Listed}
use Rattle.homeo_history.specs.HistoryView.{plain_segment}
use Rattle.homeo_history.specs.declared.history.Segment.{Segment}
use Rattle.homeo_core.specs.Key.{definitions}
use Rattle.homeo_core.proofs.rounds.into_segments.Goals as goal

pub loop-site-init : goal.loop-site-init
unfolding definitions
loop-site-init c = ap (λ (l : Listed Segment). map plain_segment l.items) c.new-segments.ensures

pub loop-site-preserved : goal.loop-site-preserved
unfolding definitions
loop-site-preserved c =
    let x : SiteValue = c.in-Some.site in
    let more : c.push.new.self.items ≡ c.loop-site.segments.items ++ c.into_segment.result ∷ [] = ap (λ (l : Listed Segment). l.items) c.in_ok-push.ensures.ok in
    ap (map plain_segment) more
    ∙ map-append plain_segment c.loop-site.segments.items (c.into_segment.result ∷ [])
    ∙ (λ j. c.loop-site.invariant j ++ c.into_segment.ensures j ∷ [])
    ∙ sym (segments_more c.loop-site.yielded x)
