use Rattle.std.proofs.Common.{map}
use Rattle.homeo_syntax.specs.SourceView.{plain_call}
use Rattle.homeo_load.specs.Additions.{additions}
use Rattle.homeo_load.specs.Load.{load_call, dealt}
use Rattle.homeo_load.proofs.Making.{deal_step}
use Rattle.homeo_load.proofs.calls.calls_of.Goals as goal

pub loop-k-preserved : goal.loop-k-preserved
loop-k-preserved c =
    deal_step (map plain_call c.loop-k.list.items) (map plain_call c.push_if.new.list.items) (map load_call (dealt c.args.client 0 (additions c.args.start c.args.calls)))
    c.args.client c.loop-k.k c.loop-k.draws.state c.args.calls c.next_addition-a.result.object c.next_addition-a.result.number c.next_addition-a.new.draws.state
    c.loop-k-test.true c.next_addition-a.ensures.object c.next_addition-a.ensures.number c.next_addition-a.ensures.state c.in_ok-push_if.ensures c.loop-k.invariant
