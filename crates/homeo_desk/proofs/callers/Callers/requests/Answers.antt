use Rattle.std.proofs.Common.{◌∙◌}
use Rattle.std.proofs.lemmas.Iterator.Consumers.{YieldsList-from_deque, YieldsList-end}
use Rattle.homeo_desk.proofs.callers.Callers.requests.Goals as goal

pub returns : goal.returns
returns c =
    c.loop-request.invariant
    ∙ (YieldsList-end (YieldsList-from_deque c.args.self.now.queue.items (cc)) c.loop-request.yielded _ c.loop-request.yielded_by _ _ c.in-None.is c.next.ensures.steps).0
