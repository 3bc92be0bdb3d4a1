use Rattle.std.proofs.Common.{rules, tests}
use Rattle.std.proofs.lemmas.Iterator.Consumers.{YieldsList-from_deque}
use Rattle.std.proofs.lemmas.Iterator.Search.{any_from_yields_List}
use Rattle.homeo_desk.specs.Requests.{is_later}
use Rattle.homeo_desk.proofs.callers.Callers.has_later.Goals as goal

pub returns : goal.returns
returns c =
    any_from_yields_List (is_later c.args.request.now) _ _ _ c.any.ensures.ran (YieldsList-from_deque c.args.self.now.queue.items (cc)) (λ x b q k. search (rules, tests))
