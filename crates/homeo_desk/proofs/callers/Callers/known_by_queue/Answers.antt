use Rattle.std.proofs.Common.{◌≤◌, ◌<◌, length, arith, sym, ◌∙◌}
use Rattle.homeo_desk.proofs.Requests.{among_full, among_new}
use Rattle.homeo_desk.proofs.callers.Callers.known_by_queue.Goals as goal

pub returns-then-waiting-ge-MOST_WAITING : goal.returns-then-waiting-ge-MOST_WAITING
returns-then-waiting-ge-MOST_WAITING c =
    among_full c.args.self.now.queue.items c.args.request.now (sym c.has_same.ensures ∙ c.if-has_same.false) (sym c.has_later.ensures ∙ c.if-has_later.false)
    (let le : 64 ≤ length c.args.self.now.queue.items = omega (arith, c.waiting.ensures, c.if-waiting-ge-MOST_WAITING.true) in le)

pub returns : goal.returns
returns c =
    among_new c.args.self.now.queue.items c.args.request.now (sym c.has_same.ensures ∙ c.if-has_same.false) (sym c.has_later.ensures ∙ c.if-has_later.false)
    (let lt : length c.args.self.now.queue.items < 64 = omega (arith, c.waiting.ensures, c.if-waiting-ge-MOST_WAITING.false) in lt)
