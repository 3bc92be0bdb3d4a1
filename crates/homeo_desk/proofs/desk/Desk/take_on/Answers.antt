use Rattle.std.proofs.Common.{◌<◌, ◌∷◌, [], ◌++◌, length, ap, subst, sym, ◌∙◌}
use Rattle.homeo_desk.specs.DeskView.{DeskValue}
use Rattle.homeo_desk.specs.Moves.{IsMove}
use Rattle.homeo_desk.proofs.Moving.{then_free}
use Rattle.homeo_desk.proofs.Stepping.{asks_kept, asks_moved}
use Rattle.homeo_desk.proofs.desk.Desk.take_on.Goals as goal

pub invariant_of-self-2 : goal.invariant_of-self-2
invariant_of-self-2 c =
    let i = c.self.inside in
    let room : length i.callers.queue.items < 64 = subst (λ (d : DeskValue). length d.queue < 64) (sym c.self.view_is) c.requires.room in
    asks_kept i.node.work i.node.node c.ask.new.self.node i.callers.places i.callers.queue.items i.callers.answered c.args.request room c.in_ok-_queued.ensures.node c.self.invariant
    c.ask.new.self.work c.add.new.self.places c.add.new.self.queue.items c.add.new.self.answered c.ask.ensures.work (c.add.ensures.queue ∙ ap (λ l. l ++ c.args.request ∷ []) c.reserve.ensures.queue) (c.add.ensures.answered ∙ c.reserve.ensures.answered) (c.add.ensures.places ∙ c.reserve.ensures.places)

pub returns-clause-moves : goal.returns-clause-moves
returns-clause-moves c =
    let i = c.self.inside in
    let room : length i.callers.queue.items < 64 = subst (λ (d : DeskValue). length d.queue < 64) (sym c.self.view_is) c.requires.room in
    let asked = asks_moved i.node.work i.node.node c.ask.new.self.node i.callers.places i.callers.queue.items i.callers.answered c.args.request room c.in_ok-_queued.ensures.node c.self.invariant
    c.ask.new.self.work c.add.new.self.places c.add.new.self.queue.items c.add.new.self.answered c.ask.ensures.work (c.add.ensures.queue ∙ ap (λ l. l ++ c.args.request ∷ []) c.reserve.ensures.queue) (c.add.ensures.answered ∙ c.reserve.ensures.answered) (c.add.ensures.places ∙ c.reserve.ensures.places) c.args.outputs.now.items in
    subst (λ d. IsMove (c.args.request ∷ []) [] d c.serve.new.self c.args.outputs.now.items c.serve.new.outputs.items) c.self.view_is
    (then_free (c.args.request ∷ []) [] _ _ _ _ _ _ asked c.in_ok-serve.ensures.moves)
