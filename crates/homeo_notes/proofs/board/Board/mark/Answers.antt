use Rattle.std.proofs.Common.{sym, ◌∙◌}
use Rattle.homeo_notes.proofs.KeepsLoad.{marks}
use Rattle.homeo_notes.proofs.board.Board.mark.Goals as goal

pub load-requires : goal.load-requires
load-requires g c =
    let b = c.args.self.now in
    (c.requires.table ∙ sym b.named, b.some, marks b.table.shared.key b.table.shared.table_id.slots c.args.seat.now.id g.C.LinesNaming.first g.C.LinesNaming.end c.args.seat.now.me)
