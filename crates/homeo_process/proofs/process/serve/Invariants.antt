use Rattle.homeo_process.proofs.Reading.{HasRead}
use Rattle.homeo_process.proofs.process.serve.Given as goal

abbrev pub invariant-loop-piece : goal.invariant-loop-piece
invariant-loop-piece g l = HasRead g.S.Source.left g.O.Sink.taken g.O.Sink.faults l.initial.source l.source l.initial.out l.out l.feed l.answers.items
