use Rattle.std.specs.Prelude.{◌≡◌, ◌++◌, map}
use Rattle.std.specs.Vec.Iter.{into_iter_items}
use Rattle.homeo_syntax.specs.SourceView.{plain_workload}
use Rattle.homeo_desk.specs.DeskView.{last_answers, plain_reply}
use Rattle.homeo_desk.specs.inner.Keeping.{AreLast}
use Rattle.homeo_desk.proofs.callers.Callers.keep.Given as goal

abbrev pub invariant-loop-answer : goal.invariant-loop-answer
invariant-loop-answer l = record {
  rest : l.yielded ++ into_iter_items l.answer-iterator ≡ l.fn.answers.items;
  queue : l.self.queue.items ≡ l.initial.self.queue.items;
  places : l.self.places ≡ l.initial.self.places;
  answered : l.self.answered ≡ last_answers (map plain_reply l.yielded) l.initial.self.answered;
  last : AreLast (plain_workload l.node.work) l.node.node.number l.initial.self.answered → AreLast (plain_workload l.node.work) l.node.node.number l.self.answered;
}
