use Rattle.std.specs.Prelude.{◌≡◌, ◌++◌, OnOk, drop, length, map}
use Rattle.std.specs.Vec.Iter.{into_iter_items}
use Rattle.homeo_history.specs.HistoryView.{plain_answer}
use Rattle.homeo_desk.specs.inner.Keeping.{KeepsLast, StaysWithin, Tells}
use Rattle.homeo_desk.proofs.callers.Callers.answer_all.Given as goal

abbrev pub invariant-loop-made : goal.invariant-loop-made
invariant-loop-made l = record {
  rest : l.yielded ++ into_iter_items l.made-iterator ≡ l.fn.answers.items;
  queue : l.self.queue.items ≡ drop (length l.yielded) l.initial.self.queue.items;
  tells : OnOk l.done (Tells (map plain_answer l.yielded) l.initial.self.places l.self.places l.initial.self.queue.items l.self.queue.items l.initial.self.answered l.self.answered l.initial.outputs.items l.outputs.items);
  last : KeepsLast (map plain_answer l.yielded) l.initial.self.answered l.self.answered;
  round : StaysWithin (map plain_answer l.yielded) l.initial.self.places l.self.places;
}
