use Rattle.std.specs.Prelude.{◌≡◌, []}
use Rattle.homeo_desk.specs.Moves.{IsMove}
use Rattle.homeo_desk.proofs.desk.Desk.serve.Given as goal

abbrev pub invariant-loop : goal.invariant-loop
invariant-loop l = record {
  work : l.self.work ≡ l.initial.self.work;
  moves : IsMove [] [] l.initial.self l.self l.initial.outputs.items l.outputs.items;
}
