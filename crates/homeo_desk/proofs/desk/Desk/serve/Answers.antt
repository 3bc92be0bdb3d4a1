use Rattle.std.proofs.Common.{rules, [], refl}
use Rattle.homeo_desk.proofs.Giving.{gives_nothing}
use Rattle.homeo_desk.proofs.Moving.{stays, then_free}
use Rattle.homeo_desk.proofs.desk.Desk.serve.Goals as goal

pub loop-init : goal.loop-init
loop-init c = record { work = refl; moves = stays _ _ _ _ _ refl (gives_nothing [] _) }

pub loop-preserved : goal.loop-preserved
loop-preserved c = record { work = search rules; moves = then_free [] [] _ _ _ _ _ _ c.loop.invariant.moves c.in_ok-serve_one.ensures.moves }

pub returns-then-not-branch-clause-moves : goal.returns-then-not-branch-clause-moves
returns-then-not-branch-clause-moves c = then_free [] [] _ _ _ _ _ _ c.loop.invariant.moves c.in_ok-serve_one.ensures.moves
