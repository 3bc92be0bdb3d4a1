use Rattle.std.proofs.Common.{All, sym, subst}
use Rattle.homeo_syntax.specs.SourceView.{plain_workload}
use Rattle.homeo_ground.specs.Grounding.{IsCalled}
use Rattle.homeo_build.proofs.compile.calls_made.Goals as goal

pub forms_of-requires-clause-called : goal.forms_of-requires-clause-called
forms_of-requires-clause-called c = subst (All (IsCalled (plain_workload c.args.w.now))) (sym c.calls-grounds.ensures) c.in_ok-calls.ensures.called
