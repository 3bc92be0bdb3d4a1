use Rattle.std.proofs.Common.{take}
use Rattle.homeo_syntax.specs.SourceView.{plain_workload}
use Rattle.homeo_steps.specs.inner.Stepped.{HasMade}
use Rattle.homeo_steps.proofs.making.steps_from.Given as goal

abbrev pub invariant-loop-name : goal.invariant-loop-name
invariant-loop-name l = HasMade (plain_workload l.c.value) l.fn.base.items (take l.name-index l.name-items) l.core
