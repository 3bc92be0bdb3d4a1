use Rattle.std.proofs.Common.{ap, ◌∙◌}
use Rattle.homeo_syntax.specs.declared.workload.Workload.{Workload}
use Rattle.homeo_syntax.specs.SourceView.{plain_workload}
use Rattle.homeo_meaning.specs.Ground.{grounds}
use Rattle.homeo_ground.specs.Key.{definitions}
use Rattle.homeo_ground.specs.Table.{GroundTable}
use Rattle.homeo_build.proofs.compiled.Compiled.calls.Goals as goal

pub returns : goal.returns
unfolding definitions
returns c =
    c.calls.ensures ∙ ap (λ (t : GroundTable). t.calls) c.self.invariant.0
    ∙ ap (λ (w : Workload). grounds (plain_workload w)) c.self.view_is
