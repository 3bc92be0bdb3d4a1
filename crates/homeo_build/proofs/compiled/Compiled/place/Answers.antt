use Rattle.std.proofs.Common.{◌<◌, length, ap, ◌∙◌, subst}
use Rattle.homeo_syntax.specs.declared.workload.Workload.{Workload}
use Rattle.homeo_syntax.specs.SourceView.{plain_workload}
use Rattle.homeo_meaning.specs.Ground.{grounds}
use Rattle.homeo_ground.specs.Key.{definitions}
use Rattle.homeo_ground.specs.Table.{GroundTable}
use Rattle.homeo_build.proofs.compiled.Compiled.place.Goals as goal

pub returns-clause-within : goal.returns-clause-within
unfolding definitions
returns-clause-within c =
    subst (λ n. c.place.result < n)
    (ap (λ (t : GroundTable). length t.calls) c.self.invariant.0 ∙ ap (λ (w : Workload). length (grounds (plain_workload w))) c.self.view_is)
    c.place.ensures.within
