use Rattle.std.proofs.Common.{◌≡◌, ℕ, ◌<◌, length, get_or, List, arith}
use Rattle.std.specs.Prelude.{IfOk}
use Rattle.std.specs.declared.result.Result.{Result}
use Rattle.std.proofs.lemmas.Result.{IfOk-weaker}
use Rattle.homeo_syntax.specs.declared.list.Memory.{Memory}
use Rattle.homeo_cluster.specs.Passes.{PassValue}
use Rattle.homeo_cluster.specs.inner.Ran.{HasRun}
use Rattle.homeo_cluster.proofs.Runs.{all_have_run}
use Rattle.homeo_cluster.proofs.run.run_clients.Goals as goal

pub returns : goal.returns
returns g c =
    let w = g.N.ClusterNaming.workload in
    let before : List PassValue = c.args.passes.items in
    let results : List (Result PassValue Memory) = c.in-Ok.results.items in
    let long : length results ≡ length before = omega (arith, c.in-Ok.ensures.count) in
    let each : (i : ℕ) (d : Result PassValue Memory) (e : PassValue) → i < length before → IfOk (get_or results i d) (HasRun w (get_or before i e)) =
    λ i d e l. c.in-Ok.ensures.each i d e (omega (arith, l, c.args.passes.ok.0)) in
    record {
      finished = IfOk-weaker c.all_of.result _ _ (λ after is. (all_have_run w before after.items results is long each).finished) c.all_of.ensures;
      answers = IfOk-weaker c.all_of.result _ _ (λ after is. (all_have_run w before after.items results is long each).answers) c.all_of.ensures;
    }
