use Rattle.std.proofs.Common.{◌≡◌, false, take}
use Rattle.std.specs.Prelude.{◌==◌, ◌&&◌}
use Rattle.std.specs.List.{list_any}
use Rattle.homeo_syntax.specs.SourceView.{plain_workload}
use Rattle.homeo_plan.specs.Planned.{sites_of, planned}
use Rattle.homeo_plan.specs.Shares.{is_written}
use Rattle.homeo_build.proofs.compiled.Compiled.takes_part.Given as goal

abbrev pub invariant-loop-term : goal.invariant-loop-term
invariant-loop-term l =
    let w = plain_workload l.self in
    list_any (λ t. (t.delta.site == l.site) && is_written (sites_of w) (planned w) t.delta) (take l.term-index l.term-items) ≡ false
