-- What is left can be followed, and the row in the making with its walk is the whole walk.
use Rattle.std.proofs.Common.{◌≡◌}
use Rattle.homeo_syntax.specs.LowView.{low_commands, plain_lcommand}
use Rattle.homeo_plan.specs.Table.{walk}
use Rattle.homeo_split.specs.States.{state_of}
use Rattle.homeo_substitution.specs.Bindings.{bound}
use Rattle.homeo_table.specs.inner.Branches.{size_all}
use Rattle.homeo_table.specs.inner.Makings.{completed}
use Rattle.homeo_table.specs.inner.Walks.{CanFollow, walked, to_come}
use Rattle.homeo_table.proofs.walking.walk.Given as goal

abbrev pub invariant-loop-c : goal.invariant-loop-c
invariant-loop-c l =
    let s = state_of l.base in
    let b = bound l.row.bindings in
    let cs = to_come l.left.items in
    record { can : CanFollow b cs s; row : walked (completed l.row) b cs s ≡ walk (plain_lcommand l.initial.c) s }

abbrev pub decreases-loop-c : goal.decreases-loop-c
decreases-loop-c l = size_all (low_commands (to_come l.left.items))
