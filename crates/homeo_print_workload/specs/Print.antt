-- The text that a workload is printed as.
use Rattle.std.specs.Prelude.{ℕ, List}
use Rattle.homeo_syntax.specs.Source as s
use Rattle.homeo_print_workload.specs.Key.{definitions}
use Rattle.homeo_print_workload.specs.TokensOf.{workload_kinds}
use Rattle.homeo_print_workload.specs.Layout.{printed}

-- the workload's tokens, laid out
abbrev pub print : s.Workload → List ℕ
unfolding definitions
print w = printed w.names (workload_kinds w)
