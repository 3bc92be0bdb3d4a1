-- What is left keeps, behind what is kept now, what all keeps behind what was kept at first.
use Rattle.std.proofs.Common.{◌≡◌, map, drop}
use Rattle.homeo_syntax.specs.LowView.{low_commands, plain_lcommand}
use Rattle.homeo_size.specs.inner.Store.{kept_all}
use Rattle.homeo_size.specs.inner.Tables.{sizes_in}
use Rattle.homeo_size.proofs.extents.Extents.+sets.Given as goal

abbrev pub invariant-keep_all-loop-c : goal.invariant-keep_all-loop-c
invariant-keep_all-loop-c l =
    let s = sizes_in l.self in
    kept_all s (low_commands (map plain_lcommand (drop l.c-index l.cs))) l.kept.items ≡ kept_all s (low_commands (map plain_lcommand l.cs)) l.initial.kept.items
