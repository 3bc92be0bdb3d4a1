-- What is left, after what has been measured, is as large as the whole.
use Rattle.std.proofs.Common.{◌≡◌, map, drop}
use Rattle.homeo_syntax.specs.LowView.{low_commands, plain_lcommand}
use Rattle.homeo_size.specs.inner.Measuring.{after_all, all_measured}
use Rattle.homeo_size.specs.inner.Parts.{empty}
use Rattle.homeo_size.specs.inner.Tables.{store_in}
use Rattle.homeo_size.proofs.extents.Extents.+commands.Given as goal

abbrev pub invariant-commands-loop-c : goal.invariant-commands-loop-c
invariant-commands-loop-c l =
    let rest = low_commands (map plain_lcommand (drop l.c-index l.cs)) in
    let whole = low_commands (map plain_lcommand l.cs) in
    record {
      measure : all_measured l.sites rest (store_in l.self) l.all ≡ all_measured l.sites whole (store_in l.initial.self) empty;
      store : after_all l.sites rest (store_in l.self) ≡ after_all l.sites whole (store_in l.initial.self);
    }
