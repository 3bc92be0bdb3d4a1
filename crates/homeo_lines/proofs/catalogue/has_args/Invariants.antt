-- Those so far are the same.
use Rattle.std.proofs.Common.{◌≡◌, drop}
use Rattle.homeo_lines.specs.Named.{has_args}
use Rattle.homeo_lines.proofs.catalogue.has_args.Given as goal

abbrev pub invariant-loop-i : goal.invariant-loop-i
invariant-loop-i l = has_args l.own l.args ≡ has_args (drop l.i l.own) (drop l.i l.args)
