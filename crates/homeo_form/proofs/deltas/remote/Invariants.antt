-- The deltas so far, and the remote ones of the rest, are those of all.
use Rattle.std.proofs.Common.{◌≡◌, ◌++◌, drop}
use Rattle.homeo_plan.specs.Needs.{remote}
use Rattle.homeo_form.proofs.deltas.remote.Given as goal

abbrev pub invariant-loop-delta : goal.invariant-loop-delta
invariant-loop-delta l = l.others.items ++ remote l.site (drop l.delta-index l.deltas) ≡ remote l.site l.deltas
