-- The objects of the forms so far.
use Rattle.std.proofs.Common.{◌≡◌, map, take}
use Rattle.homeo_syntax.specs.LowView.{plain_lcommand}
use Rattle.homeo_follow.specs.Named.{named}
use Rattle.homeo_build.proofs.names.names_of.Given as goal

abbrev pub invariant-loop-form : goal.invariant-loop-form
invariant-loop-form l = map (λ ns. ns.items) l.all.items ≡ map (λ f. named (plain_lcommand f)) (take l.form-index l.forms)
