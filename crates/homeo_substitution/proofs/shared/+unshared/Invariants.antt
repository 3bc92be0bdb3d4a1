-- The expressions so far, without sharing.
use Rattle.std.proofs.Common.{◌≡◌, map, take}
use Rattle.homeo_syntax.specs.LowView.{plain_lexpr}
use Rattle.homeo_substitution.specs.Shared.{plain_shared}
use Rattle.homeo_substitution.proofs.shared.+unshared.Given as goal

abbrev pub invariant-each_unshared-loop-e : goal.invariant-each_unshared-loop-e
invariant-each_unshared-loop-e l = map plain_lexpr l.made.items ≡ map plain_shared (take l.e-index l.es)
