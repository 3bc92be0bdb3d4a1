-- The deltas so far are frozen.
use Rattle.std.proofs.Common.{◌≡◌, drop}
use Rattle.homeo_certificate.specs.Followed.{not_frozen}
use Rattle.homeo_verify.specs.inner.RulesView.{plain_rules}
use Rattle.homeo_verify.proofs.rules.Rules.freeze.Given as goal

abbrev pub invariant-loop-delta : goal.invariant-loop-delta
invariant-loop-delta l = not_frozen (plain_rules l.self) (drop l.delta-index l.deltas) ≡ not_frozen (plain_rules l.self) l.deltas
