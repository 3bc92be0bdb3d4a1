-- What is listed, with what is left.
use Rattle.std.proofs.Common.{◌≡◌, ◌++◌, map, drop}
use Rattle.homeo_syntax.specs.LowView.{low_tests, plain_ltest}
use Rattle.homeo_certificate.specs.Nodes.{cond_nodes}
use Rattle.homeo_cert.proofs.listing.+test_nodes.Given as goal

abbrev pub invariant-push_tests-loop-t : goal.invariant-push_tests-loop-t
invariant-push_tests-loop-t l = l.nodes.items ++ cond_nodes (low_tests (map plain_ltest (drop l.t-index l.ts))) ≡ l.initial.nodes.items ++ cond_nodes (low_tests (map plain_ltest l.ts))
