-- What is listed, with what is left.
use Rattle.std.proofs.Common.{◌≡◌, ◌++◌, map, drop}
use Rattle.homeo_syntax.specs.LowView.{low_exprs, plain_lexpr}
use Rattle.homeo_certificate.specs.Nodes.{exprs_nodes}
use Rattle.homeo_cert.proofs.listing.+expression_nodes.Given as goal

abbrev pub invariant-push_exprs-loop-e : goal.invariant-push_exprs-loop-e
invariant-push_exprs-loop-e l = l.nodes.items ++ exprs_nodes (low_exprs (map plain_lexpr (drop l.e-index l.es))) ≡ l.initial.nodes.items ++ exprs_nodes (low_exprs (map plain_lexpr l.es))
