-- What is left, with what has been counted, is as much as the whole.
use Rattle.std.proofs.Common.{◌≡◌, map, drop}
use Rattle.homeo_syntax.specs.SourceView.{exprs, tests, plain_expr, plain_test}
use Rattle.homeo_size.specs.inner.Nodes.{all_nodes, tests_nodes}
use Rattle.homeo_size.specs.inner.Tables.{context_of}
use Rattle.homeo_size.proofs.frame.Frame.+phrase_nodes.Given as goal

abbrev pub invariant-all_nodes-loop-e : goal.invariant-all_nodes-loop-e
invariant-all_nodes-loop-e l =
    all_nodes (context_of l.self) (exprs (map plain_expr (drop l.e-index l.es))) l.all ≡ all_nodes (context_of l.self) (exprs (map plain_expr l.es)) 0

abbrev pub invariant-tests_nodes-loop-t : goal.invariant-tests_nodes-loop-t
invariant-tests_nodes-loop-t l =
    tests_nodes (context_of l.self) (tests (map plain_test (drop l.t-index l.ts))) l.all ≡ tests_nodes (context_of l.self) (tests (map plain_test l.ts)) 0
