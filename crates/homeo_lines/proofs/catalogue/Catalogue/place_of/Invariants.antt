-- Those so far are others.
use Rattle.std.proofs.Common.{◌≡◌, ◌+◌, map, drop}
use Rattle.homeo_syntax.specs.SourceView.{plain_call, plain_workload}
use Rattle.homeo_lines.specs.Named.{first_from, is_of}
use Rattle.homeo_lines.proofs.catalogue.Catalogue.place_of.Given as goal

abbrev pub invariant-loop-place : goal.invariant-loop-place
invariant-loop-place l =
    let test = is_of (plain_workload l.self) l.transaction l.args in
    first_from test 1 (map plain_call l.calls) ≡ first_from test (1 + l.place) (map plain_call (drop l.place l.calls))
