-- Those so far have other names.
use Rattle.std.proofs.Common.{◌≡◌, map, drop}
use Rattle.std.specs.Str.{bytes_eq}
use Rattle.homeo_syntax.specs.SourceView.{plain_client, plain_workload}
use Rattle.homeo_syntax.specs.Source.{Client}
use Rattle.homeo_print.specs.Names.{name_text}
use Rattle.homeo_lines.specs.Named.{client_called, first_from}
use Rattle.homeo_lines.proofs.catalogue.Catalogue.client_of.Given as goal

abbrev pub invariant-loop-number : goal.invariant-loop-number
invariant-loop-number l = client_called (plain_workload l.self) l.name ≡ first_from (λ (c : Client). bytes_eq (name_text (plain_workload l.self) c.name) l.name) l.number (map plain_client (drop l.number l.client-items))
