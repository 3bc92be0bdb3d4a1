-- What the certificates and calls of the code stand for.
use Rattle.std.specs.Prelude.{map}
use Rattle.homeo_syntax.specs.LowView.{plain_lcommand}
use Rattle.homeo_plan.specs.PlanView.{plain_clause}
use Rattle.homeo_certificate.specs.Certificate as spec
use Rattle.homeo_cert_reader.specs.declared.calls.Call.{Call}
use Rattle.homeo_cert_reader.specs.declared.reading.Certificate.{Certificate}

abbrev pub plain_call : Call → spec.Call
plain_call c = record { site = c.site; command = plain_lcommand c.command }

abbrev pub plain_certificate : Certificate → spec.Certificate
plain_certificate c = record {
  sites = c.sites;
  base = c.base.items;
  clauses = map plain_clause c.clauses.items;
  bounds = map (λ b. b.items) c.bounds.items;
  freezes = c.freezes;
  calls = map plain_call c.calls.items;
}
