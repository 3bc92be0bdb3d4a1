-- The certificate of a workload's round.
use Rattle.std.specs.Prelude.{ℕ, List, map, ℤ}
use Rattle.homeo_syntax.specs.Source as s
use Rattle.homeo_plan.specs.Config.{Config}
use Rattle.homeo_plan.specs.Planned.{sites_of, planned, template_at}
use Rattle.homeo_plan.specs.Template.{PlannedCall, shifted}
use Rattle.homeo_certificate.specs.Certificate.{Call, Certificate}

-- a ground call with its command for its site of k
abbrev pub certified_call : ℕ → PlannedCall → Call
certified_call k g = record { site = g.site; command = shifted k g }

-- of the round that begins at a base, with bounds: the template's clauses and freezes, and the ground calls
abbrev pub certificate_of : s.Workload → List ℤ → Config → Certificate
certificate_of w base config = record {
  sites = sites_of w;
  base = base;
  clauses = (template_at w base).clauses;
  bounds = config;
  freezes = (template_at w base).freezes;
  calls = map (certified_call (sites_of w)) (planned w);
}
