-- The sites so far have begun.
use Rattle.std.proofs.Common.{◌≡◌, vec_len}
use Rattle.homeo_meaning.specs.Initial.{initial}
use Rattle.homeo_cluster.specs.inner.Begun.{IsRest, first_line}
use Rattle.homeo_cluster.proofs.frame.Frame.first_sites.Given as goal

abbrev pub invariant-loop-site : goal.invariant-loop-site
invariant-loop-site g l = record {
  rest : IsRest g.N.ClusterNaming.workload (initial g.N.ClusterNaming.workload) l.site l.rest;
  first : l.first ≡ first_line g.N.ClusterNaming.workload l.site;
  count : vec_len l.sites ≡ l.site;
}
