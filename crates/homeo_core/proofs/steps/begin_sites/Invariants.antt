-- The sites so far have begun.
use Rattle.std.proofs.Common.{◌≡◌}
use Rattle.homeo_core.specs.CoreView.{begun_sites}
use Rattle.homeo_core.specs.SiteLists.{states, AreOf}
use Rattle.homeo_core.proofs.steps.begin_sites.Given as goal

abbrev pub invariant-loop-site : goal.invariant-loop-site
invariant-loop-site l = record {
  begun : states l.sites.items ≡ begun_sites l.site l.plan.value.base.items;
  of : AreOf l.c.value l.sites.items;
}
