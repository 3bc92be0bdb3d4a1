-- The deltas of the sites so far are added.
use Rattle.std.proofs.Common.{◌≡◌, take}
use Rattle.homeo_core.specs.Joined.{gathered}
use Rattle.homeo_core.specs.SiteLists.{states}
use Rattle.homeo_core.proofs.rounds.gather_all.Given as goal

abbrev pub invariant-loop-site : goal.invariant-loop-site
invariant-loop-site l = l.gather ≡ record {
  round = l.round;
  base = l.base.items;
  sum = gathered l.base.items (take l.site-index (states l.sites));
  added = l.site-index;
}
