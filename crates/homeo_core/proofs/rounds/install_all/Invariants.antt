-- The sites so far are renewed, and their segments are taken.
use Rattle.std.proofs.Common.{◌≡◌, false, map, length, replicate}
use Rattle.homeo_site.specs.SiteState.{renewed}
use Rattle.homeo_core.specs.Joined.{segments_of}
use Rattle.homeo_core.specs.SiteLists.{states, AreOf, first_from}
use Rattle.homeo_core.proofs.rounds.install_all.Given as goal

abbrev pub invariant-loop-i : goal.invariant-loop-i
invariant-loop-i l =
    let p = l.initial.prepared in
    let old = states l.initial.sites in
    record {
      renewed : states l.sites ≡ first_from old (map (renewed p.next) old) l.i;
      of : AreOf p.work l.sites;
      prepared : l.prepared ≡ record {
        work = p.work;
        round = p.round;
        base = p.base;
        closing = p.closing;
        next = p.next;
        segments = first_from p.segments (segments_of old) l.i;
        waiting = first_from p.waiting (replicate (length old) false) l.i;
      };
    }
