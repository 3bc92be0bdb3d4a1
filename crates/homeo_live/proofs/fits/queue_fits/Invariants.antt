-- The calls so far are of clients of the site.
use Rattle.std.proofs.Common.{take}
use Rattle.homeo_syntax.specs.SourceView.{plain_workload}
use Rattle.homeo_live.specs.inner.Standing.{AreCallsOf}
use Rattle.homeo_live.proofs.fits.queue_fits.Given as goal

abbrev pub invariant-loop-call : goal.invariant-loop-call
invariant-loop-call l = AreCallsOf (plain_workload l.w) l.site (take l.call-index l.queue)
