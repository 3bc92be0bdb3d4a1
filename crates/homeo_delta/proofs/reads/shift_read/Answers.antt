use Rattle.homeo_delta.proofs.DeltaReads.{pushed_read}
use Rattle.homeo_delta.proofs.reads.shift_read.Goals as goal

pub loop-site-preserved : goal.loop-site-preserved
loop-site-preserved c =
    pushed_read c.loop-site.terms.items _ c.in-Whole.object c.loop-site.site c.in_ok-push-in-Whole-2.ensures.items c.loop-site.invariant
