use Rattle.homeo_nodes.specs.Key.{definitions}
use Rattle.std.proofs.Common.{◌≤◌, length, refl, subst, arith}
use Rattle.std.proofs.lemmas.List.{take_all}
use Rattle.std.proofs.lemmas.List.Elements.{All-more}
use Rattle.homeo_syntax.specs.SourceView.{plain_workload}
use Rattle.homeo_history.specs.Legal.{IsCallAt}
use Rattle.homeo_live.specs.inner.Standing.{AreCallsOf}
use Rattle.homeo_live.proofs.fits.queue_fits.Goals as goal

pub returns-then-queue-gt-MOST_WAITING-clause-no : goal.returns-then-queue-gt-MOST_WAITING-clause-no
unfolding definitions
returns-then-queue-gt-MOST_WAITING-clause-no c of =
    let few : length c.args.queue.now ≤ 64 = of.few in
    let many = c.if-queue-gt-MOST_WAITING.true in
    absurd (let never : ⊥ = omega (arith, few, many) in never)

pub loop-call-preserved : goal.loop-call-preserved
loop-call-preserved c =
    All-more (IsCallAt (plain_workload c.args.w.now) c.args.site) c.args.queue.now c.loop-call.call-index (record { client = 0; seq = 0 }) c.loop-call-test.true c.loop-call.invariant (c.if-not-is_call_at.ensures.yes refl)

pub returns-clause-yes : goal.returns-clause-yes
unfolding definitions
returns-clause-yes c told = record {
  few = c.if-queue-gt-MOST_WAITING.false;
  calls = subst (AreCallsOf (plain_workload c.args.w.now) c.args.site) (take_all _ _ c.loop-call-test.false) c.loop-call.invariant;
}
