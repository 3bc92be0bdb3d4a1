-- A delta of another site is kept.
use Rattle.std.proofs.Common.{◌++◌, ◌+◌, drop, ap, ◌∙◌}
use Rattle.homeo_plan.specs.Needs.{remote}
use Rattle.homeo_form.proofs.DeltasBySite.{remote_more, remote_less, remote_end}
use Rattle.homeo_form.proofs.deltas.remote.Goals as goal
use Rattle.homeo_form.proofs.deltas.remote.Goals.{then-is_remote+in_ok-push, else-is_remote}

pub loop-delta-preserved : goal.loop-delta-preserved
loop-delta-preserved c =
    let i = c.args.site in
    let n = c.loop-delta.delta-index in
    let ds = c.args.deltas.now in
    let out = c.loop-delta.others.items in
    elim c.if-is_remote.branch [ then-is_remote+in_ok-push w ↦ ap (λ v. v.items ++ remote i (drop (n + 1) ds)) w.others-is ∙ ap (λ l. l ++ remote i (drop (n + 1) ds)) w.in_ok-push.ensures.items ∙ remote_more i out ds n _ c.loop-delta-test.true w.if-is_remote.ensures ∙ c.loop-delta.invariant | else-is_remote w ↦ ap (λ v. v.items ++ remote i (drop (n + 1) ds)) w.others-is ∙ remote_less i out ds n _ c.loop-delta-test.true w.if-is_remote.ensures ∙ c.loop-delta.invariant ]

pub returns : goal.returns
returns c = remote_end c.args.site c.loop-delta.others.items c.args.deltas.now c.loop-delta.delta-index c.loop-delta-test.false ∙ c.loop-delta.invariant
