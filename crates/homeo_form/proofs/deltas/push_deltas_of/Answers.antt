-- One more delta is pushed.
use Rattle.std.proofs.Common.{◌++◌, ap, ◌∙◌}
use Rattle.homeo_plan.specs.Linear.{deltas_of}
use Rattle.homeo_form.proofs.Adding.{pushed_step, pushed_end}
use Rattle.homeo_form.proofs.deltas.push_deltas_of.Goals as goal

pub loop-term-preserved : goal.loop-term-preserved
loop-term-preserved c =
    pushed_step c.args.terms.now c.loop-term.deltas.items c.push.new.self.items _ c.loop-term.term-index _ c.loop-term-test.true c.in_ok-push.ensures.items
    c.loop-term.invariant

pub returns : goal.returns
returns c =
    pushed_end c.args.terms.now c.loop-term.deltas.items _ c.loop-term.term-index c.loop-term-test.false c.loop-term.invariant
    ∙ ap (λ l. l ++ deltas_of c.args.terms.now) c.in_ok-reserve.ensures.items
