-- One more object, and all of them.
use Rattle.std.proofs.Common.{ap, ◌∙◌}
use Rattle.std.proofs.lemmas.Result.{IfOk-weaker}
use Rattle.homeo_outline.specs.Numbers.{has}
use Rattle.homeo_effect.specs.inner.Uses.{freezes_at}
use Rattle.homeo_effect.proofs.Members.{one_found, all_found}
use Rattle.homeo_effect.proofs.uses.written_freezes.Goals as goal

pub loop-object-init : goal.loop-object-init
loop-object-init c n = ap (has n) c.new-numbers.ensures.items

pub loop-object-preserved : goal.loop-object-preserved
loop-object-preserved c n =
    c.in_ok-append_freezes.ensures n
    ∙ one_found (λ x. has n (freezes_at x c.args.site c.args.outline.now)) c.as_slice-object-items.result.now c.loop-object.object-index
    c.loop-object-test.true _ (c.loop-object.invariant n)

pub returns-clause-all : goal.returns-clause-all
returns-clause-all c =
    IfOk-weaker c.rising.result _ _ (λ v same n.
    same n ∙ c.loop-object.invariant n
    ∙ all_found (λ x. has n (freezes_at x c.args.site c.args.outline.now)) c.as_slice-object-items.result.now c.loop-object.object-index
    c.loop-object-test.false _ c.as_slice-object-items.ensures.value _ c.in_ok-objects.ensures) c.rising.ensures.all
