-- One more object, and all of them.
use Rattle.std.proofs.Common.{◌==◌, ap, ◌∙◌}
use Rattle.std.specs.Prelude.{◌||◌}
use Rattle.std.proofs.lemmas.List.Folds.{list_any-append}
use Rattle.std.proofs.lemmas.Result.{IfOk-weaker}
use Rattle.homeo_outline.specs.Numbers.{has, clauses_on}
use Rattle.homeo_effect.proofs.Members.{one_found, all_found}
use Rattle.homeo_effect.proofs.uses.written_clauses.Goals as goal

pub loop-object-init : goal.loop-object-init
loop-object-init c n = ap (has n) c.new-numbers.ensures.items

pub loop-object-preserved : goal.loop-object-preserved
loop-object-preserved c n =
    ap (has n) c.in_ok-extend_from_slice.ensures.items
    ∙ list_any-append (λ m. n == m) c.loop-object.numbers.items c.clauses_on.result.now
    ∙ ap (λ v. has n c.loop-object.numbers.items || v) (c.clauses_on.ensures n)
    ∙ one_found (λ x. has n (clauses_on x c.args.outline.now.terms)) c.as_slice-object-items.result.now c.loop-object.object-index
    c.loop-object-test.true _ (c.loop-object.invariant n)

pub returns-clause-all : goal.returns-clause-all
returns-clause-all c =
    IfOk-weaker c.rising.result _ _ (λ v same n.
    same n ∙ c.loop-object.invariant n
    ∙ all_found (λ x. has n (clauses_on x c.args.outline.now.terms)) c.as_slice-object-items.result.now c.loop-object.object-index
    c.loop-object-test.false _ c.as_slice-object-items.ensures.value _ c.in_ok-objects.ensures) c.rising.ensures.all
