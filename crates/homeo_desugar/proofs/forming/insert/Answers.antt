-- The choice stands behind the assignments of the new values.
use Rattle.std.proofs.Common.{pos, map, ap, ◌∙◌}
use Rattle.homeo_syntax.specs.Low as L
use Rattle.homeo_syntax.specs.SourceView.{plain_field}
use Rattle.homeo_syntax.specs.LowView.{plain_lcond, plain_lcommand}
use Rattle.homeo_syntax.specs.declared.low.Temp.TheVariants as temp
use Rattle.homeo_syntax.proofs.LowViews.{low_Assign, low_Literal, low_Seq}
use Rattle.homeo_meaning.specs.Schema.{declared_range}
use Rattle.homeo_meaning.specs.LForm.{lift_values, all_within, fill_chain}
use Rattle.homeo_desugar.specs.inner.Key.{definitions}
use Rattle.homeo_desugar.specs.inner.Made.{plain_target}
use Rattle.homeo_context.specs.Slots.{slots_of}
use Rattle.homeo_context.specs.Contexts.{plain_context}
use Rattle.homeo_desugar.proofs.Forms.{formed_as, inserted_formed}
use Rattle.homeo_desugar.proofs.forming.insert.Goals as goal

pub returns : goal.returns
unfolding definitions
returns c =
    let xs = map plain_target c.in_ok-targets.targets.items in
    let all = slots_of c.args.slots in
    let test = c.in_ok-test.ensures ∙ ap (λ l. all_within (map plain_target l)) c.as_slice.ensures.value in
    let here = c.in_ok-filled.ensures ∙ ap (λ l. fill_chain (map plain_target l) c.args.into all) c.as_slice-2.ensures.value in
    let none = low_Assign _ _ ∙ ap (L.Assign (temp.Named c.args.into)) (low_Literal (pos 0)) in
    formed_as _ _ _ _ (low_Seq c.push.new.self.commands) (inserted_formed all c.args.into c.args.next.now (lift_values (plain_context c.args.context.now) (map declared_range c.args.slots.fields.now) (map plain_field c.args.values.now)) c.from-out.result c.lift_values.new.out c.push.new.self xs (plain_lcond c.in_ok-test.test) (plain_lcommand c.in_ok-filled.filled) _ _ c.from-out.ensures.empty c.from-out.ensures.next c.in_ok-targets.ensures.lifted test here none c.in_ok-choice.ensures c.in_ok-push.ensures.pushed)
