-- The last print that is left is taken.
use Rattle.std.proofs.Common.{[], map, sym, ap, ◌∙◌}
use Rattle.std.proofs.lemmas.List.{nil_from_length}
use Rattle.std.proofs.lemmas.Result.{IfOk-weaker}
use Rattle.homeo_plan.specs.Linear.{add_deltas}
use Rattle.homeo_follow.specs.Follow.{print_needs, write_needs}
use Rattle.homeo_form.specs.Standing.{forms_of}
use Rattle.homeo_linear.proofs.Gaining.{gains_once, prints_popped, prints_end}
use Rattle.homeo_linear.proofs.course.needed.Goals as goal

pub loop-form-preserved : goal.loop-form-preserved
loop-form-preserved c =
    prints_popped c.loop-form.prints.items c.pop.new.self.items _ c.loop-form.needed.items _ c.in-Some.ensures.items c.in_ok-push_deltas.ensures
    ∙ c.loop-form.invariant

pub returns : goal.returns
returns c =
    let f = forms_of c.args.standing.now in
    IfOk-weaker c.in_order-2.result _ _
    (λ v h b. h ∙ prints_end c.loop-form.prints.items (add_deltas c.loop-form.needed.items []) _
    (nil_from_length c.loop-form.prints.items (sym c.loop-form.prints.ok.0 ∙ c.in_default.ensures.cases.0)) c.loop-form.invariant
    ∙ ap (print_needs c.args.prints.now.items)
    (c.in_ok-needed.ensures b ∙ ap (λ l. write_needs b f (map (λ d. d.object) l)) c.as_slice.ensures.value
    ∙ gains_once b f c.args.written.now.items c.in_ok-once.once.items (c.in_ok-once.ensures ∙ ap (λ l. add_deltas l.items []) c.replace.ensures.value)))
    c.in_order-2.ensures
