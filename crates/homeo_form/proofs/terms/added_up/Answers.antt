-- They are in order, or the sums of the sorted terms are those of the terms.
use Rattle.std.proofs.Common.{[], refl, sym, ap, ◌∙◌, subst}
use Rattle.std.proofs.lemmas.Result.{IfOk-weaker}
use Rattle.homeo_plan.specs.Linear.{add_terms}
use Rattle.homeo_form.specs.inner.Terms.{AreSmall, AreAddedUp}
use Rattle.homeo_form.proofs.TermsAddedUp.{in_order_kept, permuted_same, small_permuted}
use Rattle.homeo_form.proofs.terms.added_up.Goals as goal

pub returns-then-are_added_up : goal.returns-then-are_added_up
returns-then-are_added_up c =
    let k : AreAddedUp c.args.terms.items = subst AreAddedUp c.as_slice.ensures.value (c.if-are_added_up.ensures refl) in
    in_order_kept c.args.terms.items k.order k.counts

pub collected-requires : goal.collected-requires
collected-requires c =
    subst AreSmall (sym c.as_slice-2.ensures.value)
    (small_permuted c.args.terms.items c.sort_by_key.new.self.items c.sort_by_key.ensures.permutation c.requires)

pub returns : goal.returns
returns c =
    IfOk-weaker c.collected.result _ _
    (λ v h. h ∙ ap (λ l. add_terms l []) c.as_slice-2.ensures.value
    ∙ permuted_same c.args.terms.items c.sort_by_key.new.self.items c.sort_by_key.ensures.permutation) c.collected.ensures
