-- A part that was met brings no more; else its clauses are put.
use Rattle.std.proofs.Common.{false, map, ap, sym, subst, ◌∙◌}
use Rattle.std.specs.Prelude.{slice_index_or}
use Rattle.std.proofs.lemmas.Result.{on_ok_weaker}
use Rattle.homeo_meaning.specs.Small.{IsSmall}
use Rattle.homeo_plan.specs.Each.{Each}
use Rattle.homeo_plan.specs.Limit.{form_limit}
use Rattle.homeo_plan.specs.Linear.{Linear}
use Rattle.homeo_plan.specs.PlanView.{plain_atom}
use Rattle.homeo_plan.specs.Template.{clauses_from}
use Rattle.homeo_follow.specs.declared.part.PlanPart.{PlanPart}
use Rattle.homeo_template.specs.Places.{set_at}
use Rattle.homeo_template.specs.inner.Keys.{clauses_in}
use Rattle.homeo_template.specs.inner.Met.{atoms_of_part}
use Rattle.homeo_template.proofs.Again.{none_again, one_met, set_here}
use Rattle.homeo_template.proofs.Appending.{each_at}
use Rattle.homeo_template.proofs.repeated.put_part.Goals as goal

pub returns-then-item_or-clause-clauses : goal.returns-then-item_or-clause-clauses
returns-then-item_or-clause-clauses c =
    let place = c.args.place in
    sym (none_again (clauses_in c.args.distinct.now) (set_at (map atoms_of_part c.args.parts.now) place)
    (c.requires.met place (ap (λ l. slice_index_or l place false) (sym c.as_slice.ensures.value) ∙ sym c.item_or.ensures ∙ c.if-item_or.true)))

pub put_all-requires : goal.put_all-requires
put_all-requires c =
    let part = c.index-parts-place in
    subst (λ l. Each (λ (a : Linear). IsSmall form_limit a.constant) (map plain_atom l))
    (sym (c.as_slice-2.ensures ∙ ap (λ (p : PlanPart). p.atoms.atoms.items) c.deref.ensures))
    (each_at atoms_of_part (Each (λ (a : Linear). IsSmall form_limit a.constant)) c.args.parts.now c.args.place part.result c.requires.small c.requires.place part.is)

pub returns-clause-met : goal.returns-clause-met
returns-clause-met c =
    let part = c.index-parts-place in
    let sets = map atoms_of_part c.args.parts.now in
    let cs = clauses_in c.args.distinct.now in
    let put =
    c.in_ok-put_all.ensures
    ∙ ap (λ l. clauses_from cs (map plain_atom l)) (c.as_slice-2.ensures ∙ ap (λ (p : PlanPart). p.atoms.atoms.items) c.deref.ensures)
    ∙ ap (clauses_from cs) (sym (set_here atoms_of_part c.args.parts.now c.args.place part.result c.requires.place part.is)) in
    on_ok_weaker c.put.result (λ marked. one_met c.args.met.now.items c.put.new.items.items sets c.args.place cs (clauses_in c.put_all.new.self) marked c.requires.met put) c.put.ensures
