-- They are those of the formula, so the law of atoms is about them.
use Rattle.std.proofs.Common.{map, sym, ap, ◌∙◌, subst}
use Rattle.homeo_syntax.specs.LowView.{plain_lcond}
use Rattle.homeo_meaning.specs.Small.{IsSmall}
use Rattle.homeo_meaning.specs.Serial.{values_of}
use Rattle.homeo_plan.specs.Each.{Each}
use Rattle.homeo_plan.specs.FormSizes.{CanCond, Numbers}
use Rattle.homeo_plan.specs.Limit.{form_limit}
use Rattle.homeo_plan.specs.Linear.{base_forms}
use Rattle.homeo_plan.specs.PlanView.{plain_atom}
use Rattle.homeo_plan.specs.Tracking.{IsBelowAtBase}
use Rattle.homeo_plan.proofs.AtomSizes.{true_of_cond}
use Rattle.homeo_plan.proofs.Atoms.{true_cond_below}
use Rattle.homeo_form.specs.Standing.{forms_of}
use Rattle.homeo_atoms.proofs.AtBase.{alone, atoms_at_base, atoms_mean}
use Rattle.homeo_atoms.proofs.formulas.atoms.Goals as goal

pub condition-requires : goal.condition-requires
condition-requires c =
    subst (λ f. CanCond (IsSmall form_limit) f (plain_lcond c.args.formula.now))
    (sym (c.new-standing.ensures ∙ ap (λ l. base_forms (values_of l)) c.as_slice.ensures)) c.requires.small

pub returns-clause-atoms : goal.returns-clause-atoms
returns-clause-atoms c =
    ap (λ v. map plain_atom v.items) c.from_vec.ensures ∙ alone c.new-atoms.result.items c.condition.new.atoms.items _ c.new-atoms.ensures.items c.in_ok-condition.ensures.atoms
    ∙ atoms_at_base c.args.base.now.items c.as_slice.result.now (forms_of c.new-standing.result) (plain_lcond c.args.formula.now) c.as_slice.ensures c.new-standing.ensures c.requires.holds

pub returns-clause-below : goal.returns-clause-below
returns-clause-below c =
    subst (Each IsBelowAtBase) (sym (ap (λ v. map plain_atom v.items) c.from_vec.ensures ∙ alone c.new-atoms.result.items c.condition.new.atoms.items _ c.new-atoms.ensures.items c.in_ok-condition.ensures.atoms
    ∙ atoms_at_base c.args.base.now.items c.as_slice.result.now (forms_of c.new-standing.result) (plain_lcond c.args.formula.now) c.as_slice.ensures c.new-standing.ensures c.requires.holds))
    (true_cond_below (values_of c.args.base.now.items) (plain_lcond c.args.formula.now) c.requires.holds)

pub returns-clause-small : goal.returns-clause-small
returns-clause-small c =
    subst (Each (Numbers (IsSmall form_limit))) (sym (ap (λ v. map plain_atom v.items) c.from_vec.ensures ∙ alone c.new-atoms.result.items c.condition.new.atoms.items _ c.new-atoms.ensures.items c.in_ok-condition.ensures.atoms
    ∙ atoms_at_base c.args.base.now.items c.as_slice.result.now (forms_of c.new-standing.result) (plain_lcond c.args.formula.now) c.as_slice.ensures c.new-standing.ensures c.requires.holds))
    (true_of_cond (IsSmall form_limit) (values_of c.args.base.now.items) (plain_lcond c.args.formula.now) c.requires.small)

pub returns-clause-means : goal.returns-clause-means
returns-clause-means c =
    atoms_mean c.args.base.now.items c.as_slice.result.now (forms_of c.new-standing.result) (plain_lcond c.args.formula.now) c.condition.new.atoms.items c.from_vec.result.items
    c.as_slice.ensures c.new-standing.ensures c.requires.holds
    (alone c.new-atoms.result.items c.condition.new.atoms.items _ c.new-atoms.ensures.items c.in_ok-condition.ensures.atoms) (ap (λ v. v.items) c.from_vec.ensures)
