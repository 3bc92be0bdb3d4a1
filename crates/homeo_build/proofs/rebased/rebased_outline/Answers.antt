-- The outline of the plan, with rebased slacks, gives the template at the base.
use Rattle.std.proofs.Common.{◌≡◌, IfSome, map, ℤ, ap, sym, subst, ◌∙◌}
use Rattle.homeo_syntax.specs.Listed.{Listed}
use Rattle.homeo_syntax.specs.LowView.{plain_lcommand}
use Rattle.homeo_syntax.specs.SourceView.{plain_workload}
use Rattle.homeo_meaning.specs.Serial.{values_of}
use Rattle.homeo_follow.specs.Rebased.{rebased_clause, gains}
use Rattle.homeo_outline.specs.Key.{definitions as outline_definitions}
use Rattle.homeo_outline.specs.Leaders.{Lead}
use Rattle.homeo_outline.specs.ObjectPlan.{clauses_with, template_with}
use Rattle.homeo_outline.specs.Outlined.{Outlined}
use Rattle.homeo_outline.proofs.Leading.{leaders_stay}
use Rattle.homeo_follow.specs.ObjectTemplate.{expanded_template}
use Rattle.homeo_build.specs.Key.{definitions}
use Rattle.homeo_build.proofs.Following.{shared_part}
use Rattle.homeo_build.proofs.Rebasing.{outline_rebased}
use Rattle.homeo_build.proofs.rebased.rebased_outline.Goals as goal

pub returns : goal.returns
unfolding definitions outline_definitions
returns c =
    let w = plain_workload c.args.c.now in
    let last = c.args.last.now in
    let made = c.args.made.now in
    let base = c.args.base.now.items in
    let o = last.outline.value in
    let fs = map plain_lcommand c.forms-forms.result.now.forms.items in
    let from = c.as_slice-from.ensures in
    let to = c.as_slice-to.ensures in
    let lent = c.deref.ensures in
    let slacks = c.in-Some.slacks.items in
    let found =
    subst (λ found. IfSome found (λ (ss : Listed ℤ). clauses_with c.deref.result.now.terms ss.items ≡
    map (rebased_clause (gains (values_of c.as_slice-from.result.now) (values_of c.as_slice-to.result.now)))
    (clauses_with c.deref.result.now.terms c.as_slice-slacks.result.now))) c.in-Some.is c.in_ok-slacks.ensures in
    let moved : clauses_with o.terms slacks ≡ map (rebased_clause (gains (values_of last.base.items) (values_of base))) (clauses_with o.terms last.slacks.items) =
    sym (ap (λ (n : Outlined). clauses_with n.terms slacks) lent)
    ∙ found
    ∙ (λ i. map (rebased_clause (gains (values_of (from i)) (values_of (to i)))) (clauses_with (lent i).terms (c.as_slice-slacks.ensures i))) in
    let there =
    outline_rebased w fs c.forms-forms.result.now.places.items c.forms-forms.ensures.forms c.requires.accepted last.base.items base
    shared_part last.parts.items made.parts.items c.requires.last.parts c.requires.parts (c.requires.rebased c.if-not-made.false) o last.slacks.items slacks
    c.requires.last.sites c.requires.last.template moved in
    let same = c.in_ok-outline.ensures in
    record {
      sites = ap (λ (n : Outlined). n.sites) same ∙ c.requires.last.sites;
      template = ap (λ (n : Outlined). expanded_template n.sites (template_with n slacks)) same ∙ there;
      led =
          subst (λ (n : Outlined). Lead n.terms slacks c.in_ok-leaders.leaders.value) (sym same)
          (subst (λ ls. Lead o.terms slacks ls) (sym c.in_ok-leaders.ensures)
          (leaders_stay (gains (values_of last.base.items) (values_of base)) o.terms last.slacks.items slacks moved last.leaders.value c.requires.last.led));
    }
