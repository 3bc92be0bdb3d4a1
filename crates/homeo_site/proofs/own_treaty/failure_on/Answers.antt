-- Of the clauses and of the freezes, which have numbers of their own.
use Rattle.std.proofs.Common.{◌≡◌, [], true, refl, sym, subst}
use Rattle.homeo_meaning.specs.Serial.{values_of}
use Rattle.homeo_outline.specs.Numbers.{has, clauses_on}
use Rattle.homeo_outline.specs.ObjectPlan.{template_in, config_in}
use Rattle.homeo_outline.specs.Outlined.{Outlined}
use Rattle.homeo_site.specs.Earliest.{IsEarliest}
use Rattle.homeo_site.specs.OwnTreaty.{own_clauses}
use Rattle.homeo_site.specs.inner.Failures.{clause_number, own_failure}
use Rattle.homeo_site.proofs.OnObjects.{freeze_numbers}
use Rattle.homeo_site.proofs.PlanChecks.{fails_on}
use Rattle.homeo_site.proofs.own_treaty.failure_on.Goals as goal

pub earliest_freeze-freeze-requires : goal.earliest_freeze-freeze-requires
earliest_freeze-freeze-requires c =
    freeze_numbers c.args.plan.now c.args.object _ [] c.freezes_on.result.now c.freezes.result.now c.terms.result.now c.deref-outline.ensures
    c.freezes_on.ensures c.freezes.ensures c.terms.ensures

pub returns : goal.returns
returns c =
    let p = c.args.plan.now in
    let y = values_of c.args.deltas.now in
    let o = c.deref-outline.result.now in
    let is = c.deref-outline.ensures in
    let kept = own_clauses c.args.site (template_in p).clauses (config_in p) in
    let clause = c.clause_failure_on-clause.result in
    let of_clauses =
    subst (λ (q : Outlined). IsEarliest clause_number (own_failure kept y) (λ n. has n (clauses_on c.args.object q.terms) ≡ true) clause) (sym is)
    c.clause_failure_on-clause.ensures in
    fails_on p c.args.site y c.args.object o (clauses_on c.args.object o.terms) c.freezes_on.result.now
    c.freezes.result.now c.terms.result.now is c.freezes_on.ensures c.freezes.ensures c.terms.ensures
    (λ n. refl) clause c.earliest_freeze-freeze.result c.earlier.result of_clauses c.earliest_freeze-freeze.ensures c.earlier.ensures
