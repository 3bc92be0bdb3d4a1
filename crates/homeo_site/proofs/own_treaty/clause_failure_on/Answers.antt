-- No clause fails, or what is found fails earliest.
use Rattle.std.proofs.Common.{◌≡◌, ℕ, [], true, refl, sym, ap, ◌∙◌, inl}
use Rattle.homeo_meaning.specs.Serial.{values_of}
use Rattle.homeo_outline.specs.Numbers.{has, clauses_on}
use Rattle.homeo_outline.specs.ObjectPlan.{template_in, config_in}
use Rattle.homeo_outline.specs.Outlined.{Outlined}
use Rattle.homeo_site.specs.Key.{definitions}
use Rattle.homeo_site.specs.OwnTreaty.{own_clauses}
use Rattle.homeo_site.specs.inner.Failures.{clause_number, own_failure}
use Rattle.homeo_site.proofs.Earliest.{more_looked}
use Rattle.homeo_site.proofs.OnObjects.{clause_numbers}
use Rattle.homeo_site.proofs.own_treaty.clause_failure_on.Goals as goal

pub earliest_clause-requires-clause-numbers : goal.earliest_clause-requires-clause-numbers
earliest_clause-requires-clause-numbers c =
    clause_numbers c.args.plan.now c.args.object _ c.clauses_on.result.now [] c.deref.ensures c.clauses_on.ensures

pub returns-then-leaders_hold : goal.returns-then-leaders_hold
unfolding definitions
returns-then-leaders_hold c = c.if-leaders_hold.ensures refl

pub returns : goal.returns
returns c =
    let p = c.args.plan.now in
    let failure = own_failure (own_clauses c.args.site (template_in p).clauses (config_in p)) (values_of c.args.deltas.now) in
    let same : (n : ℕ) → has n c.clauses_on.result.now ≡ has n (clauses_on c.args.object p.outline.value.terms) =
    λ n. c.clauses_on.ensures n ∙ ap (λ (q : Outlined). has n (clauses_on c.args.object q.terms)) c.deref.ensures in
    more_looked clause_number failure (λ n. has n c.clauses_on.result.now ≡ true) (λ n. has n (clauses_on c.args.object p.outline.value.terms) ≡ true)
    c.earliest_clause.result (λ n e. sym (same n) ∙ e) (λ n e. inl (same n ∙ e)) c.earliest_clause.ensures
