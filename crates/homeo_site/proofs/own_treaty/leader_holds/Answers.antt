-- So many of its sums as there are sites are within its slack.
use Rattle.std.proofs.Common.{rules, ◌<◌, map, ap, ◌∙◌, subst, SFits}
use mir.Syntax.{w128}
use Rattle.std.proofs.lemmas.Int.{to_z-of_z}
use Rattle.homeo_meaning.specs.Serial.{values_of}
use Rattle.homeo_outline.specs.Outlined.{Outlined}
use Rattle.homeo_site.specs.OwnTreaty.{own_term, own_sum}
use Rattle.homeo_site.proofs.OwnChecks.{lent_count, clause_fits, terms_there, none_led_fails}
use Rattle.homeo_site.proofs.own_treaty.leader_holds.Goals as goal

pub own_sum-sum-requires : goal.own_sum-sum-requires
own_sum-sum-requires c =
    let p = c.args.plan.now in
    let lent = c.terms-terms.ensures ∙ ap (λ (o : Outlined). o.terms) c.deref.ensures in
    let within = subst (λ m. c.args.number < m) (lent_count p c.terms-terms.result.now lent) c.if-clause-terms.false in
    clause_fits p c.args.site c.args.number c.requires.keeps.site within c.terms-terms.result.now lent
    c.index-terms-clause.result c.index-terms-clause.is c.as_slice.result.now c.as_slice.ensures (values_of c.args.deltas.now) c.requires.fit

pub returns : goal.returns
returns c = λ yes n lt alike less.
    let p = c.args.plan.now in
    let y = values_of c.args.deltas.now in
    let lent = c.terms-terms.ensures ∙ ap (λ (o : Outlined). o.terms) c.deref.ensures in
    let within = subst (λ m. c.args.number < m) (lent_count p c.terms-terms.result.now lent) c.if-clause-terms.false in
    let there = terms_there p c.args.number within c.terms-terms.result.now lent c.index-terms-clause.result c.index-terms-clause.is c.as_slice.result.now c.as_slice.ensures in
    let fits : SFits w128 c.own_sum-sum.result = search rules in
    let sum = to_z-of_z w128 c.own_sum-sum.result fits ∙ c.own_sum-sum.ensures ∙ ap (λ ts. own_sum (map own_term ts) y) there in
    none_led_fails p c.args.site c.requires.keeps.site y c.args.number n lt alike less (c.is_within_each.ensures.even yes) c.requires.keeps.not_negative
    _ sum (c.is_within_each.ensures.room yes)
