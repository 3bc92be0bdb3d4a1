-- What fails earliest of the first numbers.
use Rattle.std.proofs.Common.{◌≡◌, true, take}
use Rattle.homeo_meaning.specs.Serial.{values_of}
use Rattle.homeo_outline.specs.Numbers.{has}
use Rattle.homeo_outline.specs.ObjectPlan.{template_in, config_in}
use Rattle.homeo_site.specs.Earliest.{IsEarliest}
use Rattle.homeo_site.specs.inner.Failures.{clause_number, own_failure}
use Rattle.homeo_site.specs.OwnTreaty.{own_clauses}
use Rattle.homeo_site.proofs.own_treaty.earliest_clause.Given as goal

abbrev pub invariant-loop-number : goal.invariant-loop-number
invariant-loop-number l =
    IsEarliest clause_number (own_failure (own_clauses l.site (template_in l.plan).clauses (config_in l.plan)) (values_of l.deltas))
    (λ n. has n (take l.number-index l.numbers) ≡ true) l.found
