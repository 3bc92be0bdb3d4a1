-- Of the clauses and of the freezes, which have numbers of their own.
use Rattle.std.proofs.Common.{[]}
use Rattle.homeo_site.proofs.OnObjects.{clause_numbers, freeze_numbers}
use Rattle.homeo_forecast.specs.inner.Raising.{own_visit}
use Rattle.homeo_forecast.proofs.PlanStops.{stops_on}
use Rattle.homeo_forecast.proofs.stops.stop_on.Goals as goal

pub earliest_clause-requires-clause-numbers : goal.earliest_clause-requires-clause-numbers
earliest_clause-requires-clause-numbers c =
    clause_numbers c.args.plan.now c.args.object _ c.clauses_on-clauses.result.now [] c.deref-outline.ensures c.clauses_on-clauses.ensures

pub earliest_freeze-freeze-requires : goal.earliest_freeze-freeze-requires
earliest_freeze-freeze-requires c =
    freeze_numbers c.args.plan.now c.args.object _ [] c.freezes_on.result.now c.freezes.result.now c.terms.result.now c.deref-outline.ensures
    c.freezes_on.ensures c.freezes.ensures c.terms.ensures

pub returns : goal.returns
returns c = λ vs rooms.
    stops_on c.args.plan.now vs (own_visit c.args.site c.args.deltas.now) c.args.object _ c.clauses_on-clauses.result.now c.freezes_on.result.now
    c.freezes.result.now c.terms.result.now c.deref-outline.ensures c.freezes_on.ensures c.freezes.ensures c.terms.ensures c.clauses_on-clauses.ensures
    _ _ _ (c.in_ok-clause.ensures vs rooms) c.earliest_freeze-freeze.ensures c.earlier.ensures
