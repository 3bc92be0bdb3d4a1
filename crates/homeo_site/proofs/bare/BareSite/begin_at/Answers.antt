use Rattle.std.proofs.Common.{sym, subst}
use Rattle.homeo_site.specs.inner.Bare.{IsBare}
use Rattle.homeo_site.proofs.AtDeltas.{within_here, few_here, begin_bare, begin_meets}
use Rattle.homeo_site.proofs.bare.BareSite.begin_at.Goals as goal

pub failure_at-requires-clause-within : goal.failure_at-requires-clause-within
failure_at-requires-clause-within c =
    within_here c.start.inside.own c.start.inside.deltas c.start.inside.segment c.start.invariant c.args.start c.start.view_is c.args.deltas.items c.requires.count c.requires.within c.as_slice.result.now c.as_slice.ensures

pub failure_at-requires-clause-few : goal.failure_at-requires-clause-few
failure_at-requires-clause-few c =
    few_here c.start.inside.own c.start.inside.deltas c.start.inside.segment c.start.invariant c.args.start c.start.view_is c.args.deltas.items c.requires.count c.requires.within c.as_slice.result.now c.as_slice.ensures

pub returns-in-Some-clause-meets : goal.returns-in-Some-clause-meets
returns-in-Some-clause-meets c meets =
    absurd (begin_meets c.start.inside.own c.start.inside.deltas c.start.inside.segment c.start.invariant c.args.start c.start.view_is c.args.deltas.items c.requires.count c.requires.within c.as_slice.result.now c.as_slice.ensures
    c.in_ok-failure_at.field-0 c.in_ok-failure_at.ensures _ c.in-Some.is meets)

pub invariant_of-result : goal.invariant_of-result
invariant_of-result c =
    subst (IsBare c.start.inside.own) (sym c.new.ensures)
    (begin_bare c.start.inside.own c.start.inside.deltas c.start.inside.segment c.start.invariant c.args.start c.start.view_is c.args.deltas.items c.requires.count c.requires.within c.as_slice.result.now c.as_slice.ensures
    c.in_ok-failure_at.field-0 c.in_ok-failure_at.ensures c.in-None.is)
