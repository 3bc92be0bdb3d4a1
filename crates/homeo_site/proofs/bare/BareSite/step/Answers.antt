use Rattle.std.proofs.Common.{length, sym, ap, subst, ◌∙◌}
use Rattle.homeo_site.specs.Key.{definitions}
use Rattle.homeo_site.specs.BareView.{BareValue}
use Rattle.homeo_site.specs.SiteView.{with_deltas}
use Rattle.homeo_site.specs.inner.Bare.{IsBare}
use Rattle.homeo_site.proofs.BareSites.{found_is, run_count, run_bare, run_prints, run_state}
use Rattle.homeo_site.proofs.bare.BareSite.step.Goals as goal

pub go_on-requires-clause-count : goal.go_on-requires-clause-count
go_on-requires-clause-count c =
    run_count c.self.inside.own c.self.inside.deltas c.args.self.now c.self.view_is c.self.invariant c.args.call c.requires c.in_ok-copy.copy.items c.in_ok-copy.ensures.copy c.in_ok-deltas.field-0.deltas.items c.in_ok-deltas.ensures.deltas
    ∙ ap length (sym c.copy.ensures.same)

pub invariant_of-self-in-None-1 : goal.invariant_of-self-in-None-1
invariant_of-self-in-None-1 c =
    subst (IsBare c.self.inside.own) (sym c.go_on.ensures)
    (run_bare c.self.inside.own c.self.inside.deltas c.args.self.now c.self.view_is c.self.invariant c.args.call c.requires c.in_ok-copy.copy.items c.in_ok-copy.ensures.copy c.in_ok-deltas.field-0.deltas.items c.in_ok-deltas.ensures.deltas
    c.in_ok-deltas.field-0.written.items c.as_slice.result.now c.as_slice.ensures c.as_slice-2.result.now c.as_slice-2.ensures c.in_ok-deltas.ensures.written c.failure.result c.failure.ensures c.in-None.is)

pub returns-in-Some-clause-ran : goal.returns-in-Some-clause-ran
unfolding definitions
returns-in-Some-clause-ran c =
    sym (found_is c.self.inside.own c.self.inside.deltas c.args.self.now c.self.view_is c.self.invariant c.args.call c.requires c.in_ok-copy.copy.items c.in_ok-copy.ensures.copy c.in_ok-deltas.field-0.deltas.items c.in_ok-deltas.ensures.deltas
    c.in_ok-deltas.field-0.written.items c.as_slice.result.now c.as_slice.ensures c.as_slice-2.result.now c.as_slice-2.ensures c.in_ok-deltas.ensures.written c.failure.result c.failure.ensures)
    ∙ c.in-Some.is

pub returns-in-Some-clause-state : goal.returns-in-Some-clause-state
unfolding definitions
returns-in-Some-clause-state c =
    ap (with_deltas c.self.inside.own) c.copy.ensures.same ∙ ap (λ (v : BareValue). v.state) c.self.view_is

pub returns-in-None-clause-ran : goal.returns-in-None-clause-ran
unfolding definitions
returns-in-None-clause-ran c = (
  sym (found_is c.self.inside.own c.self.inside.deltas c.args.self.now c.self.view_is c.self.invariant c.args.call c.requires c.in_ok-copy.copy.items c.in_ok-copy.ensures.copy c.in_ok-deltas.field-0.deltas.items c.in_ok-deltas.ensures.deltas
      c.in_ok-deltas.field-0.written.items c.as_slice.result.now c.as_slice.ensures c.as_slice-2.result.now c.as_slice-2.ensures c.in_ok-deltas.ensures.written c.failure.result c.failure.ensures)
      ∙ c.in-None.is,
  run_prints c.self.inside.own c.self.inside.deltas c.args.self.now c.self.view_is c.self.invariant c.args.call c.requires c.in_ok-copy.copy.items c.in_ok-copy.ensures.copy c.in_ok-deltas.field-0.deltas.items c.in_ok-deltas.ensures.deltas
      c.in_ok-deltas.field-0.prints.items c.in_ok-deltas.ensures.prints,
)

pub returns-in-None-clause-state : goal.returns-in-None-clause-state
unfolding definitions
returns-in-None-clause-state c =
    ap (with_deltas c.self.inside.own) c.go_on.ensures
    ∙ run_state c.self.inside.own c.self.inside.deltas c.args.self.now c.self.view_is c.self.invariant c.args.call c.requires c.in_ok-copy.copy.items c.in_ok-copy.ensures.copy c.in_ok-deltas.field-0.deltas.items c.in_ok-deltas.ensures.deltas
