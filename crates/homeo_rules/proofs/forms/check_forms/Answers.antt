use Rattle.std.proofs.Common.{All, ◌∙◌, sym, ap, subst}
use Rattle.homeo_syntax.specs.SourceView.{plain_workload}
use Rattle.homeo_rules.specs.inner.Order.{in_order}
use Rattle.homeo_rules.specs.inner.Sizes.{AreTold, AreKnown, IsNamed}
use Rattle.homeo_rules.proofs.FormFaults.{slots-here, few-objects, objects-fit-forms, grounds-plain, forms-stand}
use Rattle.homeo_rules.proofs.Measured.{if_ok}
use Rattle.homeo_rules.proofs.NamedCalls.{are_named}
use Rattle.homeo_rules.proofs.forms.check_forms.Goals as goal

pub of-requires-clause-slots : goal.of-requires-clause-slots
of-requires-clause-slots c = slots-here c.args.w.now c.requires.faultless

pub of-requires-clause-few : goal.of-requires-clause-few
of-requires-clause-few c = few-objects c.args.w.now c.requires.faultless

pub measure_calls-requires-clause-set_up : goal.measure_calls-requires-clause-set_up
measure_calls-requires-clause-set_up c = record {
  scope = c.requires.names;
  layout = c.in_ok-layout.ensures;
  fits = objects-fit-forms c.args.w.now c.requires.faultless;
  sites = c.site_count.ensures;
  order = c.are_in_order.ensures ∙ ap (in_order 0) c.requires.grounds;
}

pub measure_calls-requires-clause-named : goal.measure_calls-requires-clause-named
measure_calls-requires-clause-named c =
    subst (All (IsNamed (plain_workload c.args.w.now))) (sym c.requires.grounds) (are_named (plain_workload c.args.w.now) c.requires.faultless.declared)

pub check_measured-requires-clause-set_up : goal.check_measured-requires-clause-set_up
check_measured-requires-clause-set_up c = record {
  scope = c.requires.names;
  layout = c.in_ok-layout.ensures;
  fits = objects-fit-forms c.args.w.now c.requires.faultless;
  sites = c.site_count.ensures;
  order = c.are_in_order.ensures ∙ ap (in_order 0) c.requires.grounds;
}

pub check_measured-requires-clause-told : goal.check_measured-requires-clause-told
check_measured-requires-clause-told c = subst (AreTold (plain_workload c.args.w.now) 0) (sym c.as_slice.ensures.value) c.in_ok-measured.ensures.told

pub check_measured-requires-clause-grounds : goal.check_measured-requires-clause-grounds
check_measured-requires-clause-grounds c =
    let measured = c.in_ok-measured in
    grounds-plain (plain_workload c.args.w.now) c.args.grounds.now measured.measured.calls.items _ c.requires.grounds measured.ensures.calls c.as_slice.ensures.value

pub returns-clause-fault : goal.returns-clause-fault
returns-clause-fault c = if_ok _ _ (λ r e. e ∙ c.in_ok-fault.ensures.fault) c.unless_fault.result c.unless_fault.ensures.fault

pub returns-clause-forms : goal.returns-clause-forms
returns-clause-forms c =
    let measured = c.in_ok-measured in
    forms-stand (plain_workload c.args.w.now) c.unless_fault.result c.in_ok-fault.fault measured.measured.calls.items measured.measured.forms.items c.unless_fault.ensures.fault c.unless_fault.ensures.forms c.unless_fault.ensures.places
    (λ none. subst AreKnown c.as_slice.ensures.value (c.in_ok-fault.ensures.known none)) measured.ensures.forms
