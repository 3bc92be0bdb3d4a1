-- The ground calls are those of the workload.
use Rattle.std.proofs.Common.{All, ap, ◌∙◌, sym, map, subst}
use Rattle.homeo_syntax.specs.SourceView.{plain_workload}
use Rattle.homeo_ground.specs.Grounding.{IsCalled}
use Rattle.homeo_ground.specs.Sited.{sited}
use Rattle.homeo_ground.proofs.Called.{are_called}
use Rattle.homeo_ground.proofs.Whole.{have_sites, are_few, are_grounds, is_grounding, calls_fit}
use Rattle.homeo_ground.proofs.grounding.Grounding.of_numbered.Goals as goal

pub made_calls-requires-clause-sites : goal.made_calls-requires-clause-sites
made_calls-requires-clause-sites c =
    have_sites c.args.w.now c.requires.accepted c.args.declared.now c.requires.declared c.as_slice.result.now (ap (map sited) c.as_slice.ensures.value ∙ c.requires.calls)

pub made_calls-requires-clause-few : goal.made_calls-requires-clause-few
made_calls-requires-clause-few c =
    are_few c.args.w.now c.requires.accepted c.args.declared.now c.requires.declared c.as_slice.result.now (ap (map sited) c.as_slice.ensures.value ∙ c.requires.calls)

pub invariant_of-result : goal.invariant_of-result
invariant_of-result c =
    calls_fit c.args.w.now c.requires.accepted c.args.declared.now c.requires.declared c.as_slice.result.now (ap (map sited) c.as_slice.ensures.value ∙ c.requires.calls) c.in_ok-calls.calls.items c.in_ok-calls.ensures

pub returns-clause-table : goal.returns-clause-table
returns-clause-table c =
    is_grounding c.args.w.now c.requires.accepted c.args.declared.now c.requires.declared c.as_slice.result.now (ap (map sited) c.as_slice.ensures.value ∙ c.requires.calls) _ c.in_ok-calls.ensures _ c.requires.places

pub returns-clause-calls : goal.returns-clause-calls
returns-clause-calls c =
    are_grounds c.args.w.now c.requires.accepted c.args.declared.now c.requires.declared c.as_slice.result.now (ap (map sited) c.as_slice.ensures.value ∙ c.requires.calls) _ c.in_ok-calls.ensures

pub returns-clause-called : goal.returns-clause-called
returns-clause-called c = subst (All (IsCalled (plain_workload c.args.w.now))) (sym (returns-clause-calls c)) (are_called (plain_workload c.args.w.now) c.requires.accepted)
