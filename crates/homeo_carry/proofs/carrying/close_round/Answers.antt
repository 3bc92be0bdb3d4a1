use Rattle.std.proofs.Common.{◌≡◌, ap, ◌∙◌}
use Rattle.homeo_lemmas.proofs.Options.{if_some}
use Rattle.homeo_syntax.specs.Listed.{Listed}
use Rattle.homeo_syntax.specs.SourceView.{plain_workload}
use Rattle.homeo_nodes.specs.Nodes.{folded}
use Rattle.homeo_carry.specs.inner.Carrying.{plain_called, deltas_in}
use Rattle.homeo_carry.proofs.OneCall.{rounds_fit, rounds_within}
use Rattle.homeo_carry.proofs.Outcomes.{some_of}
use Rattle.homeo_carry.proofs.carrying.close_round.Goals as goal

pub returns-in_default-clause-goes_on : goal.returns-in_default-clause-goes_on
returns-in_default-clause-goes_on c can =
    absurd (c.in_default.not-Some _ (some_of c.in_ok-whole.field-0 (c.in_ok-whole.ensures.fits (rounds_fit (plain_workload c.args.planner.now) c.args.x (plain_called c.args.c) c.requires.accepted can c.as_slice.result.now c.as_slice-2.result.now c.as_slice.ensures c.as_slice-2.ensures.value))).1)

pub returns-clause-goes_on : goal.returns-clause-goes_on
returns-clause-goes_on c can =
    let sum = if_some (λ (d : Listed _). d.items ≡ folded c.as_slice.result.now (deltas_in c.as_slice-2.result.now)) c.in_ok-whole.field-0 c.in-Some.whole c.in_ok-whole.ensures.sum c.in-Some.is in
    c.next_round.ensures.goes_on (rounds_within (plain_workload c.args.planner.now) c.args.x (plain_called c.args.c) c.requires.accepted can c.in-Some.whole.items (sum ∙ ap (λ b. folded b (deltas_in c.as_slice-2.result.now)) c.as_slice.ensures ∙ ap (λ ss. folded c.args.x.base.items (deltas_in ss)) c.as_slice-2.ensures.value)) can.round
