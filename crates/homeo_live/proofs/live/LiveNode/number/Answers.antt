use Rattle.std.proofs.Common.{◌≡◌, length, ap, subst, sym, ◌∙◌}
use Rattle.std.specs.Prelude.{All}
use Rattle.std.proofs.lemmas.List.{length-map}
use Rattle.homeo_syntax.specs.SourceView.{plain_workload}
use Rattle.homeo_plan.specs.Planned.{sites_of}
use Rattle.homeo_history.specs.Legal.{IsCallAt}
use Rattle.homeo_live.specs.LiveView.{LiveValue, plain_state}
use Rattle.homeo_live.proofs.live.LiveNode.number.Goals as goal

pub returns-clause-states : goal.returns-clause-states
returns-clause-states c =
    subst (λ (v : LiveValue). length v.node.states ≡ sites_of (plain_workload v.work)) c.self.view_is (length-map c.self.inside.states.items plain_state ∙ c.self.invariant.count)

pub returns-clause-calls : goal.returns-clause-calls
returns-clause-calls c =
    subst (λ (v : LiveValue). All (IsCallAt (plain_workload v.work) v.node.number) v.node.queue) c.self.view_is c.self.invariant.waiting
