use Rattle.homeo_history.specs.Key.{definitions as history_definitions}
use Rattle.homeo_wire.specs.Key.{definitions}
use Rattle.std.proofs.Common.{◌≡◌, map, sym, ap, subst, ◌∙◌}
use Rattle.std.proofs.lemmas.Result.{IfOk-weaker}
use Rattle.homeo_syntax.specs.SourceView.{plain_workload}
use Rattle.homeo_meaning.specs.Bounds.{IsWithin}
use Rattle.homeo_meaning.specs.Schema.{schema_of}
use Rattle.homeo_history.specs.History.{History}
use Rattle.homeo_history.specs.HistoryView.{plain_history}
use Rattle.homeo_history.specs.Legal.{IsLegal}
use Rattle.homeo_wire.specs.inner.Standing.{CanRead, IsWire}
use Rattle.homeo_wire.specs.Read as read
use Rattle.homeo_wire.specs.Read.{history_in, counts_in}
use Rattle.homeo_wire.specs.WireView.{WireValue, plain_journal, world_of}
use Rattle.homeo_wire.proofs.Standing.{legal_here}
use Rattle.homeo_wire.proofs.Wires.{can_read, held, journals_here, last_within}
use Rattle.homeo_wire.proofs.wire.Wire.finish.Goals as goal

pub history_of-requires : goal.history_of-requires
history_of-requires c =
    let f = c.self.inside in
    subst CanRead (sym c.as_slice.ensures.value) (can_read f.planner f.nodes.items f.packets.items c.self.invariant)

pub returns-clause-history : goal.returns-clause-history
unfolding definitions
returns-clause-history c =
    let f = c.self.inside in
    let w = plain_workload f.planner in
    let wire : IsWire f.planner f.nodes.items f.packets.items = c.self.invariant in
    let x = world_of f.nodes.items f.packets.items in
    let is : read.history_of (map plain_journal c.as_slice.result.now) ≡ history_in x = ap (λ xs. read.history_of (map plain_journal xs)) c.as_slice.ensures.value ∙ ap read.history_of (sym (journals_here f.planner f.nodes.items f.packets.items wire)) in
    IfOk-weaker c.history_of.result _ _ (λ h same. same ∙ is ∙ ap (λ (v : WireValue). history_in v.world) c.self.view_is) c.history_of.ensures

pub returns-clause-legal : goal.returns-clause-legal
unfolding definitions history_definitions
returns-clause-legal c =
    let f = c.self.inside in
    let w = plain_workload f.planner in
    let wire : IsWire f.planner f.nodes.items f.packets.items = c.self.invariant in
    let x = world_of f.nodes.items f.packets.items in
    let is : read.history_of (map plain_journal c.as_slice.result.now) ≡ history_in x = ap (λ xs. read.history_of (map plain_journal xs)) c.as_slice.ensures.value ∙ ap read.history_of (sym (journals_here f.planner f.nodes.items f.packets.items wire)) in
    IfOk-weaker c.history_of.result _ _ (λ h same. subst (λ (v : WireValue). IsLegal (plain_workload v.work) (counts_in (plain_workload v.work) (plain_history h).rounds) (plain_history h)) c.self.view_is (subst (λ g. IsLegal w (counts_in w g.rounds) g) (sym (same ∙ is)) (legal_here w x wire.accepted (held f.planner f.nodes.items f.packets.items wire)))) c.history_of.ensures

pub returns-clause-within : goal.returns-clause-within
unfolding definitions history_definitions
returns-clause-within c =
    let f = c.self.inside in
    let w = plain_workload f.planner in
    let wire : IsWire f.planner f.nodes.items f.packets.items = c.self.invariant in
    let x = world_of f.nodes.items f.packets.items in
    let is : read.history_of (map plain_journal c.as_slice.result.now) ≡ history_in x = ap (λ xs. read.history_of (map plain_journal xs)) c.as_slice.ensures.value ∙ ap read.history_of (sym (journals_here f.planner f.nodes.items f.packets.items wire)) in
    IfOk-weaker c.history_of.result _ _ (λ h same. subst (λ (v : WireValue). IsWithin (schema_of (plain_workload v.work)) (plain_history h).last) c.self.view_is (subst (λ (g : History). IsWithin (schema_of w) g.last) (sym (same ∙ is)) (last_within w x wire.accepted (held f.planner f.nodes.items f.packets.items wire)))) c.history_of.ensures
