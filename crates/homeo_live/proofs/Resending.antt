-- What a node sends again.
use Rattle.homeo_nodes.specs.Key.{definitions as node_definitions}
use Rattle.std.proofs.Common.{◌≡◌, ℕ, zero, suc, ◌<◌, ◌≤◌, List, [], ◌∷◌, ◌++◌, map, length, get_or, Option, Some, None, sym, ap, ◌∙◌, arith, append_assoc, append-nil}
use Rattle.std.specs.Prelude.{IfSome, slice_index_or}
use Rattle.std.proofs.lemmas.List.{map-append}
use Rattle.homeo_syntax.specs.Listed.{Listed}
use Rattle.homeo_nodes.specs.declared.breach.Breach.{Breach}
use Rattle.homeo_nodes.specs.declared.breach.Mode.{Mode}
use Rattle.homeo_nodes.specs.declared.breach.Mode.TheVariants.{Running, Waiting, Stopped}
use Rattle.homeo_nodes.specs.Nodes as n
use Rattle.homeo_nodes.specs.Small.{Small, grown}
use Rattle.homeo_carry.specs.CarryView.{plain_said}
use Rattle.homeo_carry.specs.declared.said.Said.{Said}
use Rattle.homeo_live.specs.declared.packet.Packet.{Packet}
use Rattle.homeo_live.specs.declared.state.Past.{Past}
use Rattle.homeo_live.specs.LiveView.{plain_packet, plain_state}

pub push_sent : (old new : Listed Packet) (spare : ℕ) (p : Packet) (q : n.Packet) → plain_packet p ≡ q → new ≡ record { items = old.items ++ p ∷ []; spare = spare } → map plain_packet new.items ≡ map plain_packet old.items ++ q ∷ []
push_sent old new spare p q e is =
    ap (λ (l : Listed Packet). map plain_packet l.items) is ∙ map-append plain_packet old.items (p ∷ []) ∙ ap (λ x. map plain_packet old.items ++ x ∷ []) e

pub few_states : (past : Option Past) (sites : ℕ) → IfSome past (λ p. length p.states.items ≡ sites) → sites ≤ 16 → IfSome past (λ p. length p.states.items ≤ 16)
few_states None sites h few = tt
few_states (Some p) sites h few = omega (arith, h, few)

-- ---- by its mode
mode_sends : (y : Small) (m : Mode) (before : List n.Packet) → y.mode ≡ m → before ++ n.of_mode (grown y) m ≡ before ++ n.of_mode (grown y) y.mode
mode_sends y m before e = ap (λ k. before ++ n.of_mode (grown y) k) (sym e)

pub running_sends : (y : Small) (before : List n.Packet) → y.mode ≡ Running → before ≡ before ++ n.of_mode (grown y) y.mode
unfolding node_definitions
running_sends y before e = sym (append-nil before) ∙ mode_sends y Running before e

pub waiting_sends : (y : Small) (b : Breach) (before after : List n.Packet) → y.mode ≡ Waiting b → after ≡ before ++ n.Want b ∷ [] → after ≡ before ++ n.of_mode (grown y) y.mode
unfolding node_definitions
waiting_sends y b before after e is = is ∙ mode_sends y (Waiting b) before e

pub stopped_sends : (y : Small) (b : Breach) (before mid after : List n.Packet) → y.mode ≡ Stopped b → mid ≡ before ++ n.Stop b ∷ [] → after ≡ mid ++ n.of_own (grown y) (slice_index_or y.states y.number None) → after ≡ before ++ n.of_mode (grown y) y.mode
unfolding node_definitions
stopped_sends y b before mid after e first then =
    then ∙ ap (λ l. l ++ n.of_own (grown y) (slice_index_or y.states y.number None)) first
    ∙ append_assoc before (n.Stop b ∷ []) (n.of_own (grown y) (slice_index_or y.states y.number None))
    ∙ mode_sends y (Stopped b) before e

-- ---- its own state
own_is : (xs : List (Option Said)) (i : ℕ) (x : Option Said) → i < length xs → x ≡ get_or xs i x → plain_state x ≡ slice_index_or (map plain_state xs) i None
own_is [] i x lt e = absurd (omega (arith, lt))
own_is (y ∷ xs) zero x lt e = ap plain_state e
own_is (y ∷ xs) (suc i) x lt e = own_is xs i x (omega (arith, lt)) e

pub own_sent : (y : Small) (xs : List (Option Said)) (i site round : ℕ) (x : Option Said) (z said : Said) (before after : List n.Packet) → y.states ≡ map plain_state xs → y.number ≡ i → y.number ≡ site → y.round ≡ round → i < length xs → x ≡ get_or xs i x → x ≡ Some z → plain_said said ≡ plain_said z → after ≡ before ++ n.State round site (plain_said said) ∷ [] → after ≡ before ++ n.of_own (grown y) (slice_index_or y.states y.number None)
unfolding node_definitions
own_sent y xs i site round x z said before after states number own r lt e some same sent =
    let kept : Some (plain_said z) ≡ slice_index_or y.states y.number None =
    ap plain_state (sym some) ∙ own_is xs i x lt e ∙ ap (λ l. slice_index_or l i None) (sym states) ∙ ap (λ k. slice_index_or y.states k None) (sym number) in
    sent
    ∙ ap (λ v. before ++ n.State round site v ∷ []) same
    ∙ ap (λ k. before ++ n.State k site (plain_said z) ∷ []) (sym r)
    ∙ ap (λ k. before ++ n.State y.round k (plain_said z) ∷ []) (sym own)
    ∙ ap (λ o. before ++ n.of_own (grown y) o) kept

-- ---- all
pub all_resent : (y : Small) (decided : Option Breach) (past : Option n.Past) (before first mid after : List n.Packet) → y.decided ≡ decided → y.past ≡ past → first ≡ before ++ n.of_mode (grown y) y.mode → mid ≡ first ++ n.of_choice decided → after ≡ mid ++ n.of_past past → after ≡ before ++ n.resent (grown y)
unfolding node_definitions
all_resent y decided past before first mid after d p a b c =
    c ∙ ap (λ l. l ++ n.of_past past) (b ∙ ap (λ l. l ++ n.of_choice decided) a)
    ∙ append_assoc (before ++ n.of_mode (grown y) y.mode) (n.of_choice decided) (n.of_past past)
    ∙ append_assoc before (n.of_mode (grown y) y.mode) (n.of_choice decided ++ n.of_past past)
    ∙ ap (λ k. before ++ (n.of_mode (grown y) y.mode ++ (n.of_choice k ++ n.of_past past))) (sym d)
    ∙ ap (λ k. before ++ (n.of_mode (grown y) y.mode ++ (n.of_choice y.decided ++ n.of_past k))) (sym p)
