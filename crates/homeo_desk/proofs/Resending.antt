-- What a desk sends again, or by itself.
use Rattle.std.proofs.Common.{◌≡◌, List, [], ◌∷◌, ◌++◌, ℕ, map, take, drop, refl, sym, ap, subst, ◌∙◌, append-nil}
use Rattle.std.proofs.lemmas.List.{map-append, take-append-drop}
use Rattle.std.proofs.lemmas.List.Elements.{Contains-append_left, Contains-push}
use Rattle.std.proofs.Common.{⊎_elim}
use Rattle.std.specs.Prelude.{None, IfSome, ◌⊎◌}
use Rattle.homeo_live.specs.declared.packet.Packet.{Packet}
use Rattle.homeo_live.specs.LiveView.{plain_packet}
use Rattle.std.specs.Prelude.{Option, Some, Contains}
use Rattle.homeo_nodes.specs.declared.breach.Breach.{Breach}
use Rattle.homeo_nodes.specs.declared.breach.Mode.{Mode}
use Rattle.homeo_nodes.specs.Key.{definitions}
use Rattle.homeo_nodes.specs.Nodes as n
use Rattle.homeo_nodes.specs.Nodes.{Ticked, of_mode, of_choice, of_past, resent}
use Rattle.homeo_nodes.specs.Small.{Small, grown}
use Rattle.homeo_desk.specs.declared.output.Output.{Output}
use Rattle.homeo_desk.specs.DeskView.{DeskValue}
use Rattle.homeo_desk.specs.Moves.{IsMove}
use Rattle.homeo_desk.specs.Outputs.{AreIn, Gives}
use Rattle.homeo_desk.proofs.Giving.{in_itself, in_left, in_right, gives_nothing, gives_wider, tells_nothing}
use Rattle.homeo_desk.specs.inner.Keeping.{Tells}
use Rattle.homeo_desk.proofs.Moving.{by_one, input_then}
use Rattle.homeo_desk.proofs.Placing.{nothing_placed}
use Rattle.homeo_desk.specs.declared.places.Places.{Places}

pub mode_resent : (x : Small) (m : Mode) → x.mode ≡ m → AreIn (of_mode (grown x) m) (resent (grown x))
unfolding definitions
mode_resent x m e = in_left (of_mode (grown x) m) (of_choice x.decided ++ of_past x.past) (of_mode (grown x) x.mode)
    (subst (λ z. AreIn (of_mode (grown x) m) (of_mode (grown x) z)) (sym e) (in_itself (of_mode (grown x) m)))

pub choice_resent : (x : Small) (o : Option Breach) → x.decided ≡ o → AreIn (of_choice o) (resent (grown x))
unfolding definitions
choice_resent x o e = in_right (of_choice o) (of_mode (grown x) x.mode) (of_choice x.decided ++ of_past x.past)
    (in_left (of_choice o) (of_past x.past) (of_choice x.decided) (subst (λ z. AreIn (of_choice o) (of_choice z)) (sym e) (in_itself (of_choice o))))

pub past_resent : (x : Small) → AreIn (of_past x.past) (resent (grown x))
unfolding definitions
past_resent x = in_right (of_past x.past) (of_mode (grown x) x.mode) (of_choice x.decided ++ of_past x.past)
    (in_right (of_past x.past) (of_choice x.decided) (of_past x.past) (in_itself (of_past x.past)))

-- no answer is told, so it's no matter where
nowhere : Places
nowhere = record { round = 0; made = 0 }

-- the desk stays, and gives some of what its node would send again
pub by_tick : (ps qs : List n.Packet) (old : DeskValue) (before after : List Output) → AreIn qs (resent (grown old.node)) → Gives qs [] before after →
    IsMove [] ps old old before after
unfolding definitions
by_tick ps qs old before after i g =
    (by_one [] ps nowhere nowhere old old before after after Ticked tt refl refl refl (gives_wider qs (resent (grown old.node)) [] before after i g)
    (subst (λ q. Tells [] nowhere nowhere q old.queue old.answered old.answered after after) (sym (append-nil old.queue)) (tells_nothing nowhere old.queue old.answered after))
    (λ given tell are. nothing_placed given tell old.node.round old.made)).0

-- the desk stays, and is given some of what its node would send again
pub tick_then : (ps qs : List n.Packet) (old newer : DeskValue) (y z : List Output) → AreIn qs (resent (grown old.node)) → IsMove [] qs old newer y z →
    IsMove [] ps old newer y z
unfolding definitions
tick_then ps qs old newer y z i k =
    input_then [] ps qs nowhere nowhere old old newer y y y z Ticked tt refl refl refl (gives_nothing (resent (grown old.node)) y)
    (subst (λ q. Tells [] nowhere nowhere q old.queue old.answered old.answered y y) (sym (append-nil old.queue)) (tells_nothing nowhere old.queue old.answered y))
    (λ given tell are. nothing_placed given tell old.node.round old.made)
    (in_right qs ps (resent (grown old.node)) i) k

pub first_in : (k : ℕ) (xs : List Packet) (ps : List n.Packet) → map plain_packet xs ≡ ps → AreIn (map plain_packet (take k xs)) ps
first_in k xs ps e p h =
    subst (λ l. Contains l p) (sym (map-append plain_packet (take k xs) (drop k xs)) ∙ ap (map plain_packet) (take-append-drop k xs) ∙ e)
    (Contains-append_left (map plain_packet (take k xs)) (map plain_packet (drop k xs)) p h)

-- ---- the stop that a node has sent
pub stop_more : (ps : List n.Packet) (p : n.Packet) (before after : Option Breach) → IfSome before (λ b. Contains ps (n.Stop b)) →
    IfSome after (λ b. (p ≡ n.Stop b) ⊎ (before ≡ Some b)) → IfSome after (λ b. Contains (ps ++ p ∷ []) (n.Stop b))
stop_more ps p before None h i = tt
stop_more ps p before (Some b) h i =
    ⊎_elim (λ e. subst (Contains (ps ++ p ∷ [])) e (Contains-push ps p))
    (λ e. Contains-append_left ps (p ∷ []) (n.Stop b) (let g : IfSome (Some b) (λ c. Contains ps (n.Stop c)) = subst (λ o. IfSome o (λ c. Contains ps (n.Stop c))) e h in g)) i
