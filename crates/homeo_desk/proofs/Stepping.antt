-- A desk whose node takes an input in memory.
use Rattle.homeo_nodes.specs.Key.{definitions}
use Rattle.std.proofs.Common.{◌≡◌, ℕ, ◌<◌, ◌≤◌, arith, List, [], ◌∷◌, ◌++◌, map, length, take, drop, Option, sym, ap, subst, ◌∙◌, append-nil}
use Rattle.std.specs.Prelude.{All}
use Rattle.std.proofs.lemmas.List.{length-map, map-append}
use Rattle.std.proofs.lemmas.List.Elements.{Contains-push}
use Rattle.homeo_syntax.specs.Source as s
use Rattle.homeo_syntax.specs.SourceView.{plain_workload}
use Rattle.homeo_syntax.specs.declared.workload.Workload.{Workload}
use Rattle.homeo_history.specs.Answers as h
use Rattle.homeo_history.specs.Legal.{IsCallAt}
use Rattle.homeo_nodes.specs.Nodes as n
use Rattle.homeo_nodes.specs.Nodes.{Input, Asked, asked}
use Rattle.homeo_nodes.specs.Small.{Small, small, grown}
use Rattle.homeo_nodes.specs.Told.{told}
use Rattle.homeo_live.specs.declared.packet.Packet.{Packet}
use Rattle.homeo_live.specs.declared.packet.Step.{Step}
use Rattle.homeo_live.specs.LiveView.{plain_packet, IsReaction}
use Rattle.homeo_desk.specs.declared.desk.Delivered.{Delivered}
use Rattle.homeo_desk.specs.declared.output.Output.{Output}
use Rattle.homeo_desk.specs.declared.output.Request.{Request}
use Rattle.homeo_desk.specs.declared.places.Places.{Places}
use Rattle.homeo_desk.specs.DeskView.{Reply, KeepsFirst, calls_of}
use Rattle.homeo_desk.specs.Moves.{IsMove, IsOf, reacts, sent_after}
use Rattle.homeo_desk.specs.Outputs.{AreTold, Gives}
use Rattle.homeo_desk.specs.inner.Delivering.{Delivers, IsChosen}
use Rattle.homeo_desk.specs.inner.Keeping.{AreLast, IsKept, StaysWithin, Tells, value_of}
use Rattle.homeo_desk.proofs.Giving.{gives_nothing, tells_nothing}
use Rattle.homeo_desk.proofs.Keeping.{first_paired, rest_paired, all_called, kept_on}
use Rattle.homeo_desk.proofs.Moving.{by_one, gives_sent}
use Rattle.homeo_desk.proofs.Placing.{Rises, rounds_of, rises_up, rises_within, told_placed}
use Rattle.homeo_desk.proofs.Reacting.{Keeps, asked_queue, asked_number, asked_round, asked_first, asked_told}

module _ (work : Workload) (x new : Small) (places : Places) (queue : List Request) (last : List (Option Reply)) (input : Input) (sent : List Packet) (step : Step) (answers : List h.Answer) (came : IsReaction (reacts (plain_workload work) input x) new [] sent step) (keeps : Keeps (plain_workload work) (grown x) (reacts (plain_workload work) input x)) (told_is : told (grown x) (reacts (plain_workload work) input x).step ≡ answers) (kept : IsKept places (value_of work x places queue last)) where
  queue_is : x.queue ≡ map h.called answers ++ new.queue
  unfolding definitions
  queue_is =
      keeps.queue
      ∙ ap (λ ts. map h.called ts ++ (reacts (plain_workload work) input x).node.queue) told_is
      ∙ ap (λ (y : Small). map h.called answers ++ y.queue) (sym came.node)

  number_is : new.number ≡ x.number
  unfolding definitions
  number_is = ap (λ (y : Small). y.number) came.node ∙ keeps.number

  rises_is : Rises x.round (rounds_of answers) new.round
  unfolding definitions
  rises_is =
      subst (λ k. Rises x.round (rounds_of answers) k) (sym (ap (λ (y : Small). y.round) came.node))
      (subst (λ ts. Rises x.round (rounds_of ts) (small (reacts (plain_workload work) input x).node).round) told_is keeps.rises)

  pub first_told : take (length answers) (calls_of queue) ≡ map h.called answers
  first_told = first_paired queue answers new.queue (kept.paired ∙ queue_is)

  module _ (new_work : Workload) (new_places : Places) (rest : List Request) (new_last : List (Option Reply)) (same : new_work ≡ work) where
    pub still_kept : All (IsCallAt (plain_workload work) x.number) x.queue → rest ≡ drop (length answers) queue →
        ((w : s.Workload) (site : ℕ) → AreLast w site last → All (λ b. IsCallAt w site (h.called b)) answers → AreLast w site new_last) →
        StaysWithin answers places new_places → IsKept new_places (value_of new_work new new_places rest new_last)
    still_kept calls gone goes within =
        kept_on work new_work x new places new_places queue rest last new_last same number_is
        (ap calls_of gone ∙ rest_paired queue answers new.queue (kept.paired ∙ queue_is))
        (subst KeepsFirst (sym came.node) keeps.first)
        (λ are. goes (plain_workload work) x.number are (all_called (IsCallAt (plain_workload work) x.number) answers new.queue (subst (All (IsCallAt (plain_workload work) x.number)) queue_is calls)))
        (within new.round (let le = kept.round in let up = rises_up x.round new.round (rounds_of answers) rises_is in omega arith) (rises_within x.round new.round answers rises_is))
        kept

    moved_one : (ps : List n.Packet) (a b d : List Output) → IsOf [] ps input → Gives (map plain_packet sent) [] a b → Tells answers places new_places queue rest last new_last b d →
        (m : IsMove [] ps (value_of work x places queue last) (value_of new_work new new_places rest new_last) a d) × (m.inputs ≡ input ∷ [])
    moved_one ps a b d is gives tells =
        by_one [] ps places new_places (value_of work x places queue last) (value_of new_work new new_places rest new_last) a b d input is came.node same number_is
        (gives_sent (reacts (plain_workload work) input x) new sent step a b came gives)
        (subst (λ q. Tells (told (grown x) (reacts (plain_workload work) input x).step) places new_places q rest last new_last b d) (sym (append-nil queue))
        (subst (λ ts. Tells ts places new_places queue rest last new_last b d) (sym told_is) tells))
        (λ given tell are. told_placed x.round new.round places new_places given answers kept.round rises_is (subst (AreTold given) told_is tell) are)

    pub moved : (ps : List n.Packet) (a b d : List Output) → IsOf [] ps input → Gives (map plain_packet sent) [] a b → Tells answers places new_places queue rest last new_last b d →
        IsMove [] ps (value_of work x places queue last) (value_of new_work new new_places rest new_last) a d
    moved ps a b d is gives tells = (moved_one ps a b d is gives tells).0

    pub delivered : (packet : n.Packet) (d : Delivered) (a b e : List Output) → IsOf [] (packet ∷ []) input → IsChosen d (map plain_packet sent) → Gives (map plain_packet sent) [] a b →
        Tells answers places new_places queue rest last new_last b e → Delivers packet d (value_of work x places queue last) (value_of new_work new new_places rest new_last) a e
    delivered packet d a b e is chosen gives tells =
        let one = moved_one (packet ∷ []) a b e is gives tells in
        record {
          move = one.0;
          chosen = subst (λ l. IsChosen d (sent_after (plain_workload work) l x)) (sym one.1)
              (subst (IsChosen d) (came.sends ∙ sym (append-nil (reacts (plain_workload work) input x).sends)) chosen);
        }

-- ---- a request is taken on
module _ (work : Workload) (x new : Small) (places : Places) (queue : List Request) (last : List (Option Reply)) (request : Request) (room : length queue < 64) (came : new ≡ small (asked request.call (grown x)).node) (kept : IsKept places (value_of work x places queue last)) where
  has_room : length x.queue < 64
  has_room = subst (λ k. k < 64) (sym (length-map queue (λ (r : Request). r.call)) ∙ ap length kept.paired) room

  asks_round : new.round ≡ x.round
  asks_round = ap (λ (y : Small). y.round) came ∙ asked_round x request.call has_room

  asks_number : new.number ≡ x.number
  asks_number = ap (λ (y : Small). y.number) came ∙ asked_number x request.call has_room

  module _ (new_work : Workload) (new_places : Places) (rest : List Request) (new_last : List (Option Reply)) (same : new_work ≡ work) (gone : rest ≡ queue ++ request ∷ []) (stay : new_last ≡ last) (same_places : new_places ≡ places) where
    pub asks_kept : IsKept new_places (value_of new_work new new_places rest new_last)
    asks_kept =
        kept_on work new_work x new places new_places queue rest last new_last same asks_number
        (ap calls_of gone ∙ map-append (λ (r : Request). r.call) queue (request ∷ []) ∙ ap (λ l. l ++ request.call ∷ []) kept.paired
        ∙ sym (ap (λ (y : Small). y.queue) came ∙ asked_queue x request.call has_room))
        (subst KeepsFirst (sym came) (asked_first x request.call has_room kept.first))
        (λ are. subst (AreLast (plain_workload work) x.number) (sym stay) are)
        (subst (λ (p : Places). p.round ≤ new.round) (sym same_places) (subst (λ k. places.round ≤ k) (sym asks_round) kept.round)) kept

    pub asks_moved : (a : List Output) → IsMove (request ∷ []) [] (value_of work x places queue last) (value_of new_work new new_places rest new_last) a a
    unfolding definitions
    asks_moved a =
        (by_one (request ∷ []) [] places new_places (value_of work x places queue last) (value_of new_work new new_places rest new_last) a a a (Asked request.call) (Contains-push [] request.call) came same asks_number
        (gives_nothing (asked request.call (grown x)).sends a)
        (subst (λ ts. Tells ts places new_places (queue ++ request ∷ []) rest last new_last a a) (sym (asked_told x request.call has_room))
        (subst (λ q. Tells [] places new_places (queue ++ request ∷ []) q last new_last a a) (sym gone)
        (subst (λ p. Tells [] places p (queue ++ request ∷ []) (queue ++ request ∷ []) last new_last a a) (sym same_places)
        (subst (λ l. Tells [] places places (queue ++ request ∷ []) (queue ++ request ∷ []) last l a a) (sym stay) (tells_nothing places (queue ++ request ∷ []) last a)))))
        (λ given tell are. told_placed x.round new.round places new_places given [] kept.round (subst (λ k. x.round ≤ k) (sym asks_round) (omega arith)) (subst (AreTold given) (asked_told x request.call has_room) tell) are)).0
