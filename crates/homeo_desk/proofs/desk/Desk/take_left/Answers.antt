use Rattle.std.proofs.Common.{rules, arith, ◌≡◌, ◌+◌, List, ◌∷◌, [], ◌++◌, length, map, refl, ap, subst, sym, ◌∙◌}
use Rattle.std.specs.Prelude.{Some}
use Rattle.homeo_nodes.specs.Nodes as n
use Rattle.homeo_nodes.specs.Nodes.{of_past, of_states}
use Rattle.homeo_live.specs.Key.{definitions}
use Rattle.homeo_live.specs.LiveView.{plain_past}
use Rattle.homeo_live.proofs.LiveLists.{states_push}
use Rattle.homeo_carry.specs.CarryView.{plain_said}
use Rattle.homeo_desk.specs.Moves.{IsMove}
use Rattle.std.proofs.lemmas.List.{map-append, length-append, length-map}
use Rattle.homeo_desk.proofs.Giving.{in_left, in_right, in_itself, gives_nothing}
use Rattle.homeo_desk.proofs.Moving.{stays, then, of_wider}
use Rattle.homeo_desk.proofs.desk.Desk.take_left.Goals as goal

pub returns-then-len-sites-clause-moves : goal.returns-then-len-sites-clause-moves
returns-then-len-sites-clause-moves c = stays _ _ _ _ _ refl (gives_nothing [] _)

pub returns-then-not-branch-clause-moves : goal.returns-then-not-branch-clause-moves
unfolding definitions
returns-then-not-branch-clause-moves c =
    let past = c.args.past in
    let stop = n.Stop past.breach ∷ [] in
    of_wider [] stop (of_past (Some (plain_past past))) _ _ _ _ (in_left stop (of_states past.breach.round 0 (map plain_said past.states.items)) stop (in_itself stop)) c.in_ok-take.ensures.moves

pub loop-said-init : goal.loop-said-init
unfolding definitions
loop-said-init c = record { work = c.take.ensures.work; site = refl; moves = c.in_ok-take.ensures.moves }

pub loop-said-preserved : goal.loop-said-preserved
unfolding definitions
loop-said-preserved c =
    let b = c.args.past.breach in
    let before = map plain_said c.loop-said.yielded in
    let said = plain_said c.in-Some.said in
    let packet : n.Packet = n.State b.round c.loop-said.site said in
    let given : List n.Packet = n.Stop b ∷ of_states b.round 0 before in
    let counted = length-map c.loop-said.yielded plain_said in
    let is = c.loop-said.invariant.site in
    let long : 0 + length before ≡ c.loop-said.site = omega arith in
    let all : n.Stop b ∷ of_states b.round 0 (map plain_said (c.loop-said.yielded ++ c.in-Some.said ∷ [])) ≡ given ++ packet ∷ [] =
    ap (λ l. n.Stop b ∷ l) (ap (of_states b.round 0) (map-append plain_said c.loop-said.yielded (c.in-Some.said ∷ [])) ∙ states_push b.round 0 before said
    ∙ ap (λ k. of_states b.round 0 before ++ n.State b.round k said ∷ []) long) in
    record {
      work = search rules;
      site = let more = length-append c.loop-said.yielded (c.in-Some.said ∷ []) in omega arith;
      moves = subst (λ ps. IsMove [] ps c.args.self.now c.take-in-loop-said.new.self c.args.outputs.now.items c.take-in-loop-said.new.outputs.items) (sym all)
          (then [] (given ++ packet ∷ []) (packet ∷ []) _ _ _ _ _ _
          (of_wider [] given (given ++ packet ∷ []) _ _ _ _ (in_left given (packet ∷ []) given (in_itself given)) c.loop-said.invariant.moves)
          (in_left (packet ∷ []) _ (given ++ packet ∷ []) (in_right (packet ∷ []) given (packet ∷ []) (in_itself (packet ∷ []))))
          c.in_ok-fit.ensures.moves);
    }
