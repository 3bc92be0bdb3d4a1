-- Moves, put together.
use Rattle.std.proofs.Common.{◌≡◌, List, [], ◌∷◌, ◌++◌, map, refl, sym, ap, subst, ◌∙◌, append_assoc, append-nil, arith}
use Rattle.std.proofs.lemmas.List.{map-append}
use Rattle.std.specs.Prelude.{Contains, Option, Some, IfSome}
use Rattle.homeo_syntax.specs.Source as s
use Rattle.homeo_syntax.specs.SourceView.{plain_workload}
use Rattle.homeo_syntax.specs.declared.workload.Workload.{Workload}
use Rattle.homeo_meaning.specs.declared.call.CallId.{CallId}
use Rattle.homeo_history.specs.Answers as h
use Rattle.homeo_nodes.specs.Key.{definitions}
use Rattle.homeo_nodes.specs.Nodes as n
use Rattle.homeo_nodes.specs.Nodes.{Input, Asked, Served, Came, Withdrew, Ticked}
use Rattle.homeo_nodes.specs.Small.{Small, small, grown, small_after}
use Rattle.homeo_nodes.specs.Told.{told}
use Rattle.homeo_live.specs.declared.packet.Packet.{Packet}
use Rattle.homeo_live.specs.declared.packet.Step.{Step}
use Rattle.homeo_live.specs.LiveView.{plain_packet, IsReaction}
use Rattle.homeo_desk.specs.declared.output.Output.{Output}
use Rattle.homeo_desk.specs.declared.output.Request.{Request}
use Rattle.homeo_desk.specs.DeskView.{DeskValue, calls_of, last_answers}
use Rattle.homeo_desk.specs.Moves.{reacts, sent_after, told_after, IsOf, AreOf, IsMove}
use Rattle.homeo_desk.specs.Outputs.{AreIn, Gives, Given, AreTold, none, request_of, replies_of}
use Rattle.homeo_desk.specs.Places.{ArePlaced}
use Rattle.homeo_desk.specs.declared.places.Places.{Places}
use Rattle.homeo_desk.specs.inner.Keeping.{ArePut, Tells}
use Rattle.homeo_desk.proofs.Placing.{placed_nothing, placed_then}
use Rattle.homeo_desk.proofs.Giving.{in_itself, in_nothing, in_both, told_both, last_more, gives_then}

-- ---- inputs, one list after another
module _ (w : s.Workload) where
  pub after_more : (xs ys : List Input) (x : Small) → small_after w (xs ++ ys) x ≡ small_after w ys (small_after w xs x)
  unfolding definitions
  after_more [] ys x = refl
  after_more (input ∷ xs) ys x = after_more xs ys (small (reacts w input x).node)

  pub sent_more : (xs ys : List Input) (x : Small) → sent_after w (xs ++ ys) x ≡ sent_after w xs x ++ sent_after w ys (small_after w xs x)
  unfolding definitions
  sent_more [] ys x = refl
  sent_more (input ∷ xs) ys x =
      ap (λ ps. (reacts w input x).sends ++ ps) (sent_more xs ys (small (reacts w input x).node))
      ∙ sym (append_assoc (reacts w input x).sends (sent_after w xs (small (reacts w input x).node)) (sent_after w ys (small_after w xs (small (reacts w input x).node))))

  pub told_more : (xs ys : List Input) (x : Small) → told_after w (xs ++ ys) x ≡ told_after w xs x ++ told_after w ys (small_after w xs x)
  unfolding definitions
  told_more [] ys x = refl
  told_more (input ∷ xs) ys x =
      ap (λ ts. told (grown x) (reacts w input x).step ++ ts) (told_more xs ys (small (reacts w input x).node))
      ∙ sym (append_assoc (told (grown x) (reacts w input x).step) (told_after w xs (small (reacts w input x).node)) (told_after w ys (small_after w xs (small (reacts w input x).node))))

  of_more : (calls more : List CallId) (ps qs : List n.Packet) (input : Input) →
      ((c : CallId) → Contains calls c → Contains more c) → AreIn ps qs → IsOf calls ps input → IsOf more qs input
  of_more calls more ps qs (Asked call) f i h = f call h
  of_more calls more ps qs Served f i h = h
  of_more calls more ps qs (Came packet) f i h = i packet h
  of_more calls more ps qs (Withdrew packet) f i h = absurd h
  of_more calls more ps qs Ticked f i h = h

  pub are_of_more : (calls more : List CallId) (ps qs : List n.Packet) (xs : List Input) (x : Small) →
      ((c : CallId) → Contains calls c → Contains more c) → AreIn ps qs → AreOf w calls ps xs x → AreOf w more qs xs x
  are_of_more calls more ps qs [] x f i h = h
  are_of_more calls more ps qs (input ∷ xs) x f i h = (
    of_more calls more ps qs input f i h.0,
    are_of_more calls more (ps ++ (reacts w input x).sends) (qs ++ (reacts w input x).sends) xs (small (reacts w input x).node) f
        (in_both ps (reacts w input x).sends qs (reacts w input x).sends i (in_itself (reacts w input x).sends)) h.1,
  )

  pub are_of_both : (calls : List CallId) (ps : List n.Packet) (xs ys : List Input) (x : Small) →
      AreOf w calls ps xs x → AreOf w calls (ps ++ sent_after w xs x) ys (small_after w xs x) → AreOf w calls ps (xs ++ ys) x
  unfolding definitions
  are_of_both calls ps [] ys x a b = subst (λ l. AreOf w calls l ys x) (append-nil ps) b
  are_of_both calls ps (input ∷ xs) ys x a b = (
    a.0,
    are_of_both calls (ps ++ (reacts w input x).sends) xs ys (small (reacts w input x).node) a.1
        (subst (λ l. AreOf w calls l ys (small_after w xs (small (reacts w input x).node))) (sym (append_assoc ps (reacts w input x).sends (sent_after w xs (small (reacts w input x).node)))) b),
  )

-- ---- moves
pub stays : (ps : List n.Packet) (old new : DeskValue) (before after : List Output) → new ≡ old → Gives [] [] before after → IsMove [] ps old new before after
unfolding definitions
stays ps old new before after same g = record {
  inputs = [];
  are_of = tt;
  node = ap (λ (d : DeskValue). d.node) same;
  given = [];
  gives = g;
  told = none;
  queue = append-nil old.queue ∙ ap (λ (d : DeskValue). d.queue) (sym same);
  answered = ap (λ (d : DeskValue). d.answered) same;
  placed = subst (λ (d : DeskValue). ArePlaced old.node.round old.made [] d.node.round d.made) (sym same) (placed_nothing old.node.round old.made);
  work = ap (λ (d : DeskValue). d.work) same;
  number = ap (λ (d : DeskValue). d.node.number) same;
}

-- where these answers are told, each is at its place
abbrev pub PlacesAll : (a b : Places) → (old new : DeskValue) → List h.Answer → Type 0
PlacesAll a b old new answers =
    (given : List Given) → AreTold given answers → ArePut a (replies_of given) b → ArePlaced old.node.round old.made (replies_of given) new.node.round new.made

-- by one input: its packets are let out, and its answers are told
pub by_one : (requests : List Request) (ps : List n.Packet) (a b : Places) (old new : DeskValue) (x y z : List Output) (input : Input) → IsOf (calls_of requests) ps input →
    new.node ≡ small (reacts (plain_workload old.work) input old.node).node → new.work ≡ old.work → new.node.number ≡ old.node.number →
    Gives (reacts (plain_workload old.work) input old.node).sends [] x y →
    Tells (told (grown old.node) (reacts (plain_workload old.work) input old.node).step) a b (old.queue ++ requests) new.queue old.answered new.answered y z →
    PlacesAll a b old new (told (grown old.node) (reacts (plain_workload old.work) input old.node).step) → (m : IsMove requests ps old new x z) × (m.inputs ≡ input ∷ [])
unfolding definitions
by_one requests ps a b old new x y z input is node work number gives tells placed =
    let r = reacts (plain_workload old.work) input old.node in (
      record {
        inputs = input ∷ [];
        are_of = (is, tt);
        node = node;
        given = tells.given;
        gives = gives_then r.sends [] [] tells.given x y z gives tells.gives;
        told = subst (AreTold tells.given) (sym (append-nil (told (grown old.node) r.step))) tells.told;
        queue = tells.queue;
        answered = tells.answered;
        placed = placed tells.given tells.told tells.placed;
        work = work;
        number = number;
      },
      refl,
    )

-- what is given to the second are packets that were given to the first or that it may have sent
pub then : (requests : List Request) (ps qs : List n.Packet) (a b c : DeskValue) (x y z : List Output) (m : IsMove requests ps a b x y) →
    AreIn qs (ps ++ sent_after (plain_workload a.work) m.inputs a.node) → IsMove [] qs b c y z → IsMove requests ps a c x z
then requests ps qs a b c x y z m i k =
    let w = plain_workload a.work in
    let same : plain_workload b.work ≡ w = ap plain_workload m.work in
    let of_second : AreOf w (calls_of requests) (ps ++ sent_after w m.inputs a.node) k.inputs (small_after w m.inputs a.node) =
    are_of_more w [] (calls_of requests) qs (ps ++ sent_after w m.inputs a.node) k.inputs (small_after w m.inputs a.node) (λ call h. let lt = h.1 in absurd (omega arith)) i
    (subst (λ v. AreOf v [] qs k.inputs (small_after w m.inputs a.node)) same (subst (λ d. AreOf (plain_workload b.work) [] qs k.inputs d) m.node k.are_of)) in
    let gives_second : Gives (sent_after w k.inputs (small_after w m.inputs a.node)) k.given y z =
    subst (λ v. Gives (sent_after v k.inputs (small_after w m.inputs a.node)) k.given y z) same
    (subst (λ d. Gives (sent_after (plain_workload b.work) k.inputs d) k.given y z) m.node k.gives) in
    let told_second : AreTold k.given (told_after w k.inputs (small_after w m.inputs a.node)) =
    subst (λ v. AreTold k.given (told_after v k.inputs (small_after w m.inputs a.node))) same
    (subst (λ d. AreTold k.given (told_after (plain_workload b.work) k.inputs d)) m.node k.told) in
    record {
      inputs = m.inputs ++ k.inputs;
      are_of = are_of_both w (calls_of requests) ps m.inputs k.inputs a.node m.are_of of_second;
      node = k.node ∙ ap (λ d. small_after (plain_workload b.work) k.inputs d) m.node ∙ ap (λ v. small_after v k.inputs (small_after w m.inputs a.node)) same
          ∙ sym (after_more w m.inputs k.inputs a.node);
      given = m.given ++ k.given;
      gives =
          subst (λ l. Gives l (m.given ++ k.given) x z) (sym (sent_more w m.inputs k.inputs a.node))
          (gives_then (sent_after w m.inputs a.node) (sent_after w k.inputs (small_after w m.inputs a.node)) m.given k.given x y z m.gives gives_second);
      told =
          subst (AreTold (m.given ++ k.given)) (sym (told_more w m.inputs k.inputs a.node))
          (told_both m.given k.given (told_after w m.inputs a.node) (told_after w k.inputs (small_after w m.inputs a.node)) m.told told_second);
      queue =
          m.queue ∙ ap (λ l. map request_of m.given ++ l) (sym (append-nil b.queue) ∙ k.queue)
          ∙ sym (append_assoc (map request_of m.given) (map request_of k.given) c.queue)
          ∙ ap (λ l. l ++ c.queue) (sym (map-append request_of m.given k.given));
      answered =
          k.answered ∙ ap (last_answers (replies_of k.given)) m.answered ∙ sym (last_more (replies_of m.given) (replies_of k.given) a.answered)
          ∙ ap (λ l. last_answers l a.answered) (sym (map-append (λ (g : Given). g.reply) m.given k.given));
      placed =
          subst (λ l. ArePlaced a.node.round a.made l c.node.round c.made) (sym (map-append (λ (g : Given). g.reply) m.given k.given))
          (placed_then a.node.round a.made b.node.round b.made c.node.round c.made (replies_of m.given) (replies_of k.given) m.placed k.placed);
      work = k.work ∙ m.work;
      number = k.number ∙ m.number;
    }

-- nothing is given to the second
pub then_free : (requests : List Request) (ps : List n.Packet) (a b c : DeskValue) (x y z : List Output) → IsMove requests ps a b x y → IsMove [] [] b c y z →
    IsMove requests ps a c x z
then_free requests ps a b c x y z m k =
    then requests ps [] a b c x y z m (in_nothing (ps ++ sent_after (plain_workload a.work) m.inputs a.node)) k

-- more packets may be given
pub of_wider : (requests : List Request) (ps qs : List n.Packet) (a b : DeskValue) (x y : List Output) → AreIn ps qs → IsMove requests ps a b x y →
    IsMove requests qs a b x y
of_wider requests ps qs a b x y i m = record {
  inputs = m.inputs;
  are_of = are_of_more (plain_workload a.work) (calls_of requests) (calls_of requests) ps qs m.inputs a.node (λ c h. h) i m.are_of;
  node = m.node;
  given = m.given;
  gives = m.gives;
  told = m.told;
  queue = m.queue;
  answered = m.answered;
  placed = m.placed;
  work = m.work;
  number = m.number;
}

-- by one input, and then by packets that were given or sent by the input
pub input_then : (requests : List Request) (ps qs : List n.Packet) (a b : Places) (old new newer : DeskValue) (u x y z : List Output) (input : Input) → IsOf (calls_of requests) ps input →
    new.node ≡ small (reacts (plain_workload old.work) input old.node).node → new.work ≡ old.work → new.node.number ≡ old.node.number →
    Gives (reacts (plain_workload old.work) input old.node).sends [] u x →
    Tells (told (grown old.node) (reacts (plain_workload old.work) input old.node).step) a b (old.queue ++ requests) new.queue old.answered new.answered x y →
    PlacesAll a b old new (told (grown old.node) (reacts (plain_workload old.work) input old.node).step) → AreIn qs (ps ++ (reacts (plain_workload old.work) input old.node).sends) → IsMove [] qs new newer y z → IsMove requests ps old newer u z
input_then requests ps qs a b old new newer u x y z input is node work number gives tells placed i k =
    let w = plain_workload old.work in
    let one = by_one requests ps a b old new u x y input is node work number gives tells placed in
    let sent : sent_after w (input ∷ []) old.node ≡ sent_after w one.0.inputs old.node = ap (λ l. sent_after w l old.node) (sym one.1) in
    then requests ps qs old new newer u y z one.0
    (subst (λ l. AreIn qs (ps ++ l)) (sym (append-nil (reacts w input old.node).sends) ∙ sent) i) k

-- ---- by what came of an input in memory
pub came_at : (f : s.Workload → Small → n.Reaction) (v w : Workload) (x y : Small) (o : Option Step) (step : Step) (new : Small) (before sent : List Packet) →
    v ≡ w → x ≡ y → before ≡ [] → o ≡ Some step → IfSome o (IsReaction (f (plain_workload v) x) new before sent) → IsReaction (f (plain_workload w) y) new [] sent step
came_at f v w x y o step new before sent e g h is came =
    subst (λ z. IsReaction (f (plain_workload w) z) new [] sent step) g
    (subst (λ z. IsReaction (f (plain_workload z) x) new [] sent step) e
    (subst (λ z. IsReaction (f (plain_workload v) x) new z sent step) h
    (subst (λ z. IfSome z (IsReaction (f (plain_workload v) x) new before sent)) is came)))

pub gives_sent : (r : n.Reaction) (new : Small) (sent : List Packet) (step : Step) (a b : List Output) → IsReaction r new [] sent step →
    Gives (map plain_packet sent) [] a b → Gives r.sends [] a b
gives_sent r new sent step a b came g = subst (λ ps. Gives ps [] a b) came.sends g
