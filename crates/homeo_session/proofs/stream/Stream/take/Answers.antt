use Rattle.std.proofs.Common.{◌≡◌, ◌∙◌, ◌+◌, ◌<◌, [], ◌∷◌, ◌++◌, length, refl, sym, ap, subst, arith, inr}
use Rattle.homeo_frames.specs.Frames.{IsFrame, IsOpen}
use Rattle.homeo_session.specs.Batches.{RefusesHead, IsAnswered}
use Rattle.homeo_frames.specs.LastLines.{EndsInEnd}
use Rattle.homeo_session.specs.Streams.{State, IsAfter, frame_limit, Decides}
use Rattle.homeo_session.specs.contracts.stream.Stream.{the_view}
use Rattle.homeo_session.proofs.Taking.{after_frame}
use Rattle.homeo_session.proofs.stream.Stream.take.Goals as goal

pub take_frame-requires : goal.take_frame-requires
take_frame-requires c =
    let s : State = the_view c.self.inside in
    let rest : c.deref.result.now ≡ s.rest = c.deref.ensures.value in
    let pushed : c.deref-2.result.now ≡ s.rest ++ c.args.byte ∷ [] = c.deref-2.ensures.value ∙ c.in_ok-push.ensures.items in
    subst EndsInEnd (ap (λ l. l ++ c.args.byte ∷ []) rest ∙ sym pushed) (c.if-not-ends.ensures.in_end refl)

pub returns-clause-goes_on : goal.returns-clause-goes_on
returns-clause-goes_on c = λ bytes out h none.
    let s : State = the_view c.self.inside in
    let was : IsAfter bytes out s = subst (λ (x : State). IsAfter bytes out x) (sym c.self.view_is) h in
    let rest : c.deref.result.now ≡ s.rest = c.deref.ensures.value in
    let pushed : c.deref-2.result.now ≡ s.rest ++ c.args.byte ∷ [] = c.deref-2.ensures.value ∙ c.in_ok-push.ensures.items in
    let short : length s.rest < frame_limit = omega (arith, ap length rest, c.deref.ensures.len, c.len.ensures, c.if-len-ge-FRAME_LIMIT.false) in
    let frame : IsFrame (s.rest ++ c.args.byte ∷ []) = subst (λ l. IsFrame (l ++ c.args.byte ∷ [])) rest
    (c.if-not-ends.ensures.ends refl (subst IsOpen (sym rest) was.cut.open_rest)) in
    let answer = c.in_ok-stop.ensures.answered none in (
      answer.0,
      answer.1,
      subst (λ r. IsAfter (bytes ++ c.args.byte ∷ []) (out ++ answer.0) (record { head = c.take_frame.new.head; rest = r; count = s.count + 1 })) (sym c.clear.ensures.items)
          (after_frame bytes out answer.0 s c.take_frame.new.head c.args.byte was short c.if-self-ge-STREAM_LIMIT.false frame
          (subst (λ l. IsAnswered s.head l answer.0 c.take_frame.new.head) pushed answer.2)),
    )

pub returns-clause-stops : goal.returns-clause-stops
returns-clause-stops c = λ bytes out r h is.
    let s : State = the_view c.self.inside in
    let was : IsAfter bytes out s = subst (λ (x : State). IsAfter bytes out x) (sym c.self.view_is) h in
    let rest : c.deref.result.now ≡ s.rest = c.deref.ensures.value in
    let pushed : c.deref-2.result.now ≡ s.rest ++ c.args.byte ∷ [] = c.deref-2.ensures.value ∙ c.in_ok-push.ensures.items in
    let short : length s.rest < frame_limit = omega (arith, ap length rest, c.deref.ensures.len, c.len.ensures, c.if-len-ge-FRAME_LIMIT.false) in
    let frame : IsFrame (s.rest ++ c.args.byte ∷ []) = subst (λ l. IsFrame (l ++ c.args.byte ∷ [])) rest
    (c.if-not-ends.ensures.ends refl (subst IsOpen (sym rest) was.cut.open_rest)) in
    let refused = c.in_ok-stop.ensures.refused r is in (
      refused.0,
      subst (λ (x : State). Decides x c.args.byte r) c.self.view_is (inr (inr (record {
        short = short;
        within = c.if-self-ge-STREAM_LIMIT.false;
        first = refused.1;
        frame = frame;
        refused = subst (λ l. RefusesHead l r) pushed refused.2;
      }))),
    )
