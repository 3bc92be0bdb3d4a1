use Rattle.std.proofs.Common.{◌≡◌, ◌∙◌, ◌<◌, ◌≤◌, [], ◌∷◌, ◌++◌, false, length, Option, refl, sym, ap, subst, arith}
use Rattle.homeo_meaning.specs.Verdict.{IsRefused, text_limit}
use Rattle.homeo_meaning.specs.declared.call.Purpose.TheVariants.{Run}
use Rattle.homeo_frames.specs.Frames.{IsFrame, IsOpen}
use Rattle.homeo_process.specs.inner.Feeds.{FeedValue, has_begun, IsFirst, IsInText, IsKept}
use Rattle.homeo_process.specs.inner.Lines.{LinesValue}
use Rattle.homeo_process.specs.contracts.feed.Feed.{the_view}
use Rattle.homeo_process.proofs.Feeding.{same_some, full_stops, frame_stops, text_more, text_ends, kept_in_text}
use Rattle.homeo_process.proofs.feed.Feed.take_text.Goals as goal

pub returns-then-len-ge-TEXT_LIMIT-clause-stops : goal.returns-then-len-ge-TEXT_LIMIT-clause-stops
returns-then-len-ge-TEXT_LIMIT-clause-stops c = λ bytes r h is.
    let f : FeedValue = the_view c.self.inside in
    let was : IsInText bytes f.text = subst (λ (x : FeedValue). IsInText bytes x.text) (sym c.self.view_is) h in
    let full : text_limit ≤ length f.text = omega (arith, c.len.ensures, c.if-len-ge-TEXT_LIMIT.true, c.self.inside.text.ok.0) in
    full_stops bytes f.text c.args.byte _ r was full refl (same_some _ r is)

pub returns-then-not-ends-clause-goes_on : goal.returns-then-not-ends-clause-goes_on
returns-then-not-ends-clause-goes_on c = λ bytes h none.
    let f : FeedValue = the_view c.self.inside in
    let was : IsInText bytes f.text = subst (λ (x : FeedValue). IsInText bytes x.text) (sym c.self.view_is) h in
    let text : c.deref.result.now ≡ f.text = c.deref.ensures.value in
    let short : length f.text < text_limit = omega (arith, ap length text, c.deref.ensures.len, c.len.ensures, c.if-len-ge-TEXT_LIMIT.false) in
    let first : has_begun f ≡ false = ap has_begun c.self.view_is ∙ c.requires in
    let goes_on : IsOpen f.text → IsOpen (f.text ++ c.args.byte ∷ []) = subst (λ t. IsOpen t → IsOpen (t ++ c.args.byte ∷ [])) text (c.if-not-ends.ensures.goes_on refl) in
    let more = subst (λ t. IsInText (bytes ++ c.args.byte ∷ []) t) (sym c.in_ok-push.ensures.items) (text_more bytes f.text c.args.byte was short goes_on) in
    kept_in_text (bytes ++ c.args.byte ∷ []) [] c.push.new.self.items f.lines first more refl

pub returns-clause-goes_on : goal.returns-clause-goes_on
returns-clause-goes_on c = λ bytes h none.
    let f : FeedValue = the_view c.self.inside in
    let was : IsInText bytes f.text = subst (λ (x : FeedValue). IsInText bytes x.text) (sym c.self.view_is) h in
    let text : c.deref.result.now ≡ f.text = c.deref.ensures.value in
    let ends : IsOpen f.text → IsFrame (f.text ++ c.args.byte ∷ []) = subst (λ t. IsOpen t → IsFrame (t ++ c.args.byte ∷ [])) text (c.if-not-ends.ensures.ends refl) in
    let taken = c.in_ok-stop.ensures.accepted none in
    let first = subst (λ t. IsFirst t taken.0) c.in_ok-push.ensures.items taken.1 in
    subst (λ (o : Option LinesValue). IsKept (bytes ++ c.args.byte ∷ []) [] c.end_text.new.self.text o) (sym taken.2)
    (text_ends bytes f.text c.args.byte taken.0 was ends first)

pub returns-clause-stops : goal.returns-clause-stops
returns-clause-stops c = λ bytes r h is.
    let f : FeedValue = the_view c.self.inside in
    let was : IsInText bytes f.text = subst (λ (x : FeedValue). IsInText bytes x.text) (sym c.self.view_is) h in
    let text : c.deref.result.now ≡ f.text = c.deref.ensures.value in
    let ends : IsOpen f.text → IsFrame (f.text ++ c.args.byte ∷ []) = subst (λ t. IsOpen t → IsFrame (t ++ c.args.byte ∷ [])) text (c.if-not-ends.ensures.ends refl) in
    frame_stops bytes f.text c.args.byte r was ends (subst (λ t. IsRefused t Run r) c.in_ok-push.ensures.items (c.in_ok-stop.ensures.refused r is))
