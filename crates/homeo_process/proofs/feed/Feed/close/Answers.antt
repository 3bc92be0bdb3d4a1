use Rattle.std.proofs.Common.{◌≡◌, ◌∙◌, true, false, Err, sym, ap, subst, inr}
use Rattle.homeo_meaning.specs.Verdict.{IsRefused}
use Rattle.homeo_meaning.specs.declared.call.Purpose.TheVariants.{Run}
use Rattle.homeo_process.specs.inner.Feeds.{FeedValue, has_begun, IsFirst, IsAfter}
use Rattle.homeo_process.specs.contracts.feed.Feed.{the_view}
use Rattle.homeo_process.proofs.Feeding.{same_some, in_text, behind_text, whole_text, end_refuses}
use Rattle.homeo_process.proofs.feed.Feed.close.Goals as goal

pub returns-then-is_some-clause-whole : goal.returns-then-is_some-clause-whole
returns-then-is_some-clause-whole c = λ bytes given h none.
    let f : FeedValue = the_view c.self.inside in
    let was : IsAfter bytes given f = subst (λ (x : FeedValue). IsAfter bytes given x) (sym c.self.view_is) h in
    let begun : has_begun f ≡ true = sym c.is_some.ensures ∙ c.if-is_some.true in
    inr (behind_text bytes given f.text f.lines begun was)

pub returns-in-Ok-clause-whole : goal.returns-in-Ok-clause-whole
returns-in-Ok-clause-whole c = λ bytes given h none.
    let f : FeedValue = the_view c.self.inside in
    let was : IsAfter bytes given f = subst (λ (x : FeedValue). IsAfter bytes given x) (sym c.self.view_is) h in
    let text : c.deref.result.now ≡ f.text = c.deref.ensures.value in
    let first : has_begun f ≡ false = sym c.is_some.ensures ∙ c.if-is_some.false in
    whole_text bytes f.text c.in-Ok.field-0 (in_text bytes given f.text f.lines first was).0 (subst (λ t. IsFirst t c.in-Ok.field-0) text c.in-Ok.ensures.accepted)

pub returns-in-Err-Refused-clause-stops : goal.returns-in-Err-Refused-clause-stops
returns-in-Err-Refused-clause-stops c = λ bytes given r h is.
    let f : FeedValue = the_view c.self.inside in
    let was : IsAfter bytes given f = subst (λ (x : FeedValue). IsAfter bytes given x) (sym c.self.view_is) h in
    let text : c.deref.result.now ≡ f.text = c.deref.ensures.value in
    let first : has_begun f ≡ false = sym c.is_some.ensures ∙ c.if-is_some.false in
    let told = c.in-Err-Refused.ensures.refused c.in-Err-Refused.refusal (ap Err c.in-Err-Refused.field-0-is) in
    end_refuses bytes f.text r (in_text bytes given f.text f.lines first was).0
    (subst (λ t. IsRefused t Run r) text (subst (λ q. IsRefused c.deref.result.now Run q) (same_some c.in-Err-Refused.refusal r is) told))

pub returns-in-Err-Refused-clause-stops_first : goal.returns-in-Err-Refused-clause-stops_first
returns-in-Err-Refused-clause-stops_first c = λ r is.
    sym (ap (λ (f : FeedValue). has_begun f) c.self.view_is) ∙ (sym c.is_some.ensures ∙ c.if-is_some.false)
