use Rattle.std.proofs.Common.{◌≡◌, ◌∙◌, Err, Some, ap, subst}
use Rattle.homeo_meaning.specs.Verdict.{IsRefused}
use Rattle.homeo_meaning.specs.declared.call.Purpose.TheVariants.{Run}
use Rattle.homeo_process.specs.inner.Feeds.{FeedValue, IsFirst}
use Rattle.homeo_process.proofs.Feeding.{same_some}
use Rattle.homeo_process.proofs.feed.Feed.end_text.Goals as goal

pub returns-in-Ok-clause-accepted : goal.returns-in-Ok-clause-accepted
returns-in-Ok-clause-accepted c = λ none.
    let text : c.deref.result.now ≡ c.args.self.now.text = c.deref.ensures.value ∙ ap (λ (f : FeedValue). f.text) c.self.view_is in
    (c.in-Ok.shell, subst (λ t. IsFirst t c.in-Ok.shell) text c.in-Ok.ensures.accepted, ap Some c.begin.ensures)

pub returns-in-Err-Refused-clause-refused : goal.returns-in-Err-Refused-clause-refused
returns-in-Err-Refused-clause-refused c = λ r is.
    let text : c.deref.result.now ≡ c.args.self.now.text = c.deref.ensures.value ∙ ap (λ (f : FeedValue). f.text) c.self.view_is in
    let told = c.in-Err-Refused.ensures.refused c.in-Err-Refused.refusal (ap Err c.in-Err-Refused.field-0-is) in
    let same : Some c.in-Err-Refused.refusal ≡ Some r = rw c.in-Err-Refused.field-0-is at is in
    subst (λ t. IsRefused t Run r) text (subst (λ q. IsRefused c.deref.result.now Run q) (same_some c.in-Err-Refused.refusal r same) told)
