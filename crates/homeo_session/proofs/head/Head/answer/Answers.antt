use Rattle.std.proofs.Common.{◌≡◌, ◌∙◌, ◌++◌, Err, ap, subst}
use Rattle.homeo_meaning.specs.declared.call.Purpose.TheVariants as purpose
use Rattle.homeo_meaning.specs.Verdict.{IsRefused}
use Rattle.homeo_accept.specs.RefusalLine.{refusal_line}
use Rattle.homeo_session.specs.Batches.{HeadValue}
use Rattle.homeo_session.proofs.Keeping.{refused_by, ok_more}
use Rattle.homeo_session.proofs.head.Head.answer.Goals as goal

pub returns-in-Err-Refused : goal.returns-in-Err-Refused
returns-in-Err-Refused c =
    let r = c.in-Err-Refused.refusal in
    let text : c.deref-2.result.now ≡ c.args.self.text ++ c.args.frame.now =
    c.deref-2.ensures.value ∙ c.in_ok-extend_from_slice.ensures.items
    ∙ ap (λ l. l ++ c.args.frame.now) (c.in_ok-text.ensures.items ∙ c.deref.ensures.value ∙ ap (λ (x : HeadValue). x.text) c.self.view_is) in
    let refused = subst (λ l. IsRefused l purpose.Steps r) text (c.in-Err-Refused.ensures.refused r (ap Err c.in-Err-Refused.field-0-is)) in
    ok_more _ _ c.refuse.result (λ next told. (refusal_line r, told.1, refused_by c.args.self next c.args.frame.now r refused told.0)) c.refuse.ensures
