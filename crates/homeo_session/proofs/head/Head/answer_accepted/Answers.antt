use Rattle.std.proofs.Common.{rules, ◌≡◌, ◌∙◌, ◌++◌, length, refl, sym, ap, subst}
use Rattle.homeo_syntax.specs.SourceView.{plain_workload}
use Rattle.homeo_syntax.specs.Tokens.{scanned_from}
use Rattle.homeo_meaning.specs.declared.call.Purpose.TheVariants as purpose
use Rattle.homeo_meaning.specs.Verdict.{Accepts}
use Rattle.homeo_accept.specs.RefusalLine.{refusal_line}
use Rattle.homeo_session.specs.Batches.{HeadValue, AnswersBatch}
use Rattle.homeo_session.specs.inner.Heads.{IsServedFrom}
use Rattle.homeo_session.proofs.FirstTokens.{HasToken}
use Rattle.homeo_session.proofs.Keeping.{batch_there, base_within, head_stays, begins_wrong, is_served, ok_more}
use Rattle.homeo_session.proofs.head.Head.answer_accepted.Goals as goal

pub serve_batch-requires-clause-within : goal.serve_batch-requires-clause-within
serve_batch-requires-clause-within c =
    let text = c.self.inside.text.items in
    let size : c.len.result ≡ length text = search rules in
    let frame = c.args.frame.now in
    let w = plain_workload c.args.w in
    let a = subst (λ (x : HeadValue). Accepts (x.text ++ frame) purpose.Steps w) (sym c.self.view_is) c.requires.accepted in
    let t = batch_there text frame c.self.inside.database.items w c.self.invariant a in
    base_within text frame c.self.inside.database.items w c.self.invariant a t
    (c.in-None.ensures.right t.first t.others (ap (λ n. scanned_from 0 n frame) size ∙ t.begins) refl)

pub invariant_of-result : goal.invariant_of-result
invariant_of-result c =
    let text = c.self.inside.text.items in
    let size : c.len.result ≡ length text = search rules in
    let frame = c.args.frame.now in
    let w = plain_workload c.args.w in
    let a = subst (λ (x : HeadValue). Accepts (x.text ++ frame) purpose.Steps w) (sym c.self.view_is) c.requires.accepted in
    let t = batch_there text frame c.self.inside.database.items w c.self.invariant a in
    head_stays text frame c.self.inside.database.items c.in_ok-report-in-None.field-0.database.items w c.self.invariant a t
    (c.in-None.ensures.right t.first t.others (ap (λ n. scanned_from 0 n frame) size ∙ t.begins) refl) c.in_ok-report-in-None.ensures.within

pub returns-in-Some : goal.returns-in-Some
returns-in-Some c =
    let frame = c.args.frame.now in
    let w = plain_workload c.args.w in
    let r = c.in-Some.refusal in
    let a = subst (λ (x : HeadValue). Accepts (x.text ++ frame) purpose.Steps w) (sym c.self.view_is) c.requires.accepted in
    let t = subst (λ (x : HeadValue). HasToken (length x.text) frame) c.self.view_is (batch_there c.self.inside.text.items frame c.self.inside.database.items w c.self.invariant a) in
    let own : c.len.result ≡ length c.self.inside.text.items = search rules in
    let size : c.len.result ≡ length c.args.self.text = own ∙ ap (λ (x : HeadValue). length x.text) c.self.view_is in
    let wrong = c.in-Some.ensures.wrong t.first t.others r (ap (λ n. scanned_from 0 n frame) size ∙ t.begins) refl in
    ok_more _ _ c.refuse.result (λ next told. (refusal_line r, told.1, begins_wrong c.args.self next frame w r c.requires.accepted t wrong told.0)) c.refuse.ensures

pub returns-in_ok-extend_from_slice-in-None : goal.returns-in_ok-extend_from_slice-in-None
returns-in_ok-extend_from_slice-in-None c =
    let text = c.self.inside.text.items in
    let size : c.len.result ≡ length text = search rules in
    let frame = c.args.frame.now in
    let w = plain_workload c.args.w in
    let d = c.self.inside.database.items in
    let last = c.in_ok-report-in-None.field-0.database.items in
    let a = subst (λ (x : HeadValue). Accepts (x.text ++ frame) purpose.Steps w) (sym c.self.view_is) c.requires.accepted in
    let t = batch_there text frame d w c.self.invariant a in
    let word = c.in-None.ensures.right t.first t.others (ap (λ n. scanned_from 0 n frame) size ∙ t.begins) refl in
    let report : c.in_ok-report-in-None.field-0.report.items ≡ c.deref.result.now = let told = c.deref.ensures.value in let is = c.in_ok-report-in-None.report-is in cc in
    let served = subst (λ l. IsServedFrom w d l last) report c.in_ok-report-in-None.ensures.served in (
      c.deref.result.now,
      c.in_ok-extend_from_slice-in-None.ensures.items,
      subst (λ (x : HeadValue). AnswersBatch x frame c.deref.result.now (record { text = text; database = last })) c.self.view_is (is_served text frame d w c.deref.result.now last a t word served),
    )
