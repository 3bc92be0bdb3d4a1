use Rattle.std.proofs.Common.{◌≡◌, ◌∙◌, IsErrOf, Err, sym, ap, subst}
use Rattle.homeo_syntax.specs.declared.workload.Refusal.{Refusal}
use Rattle.homeo_syntax.specs.Reads.{IsUnread}
use Rattle.homeo_meaning.specs.Faults.{IsRefusedBy}
use Rattle.homeo_accept.specs.declared.texts.TextRefusal.TheVariants as TextRefusal
use Rattle.homeo_syntax.specs.SourceView.{plain_workload}
use Rattle.homeo_accept.proofs.Decided.{refuses_unread, refuses_broken}
use Rattle.homeo_accept.proofs.texts.accepted.Goals as goal

-- the refusal that an error carries
refusal_of : {T : Type 0} (told r : Refusal) → IsErrOf {T = T} (Err (TextRefusal.Refused told)) (TextRefusal.Refused r) → told ≡ r
refusal_of told r is = cc

pub returns-in-Err-Refused-clause-refused : goal.returns-in-Err-Refused-clause-refused
returns-in-Err-Refused-clause-refused c = λ r is.
    let same : c.in-Err-Refused.refusal ≡ r = sym c.in-Err-Refused.refusal-is ∙ refusal_of _ r is in
    let unread = c.in-Err-Refused.ensures.refused c.in-Err-Refused.refusal (ap Err c.in-Err-Refused.field-0-is) in
    refuses_unread c.args.text.now c.args.purpose r c.requires (subst (IsUnread c.args.text.now) same unread)

pub returns-in-Err-Refused-accept-clause-refused :
    goal.returns-in-Err-Refused-accept-clause-refused
returns-in-Err-Refused-accept-clause-refused c = λ r is.
    let same : c.in-Err-Refused-accept.refusal ≡ r = sym c.in-Err-Refused-accept.refusal-is ∙ refusal_of _ r is in
    let by = c.in-Err-Refused-accept.ensures.refused c.in-Err-Refused-accept.refusal (ap Err c.in-Err-Refused-accept.field-0-is) in
    refuses_broken c.args.text.now c.args.purpose (plain_workload c.in-Ok.workload) r c.requires c.in-Ok.ensures.reads (subst (IsRefusedBy c.args.purpose (plain_workload c.in-Ok.workload)) same by)
