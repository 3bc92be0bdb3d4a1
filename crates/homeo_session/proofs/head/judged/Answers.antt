use Rattle.std.proofs.Common.{◌≡◌, IsErrOf, Err, refl}
use Rattle.homeo_syntax.specs.declared.workload.Refusal.{Refusal}
use Rattle.homeo_accept.specs.declared.texts.TextRefusal.TheVariants as TextRefusal
use Rattle.homeo_session.proofs.Keeping.{too_long}
use Rattle.homeo_session.proofs.head.judged.Goals as goal

-- the refusal that an error carries
refusal_of : {T : Type 0} (told r : Refusal) → IsErrOf {T = T} (Err (TextRefusal.Refused told)) (TextRefusal.Refused r) → told ≡ r
refusal_of told r is = cc

pub returns-then-text-gt-TEXT_LIMIT-clause-refused : goal.returns-then-text-gt-TEXT_LIMIT-clause-refused
returns-then-text-gt-TEXT_LIMIT-clause-refused c = λ r is.
    too_long c.args.text.now c.args.purpose _ r c.if-text-gt-TEXT_LIMIT.true refl (refusal_of _ r is)
