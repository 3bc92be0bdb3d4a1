use Rattle.std.proofs.Common.{◌≡◌, IsErrOf, Err, refl, sym, subst}
use Rattle.homeo_syntax.specs.declared.workload.Refusal.{Refusal}
use Rattle.homeo_meaning.specs.Verdict.{Accepts}
use Rattle.homeo_meaning.specs.declared.call.Purpose.TheVariants.{Run}
use Rattle.homeo_accept.specs.declared.texts.TextRefusal.TheVariants as TextRefusal
use Rattle.homeo_process.proofs.Feeding.{too_long}
use Rattle.homeo_process.proofs.feed.shell_of.Goals as goal

-- the refusal that an error carries
refusal_of : {T : Type 0} (told r : Refusal) → IsErrOf {T = T} (Err (TextRefusal.Refused told)) (TextRefusal.Refused r) → told ≡ r
refusal_of told r is = cc

pub returns-then-text-gt-TEXT_LIMIT-clause-refused : goal.returns-then-text-gt-TEXT_LIMIT-clause-refused
returns-then-text-gt-TEXT_LIMIT-clause-refused c = λ r is. too_long c.args.text.now _ r c.if-text-gt-TEXT_LIMIT.true refl (refusal_of _ r is)

pub returns-in-Ok-clause-accepted : goal.returns-in-Ok-clause-accepted
returns-in-Ok-clause-accepted c = record {
  accepted = subst (λ w. Accepts c.args.text.now Run w) (sym c.in-Ok.ensures.1) c.in_ok-w.ensures.accepted;
  first = c.in-Ok.ensures.0;
}
