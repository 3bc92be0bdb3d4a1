use Rattle.std.proofs.Common.{subst}
use Rattle.std.proofs.lemmas.Result.{IfOk-weaker}
use Rattle.homeo_syntax.specs.Source as s
use Rattle.homeo_commands.specs.Certified.{IsCertificateLine, IsUncertified}
use Rattle.homeo_commands.proofs.certify.certify.Goals as goal

pub returns-clause-made : goal.returns-clause-made
returns-clause-made c =
    IfOk-weaker c.first_certificate.result _ _ (λ bytes is. subst (λ (w : s.Workload). IsCertificateLine w bytes.items) c.in_ok-compiled.ensures is)
    c.first_certificate.ensures.made

pub returns-clause-refused : goal.returns-clause-refused
returns-clause-refused c = λ r is.
    subst (λ (w : s.Workload). IsUncertified w r) c.in_ok-compiled.ensures (c.first_certificate.ensures.refused r is)
