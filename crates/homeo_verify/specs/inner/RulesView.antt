-- What the rules of the code ask.
use Rattle.homeo_certificate.specs.Followed as followed
use Rattle.homeo_verify.specs.declared.rules.Rules.{Rules}

abbrev pub plain_rules : Rules → followed.Rules
plain_rules r = record { site = r.site; clauses = r.clauses.now; freezes = r.freezes.now }
