use Rattle.std.proofs.Common.{◌≡◌, drop}
use Rattle.homeo_rules.specs.inner.Listwise.{along_all}
use Rattle.homeo_rules.specs.inner.Relations.{relation_faults_of}
use Rattle.homeo_rules.proofs.rules.relations.check_relations.Given as goal

abbrev pub invariant-loop-q : goal.invariant-loop-q
invariant-loop-q l = along_all relation_faults_of l.best (drop l.q-index l.qs) ≡ along_all relation_faults_of l.initial.best l.qs
