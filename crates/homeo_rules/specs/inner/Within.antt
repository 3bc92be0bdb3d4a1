-- That the identifiers of a transaction are among the n names of the text.
use Rattle.std.specs.Prelude.{ℕ, List, [], ◌∷◌}
use Rattle.homeo_syntax.specs.Source as s
use Rattle.homeo_syntax.specs.SourceView.{plain_transaction}
use Rattle.homeo_syntax.specs.WellFormed.{Each, IsBelow, EachInCommands}
use Rattle.homeo_syntax.specs.declared.workload.RangeDecl.{RangeDecl}
use Rattle.homeo_syntax.specs.declared.workload.Transaction.{Transaction}
use Rattle.homeo_rules.specs.inner.Key.{definitions}

abbrev pub IsNamed : ℕ → s.Transaction → Type 0
unfolding definitions
IsNamed n t = Each (λ (p : RangeDecl). IsBelow n p.name) t.params × EachInCommands (IsBelow n) t.body

abbrev pub AreNamed : ℕ → List Transaction → Type 0
AreNamed n [] = Unit {0}
AreNamed n (t ∷ ts) = IsNamed n (plain_transaction t) × AreNamed n ts
