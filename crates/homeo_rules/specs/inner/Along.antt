-- Following lists of phrases, one after another.
use Rattle.std.specs.Prelude.{List, [], ◌∷◌}
use Rattle.homeo_syntax.specs.SourceView.{plain_expr, plain_test, plain_command}
use Rattle.homeo_syntax.specs.declared.phrase.Expr.{Expr}
use Rattle.homeo_syntax.specs.declared.phrase.Test.{Test}
use Rattle.homeo_syntax.specs.declared.command.FieldValue.{FieldValue}
use Rattle.homeo_syntax.specs.declared.command.Command.{Command}
use Rattle.homeo_meaning.specs.Bindings.{Row, Scope}
use Rattle.homeo_meaning.specs.Occurrences.{in_expr, in_test, in_command}
use Rattle.homeo_rules.specs.inner.Follow.{Standing, follow}

abbrev pub along_exprs : Scope → List Row → Standing → List Expr → Standing
along_exprs s rows k [] = k
along_exprs s rows k (e ∷ es) = along_exprs s rows (follow s k (in_expr rows (plain_expr e))) es

abbrev pub along_tests : Scope → List Row → Standing → List Test → Standing
along_tests s rows k [] = k
along_tests s rows k (t ∷ ts) = along_tests s rows (follow s k (in_test rows (plain_test t))) ts

abbrev pub along_values : Scope → List Row → Standing → List FieldValue → Standing
along_values s rows k [] = k
along_values s rows k (f ∷ fs) = along_values s rows (follow s k (in_expr rows (plain_expr f.value))) fs

abbrev pub along_commands : Scope → List Row → Standing → List Command → Standing
along_commands s rows k [] = k
along_commands s rows k (c ∷ cs) = along_commands s rows (follow s k (in_command rows (plain_command c))) cs
