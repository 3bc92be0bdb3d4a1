-- Lists of phrases and of commands as plain data.
use Rattle.std.specs.Prelude.{List, map}
use Rattle.homeo_syntax.specs.Source as s
use Rattle.homeo_syntax.specs.SourceView.{exprs, tests, commands, plain_expr, plain_test, plain_field, plain_command}
use Rattle.homeo_syntax.specs.declared.phrase.Expr.{Expr}
use Rattle.homeo_syntax.specs.declared.phrase.Test.{Test}
use Rattle.homeo_syntax.specs.declared.phrase.Ident.{Ident}
use Rattle.homeo_syntax.specs.declared.command.FieldValue.{FieldValue}
use Rattle.homeo_syntax.specs.declared.command.Command.{Command}
use Rattle.homeo_rules.specs.inner.Key.{definitions}

abbrev pub plain_exprs : List Expr → s.Exprs
unfolding definitions
plain_exprs es = exprs (map plain_expr es)

abbrev pub plain_tests : List Test → s.Cond
unfolding definitions
plain_tests ts = tests (map plain_test ts)

abbrev pub plain_fields : List FieldValue → List s.FieldValue
unfolding definitions
plain_fields fs = map plain_field fs

-- the fields that an insert names
abbrev pub named_fields : List FieldValue → List Ident
unfolding definitions
named_fields fs = map (λ f. f.field) fs

abbrev pub plain_commands : List Command → s.Commands
unfolding definitions
plain_commands cs = commands (map plain_command cs)
