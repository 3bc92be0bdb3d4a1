-- What stands behind the first of a list.
use Rattle.std.specs.Prelude.{List, ◌∷◌}
use Rattle.std.specs.List.{flat_map}
use Rattle.homeo_syntax.specs.declared.token.Mark.{Mark}
use Rattle.homeo_syntax.specs.declared.token.Mark.TheVariants as mark
use Rattle.homeo_syntax.specs.declared.token.Kind.TheVariants as kind
use Rattle.homeo_syntax.specs.declared.phrase.Expr.{Expr}
use Rattle.homeo_syntax.specs.declared.phrase.Test.{Test}
use Rattle.homeo_syntax.specs.declared.phrase.Number.{Number}
use Rattle.homeo_syntax.specs.declared.command.Command.{Command}
use Rattle.homeo_syntax.specs.declared.command.FieldValue.{FieldValue}
use Rattle.homeo_syntax.specs.declared.workload.RangeDecl.{RangeDecl}
use Rattle.homeo_syntax.specs.declared.workload.Call.{Call}
use Rattle.homeo_syntax.specs.Source as s
use Rattle.homeo_syntax.specs.SourceView.{plain_expr, plain_test, plain_field, plain_command, plain_call}
use Rattle.homeo_print.specs.declared.position.Position.TheVariants as position
use Rattle.homeo_print_workload.specs.Key.{definitions}
use Rattle.homeo_print.specs.Parentheses.{AsFactor}
use Rattle.homeo_print_workload.specs.TokensOf.{Kinds, expr_at, test_kinds, setting_kinds, command_kinds, decl_kinds, number_of, call_kinds}
use Rattle.homeo_print_workload.specs.inner.Walk.{expr_in, sign_of}

-- each item behind a mark
abbrev pub led_items : {X : Type 0} → Mark → (X → Kinds) → List X → Kinds
led_items m f xs = flat_map (λ x. kind.Fixed m ∷ f x) xs

abbrev pub later_term : s.Expr → Kinds
later_term e = kind.Fixed (sign_of e) ∷ expr_in position.Signed e

abbrev pub terms_behind : List Expr → Kinds
unfolding definitions
terms_behind es = flat_map (λ e. later_term (plain_expr e)) es

abbrev pub factors_behind : List Expr → Kinds
unfolding definitions
factors_behind es = led_items mark.Star (λ e. expr_at AsFactor (plain_expr e)) es

abbrev pub tests_behind : List Test → Kinds
unfolding definitions
tests_behind ts = led_items mark.And (λ t. test_kinds (plain_test t)) ts

abbrev pub settings_behind : List FieldValue → Kinds
unfolding definitions
settings_behind fs = led_items mark.Comma (λ f. setting_kinds (plain_field f)) fs

abbrev pub commands_behind : List Command → Kinds
unfolding definitions
commands_behind cs = led_items mark.Semicolon (λ c. command_kinds (plain_command c)) cs

abbrev pub decls_behind : List RangeDecl → Kinds
unfolding definitions
decls_behind ds = led_items mark.Comma decl_kinds ds

abbrev pub numbers_behind : List Number → Kinds
unfolding definitions
numbers_behind ns = led_items mark.Comma number_of ns

abbrev pub calls_behind : List Call → Kinds
unfolding definitions
calls_behind cs = led_items mark.Semicolon (λ c. call_kinds (plain_call c)) cs
