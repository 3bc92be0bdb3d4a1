-- The tokens of phrases, as they are put one after another.
use Rattle.std.specs.Prelude.{[], ◌∷◌}
use Rattle.homeo_syntax.specs.declared.token.Mark.{Mark}
use Rattle.homeo_syntax.specs.declared.token.Mark.TheVariants as mark
use Rattle.homeo_syntax.specs.declared.token.Kind.TheVariants as kind
use Rattle.homeo_syntax.specs.declared.phrase.Ident.{Ident}
use Rattle.homeo_syntax.specs.Source as s
use Rattle.homeo_print.specs.declared.position.Position.{Position}
use Rattle.homeo_print.specs.declared.position.Position.TheVariants as position
use Rattle.homeo_print.specs.Parentheses.{AsTerm, level_of}
use Rattle.homeo_print_workload.specs.Key.{definitions}
use Rattle.homeo_print_workload.specs.TokensOf.{Kinds, expr_at}

-- An expression at a position. Where its sign is put already, a negation is what it negates.
abbrev pub expr_in : Position → s.Expr → Kinds
unfolding definitions
expr_in position.Signed (s.Neg e) = expr_at AsTerm e
expr_in p e = expr_at (level_of p) e

-- the sign of a term behind another
abbrev pub sign_of : s.Expr → Mark
unfolding definitions
sign_of (s.Neg e) = mark.Minus
sign_of e = mark.Plus

-- row.field
abbrev pub row_field : Ident → Ident → Kinds
unfolding definitions
row_field row field = kind.Name row.name ∷ kind.Fixed mark.Dot ∷ kind.Name field.name ∷ []

-- of relation when
abbrev pub chosen_of : Ident → Kinds
unfolding definitions
chosen_of relation = kind.Fixed mark.Of ∷ kind.Name relation.name ∷ kind.Fixed mark.When ∷ []
