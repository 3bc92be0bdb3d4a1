-- The texts of expressions over split names, as they are put one after another.
use Rattle.std.specs.Prelude.{ℕ, List, codes}
use Rattle.homeo_syntax.specs.Low as l
use Rattle.homeo_syntax.specs.Source as s
use Rattle.homeo_print.specs.declared.position.Position.{Position}
use Rattle.homeo_print.specs.declared.position.Position.TheVariants as position
use Rattle.homeo_print.specs.Key.{definitions}
use Rattle.homeo_print.specs.Parentheses.{AsTerm, level_of}
use Rattle.homeo_print.specs.Tables as text

-- An expression at a position. Where its sign is put already, a negation is what it negates.
abbrev pub expr_text_in : s.Workload → Position → l.Expr → List ℕ
unfolding definitions
expr_text_in w position.Signed (l.Neg e) = text.expr_at w AsTerm e
expr_text_in w p e = text.expr_at w (level_of p) e

-- what stands in front of a term behind another
abbrev pub sign_text : l.Expr → List ℕ
unfolding definitions
sign_text (l.Neg e) = codes " - "
sign_text e = codes " + "
