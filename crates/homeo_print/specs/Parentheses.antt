-- Where parentheses stand, by where an expression stands (this project's rule).
use Rattle.homeo_print.specs.declared.position.Position.{Position}
use Rattle.homeo_print.specs.declared.position.Position.TheVariants as position

-- Where an expression stands: by itself, as a term of a sum, or as a factor of a product or behind a minus.
pub data Level : Type 0 where
  Alone : Level
  AsTerm : Level
  AsFactor : Level

-- a sum stands in parentheses but where it is by itself
abbrev pub around_sum : {A : Type 0} → (A → A) → Level → A → A
around_sum enclosed Alone sum = sum
around_sum enclosed AsTerm sum = enclosed sum
around_sum enclosed AsFactor sum = enclosed sum

-- a product stands in parentheses where it is a factor
abbrev pub around_product : {A : Type 0} → (A → A) → Level → A → A
around_product enclosed Alone product = product
around_product enclosed AsTerm product = product
around_product enclosed AsFactor product = enclosed product

-- the level of a position: a term whose sign is put already is a term
abbrev pub level_of : Position → Level
level_of position.Alone = Alone
level_of position.AsTerm = AsTerm
level_of position.AsFactor = AsFactor
level_of position.Signed = AsTerm
