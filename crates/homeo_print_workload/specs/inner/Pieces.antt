-- What the values of the code stand for.
use Rattle.std.specs.Prelude.{pos}
use Rattle.homeo_syntax.specs.declared.token.Kind.{Kind}
use Rattle.homeo_syntax.specs.declared.token.Kind.TheVariants as kind
use Rattle.homeo_print_workload.specs.declared.pieces.Piece.{Piece}
use Rattle.homeo_print_workload.specs.declared.pieces.Piece.TheVariants as piece
use Rattle.homeo_print_workload.specs.Key.{definitions}

abbrev pub kind_of : Piece → Kind
unfolding definitions
kind_of (piece.Name n) = kind.Name n
kind_of (piece.Number n) = kind.Number (pos n)
kind_of (piece.Fixed m) = kind.Fixed m
