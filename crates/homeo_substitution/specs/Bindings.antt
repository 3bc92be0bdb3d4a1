-- What stands at each location that was set.
use Rattle.std.specs.Prelude.{Option}
use Rattle.std.specs.HashMap.{get_by}
use Rattle.std.specs.Option.{option_map}
use Rattle.homeo_syntax.specs.Low.{Expr}
use Rattle.homeo_meaning.specs.LowMeaning.{Location, same_location}
use Rattle.homeo_substitution.specs.declared.bindings.Bindings.{Bindings}
use Rattle.homeo_split.specs.Places.{plain_place}
use Rattle.homeo_substitution.specs.Shared.{plain_shared}

unfoldable pub bound : Bindings → Location → Option Expr
bound b l = option_map (λ e. plain_shared e.value) (get_by (λ p. same_location l (plain_place p)) b.expressions)
