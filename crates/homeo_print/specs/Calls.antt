-- The text of a call.
use Rattle.std.specs.Prelude.{ℕ, List, [], ◌∷◌, ◌++◌, ℤ, codes, slice_get}
use Rattle.std.specs.Fmt.{signed_decimal}
use Rattle.std.specs.List.{flat_map}
use Rattle.std.specs.Option.{option_map_or}
use Rattle.homeo_syntax.specs.Source as s
use Rattle.homeo_syntax.specs.declared.phrase.Ident.{Ident}
use Rattle.homeo_meaning.specs.Ground.{Ground}
use Rattle.homeo_print.specs.Key.{definitions}
use Rattle.homeo_print.specs.Names.{name_text}

abbrev pub more_arguments_text : List ℤ → List ℕ
unfolding definitions
more_arguments_text args = flat_map (λ a. codes ", " ++ signed_decimal a) args

abbrev pub arguments_text : List ℤ → List ℕ
unfolding definitions
arguments_text [] = []
arguments_text (a ∷ more) = signed_decimal a ++ more_arguments_text more

-- NAME(V, V)
abbrev pub call_text : s.Workload → Ident → List ℤ → List ℕ
unfolding definitions
call_text w name args = name_text w name ++ codes "(" ++ arguments_text args ++ codes ")"

-- a ground call by the name of its transaction, and nothing where there is no such transaction
abbrev pub ground_text : s.Workload → Ground → List ℕ
unfolding definitions
ground_text w g = option_map_or (λ t. call_text w t.name g.args) (slice_get w.transactions g.transaction) []
