-- The row variables in force that a chain of the code stands for.
use Rattle.std.specs.Prelude.{List, [], ◌∷◌}
use Rattle.homeo_meaning.specs.Bindings as b
use Rattle.homeo_rules.specs.declared.names.rows.Rows.{Rows, Outside, Inside'}

abbrev pub rows_of : Rows → List b.Row
rows_of Outside = []
rows_of (Inside' r q p outer) = record { row = r; relation = q } ∷ rows_of outer
