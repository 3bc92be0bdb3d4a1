-- What a value of the types of plans stands for, wherever its parts lie in memory.
use Rattle.std.specs.Prelude.{List, map, ℤ}
use Rattle.homeo_syntax.specs.Listed.{Listed}
use Rattle.homeo_syntax.specs.Low as l
use Rattle.homeo_syntax.specs.LowView.{low_commands, plain_lcond, plain_lcommand}
use Rattle.homeo_plan.specs.declared.forms.Linear.{Linear}
use Rattle.homeo_plan.specs.declared.forms.Atom.{Atom}
use Rattle.homeo_plan.specs.declared.forms.AtomSet.{AtomSet}
use Rattle.homeo_plan.specs.declared.rows.Row.{Row}
use Rattle.homeo_plan.specs.declared.rows.Residual.{Residual}
use Rattle.homeo_plan.specs.declared.templates.Clause.{Clause}
use Rattle.homeo_plan.specs.declared.templates.Template.{Template}
use Rattle.homeo_plan.specs.declared.templates.Config.{Config}
use Rattle.homeo_plan.specs.Table as table
use Rattle.homeo_plan.specs.Linear as linear
use Rattle.homeo_plan.specs.Template as template
use Rattle.homeo_plan.specs.Config as config

abbrev pub plain_row : Row → table.Row
plain_row r = record { formula = plain_lcond r.formula; residual = low_commands (map plain_lcommand r.residual.items) }

abbrev pub plain_residual : Residual → l.Commands
plain_residual r = low_commands (map plain_lcommand r.commands.items)

abbrev pub plain_linear : Linear → linear.Linear
plain_linear a = record { constant = a.constant; terms = a.terms.items; mixed = a.mixed.items }

abbrev pub plain_atom : Atom → linear.Linear
plain_atom a = plain_linear a.form

abbrev pub plain_atoms : AtomSet → List linear.Linear
plain_atoms s = map plain_atom s.atoms.items

abbrev pub plain_clause : Clause → template.Clause
plain_clause c = record { terms = c.terms.items; slack = c.slack }

abbrev pub plain_template : Template → template.Template
plain_template t = record { clauses = map plain_clause t.clauses.items; freezes = t.freezes.items }

abbrev pub plain_config : Config → config.Config
plain_config c = map (λ (b : Listed ℤ). b.items) c.bounds.items
