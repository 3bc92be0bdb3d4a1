use Rattle.std.proofs.Common.{◌∙◌, sym}
use Rattle.homeo_rules.specs.inner.Sizes.{workload_of}
use Rattle.homeo_rules.proofs.FormFaults.{rows-found, no-rows}
use Rattle.homeo_rules.proofs.forms.check_tables.Goals as goal

pub returns-then-makes_tables : goal.returns-then-makes_tables
returns-then-makes_tables c =
    c.check_rows.ensures
    ∙ rows-found c.args.purpose (workload_of c.args.measuring.now) c.args.best c.args.measured.now c.requires.grounds (sym c.makes_tables.ensures ∙ c.if-makes_tables.true)

pub returns-else-makes_tables : goal.returns-else-makes_tables
returns-else-makes_tables c =
    no-rows c.args.purpose (workload_of c.args.measuring.now) c.args.best (sym c.makes_tables.ensures ∙ c.if-makes_tables.false)
