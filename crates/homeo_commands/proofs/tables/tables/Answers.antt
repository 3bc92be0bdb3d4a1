use Rattle.std.proofs.Common.{ap, ◌∙◌}
use Rattle.std.proofs.lemmas.Result.{IfOk-weaker}
use Rattle.homeo_meaning.specs.declared.call.Purpose.TheVariants as purpose
use Rattle.homeo_meaning.specs.Faults.{faults}
use Rattle.homeo_print.specs.Tables.{tables_text}
use Rattle.homeo_commands.proofs.tables.tables.Goals as goal

pub compiled_tables-requires : goal.compiled_tables-requires
compiled_tables-requires c = ap (faults purpose.Tables) c.in_ok-compiled.ensures ∙ c.requires

pub returns : goal.returns
returns c = IfOk-weaker c.compiled_tables.result _ _ (λ bytes is. is ∙ ap tables_text c.in_ok-compiled.ensures) c.compiled_tables.ensures
