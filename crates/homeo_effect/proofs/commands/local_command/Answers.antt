-- The numbers of a command are those of its expression.
use Rattle.std.proofs.Common.{ap, ◌∙◌, subst}
use Rattle.homeo_syntax.specs.LowView.{plain_lcommand, plain_lexpr}
use Rattle.homeo_syntax.proofs.LowViews.{low_Assign, low_Write, low_Print}
use Rattle.homeo_meaning.specs.Serial.{values_of}
use Rattle.homeo_effect.specs.inner.Alone.{CommandFits}
use Rattle.homeo_effect.proofs.Fitting.{assigned_fits, written_fits, printed_fits}
use Rattle.homeo_effect.proofs.commands.local_command.Goals as goal

pub local_expr-requires : goal.local_expr-requires
local_expr-requires c =
    let b = values_of c.args.base.now in
    assigned_fits b c.args.site c.in-Assign.target (plain_lexpr c.in-Assign.value)
    (subst (CommandFits b c.args.site) (ap plain_lcommand c.in-Assign.is ∙ low_Assign c.in-Assign.target c.in-Assign.value) c.requires)

pub local_expr-requires-in-Write : goal.local_expr-requires-in-Write
local_expr-requires-in-Write c =
    let b = values_of c.args.base.now in
    written_fits b c.args.site c.in-Write.target (plain_lexpr c.in-Write.value)
    (subst (CommandFits b c.args.site) (ap plain_lcommand c.in-Write.is ∙ low_Write c.in-Write.target c.in-Write.value) c.requires)

pub local_expr-requires-in-Print : goal.local_expr-requires-in-Print
local_expr-requires-in-Print c =
    let b = values_of c.args.base.now in
    printed_fits b c.args.site (plain_lexpr c.in-Print.value)
    (subst (CommandFits b c.args.site) (ap plain_lcommand c.in-Print.is ∙ low_Print c.in-Print.value) c.requires)
