use Rattle.std.proofs.Common.{ap, ◌∙◌}
use Rattle.std.proofs.lemmas.Result.{IfOk-weaker}
use Rattle.homeo_print.specs.Treaties.{treaty_text}
use Rattle.homeo_commands.proofs.treaty.treaty.Goals as goal

pub returns : goal.returns
returns c = IfOk-weaker c.first_treaty.result _ _ (λ bytes is. is ∙ ap treaty_text c.in_ok-compiled.ensures) c.first_treaty.ensures
