use Rattle.std.proofs.Common.{◌++◌, sym, ap, ◌∙◌}
use Rattle.homeo_print.proofs.ChoiceLines.{many_choices}
use Rattle.homeo_print.proofs.choices.print_too_many_choices.Goals as goal

pub returns : goal.returns
returns c = record {
  text = λ picks many. c.in_ok-push_bytes.ensures ∙ ap (λ l. c.args.out.now.items ++ l) (sym (many_choices picks many));
}
