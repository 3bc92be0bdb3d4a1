use Rattle.std.proofs.Common.{◌++◌, map, length, append_assoc, sym, ap, ◌∙◌}
use Rattle.std.specs.Prelude.{codes}
use Rattle.homeo_print.specs.Names.{heading}
use Rattle.homeo_print.specs.inner.Choices.{picks_text}
use Rattle.homeo_print.proofs.ChoiceLines.{few_choices}
use Rattle.homeo_print.proofs.choices.print_joint.Goals as goal

pub returns : goal.returns
returns c = record {
  text = λ picks is.
      let rows = c.args.rows.now in
      let old = c.args.out.now.items in
      let head = heading (codes "joint ") (length rows) in
      let lines = picks_text (map (λ r. r.picks.items) rows) in
      c.in_ok-push_picks.ensures ∙ ap (λ l. l ++ lines) c.in_ok-push_heading.ensures
      ∙ append_assoc old head lines ∙ ap (λ l. old ++ l) (sym (few_choices rows picks c.requires.few is));
}
