-- They are put behind none.
use Rattle.std.proofs.Common.{◌++◌, ap, ◌∙◌}
use Rattle.homeo_form.proofs.deltas.copied.Goals as goal

pub returns : goal.returns
returns c = c.in_ok-push_all.ensures ∙ ap (λ l. l ++ c.args.deltas.now) c.new-copy.ensures.items
