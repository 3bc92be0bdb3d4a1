-- Nothing is put there where there is nothing.
use Rattle.std.proofs.Common.{◌++◌, sym, ap, ◌∙◌, append-nil}
use Rattle.homeo_form.proofs.FormParts.{no_items}
use Rattle.homeo_form.proofs.deltas.push_all.Goals as goal

pub returns-then-is_empty : goal.returns-then-is_empty
returns-then-is_empty c =
    sym (ap (λ l. c.args.deltas.now.items ++ l) (no_items c.args.more.now c.if-is_empty.ensures) ∙ append-nil c.args.deltas.now.items)
