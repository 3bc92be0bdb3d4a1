-- A used slot adds 1, or its field.
use Rattle.std.proofs.Common.{pos, sym, ap, ◌∙◌}
use Rattle.homeo_syntax.proofs.LowViews.{low_Literal}
use Rattle.homeo_meaning.specs.LForm.{read}
use Rattle.homeo_desugar.specs.inner.Key.{definitions}
use Rattle.homeo_context.specs.Slots.{plain_slot}
use Rattle.homeo_desugar.specs.inner.Visits.{term_of}
use Rattle.homeo_desugar.proofs.lifting.term.Goals as goal

pub returns-in-Some : goal.returns-in-Some
unfolding definitions
returns-in-Some c = c.read.ensures ∙ ap read c.field_cell.ensures ∙ sym (ap (λ f. term_of f (plain_slot c.args.slot)) c.in-Some.is)

pub returns-in-None : goal.returns-in-None
unfolding definitions
returns-in-None c = low_Literal (pos 1) ∙ sym (ap (λ f. term_of f (plain_slot c.args.slot)) c.in-None.is)
