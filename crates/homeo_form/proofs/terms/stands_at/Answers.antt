-- The term at the place, or none.
use Rattle.std.proofs.Common.{sym, ◌∙◌}
use Rattle.homeo_form.proofs.Adding.{term_begins_at, term_begins_past}
use Rattle.homeo_form.proofs.terms.stands_at.Goals as goal

pub returns-then-place-terms : goal.returns-then-place-terms
returns-then-place-terms c = c.is_of.ensures ∙ sym (term_begins_at c.args.delta c.args.terms.now c.args.place _ c.if-place-terms.true)

pub returns-else-place-terms : goal.returns-else-place-terms
returns-else-place-terms c = sym (term_begins_past c.args.delta c.args.terms.now c.args.place c.if-place-terms.false)
