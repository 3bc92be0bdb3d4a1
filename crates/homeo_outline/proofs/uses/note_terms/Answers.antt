-- One more term.
use Rattle.std.proofs.Common.{ℕ, ◌==◌, List, map, get_or, pos, refl}
use Rattle.homeo_lemmas.proofs.Bools.{or_neither}
use Rattle.homeo_plan.specs.declared.forms.Term.{Term}
use Rattle.homeo_outline.specs.Numbers.{has}
use Rattle.homeo_outline.specs.inner.Uses.{at_object}
use Rattle.homeo_outline.proofs.Noting.{term_noted}
use Rattle.homeo_outline.proofs.uses.note_terms.Goals as goal

pub loop-term-init : goal.loop-term-init
loop-term-init c x n = or_neither (has n (at_object x (map (λ v. v.items) c.args.uses.now.items))) (n == c.args.number)

-- the term that is read
term_at : List Term → ℕ → Term
term_at ts k = get_or ts k (record { delta = record { object = 0; site = 0 }; factor = pos 0 })

pub loop-term-preserved : goal.loop-term-preserved
unfolding term_at
loop-term-preserved c =
    let ts = c.args.terms.now in
    let k = c.loop-term.term-index in
    term_noted ts k (term_at ts k) _ c.loop-term-test.true refl c.args.number (map (λ v. v.items) c.args.uses.now.items)
    (map (λ v. v.items) c.loop-term.uses.items) c.loop-term.invariant (map (λ v. v.items) c.note.new.uses.items) c.in_ok-note.ensures
