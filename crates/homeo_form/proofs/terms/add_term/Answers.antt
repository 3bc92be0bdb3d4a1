-- A term is added to that of its delta, or put at its place, or it doesn't count.
use Rattle.homeo_form.proofs.Adding.{begins_within, place_within, term_summed, term_inserted, term_none}
use Rattle.homeo_form.proofs.terms.add_term.Goals as goal

pub add_factor-requires-clause-within : goal.add_factor-requires-clause-within
add_factor-requires-clause-within c =
    begins_within c.args.term.now.delta c.args.terms.now.items _ c.place-place.result c.as_slice-2.ensures.value c.if-stands_at.ensures

pub returns-then-stands_at : goal.returns-then-stands_at
returns-then-stands_at c =
    term_summed c.args.term.now.delta c.args.term.now.factor c.args.terms.now.items c.add_factor.new.terms.items _ _ c.place-place.result
    c.as_slice.ensures.value c.as_slice-2.ensures.value c.place-place.ensures c.if-stands_at.ensures c.add_factor.ensures

pub insert-requires : goal.insert-requires
insert-requires c =
    place_within c.args.term.now.delta _ c.place-place.result _ c.as_slice.ensures.len c.place-place.ensures

pub returns-in_ok-insert : goal.returns-in_ok-insert
returns-in_ok-insert c =
    term_inserted c.args.term.now c.args.terms.now.items c.insert.new.self.items _ _ c.place-place.result c.as_slice.ensures.value
    c.as_slice-2.ensures.value c.place-place.ensures c.if-stands_at.ensures c.if-counts.ensures c.in_ok-insert.ensures.items

pub returns-else-counts : goal.returns-else-counts
returns-else-counts c =
    term_none c.args.term.now c.args.terms.now.items _ _ c.place-place.result c.as_slice.ensures.value c.as_slice-2.ensures.value
    c.place-place.ensures c.if-stands_at.ensures c.if-counts.ensures
