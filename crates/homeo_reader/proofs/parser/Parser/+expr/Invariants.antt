use Rattle.std.proofs.Common.{◌≡◌, ◌+◌, ◌*◌, [], ◌∷◌, length}
use Rattle.homeo_syntax.specs.SourceView.{plain_expr}
use Rattle.homeo_reader.specs.inner.Reading.{with_front, expr_views, test_views, factors_read, terms_read, tests_read}
use Rattle.homeo_reader.proofs.parser.Parser.+expr.Given as goal

abbrev pub decreases-factor : goal.decreases-factor
decreases-factor l = 16 * l.room

abbrev pub decreases-next_factor : goal.decreases-next_factor
decreases-next_factor l = 16 * l.room + 1

abbrev pub decreases-factors : goal.decreases-factors
decreases-factors l = 16 * l.room + 2

abbrev pub decreases-term : goal.decreases-term
decreases-term l = 16 * l.room + 3

abbrev pub decreases-next_term : goal.decreases-next_term
decreases-next_term l = 16 * l.room + 4

abbrev pub decreases-terms : goal.decreases-terms
decreases-terms l = 16 * l.room + 5

abbrev pub decreases-expr : goal.decreases-expr
decreases-expr l = 16 * l.room + 6

abbrev pub decreases-field_after_bracket : goal.decreases-field_after_bracket
decreases-field_after_bracket l = 16 * l.room + 7

abbrev pub decreases-after_name : goal.decreases-after_name
decreases-after_name l = 16 * l.room + 8

abbrev pub decreases-test : goal.decreases-test
decreases-test l = 16 * l.room

abbrev pub decreases-next_test : goal.decreases-next_test
decreases-next_test l = 16 * l.room + 1

abbrev pub decreases-tests : goal.decreases-tests
decreases-tests l = 16 * l.room + 2

abbrev pub decreases-cond : goal.decreases-cond
decreases-cond l = 16 * l.room + 3

abbrev pub decreases-visit : goal.decreases-visit
decreases-visit l = 16 * l.room + 4

abbrev pub decreases-count_after_word : goal.decreases-count_after_word
decreases-count_after_word l = 16 * l.room + 5

abbrev pub decreases-total_after_word : goal.decreases-total_after_word
decreases-total_after_word l = 16 * l.room + 5

abbrev pub invariant-factors-more : goal.invariant-factors-more
invariant-factors-more l = with_front (expr_views l.items.items) (factors_read l.room l.self.rest.now) ≡ with_front (plain_expr l.fn.first ∷ plain_expr l.fn.second ∷ []) (factors_read l.room l.initial.self.rest.now)

abbrev pub decreases-factors-more : goal.decreases-factors-more
decreases-factors-more l = length l.self.rest.now

abbrev pub invariant-terms-more : goal.invariant-terms-more
invariant-terms-more l = with_front (expr_views l.items.items) (terms_read l.room l.self.rest.now) ≡ with_front (plain_expr l.fn.first ∷ plain_expr l.fn.second ∷ []) (terms_read l.room l.initial.self.rest.now)

abbrev pub decreases-terms-more : goal.decreases-terms-more
decreases-terms-more l = length l.self.rest.now

abbrev pub invariant-tests-more : goal.invariant-tests-more
invariant-tests-more l = with_front (test_views l.items.items) (tests_read l.room l.self.rest.now) ≡ tests_read l.room l.initial.self.rest.now

abbrev pub decreases-tests-more : goal.decreases-tests-more
decreases-tests-more l = length l.self.rest.now
