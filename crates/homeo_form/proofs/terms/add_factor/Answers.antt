-- The term at the place has the sum, or is taken out.
use Rattle.std.proofs.Common.{◌∙◌}
use Rattle.homeo_form.specs.inner.Terms.{sum_limit}
use Rattle.homeo_form.proofs.Adding.{small_at, sum_counts, sum_is_none}
use Rattle.homeo_form.proofs.terms.add_factor.Goals as goal

pub plus-sum-requires-clause-small : goal.plus-sum-requires-clause-small
plus-sum-requires-clause-small c =
    small_at sum_limit c.args.terms.now.items c.args.place c.index.result.now c.requires.within c.index.ensures c.requires.small

pub returns-then-counts : goal.returns-then-counts
returns-then-counts c =
    sum_counts c.args.terms.now.items c.args.place c.args.more.now.factor c.index.result.now c.plus-sum.result c.requires.within c.index.ensures
    c.plus-sum.ensures.delta c.plus-sum.ensures.factor c.if-counts.ensures

pub returns-else-counts : goal.returns-else-counts
returns-else-counts c =
    c.remove.ensures.items
    ∙ sum_is_none c.args.terms.now.items c.args.place c.args.more.now.factor c.index.result.now c.plus-sum.result c.requires.within c.index.ensures
    c.plus-sum.ensures.factor c.if-counts.ensures
