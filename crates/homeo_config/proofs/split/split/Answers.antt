-- Each share's bound stands behind those before it.
use Rattle.std.proofs.Common.{◌≡◌, ◌+◌, ◌≤◌, get_or, sym, subst, ap, ◌∙◌, to_z, of_z, SFits, arith, rules}
use mir.Syntax.{w128}
use Rattle.std.proofs.lemmas.Int.{to_z-of_z}
use Rattle.homeo_meaning.specs.Schema.{nat_of}
use Rattle.homeo_config.proofs.Splitting.{amount_small, once, whole_is_small, bound_of, part_rises, shares_more, bounds_more, bounds_all}
use Rattle.homeo_config.proofs.split.split.Goals as goal

pub natural-amount-requires-clause-small : goal.natural-amount-requires-clause-small
natural-amount-requires-clause-small c = amount_small c.args.slack _ c.requires.small (ap nat_of (to_z-of_z w128 c.args.slack c.ranges.slack))

pub part-part-requires-clause-small : goal.part-part-requires-clause-small
part-part-requires-clause-small c =
    let amount = c.natural-amount in
    whole_is_small amount.result c.total-all.result (amount_small c.args.slack amount.result c.requires.small (amount.ensures ∙ ap nat_of (to_z-of_z w128 c.args.slack c.ranges.slack)))

pub bound-requires : goal.bound-requires
bound-requires c =
    let so_far = c.loop-share in
    let share = get_or c.args.shares.now so_far.share-index 0 in
    let some = subst (λ n. 1 ≤ n) (sym c.total-all.ensures) c.requires.some in
    let given = so_far.invariant.given in
    let part = once c.natural-amount.result (so_far.below + share) c.total-all.result c.part-part.result c.part-part.ensures in
    let rises = part_rises c.natural-amount.result so_far.below share c.total-all.result some in
    omega (arith, given, part, rises)

pub loop-share-preserved : goal.loop-share-preserved
loop-share-preserved c =
    let so_far = c.loop-share in
    let shares = c.args.shares.now in
    let amount = c.natural-amount.result in
    let fits : SFits w128 c.bound.result = search rules in
    let back : to_z w128 (of_z w128 c.bound.result) ≡ c.bound.result = to_z-of_z w128 c.bound.result fits in
    let part = once amount (so_far.below + get_or shares so_far.share-index 0) c.total-all.result c.part-part.result c.part-part.ensures in
    let bound = bound_of amount c.total-all.result so_far.below (so_far.below + get_or shares so_far.share-index 0) so_far.given c.part-part.result _ so_far.invariant.given part c.bound.ensures in
    record {
      below = shares_more shares so_far.share-index so_far.below c.loop-share-test.true so_far.invariant.below;
      given = part;
      bounds = bounds_more _ _ so_far.below so_far.share-index shares _ _ _ _ c.loop-share-test.true so_far.invariant.bounds (back ∙ bound) c.push_reserved.ensures.items;
      room = omega (arith, c.push_reserved.ensures.len, c.push_reserved.ensures.capacity, so_far.invariant.room, c.loop-share-test.true);
    }

pub returns : goal.returns
returns c =
    let so_far = c.loop-share in
    ap (λ l. l.items) c.from_vec.ensures
    ∙ bounds_all _ _ so_far.below so_far.share-index c.args.shares.now c.args.slack _ c.loop-share-test.false so_far.invariant.bounds c.total-all.ensures (c.natural-amount.ensures ∙ ap nat_of (to_z-of_z w128 c.args.slack c.ranges.slack))
