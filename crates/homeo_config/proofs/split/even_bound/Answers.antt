-- What the shares up to the site get, less what those below it get.
use Rattle.std.proofs.Common.{◌≡◌, ◌+◌, ap, ◌∙◌, to_z, of_z, SFits, arith, rules}
use mir.Syntax.{w128}
use Rattle.std.proofs.lemmas.Int.{to_z-of_z}
use Rattle.homeo_meaning.specs.Schema.{nat_of}
use Rattle.homeo_config.proofs.EvenBounds.{even_bound_is}
use Rattle.homeo_config.proofs.Splitting.{amount_small, once, whole_is_small, part_rises}
use Rattle.homeo_config.proofs.split.even_bound.Goals as goal

pub natural-amount-requires-clause-small : goal.natural-amount-requires-clause-small
natural-amount-requires-clause-small c = amount_small c.args.slack _ c.requires.small (ap nat_of (to_z-of_z w128 c.args.slack c.ranges.slack))

pub part-given-requires-clause-small : goal.part-given-requires-clause-small
part-given-requires-clause-small c =
    let amount = c.natural-amount in
    whole_is_small amount.result c.args.sites (amount_small c.args.slack amount.result c.requires.small (amount.ensures ∙ ap nat_of (to_z-of_z w128 c.args.slack c.ranges.slack)))

pub part-part-requires-clause-small : goal.part-part-requires-clause-small
part-part-requires-clause-small c =
    let amount = c.natural-amount in
    whole_is_small amount.result c.args.sites (amount_small c.args.slack amount.result c.requires.small (amount.ensures ∙ ap nat_of (to_z-of_z w128 c.args.slack c.ranges.slack)))

pub bound-requires : goal.bound-requires
bound-requires c =
    let given = once c.natural-amount.result c.args.site c.args.sites c.part-given.result c.part-given.ensures in
    let part = once c.natural-amount.result (c.args.site + 1) c.args.sites c.part-part.result c.part-part.ensures in
    let rises = part_rises c.natural-amount.result c.args.site 1 c.args.sites (omega (arith, c.requires.site)) in
    omega (arith, given, part, rises)

pub returns : goal.returns
returns c =
    let amount = c.natural-amount in
    let fits : SFits w128 c.bound.result = search rules in
    let back : to_z w128 (of_z w128 c.bound.result) ≡ c.bound.result = to_z-of_z w128 c.bound.result fits in
    back ∙ c.bound.ensures
    ∙ even_bound_is c.args.sites c.args.site amount.result c.part-given.result c.part-part.result c.args.slack c.requires.site
    (amount.ensures ∙ ap nat_of (to_z-of_z w128 c.args.slack c.ranges.slack))
    (once amount.result c.args.site c.args.sites c.part-given.result c.part-given.ensures)
    (once amount.result (c.args.site + 1) c.args.sites c.part-part.result c.part-part.ensures)
