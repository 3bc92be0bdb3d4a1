use Rattle.std.proofs.Common.{◌≡◌, ◌∙◌, SFits, to_z, of_z, rules}
use mir.Syntax.{w128}
use Rattle.std.proofs.lemmas.Int.{to_z-of_z}
use Rattle.homeo_site.proofs.OwnTerms.{bound_there, no_bound}
use Rattle.homeo_site.proofs.own_treaty.bound_of.Goals as goal

pub returns-then-clause-bounds : goal.returns-then-clause-bounds
returns-then-clause-bounds c =
    let fits : SFits w128 c.item_or.result = search rules in
    let back : to_z w128 (of_z w128 c.item_or.result) ≡ c.item_or.result = to_z-of_z w128 c.item_or.result fits in
    back
    ∙ bound_there c.args.config.now.bounds.items _ c.args.clause c.args.site _ _ _ c.as_slice-bounds.ensures c.if-clause-bounds.true
    c.index-bounds-clause.is c.as_slice.ensures c.item_or.ensures

pub returns-else-clause-bounds : goal.returns-else-clause-bounds
returns-else-clause-bounds c =
    no_bound c.args.config.now.bounds.items _ c.args.clause c.args.site c.as_slice-bounds.ensures c.if-clause-bounds.false
