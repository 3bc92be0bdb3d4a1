use Rattle.std.proofs.Common.{◌∙◌}
use Rattle.std.proofs.lemmas.Result.{IfOk-weaker}
use Rattle.homeo_build.proofs.SiteShares.{even_shares, own_shares}
use Rattle.homeo_build.proofs.shares.or_even.Goals as goal

pub returns-then-are_none : goal.returns-then-are_none
returns-then-are_none c =
    IfOk-weaker c.ones.result _ _ (λ l is qs same. even_shares c.args.sites l.items qs is (c.if-are_none.ensures qs (c.as_slice.ensures ∙ same))) c.ones.ensures

pub returns-else-are_none : goal.returns-else-are_none
returns-else-are_none c = λ qs same. own_shares c.args.sites c.args.shares.items qs same (c.if-are_none.ensures qs (c.as_slice.ensures ∙ same))
