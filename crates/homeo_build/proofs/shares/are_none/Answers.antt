use Rattle.homeo_build.proofs.SiteShares.{none_more, some_here, none_all}
use Rattle.homeo_build.proofs.shares.are_none.Goals as goal

pub loop-share-preserved : goal.loop-share-preserved
loop-share-preserved c = λ qs same.
    none_more c.args.shares.now qs c.loop-share.share-index same c.requires c.loop-share-test.true c.if-share-ne0.false (c.loop-share.invariant qs same)

pub returns-then-share-ne0 : goal.returns-then-share-ne0
returns-then-share-ne0 c = λ qs same. some_here c.args.shares.now qs c.loop-share.share-index same c.loop-share-test.true c.if-share-ne0.true

pub returns : goal.returns
returns c = λ qs same. none_all c.args.shares.now qs c.loop-share.share-index same c.loop-share-test.false (c.loop-share.invariant qs same)
