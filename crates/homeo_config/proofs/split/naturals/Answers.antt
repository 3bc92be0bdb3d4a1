-- Each share stands behind those before it.
use Rattle.homeo_config.proofs.Weighted.{natural_here, naturals_more, naturals_all}
use Rattle.homeo_config.proofs.split.naturals.Goals as goal

pub without_sign-requires : goal.without_sign-requires
without_sign-requires c = natural_here c.args.shares.now c.loop-share.share-index c.requires.natural c.requires.small c.loop-share-test.true

pub loop-share-preserved : goal.loop-share-preserved
loop-share-preserved c =
    naturals_more c.args.shares.now c.loop-share.share-index c.requires.natural c.requires.small c.loop-share-test.true _ _ c.without_sign.result
    c.loop-share.invariant c.without_sign.ensures c.in_ok-push.ensures.items

pub returns : goal.returns
returns c = naturals_all c.args.shares.now c.loop-share.share-index _ c.loop-share-test.false c.loop-share.invariant
