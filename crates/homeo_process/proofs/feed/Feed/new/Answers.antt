use Rattle.std.proofs.Common.{[], refl, sym, subst}
use Rattle.homeo_process.specs.inner.Feeds.{IsInText}
use Rattle.homeo_process.proofs.Feeding.{nothing_kept}
use Rattle.homeo_process.proofs.feed.Feed.new.Goals as goal

pub returns : goal.returns
returns c = (subst (λ t. IsInText [] t) (sym c.new.ensures.items) nothing_kept, refl)
