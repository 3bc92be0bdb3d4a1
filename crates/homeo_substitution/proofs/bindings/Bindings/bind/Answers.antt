-- The expression stands at the place.
use Rattle.homeo_meaning.specs.Key.{definitions as meaning_definitions}
use Rattle.homeo_substitution.specs.Bindings.{bound}
use Rattle.homeo_substitution.specs.Shared.{plain_shared}
use Rattle.homeo_substitution.proofs.Bound.{bound-put}
use Rattle.homeo_substitution.proofs.bindings.Bindings.bind.Goals as goal

pub returns : goal.returns
unfolding bound meaning_definitions
returns c = bound-put (λ e. plain_shared e.value) c.args.self.now.expressions c.insert.new.self c.args.place c.args.value c.in_ok-insert.ensures.updates.0
