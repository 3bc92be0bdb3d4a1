-- An object that is frozen nowhere has no delta.
use Rattle.std.proofs.Common.{◌++◌, sym, ap, ◌∙◌, append-nil}
use Rattle.homeo_build.specs.inner.Frozen.{frozen_sites}
use Rattle.homeo_build.proofs.FrozenSites.{nowhere}
use Rattle.homeo_build.proofs.freezes.push_frozen.Goals as goal

pub returns-in-Nowhere : goal.returns-in-Nowhere
returns-in-Nowhere c =
    let out = c.args.deltas.now.items in
    let k = c.args.sites in
    let x = c.args.object in
    sym (ap (λ f. out ++ frozen_sites 0 k x f) c.in-Nowhere.is ∙ ap (λ l. out ++ l) (nowhere 0 k x) ∙ append-nil out)
