-- What is new has no effect.
use Rattle.std.proofs.Common.{ℕ, get_or, sym, subst}
use Rattle.homeo_site.specs.declared.effects.Kept.TheVariants.{New}
use Rattle.homeo_site.specs.inner.Effects.{IsKept}
use Rattle.homeo_site.proofs.EffectLists.{kept_push}
use Rattle.homeo_site.proofs.effects.Effects.extend.Goals as goal

pub loop-init : goal.loop-init
loop-init c = λ v h. h

pub loop-preserved : goal.loop-preserved
loop-preserved c = λ v h.
    subst (λ ks. (n : ℕ) → IsKept v n (get_or ks n New)) (sym c.in_ok-push.ensures.items)
    (kept_push (IsKept v) c.loop.self.kept.items (c.loop.invariant v h))

pub returns-in_err-push : goal.returns-in_err-push
returns-in_err-push c = λ v h.
    subst (λ ks. (n : ℕ) → IsKept v n (get_or ks n New)) (sym c.in_err-push.ensures.items) (c.loop.invariant v h)
