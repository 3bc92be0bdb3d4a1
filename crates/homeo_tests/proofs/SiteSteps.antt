-- What attempts and commits leave of a site, and where the first site comes from.
use Rattle.std.proofs.Common.{◌≡◌, ℕ, ◌<◌, List, ℤ, refl, sym, ap, ap₂, ◌∙◌, subst}
use Rattle.homeo_syntax.specs.SourceView.{plain_workload}
use Rattle.homeo_syntax.specs.declared.workload.Workload.{Workload}
use Rattle.homeo_meaning.specs.Acceptance.{IsAccepted}
use Rattle.homeo_meaning.specs.declared.call.CallId.{CallId}
use Rattle.homeo_plan.specs.Planned.{sites_of, policy}
use Rattle.homeo_plan.proofs.Policy.{some_sites}
use Rattle.homeo_outline.specs.ObjectPlan.{config_in}
use Rattle.homeo_outline.specs.declared.plan.ObjectPlan.{ObjectPlan}
use Rattle.homeo_history.specs.Legal.{IsCallAt}
use Rattle.homeo_site.specs.Key.{definitions}
use Rattle.homeo_site.specs.Attempts.{IsChange, IsOutcome}
use Rattle.homeo_site.specs.SiteState.{KeepsCall, step_deltas, step_prints, after_local}
use Rattle.homeo_site.specs.SiteView.{SiteValue}
use Rattle.homeo_site.specs.declared.attempts.Change.{Change}
use Rattle.homeo_site.specs.declared.attempts.Outcome.TheVariants.{Keeps}

-- the value with another spare
abbrev pub spared : SiteValue → ℕ → SiteValue
spared v n = record { work = v.work; state = v.state; spare = n }

pub call_stays :
    (old new : SiteValue) (call : CallId) (c : Change) (n : ℕ) → new ≡ spared old n →
    IsOutcome (plain_workload old.work) old.state call (Keeps c) → IsCallAt (plain_workload old.work) old.state.number call →
    IsCallAt (plain_workload new.work) new.state.number c.call
unfolding definitions
call_stays old new call c n e h at =
    subst (λ (v : SiteValue). IsCallAt (plain_workload v.work) v.state.number c.call) (sym e)
    (subst (IsCallAt (plain_workload old.work) old.state.number) (sym h.call) at)

pub change_stays :
    (old new : SiteValue) (call : CallId) (c : Change) (n : ℕ) → new ≡ spared old n →
    IsOutcome (plain_workload old.work) old.state call (Keeps c) → IsChange (plain_workload new.work) new.state c.call c
unfolding definitions
change_stays old new call c n e h =
    let w = plain_workload old.work in
    subst (λ (v : SiteValue). IsChange (plain_workload v.work) v.state c.call c) (sym e)
    (record {
      keeps = subst (KeepsCall w old.state) (sym h.call) h.keeps;
      call = refl;
      deltas = h.deltas ∙ ap (step_deltas w old.state) (sym h.call);
      prints = h.prints ∙ ap (step_prints w old.state) (sym h.call);
      written = h.written;
    })

pub number_stays :
    (old mid new : SiteValue) (call : CallId) (n m : ℕ) → mid ≡ spared old n →
    new ≡ record { work = mid.work; state = after_local (plain_workload mid.work) mid.state call; spare = m } →
    new.state.number ≡ old.state.number
unfolding definitions
number_stays old mid new call n m e d = ap (λ (v : SiteValue). v.state.number) d ∙ ap (λ (v : SiteValue). v.state.number) e

-- ---- the first site
pub policy_here :
    (w v : Workload) (p : ObjectPlan) (base : List ℤ) → p.base.items ≡ base → v ≡ w →
    config_in p ≡ policy (plain_workload v) base → config_in p ≡ policy (plain_workload w) p.base.items
policy_here w v p base start work h = h ∙ ap₂ (λ (u : Workload) b. policy (plain_workload u) b) work (sym start)

pub sites_there :
    (given made held : Workload) → IsAccepted (plain_workload given) → plain_workload made ≡ plain_workload given → held ≡ made →
    0 < sites_of (plain_workload held)
sites_there given made held accepted compiled shared =
    subst (λ u. 0 < sites_of u) (sym compiled ∙ sym (ap plain_workload shared)) (some_sites (plain_workload given) accepted)
