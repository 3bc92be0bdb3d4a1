-- What a site keeps holds at the start of a round, and after each call that keeps its treaty.
use Rattle.std.proofs.Common.{◌≡◌, ℕ, ◌<◌, List, length, replicate, ℤ, pos, refl, sym, ap, ◌∙◌, subst}
use mathlib.Core.Path.{fun_ext}
use Rattle.std.proofs.lemmas.List.Elements.{All-nil, All-push}
use Rattle.homeo_lemmas.proofs.Lists.{length_zeros}
use Rattle.homeo_lemmas.proofs.Places.{zeros_at}
use Rattle.homeo_syntax.specs.Source as s
use Rattle.homeo_meaning.specs.declared.call.CallId.{CallId}
use Rattle.homeo_meaning.specs.Acceptance.{IsAccepted}
use Rattle.homeo_meaning.specs.Bounds.{IsWithin}
use Rattle.homeo_meaning.specs.Schema.{schema_of}
use Rattle.homeo_meaning.specs.Serial.{values_of}
use Rattle.homeo_plan.specs.Key.{definitions as plan_definitions}
use Rattle.homeo_plan.specs.Joined.{Deltas}
use Rattle.homeo_plan.specs.Local.{no_deltas}
use Rattle.homeo_plan.specs.Planned.{sites_of, template_at, policy}
use Rattle.homeo_plan.proofs.OwnWithin.{zero_keeps}
use Rattle.homeo_plan.proofs.Policy.{policy_fits}
use Rattle.homeo_history.specs.Key.{definitions as history_definitions}
use Rattle.homeo_history.specs.History.{Entry}
use Rattle.homeo_history.specs.Legal.{IsCallAt}
use Rattle.homeo_history.specs.Replayed.{deltas_after, end_of, MeetsTreaty, KeepsOne}
use Rattle.homeo_site.specs.Key.{definitions}
use Rattle.homeo_site.specs.SiteState.{SiteState, SiteHolds, KeepsCall, local_entry, step_values, after_local, begun}
use Rattle.homeo_site.proofs.CallsOfSites.{end_more, keeps_more}
use Rattle.homeo_site.proofs.LocalSteps.{count_like, ready, step_list}

zeros_are : (n : ℕ) → no_deltas ≡ values_of (replicate n (pos 0))
unfolding plan_definitions
zeros_are n = fun_ext (λ x. sym (zeros_at n x))

pub begun_holds :
    (w : s.Workload) (number round : ℕ) (base : List ℤ) → IsAccepted w → number < sites_of w → IsWithin (schema_of w) base →
    SiteHolds w (begun number round base)
unfolding definitions history_definitions plan_definitions
begun_holds w number round base accepted site within =
    record {
      site = site;
      within = within;
      count = length_zeros (length base);
      meets =
          subst (MeetsTreaty w base number) (zeros_are (length base))
          (zero_keeps (sites_of w) (template_at w base) (policy w base) number (policy_fits w base accepted));
      calls = All-nil (λ (e : Entry). IsCallAt w number e.call);
      keeps = tt;
      replays = zeros_are (length base);
    }

pub local_holds :
    (w : s.Workload) (x : SiteState) (call : CallId) → IsAccepted w → SiteHolds w x → IsCallAt w x.number call →
    KeepsCall w x call → SiteHolds w (after_local w x call)
unfolding definitions history_definitions
local_holds w x call accepted h at keeps =
    record {
      site = h.site;
      within = h.within;
      count = count_like x.base (step_values w x call);
      meets = subst (MeetsTreaty w x.base x.number) (sym (step_list w x accepted (ready w x accepted h) call at)) keeps;
      calls = All-push (λ (e : Entry). IsCallAt w x.number e.call) x.segment (local_entry w x call) h.calls at;
      keeps = keeps_more w x.base x.number x.segment (local_entry w x call) no_deltas h.keeps one;
      replays =
          end_more w x.base x.segment (local_entry w x call) no_deltas
          ∙ ap (deltas_after w x.base call) h.replays ∙ sym (step_list w x accepted (ready w x accepted h) call at);
    }
  where
    one : KeepsOne w x.base x.number (end_of w x.base x.segment no_deltas) (local_entry w x call)
    one =
        subst (λ (d : Deltas). KeepsOne w x.base x.number d (local_entry w x call)) (sym h.replays)
        (record { prints = refl; keeps = keeps })
