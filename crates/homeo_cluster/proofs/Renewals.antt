-- The cleanup event at one site, over plain data.
use Rattle.homeo_history.specs.Key.{definitions as history_definitions}
use Rattle.homeo_site.specs.Key.{definitions as site_definitions}
use Rattle.std.proofs.Common.{◌≡◌, ◌≢◌, ℕ, suc, ◌<◌, List, Some, sym, ap, subst}
use Rattle.std.specs.Prelude.{ℤ, slice_get}
use mathlib.Core.Logic.{dite}
use native.Mathlib.Decide.{ℕ_discrete}
use Rattle.homeo_notes.specs.Lines.{Held, Entry, HasSeen, list_at}
use Rattle.homeo_syntax.specs.Source as s
use Rattle.homeo_history.specs.History.{Entry as Made}
use Rattle.homeo_plan.specs.Planned.{sites_of}
use Rattle.homeo_history.specs.Legal.{IsClientAt}
use Rattle.homeo_site.specs.SiteState.{SiteState, renewed}
use Rattle.homeo_syntax.specs.SourceView.{plain_workload}
use Rattle.homeo_meaning.specs.Acceptance.{IsAccepted}
use Rattle.homeo_meaning.specs.Bounds.{IsWithin}
use Rattle.homeo_meaning.specs.Schema.{schema_of}
use Rattle.homeo_assembly.specs.Key.{definitions}
use Rattle.homeo_history.specs.Answers.{Answer, local_answer}
use Rattle.homeo_assembly.specs.Events.{HasMoved, Renews}
use Rattle.homeo_assembly.specs.Facts.{SiteFacts}
use Rattle.homeo_assembly.specs.Written.{written}
use Rattle.homeo_assembly.proofs.MovedEntries.{moving}
use Rattle.homeo_assembly.proofs.SiteEvents.{site_renewal}
use Rattle.homeo_site.specs.SiteView.{SiteValue}
use Rattle.homeo_cluster.specs.inner.Grows.{Grew}
use Rattle.homeo_cluster.specs.Places.{asked_line, kept_line, done_line, shut_line, at_line, bases_line}
use Rattle.homeo_cluster.specs.inner.Cells.{IsCell, HoldsAt, HoldsFor, site_lists}
use Rattle.homeo_cluster.proofs.Apart.{AreApart, apart}
use Rattle.homeo_cluster.proofs.Gives.{gives}
use Rattle.homeo_cluster.proofs.Grows.{grew_owner_same, grew_owner_other, grew_list_other, grew_seen}

-- one entry more has gone over: the list `shut` of its client grew
pub moved_more : (w : s.Workload) (x : SiteState) (h0 h h' : Held) (k : ℕ) (e : Made)
    → SiteFacts w x (site_lists w x.number h0) → IsClientAt w x.number e.call.client → slice_get x.segment k ≡ Some e
    → HasMoved w x k (site_lists w x.number h0).shut (site_lists w x.number h).shut
    → Grew h h' (shut_line w e.call.client) (written (local_answer x.round x.number e))
    → HasMoved w x (suc k) (site_lists w x.number h0).shut (site_lists w x.number h').shut
unfolding definitions history_definitions site_definitions
moved_more w x h0 h h' k e facts own at moved g =
    (moving w x (site_lists w x.number h0) facts).more k e (site_lists w x.number h).shut (site_lists w x.number h').shut at moved
    (gives w x.number h h' (shut_line w) (local_answer x.round x.number e) (apart w x.number).shut own g)

-- the holder after the list `shut` of one client grew
pub holds_shut : (w : s.Workload) (site client : ℕ) (h h' : Held) (e : Entry) → HoldsAt w site h → IsClientAt w site client
    → Grew h h' (shut_line w client) e → HasSeen h' (kept_line w client) (list_at h' (shut_line w client))
    → HoldsAt w site h'
holds_shut w site client h h' e is own g seen =
    let lines : AreApart w site = apart w site in
    let at_other : at_line w site ≢ shut_line w client = lines.at_shut client own in record {
      owns = grew_owner_other h h' (shut_line w client) (at_line w site) e g at_other is.owns;
      seen = subst (HasSeen h' (bases_line w)) (sym (grew_list_other h h' (shut_line w client) (at_line w site) e g at_other)) (grew_seen h h' (shut_line w client) (bases_line w) e (list_at h (at_line w site)) g is.seen);
      each = λ c at.
          let was : HoldsFor w h c = is.each c at in
          let done_other : done_line w c ≢ shut_line w client = lines.mixed c client at own in
          let owns_done = grew_owner_other h h' (shut_line w client) (done_line w c) e g done_other was.owns_done in
          let seen_asked = subst (HasSeen h' (asked_line c)) (sym (grew_list_other h h' (shut_line w client) (done_line w c) e g done_other)) (grew_seen h h' (shut_line w client) (asked_line c) e (list_at h (done_line w c)) g was.seen_asked) in
          dite (ℕ_discrete c client)
          (λ same. record {
            owns_done = owns_done;
            owns_shut = grew_owner_same h h' (shut_line w client) (shut_line w c) e g (ap (shut_line w) same);
            seen_asked = seen_asked;
            seen_kept = subst (λ n. HasSeen h' (kept_line w n) (list_at h' (shut_line w n))) (sym same) seen;
          })
          (λ other. let shut_other : shut_line w c ≢ shut_line w client = (λ q. other (lines.shut c client at own q)) in record {
            owns_done = owns_done;
            owns_shut = grew_owner_other h h' (shut_line w client) (shut_line w c) e g shut_other was.owns_shut;
            seen_asked = seen_asked;
            seen_kept = subst (HasSeen h' (kept_line w c)) (sym (grew_list_other h h' (shut_line w client) (shut_line w c) e g shut_other)) (grew_seen h h' (shut_line w client) (kept_line w c) e (list_at h (shut_line w c)) g was.seen_kept);
          });
    }

-- a site that begins the next round is a cell again
pub cell_renewed : (w : s.Workload) (v v' : SiteValue) (h h' : Held) (base : List ℤ) (a : Answer) → IsAccepted w → IsWithin (schema_of w) base
    → IsCell w (record { site = v; held = h }) → plain_workload v'.work ≡ w → v'.state ≡ renewed base v.state
    → Renews w base v.state a (site_lists w v.state.number h) (site_lists w v.state.number h') → HoldsAt w v.state.number h'
    → IsCell w (record { site = v'; held = h' })
unfolding definitions site_definitions
cell_renewed w v v' h h' base a accepted within is work state renews holds =
    let number : v'.state.number ≡ v.state.number = ap (λ (x : SiteState). x.number) state in record {
      work = work;
      number = subst (λ n. n < sites_of w) (sym number) is.number;
      facts = subst (λ (x : SiteState). SiteFacts w x (site_lists w x.number h')) (sym state)
          (site_renewal w base v.state a (site_lists w v.state.number h) (site_lists w v.state.number h') accepted within is.facts renews);
      holds = subst (λ n. HoldsAt w n h') (sym number) holds;
    }
