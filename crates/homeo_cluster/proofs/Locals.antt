-- The local event, over plain data.
use Rattle.homeo_history.specs.Key.{definitions as history_definitions}
use Rattle.homeo_site.specs.Key.{definitions as site_definitions}
use Rattle.std.proofs.Common.{◌≡◌, ◌≢◌, ℕ, suc, ◌<◌, length, sym, ap, subst, ◌∙◌}
use Rattle.std.proofs.lemmas.List.{length-map}
use mathlib.Core.Logic.{dite}
use native.Mathlib.Decide.{ℕ_discrete}
use Rattle.homeo_notes.specs.Lines.{Held, Entry, HasSeen, list_at}
use Rattle.homeo_syntax.specs.Source as s
use Rattle.homeo_syntax.specs.SourceView.{plain_workload}
use Rattle.homeo_meaning.specs.Acceptance.{IsAccepted}
use Rattle.homeo_history.proofs.ClientAnswers.{client_at}
use Rattle.homeo_meaning.specs.declared.call.CallId.{CallId}
use Rattle.homeo_plan.specs.Planned.{sites_of}
use Rattle.homeo_history.specs.Legal.{IsClientAt, IsCallAt}
use Rattle.homeo_site.specs.SiteState.{SiteState, local_entry, after_local, KeepsCall}
use Rattle.homeo_assembly.specs.Key.{definitions}
use Rattle.homeo_history.specs.Answers.{Answer, local_answer}
use Rattle.homeo_assembly.specs.Events.{ExtendsDone}
use Rattle.homeo_assembly.specs.Facts.{SiteFacts}
use Rattle.homeo_assembly.specs.Written.{written, read}
use Rattle.homeo_assembly.proofs.SiteEvents.{local_event}
use Rattle.homeo_site.specs.SiteView.{SiteValue}
use Rattle.homeo_cluster.specs.inner.Grows.{Grew}
use Rattle.homeo_cluster.specs.Places.{asked_line, kept_line, done_line, shut_line, at_line, bases_line}
use Rattle.homeo_cluster.specs.inner.Cells.{IsCell, HoldsAt, HoldsFor, site_lists}
use Rattle.homeo_cluster.proofs.Apart.{AreApart, apart}
use Rattle.homeo_cluster.proofs.Gives.{gives, agrees}
use Rattle.homeo_cluster.proofs.Grows.{grew_owner_same, grew_owner_other, grew_list_other, grew_seen}

-- the holder after the list `done` of one client grew
pub holds_more : (w : s.Workload) (site client : ℕ) (h h' : Held) (e : Entry) → HoldsAt w site h → IsClientAt w site client
    → Grew h h' (done_line w client) e → HasSeen h' (asked_line client) (list_at h' (done_line w client))
    → HoldsAt w site h'
holds_more w site client h h' e is own g seen =
    let lines : AreApart w site = apart w site in
    let at_other : at_line w site ≢ done_line w client = lines.at_done client own in record {
      owns = grew_owner_other h h' (done_line w client) (at_line w site) e g at_other is.owns;
      seen = subst (HasSeen h' (bases_line w)) (sym (grew_list_other h h' (done_line w client) (at_line w site) e g at_other)) (grew_seen h h' (done_line w client) (bases_line w) e (list_at h (at_line w site)) g is.seen);
      each = λ c at.
          let was : HoldsFor w h c = is.each c at in
          let shut_other : shut_line w c ≢ done_line w client = (λ q. lines.mixed client c own at (sym q)) in
          let owns_shut = grew_owner_other h h' (done_line w client) (shut_line w c) e g shut_other was.owns_shut in
          let seen_kept = subst (HasSeen h' (kept_line w c)) (sym (grew_list_other h h' (done_line w client) (shut_line w c) e g shut_other)) (grew_seen h h' (done_line w client) (kept_line w c) e (list_at h (shut_line w c)) g was.seen_kept) in
          dite (ℕ_discrete c client)
          (λ same. record {
            owns_done = grew_owner_same h h' (done_line w client) (done_line w c) e g (ap (done_line w) same);
            owns_shut = owns_shut;
            seen_asked = subst (λ n. HasSeen h' (asked_line n) (list_at h' (done_line w n))) (sym same) seen;
            seen_kept = seen_kept;
          })
          (λ other. let done_other : done_line w c ≢ done_line w client = (λ q. other (lines.done c client at own q)) in record {
            owns_done = grew_owner_other h h' (done_line w client) (done_line w c) e g done_other was.owns_done;
            owns_shut = owns_shut;
            seen_asked = subst (HasSeen h' (asked_line c)) (sym (grew_list_other h h' (done_line w client) (done_line w c) e g done_other)) (grew_seen h h' (done_line w client) (asked_line c) e (list_at h (done_line w c)) g was.seen_asked);
            seen_kept = seen_kept;
          });
    }

pub extends_done : (w : s.Workload) (x : SiteState) (call : CallId) (h h' : Held) → IsClientAt w x.number call.client
    → call.seq ≡ suc (length (list_at h (done_line w call.client)))
    → Grew h h' (done_line w call.client) (written (local_answer x.round x.number (local_entry w x call)))
    → ExtendsDone w x (local_answer x.round x.number (local_entry w x call)) (site_lists w x.number h) (site_lists w x.number h')
unfolding definitions history_definitions site_definitions
extends_done w x call h h' own next g =
    let a : Answer = local_answer x.round x.number (local_entry w x call) in
    let lines : AreApart w x.number = apart w x.number in record {
      next = λ _. next ∙ ap suc (sym (length-map (list_at h (done_line w call.client)) (read call.client)));
      at = grew_list_other h h' (done_line w call.client) (at_line w x.number) (written a) g (lines.at_done call.client own);
      done = gives w x.number h h' (done_line w) a lines.done own g;
      shut = agrees w x.number h h' (shut_line w) (done_line w call.client) (written a) (λ c at q. lines.mixed call.client c own at (sym q)) g;
    }

pub cell_local : (w : s.Workload) (v v' : SiteValue) (h h' : Held) (call : CallId) → IsAccepted w
    → IsCell w (record { site = v; held = h }) → IsCallAt w v.state.number call → KeepsCall w v.state call
    → v'.work ≡ v.work → v'.state ≡ after_local w v.state call
    → call.seq ≡ suc (length (list_at h (done_line w call.client)))
    → Grew h h' (done_line w call.client) (written (local_answer v.state.round v.state.number (local_entry w v.state call)))
    → HasSeen h' (asked_line call.client) (list_at h' (done_line w call.client))
    → IsCell w (record { site = v'; held = h' })
unfolding definitions history_definitions site_definitions
cell_local w v v' h h' call accepted is at keeps work state next g seen =
    let e : Entry = written (local_answer v.state.round v.state.number (local_entry w v.state call)) in
    let own : IsClientAt w v.state.number call.client = client_at w call v.state.number at.at_site in
    let number : v'.state.number ≡ v.state.number = ap (λ (x : SiteState). x.number) state in record {
      work = ap plain_workload work ∙ is.work;
      number = subst (λ n. n < sites_of w) (sym number) is.number;
      facts = subst (λ (x : SiteState). SiteFacts w x (site_lists w x.number h')) (sym state)
          (local_event w v.state call (site_lists w v.state.number h) (site_lists w v.state.number h') accepted is.facts at keeps (extends_done w v.state call h h' own next g));
      holds = subst (λ n. HoldsAt w n h') (sym number) (holds_more w v.state.number call.client h h' e is.holds own g seen);
    }
