-- From what the meetings gave to the law of assembly, and to the last database.
use Rattle.homeo_core.specs.Key.{definitions as core_definitions}
use Rattle.homeo_assembly.specs.Key.{definitions}
use Rattle.std.specs.Int.{w64}
use Rattle.std.specs.Prelude.{All}
use Rattle.std.proofs.Common.{◌≡◌, ℕ, ◌<◌, List, [], ◌∷◌, ◌++◌, take, length, Some, slice_get, FitsSigned, refl, sym, ap, subst, ◌∙◌}
use Rattle.std.proofs.lemmas.List.{length-map}
use Rattle.std.proofs.lemmas.Option.{slice_get_within}
use Rattle.std.proofs.lemmas.Simd.{map-map}
use Rattle.homeo_lemmas.proofs.Places.{get_map}
use Rattle.homeo_syntax.specs.Source as s
use Rattle.homeo_meaning.specs.Acceptance.{IsAccepted}
use Rattle.homeo_meaning.specs.Bounds.{IsWithin}
use Rattle.homeo_meaning.specs.Initial.{initial}
use Rattle.homeo_meaning.specs.Schema.{schema_of}
use Rattle.homeo_plan.specs.Planned.{sites_of}
use Rattle.homeo_history.specs.Answers.{Answer}
use Rattle.homeo_history.proofs.Exists.{client_lt}
use Rattle.homeo_history.proofs.Lists.{all_from_get}
use Rattle.homeo_site.specs.SiteState.{SiteState}
use Rattle.homeo_core.specs.Joined.{BookState, AreJoined, history_of, segments_of, gathered}
use Rattle.homeo_core.proofs.InRounds.{all_fit}
use Rattle.homeo_core.proofs.OpenRound.{first_within, whole_within}
use Rattle.homeo_assembly.specs.Facts.{Cell, BookLists, BookFacts, SiteFacts, states_of}
use Rattle.homeo_assembly.specs.Laws.{IsAssembled}
use Rattle.homeo_assembly.proofs.Assembled.{assembly}
use Rattle.homeo_assembly.proofs.MetLists as met_lists
use Rattle.homeo_cluster.specs.inner.Cells.{CellValue, cell_of, cells_of}
use Rattle.homeo_cluster.specs.Passes.{PassValue, logs_of, AreAll}
use Rattle.homeo_cluster.specs.inner.Meets.{AreNumbered, CellsNumbered, MetAt, MetShut, MetDone, AreSettled, site_states}
use Rattle.homeo_cluster.proofs.MetMore.{numbers_of_cells}

pub numbers_again : (w : s.Workload) (vs : List CellValue) (cs : List Cell) → AreNumbered vs → cs ≡ cells_of w vs → CellsNumbered cs
numbers_again w vs cs all e = subst CellsNumbered (sym e) (numbers_of_cells w vs all)

pub settled_all :
    (w : s.Workload) (vs : List CellValue) (b : BookState) (l : BookLists) (passes : List PassValue) → BookFacts w b l →
    length vs ≡ sites_of w → AreNumbered vs → AreAll w passes → MetAt w (length vs) (cells_of w vs) l →
    MetShut w (length w.clients) (cells_of w vs) l → MetDone w (length w.clients) (cells_of w vs) (logs_of passes) →
    AreSettled w b l (cells_of w vs) (logs_of passes)
settled_all w vs b l passes book count numbers all at shut done =
    let long : length (cells_of w vs) ≡ length vs = length-map vs (cell_of w) in
    let lt : (i : ℕ) (c : Cell) → slice_get (cells_of w vs) i ≡ Some c → i < length vs =
    (λ i c e. subst (λ n. i < n) long (slice_get_within (cells_of w vs) i c e)) in
    record {
      book = book;
      sites = all_from_get (λ (c : Cell). SiteFacts w c.site c.lists) (cells_of w vs) (λ i c e. (at i c (lt i c e) e).facts);
      met = record {
        count = long ∙ count;
        numbers = numbers_of_cells w vs numbers;
        at = λ i c e. (at i c (lt i c e) e).at;
        shut = λ client i c own e. shut client i c (client_lt w i client own) own e;
      };
      asked = record {
        clients = length-map passes (λ (p : PassValue). p.log) ∙ all.count;
        done = λ client i c own e. done client i c (client_lt w i client own) own e;
      };
    }

-- ---- all met
same_states : (w : s.Workload) (vs : List CellValue) → states_of (cells_of w vs) ≡ site_states vs
unfolding definitions
same_states w vs = map-map (λ (c : Cell). c.site) (cell_of w) vs

pub states_again : (w : s.Workload) (vs vs' : List CellValue) → cells_of w vs' ≡ cells_of w vs → site_states vs' ≡ site_states vs
states_again w vs vs' e = sym (same_states w vs') ∙ ap states_of e ∙ same_states w vs

pub joined_of :
    (w : s.Workload) (vs : List CellValue) (b : BookState) (l : BookLists) (logs : List (List Answer)) →
    AreSettled w b l (cells_of w vs) logs → AreJoined w (initial w) b (site_states vs)
joined_of w vs b l logs all =
    subst (AreJoined w (initial w) b) (same_states w vs) (met_lists.joined w b l (cells_of w vs) all.book all.sites all.met)

pub assembled_of :
    (w : s.Workload) (vs : List CellValue) (b : BookState) (l : BookLists) (logs : List (List Answer)) → IsAccepted w →
    AreSettled w b l (cells_of w vs) logs → IsAssembled w logs (history_of b (site_states vs))
unfolding definitions
assembled_of w vs b l logs accepted all =
    subst (λ sites. IsAssembled w logs (history_of b sites)) (same_states w vs) (assembly w b l (cells_of w vs) logs accepted all.book all.sites all.met all.asked)

-- ---- the last database
pub sums_fit :
    (w : s.Workload) (b : BookState) (sites : List SiteState) → IsAccepted w → AreJoined w (initial w) b sites → (n : ℕ) →
    All (FitsSigned w64) (gathered b.base (take n sites))
sums_fit w b sites accepted joined n =
    all_fit w (gathered b.base (take n sites)) accepted (first_within w (initial w) b sites accepted joined n)

pub last_within :
    (w : s.Workload) (b : BookState) (sites : List SiteState) → IsAccepted w → AreJoined w (initial w) b sites →
    IsWithin (schema_of w) (gathered b.base sites)
last_within w b sites accepted joined = whole_within w (initial w) b sites accepted joined

-- ---- the open round's sites, one after another
pub states_get : (vs : List CellValue) (i : ℕ) (v : CellValue) → slice_get vs i ≡ Some v → slice_get (site_states vs) i ≡ Some v.site.state
states_get vs i v e = get_map (λ (c : CellValue). c.site.state) vs i v e

pub states_long : (vs : List CellValue) → length (site_states vs) ≡ length vs
states_long vs = length-map vs (λ (c : CellValue). c.site.state)

pub segments_more : (vs : List CellValue) (v : CellValue) → segments_of (site_states (vs ++ v ∷ [])) ≡ segments_of (site_states vs) ++ v.site.state.segment ∷ []
unfolding core_definitions
segments_more [] v = refl
segments_more (x ∷ vs) v = ap (λ l. x.site.state.segment ∷ l) (segments_more vs v)
