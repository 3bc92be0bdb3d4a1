-- What lies behind a row of locks that are held.
use Rattle.std.proofs.Common.{◌≡◌, ℕ, zero, suc, ◌<◌, List, [], ◌∷◌, ◌++◌, length, set, get_or, Some, slice_get, refl, sym, ap, subst, ◌∙◌, arith}
use Rattle.std.specs.Sync.Mutex.{mutex_guard_value}
use Rattle.std.specs.declared.sync.MutexGuard.{MutexGuard}
use Rattle.std.proofs.lemmas.List.{map-append, map-set, length-map}
use Rattle.std.proofs.lemmas.Option.{slice_get_within}
use Rattle.std.proofs.lemmas.Simd.{map-map}
use Rattle.homeo_lemmas.proofs.Places.{get_map}
use Rattle.homeo_syntax.specs.Source as s
use Rattle.homeo_meaning.specs.Initial.{initial}
use Rattle.homeo_plan.specs.Planned.{sites_of}
use Rattle.homeo_history.proofs.Exists.{client_lt}
use Rattle.homeo_history.proofs.Lists.{all_from_get}
use Rattle.homeo_core.specs.Joined.{BookState, AreJoined}
use Rattle.homeo_assembly.specs.Events.{InHand}
use Rattle.homeo_assembly.specs.Facts.{Cell, BookLists, BookFacts, SiteFacts, states_of}
use Rattle.homeo_assembly.specs.Key.{definitions}
use Rattle.homeo_assembly.proofs.MetLists as met_lists
use Rattle.homeo_cluster.specs.inner.Cells.{CellValue, cell_of, cells_of}
use Rattle.homeo_cluster.specs.inner.Meets.{AreNumbered, MetAt, MetShut, site_states}
use Rattle.homeo_cluster.specs.inner.Rows.{held_cells}
use Rattle.homeo_cluster.proofs.MetMore.{numbers_of_cells}

module _ {X : Type 0} where
  held_read : (gs : List (MutexGuard X)) (i : ℕ) (g : MutexGuard X) → i < length gs → g ≡ get_or gs i g → slice_get (held_cells gs) i ≡ Some (mutex_guard_value g)
  held_read [] i g l e = absurd (omega (arith, l))
  held_read (x ∷ xs) zero g l e = ap (λ k. Some (mutex_guard_value k)) (sym e)
  held_read (x ∷ xs) (suc i) g l e = held_read xs i g (omega (arith, l)) e

  pub held_at : (gs : List (MutexGuard X)) (i : ℕ) (g : MutexGuard X) (x : X) → i < length gs → g ≡ get_or gs i g → x ≡ mutex_guard_value g → slice_get (held_cells gs) i ≡ Some x
  held_at gs i g x l e is = held_read gs i g l e ∙ ap Some (sym is)

  pub held_set : (gs : List (MutexGuard X)) (i : ℕ) (g : MutexGuard X) → held_cells (set gs i g) ≡ set (held_cells gs) i (mutex_guard_value g)
  held_set gs i g = map-set (λ (k : MutexGuard X). mutex_guard_value k) gs i g

  pub held_push : (gs : List (MutexGuard X)) (g : MutexGuard X) → held_cells (gs ++ g ∷ []) ≡ held_cells gs ++ mutex_guard_value g ∷ []
  held_push gs g = map-append (λ (k : MutexGuard X). mutex_guard_value k) gs (g ∷ [])

  pub held_long : (gs : List (MutexGuard X)) → length (held_cells gs) ≡ length gs
  held_long gs = length-map gs (λ (k : MutexGuard X). mutex_guard_value k)

-- ---- cells that are plainly the same
pub cells_put : (w : s.Workload) (vs : List CellValue) (cs : List Cell) (i : ℕ) (v v' : CellValue) → cells_of w vs ≡ cs → slice_get vs i ≡ Some v → cell_of w v' ≡ cell_of w v → cells_of w (set vs i v') ≡ cs
cells_put w [] cs i v v' e at same = e
cells_put w (x ∷ vs) cs zero v v' e at same = let is : x ≡ v = cc (at) in (λ j. (same ∙ ap (cell_of w) (sym is)) j ∷ cells_of w vs) ∙ e
cells_put w (x ∷ vs) cs (suc i) v v' e at same = ap (λ l. cell_of w x ∷ l) (cells_put w vs (cells_of w vs) i v v' refl at same) ∙ e

pub numbers_still : (w : s.Workload) (vs vs' : List CellValue) → cells_of w vs' ≡ cells_of w vs → AreNumbered vs → AreNumbered vs'
numbers_still w vs vs' e all i c at =
    let here : slice_get (cells_of w vs) i ≡ Some (cell_of w c) = ap (λ l. slice_get l i) (sym e) ∙ get_map (cell_of w) vs' i c at in
    numbers_of_cells w vs all i (cell_of w c) here

pub states_are : (w : s.Workload) (vs : List CellValue) → states_of (cells_of w vs) ≡ site_states vs
unfolding definitions
states_are w vs = map-map (λ (c : Cell). c.site) (cell_of w) vs

-- ---- all in hand
pub hand_all :
    (w : s.Workload) (vs : List CellValue) (b : BookState) (l : BookLists) → BookFacts w b l → length vs ≡ sites_of w → AreNumbered vs →
    MetAt w (length vs) (cells_of w vs) l → MetShut w (length w.clients) (cells_of w vs) l → InHand w b l (cells_of w vs)
hand_all w vs b l book count numbers at shut =
    let long : length (cells_of w vs) ≡ length vs = length-map vs (cell_of w) in
    let lt : (i : ℕ) (c : Cell) → slice_get (cells_of w vs) i ≡ Some c → i < length vs = (λ i c e. subst (λ n. i < n) long (slice_get_within (cells_of w vs) i c e)) in
    record {
      book = book;
      sites = all_from_get (λ (c : Cell). SiteFacts w c.site c.lists) (cells_of w vs) (λ i c e. (at i c (lt i c e) e).facts);
      met = record {
        count = long ∙ count;
        numbers = numbers_of_cells w vs numbers;
        at = λ i c e. (at i c (lt i c e) e).at;
        shut = λ client i c own e. shut client i c (client_lt w i client own) own e;
      };
    }

pub joined_hand : (w : s.Workload) (vs : List CellValue) (b : BookState) (l : BookLists) → InHand w b l (cells_of w vs) → AreJoined w (initial w) b (site_states vs)
joined_hand w vs b l hand =
    subst (AreJoined w (initial w) b) (states_are w vs) (met_lists.joined w b l (cells_of w vs) hand.book hand.sites hand.met)
