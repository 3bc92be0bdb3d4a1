-- What is met after one meeting more.
use Rattle.std.proofs.Common.{◌≡◌, ◌⊎◌, inl, inr, ⊎_elim, ℕ, zero, suc, ◌+◌, ◌<◌, List, [], ◌∷◌, ◌++◌, length, set, get_or, Some, slice_get, length-set, refl, sym, ap, subst, ◌∙◌, arith}
use Rattle.std.proofs.Math.Seq.{map-set_same}
use Rattle.homeo_lemmas.proofs.Places.{get_map, one_placed}
use Rattle.homeo_syntax.specs.Source as s
use Rattle.homeo_history.specs.Answers.{Answer}
use Rattle.homeo_history.specs.Legal.{IsClientAt}
use Rattle.homeo_history.proofs.ClientAnswers.{one_site}
use Rattle.homeo_history.proofs.Lists.{get_map_back, set_cases}
use Rattle.homeo_assembly.specs.Facts.{Cell, BookLists, SiteFacts}
use Rattle.homeo_cluster.specs.inner.Cells.{CellValue, BookValue, cell_of, cells_of}
use Rattle.homeo_cluster.specs.Passes.{PassValue, logs_of, AreAll}
use Rattle.homeo_cluster.specs.inner.Meets.{SameBook, AreNumbered, CellsNumbered, IsMet, MetAt, MetShut, MetDone}

-- ---- sites in order
get_push : {X : Type 0} (xs : List X) (a b : X) (j : ℕ) → slice_get (xs ++ a ∷ []) j ≡ Some b → (slice_get xs j ≡ Some b) ⊎ ((a ≡ b) × (j ≡ length xs))
get_push [] a b zero e = inr (cc (e), refl)
get_push [] a b (suc j) e = absurd (cc (e))
get_push (x ∷ xs) a b zero e = inl e
get_push (x ∷ xs) a b (suc j) e = ⊎_elim inl (λ t. inr (t.0, ap suc t.1)) (get_push xs a b j e)

pub numbered_push :
    (cells more : List CellValue) (c : CellValue) → more ≡ cells ++ c ∷ [] → c.site.state.number ≡ length cells →
    AreNumbered cells → AreNumbered more
numbered_push cells more c is here all i t e = ⊎_elim
    (λ was. all i t was)
    (λ (last : (c ≡ t) × (i ≡ length cells)). ap (λ (k : CellValue). k.site.state.number) (sym last.0) ∙ (here ∙ sym last.1))
    (get_push cells c t i (ap (λ (l : List CellValue). slice_get l i) (sym is) ∙ e))

pub numbers_of_cells : (w : s.Workload) (vs : List CellValue) → AreNumbered vs → CellsNumbered (cells_of w vs)
numbers_of_cells w vs all i c e =
    let v = get_map_back (cell_of w) vs i c e in ap (λ (k : Cell). k.site.number) (sym v.1.1) ∙ all i v.0 v.1.0

-- the plain cell at a place
pub cell_at :
    (w : s.Workload) (vs : List CellValue) (cs : List Cell) (i : ℕ) (v : CellValue) → cells_of w vs ≡ cs →
    slice_get vs i ≡ Some v → slice_get cs i ≡ Some (cell_of w v)
cell_at w vs cs i v e at = subst (λ xs. slice_get xs i ≡ Some (cell_of w v)) e (get_map (cell_of w) vs i v at)

-- ---- one meeting more
last_or : (i j : ℕ) → j < i + 1 → (j < i) ⊎ (j ≡ i)
last_or zero zero lt = inr refl
last_or zero (suc j) lt = absurd (omega (arith, lt))
last_or (suc i) zero lt = inl (omega arith)
last_or (suc i) (suc j) lt = ⊎_elim (λ l. inl (omega (arith, l))) (λ e. inr (ap suc e)) (last_or i j (omega (arith, lt)))

pub at_more :
    (w : s.Workload) (cs : List Cell) (l l' : BookLists) (n : ℕ) (c : Cell) → MetAt w n cs l → slice_get cs n ≡ Some c →
    l' ≡ l → SiteFacts w c.site c.lists → c.lists.at ≡ l'.bases → MetAt w (n + 1) cs l
at_more w cs l l' n c met at same facts e i d lt here = ⊎_elim
    (λ before. met i d before here)
    (λ now.
    let is : c ≡ d = one_placed cs n c d at (ap (slice_get cs) (sym now) ∙ here) in
    subst (λ k. IsMet w k l) is (record { facts = facts; at = e ∙ ap (λ (k : BookLists). k.bases) same }))
    (last_or n i lt)

pub shut_more :
    (w : s.Workload) (cs : List Cell) (l l' : BookLists) (n h : ℕ) (c : Cell) → MetShut w n cs l → IsClientAt w h n →
    slice_get cs h ≡ Some c → l' ≡ l → c.lists.shut n ≡ l'.kept n → MetShut w (n + 1) cs l
shut_more w cs l l' n h c met home at same e client i d lt own here = ⊎_elim
    (λ before. met client i d before own here)
    (λ now.
    let place : i ≡ h = one_site w n i h (subst (IsClientAt w i) now own) home in
    let is : c ≡ d = one_placed cs h c d at (ap (slice_get cs) (sym place) ∙ here) in
    ap (λ (k : Cell). k.lists.shut client) (sym is)
    ∙ ap c.lists.shut now
    ∙ e
    ∙ ap l'.kept (sym now)
    ∙ ap (λ (k : BookLists). k.kept client) same)
    (last_or n client lt)

pub done_more :
    (w : s.Workload) (cs : List Cell) (logs : List (List Answer)) (n h : ℕ) (c : Cell) (log : List Answer) → MetDone w n cs logs →
    IsClientAt w h n → slice_get cs h ≡ Some c → slice_get logs n ≡ Some log → log ≡ c.lists.done n →
    MetDone w (n + 1) cs logs
done_more w cs logs n h c log met home at logged e client i d lt own here = ⊎_elim
    (λ before. met client i d before own here)
    (λ now.
    let place : i ≡ h = one_site w n i h (subst (IsClientAt w i) now own) home in
    let is : c ≡ d = one_placed cs h c d at (ap (slice_get cs) (sym place) ∙ here) in
    ap (slice_get logs) now
    ∙ logged
    ∙ ap Some (e ∙ ap c.lists.done (sym now) ∙ ap (λ (k : Cell). k.lists.done client) is))
    (last_or n client lt)

-- ---- what stays
pub same_book : (w : s.Workload) (a b c : BookValue) → SameBook w a b → SameBook w b c → SameBook w a c
same_book w a b c p q = record { closed = q.closed ∙ p.closed; base = q.base ∙ p.base; lists = q.lists ∙ p.lists }

pub cells_set :
    (w : s.Workload) (vs : List CellValue) (cs : List Cell) (i : ℕ) (v v' : CellValue) → cells_of w vs ≡ cs → v ≡ get_or vs i v →
    cell_of w v' ≡ cell_of w v → cells_of w (set vs i v') ≡ cs
cells_set w vs cs i v v' e read same = map-set_same (cell_of w) vs i v' v (same ∙ ap (cell_of w) read) ∙ e

pub logs_set :
    (passes : List PassValue) (logs : List (List Answer)) (i : ℕ) (p q : PassValue) → logs_of passes ≡ logs → p ≡ get_or passes i p →
    q.log ≡ p.log → logs_of (set passes i q) ≡ logs
logs_set passes logs i p q e read same =
    map-set_same (λ (k : PassValue). k.log) passes i q p (same ∙ ap (λ (k : PassValue). k.log) read) ∙ e

pub all_set :
    (w : s.Workload) (passes : List PassValue) (h : ℕ) (p q : PassValue) → slice_get passes h ≡ Some p → q.client ≡ p.client →
    AreAll w passes → AreAll w (set passes h q)
all_set w passes h p q at same all = record {
  count = length-set passes h q ∙ all.count;
  clients = λ i u e. ⊎_elim
      (λ (x : (i ≡ h) × (q ≡ u)). ap (λ (k : PassValue). k.client) (sym x.1) ∙ (same ∙ (all.clients h p at ∙ sym x.0)))
      (λ was. all.clients i u was)
      (set_cases passes h i q u e);
}
