-- The longest prefix of a list of calls that some configuration serves.
use Rattle.homeo_meaning.specs.Key.{definitions as meaning_definitions}
use Rattle.homeo_plan.specs.Key.{definitions}
use Rattle.std.proofs.Common.{◌≡◌, ◌⊎◌, ℕ, zero, suc, ◌<◌, ◌≤◌, List, [], ◌∷◌, ◌++◌, length, take, ℤ, Option, Some, None, refl, sym, ap, subst, ◌∙◌, arith, inl, inr}
use Rattle.std.specs.Prelude.{slice_get}
use Rattle.homeo_syntax.specs.Source as s
use Rattle.homeo_meaning.specs.declared.call.CallId.{CallId}
use Rattle.homeo_meaning.specs.Acceptance.{IsAccepted}
use Rattle.homeo_meaning.specs.Calls.{CallExists}
use Rattle.homeo_plan.specs.Each.{Each}
use Rattle.homeo_plan.specs.Joined.{Deltas}
use Rattle.homeo_plan.specs.Template.{PlannedCall, Template}
use Rattle.homeo_plan.specs.Config.{Config}
use Rattle.homeo_plan.specs.Local.{no_deltas}
use Rattle.homeo_plan.specs.Planned.{sites_of, planned, planned_at, template_at}
use Rattle.homeo_plan.proofs.Atoms.{append_each}
use Rattle.homeo_plan.proofs.Policy.{some_sites}
use Rattle.homeo_plan.proofs.Covering.{each_member}
use Rattle.homeo_plan.proofs.PlannedCalls.{planned_member, all_sites_below}
use Rattle.homeo_forecast.specs.Forecast.{IsServed, CanServe, IsForecast}
use Rattle.homeo_forecast.specs.Peaks.{Stop, first_stop}
use Rattle.homeo_forecast.specs.Visits.{Visit, visit, after, after_all, visits_from, visits, next_visit}
use Rattle.homeo_forecast.specs.Laws.{AreSited, ForecastsStand, OneForecast}
use Rattle.homeo_forecast.proofs.Peaks.{peaks_serve, served_first, served_on}

-- ---- visits of lists one after another
visits_append :
    (w : s.Workload) (base : List ℤ) (d : ℕ → Deltas) (xs ys : List CallId) →
    visits_from w base d (xs ++ ys) ≡ visits_from w base d xs ++ visits_from w base (after_all d (visits_from w base d xs)) ys
unfolding definitions
visits_append w base d [] ys = refl
visits_append w base d (x ∷ xs) ys = ap (λ vs. visit w base d x ∷ vs) (visits_append w base (after d (visit w base d x)) xs ys)

pub next_is :
    (w : s.Workload) (base : List ℤ) (xs : List CallId) (call : CallId) →
    visits w base (xs ++ call ∷ []) ≡ visits w base xs ++ next_visit w base xs call ∷ []
unfolding definitions
next_is w base xs call = visits_append w base (λ i. no_deltas) xs (call ∷ [])

-- ---- the sites of calls that there are
pub site_below : (w : s.Workload) (call : CallId) → IsAccepted w → CallExists w call → (planned_at w call).site < sites_of w
site_below w call accepted there =
    each_member (λ (g : PlannedCall). g.site < sites_of w) (planned_at w call) (planned w) (all_sites_below w accepted) (planned_member w call there)

pub visits_sited :
    (w : s.Workload) (base : List ℤ) (d : ℕ → Deltas) (calls : List CallId) → IsAccepted w → Each (λ call. CallExists w call) calls →
    AreSited (sites_of w) (visits_from w base d calls)
unfolding definitions meaning_definitions
visits_sited w base d [] accepted there = tt
visits_sited w base d (call ∷ calls) accepted there =
    (site_below w call accepted there.0, visits_sited w base (after d (visit w base d call)) calls accepted there.1)

each_take : {X : Type 0} (P : X → Type 0) (xs : List X) (n : ℕ) → Each P xs → Each P (take n xs)
unfolding definitions
each_take P [] zero h = tt
each_take P [] (suc n) h = tt
each_take P (x ∷ xs) zero h = tt
each_take P (x ∷ xs) (suc n) h = (h.0, each_take P xs n h.1)

-- ---- a longer prefix
record Longer {X : Type 0} (xs : List X) (n m : ℕ) : Type 0 where
  next : X
  rest : List X
  there : slice_get xs n ≡ Some next
  are : take m xs ≡ (take n xs ++ next ∷ []) ++ rest

longer : {X : Type 0} (xs : List X) (n m : ℕ) → n < m → m ≤ length xs → Longer xs n m
longer [] n m lt le = absurd (omega arith)
longer (x ∷ xs) n zero lt le = absurd (omega arith)
longer (x ∷ xs) zero (suc m) lt le = record { next = x; rest = take m xs; there = refl; are = refl }
longer (x ∷ xs) (suc n) (suc m) lt le =
    let l = longer xs n m (omega arith) (omega arith) in
    record { next = l.next; rest = l.rest; there = l.there; are = ap (λ ys. x ∷ ys) l.are }

each_at : {X : Type 0} (P : X → Type 0) (xs : List X) (n : ℕ) (x : X) → slice_get xs n ≡ Some x → Each P xs → P x
unfolding definitions
each_at P [] n x e h = absurd (cc)
each_at P (y ∷ xs) zero x e h = let same : y ≡ x = cc in subst P same h.0
each_at P (y ∷ xs) (suc n) x e h = each_at P xs n x e h.1

none_past : {X : Type 0} (xs : List X) (n : ℕ) (x : X) → slice_get xs n ≡ Some x → n ≡ length xs → ⊥
none_past [] n x e h = cc
none_past (y ∷ xs) zero x e h = omega arith
none_past (y ∷ xs) (suc n) x e h = none_past xs n x e (omega arith)

-- ---- what stands in the way of a call more stands in the way of each longer prefix
module _ (w : s.Workload) (base : List ℤ) (calls : List CallId) (n : ℕ) (accepted : IsAccepted w) (exist : Each (λ call. CallExists w call) calls) where
  abbrev k : ℕ
  k = sites_of w

  abbrev t : Template
  t = template_at w base

  abbrev vs : List Visit
  vs = visits w base (take n calls)

  first_sited : AreSited k vs
  unfolding definitions
  first_sited = visits_sited w base (λ i. no_deltas) (take n calls) accepted (each_take (λ call. CallExists w call) calls n exist)

  stopped : (call : CallId) (b : Stop) → slice_get calls n ≡ Some call → CanServe w base (take n calls) →
      first_stop k t vs (next_visit w base (take n calls) call) ≡ Some b → (m : ℕ) → n < m → m ≤ length calls → CanServe w base (take m calls) → ⊥
  unfolding definitions meaning_definitions
  stopped call b there served is m lt le more =
      let l = longer calls n m lt le in
      let same : l.next ≡ call = let h = l.there in cc in
      let v = next_visit w base (take n calls) call in
      let prefix : take m calls ≡ (take n calls ++ call ∷ []) ++ l.rest = l.are ∙ ap (λ x. (take n calls ++ x ∷ []) ++ l.rest) same in
      let parts : visits w base (take m calls) ≡ (vs ++ v ∷ []) ++ visits_from w base (after_all (λ i. no_deltas) (visits w base (take n calls ++ call ∷ []))) l.rest =
      ap (visits w base) prefix ∙ visits_append w base (λ i. no_deltas) (take n calls ++ call ∷ []) l.rest
      ∙ ap (λ us. us ++ visits_from w base (after_all (λ i. no_deltas) (visits w base (take n calls ++ call ∷ []))) l.rest) (next_is w base (take n calls) call) in
      let first : IsServed k t (vs ++ v ∷ []) = served_first k t (vs ++ v ∷ []) _ (subst (IsServed k t) parts more) in
      let sited : AreSited k (vs ++ v ∷ []) = append_each (λ (v : Visit). v.site < k) vs (v ∷ []) first_sited
      (site_below w call accepted (each_at (λ call. CallExists w call) calls n call there exist), tt) in
      (served_on k t vs v (some_sites w accepted) sited served).1 b is first

pub forecasts_stand : ForecastsStand
unfolding definitions
forecasts_stand w base calls n accepted exist served le =
    let made = peaks_serve (sites_of w) (template_at w base) (visits w base (take n calls)) (some_sites w accepted) (first_sited w base calls n accepted exist) served in (
      λ e. record { within = le; config_is = refl; fits = made.0; serves = made.1; longest = λ m lt small. absurd (omega arith); stop_is = e },
      λ call b there is. record {
        within = le;
        config_is = refl;
        fits = made.0;
        serves = made.1;
        longest = stopped w base calls n accepted exist call b there served is;
        stop_is = (call, there, is);
      },
    )

-- ---- one forecast
order : (n m : ℕ) → (n < m) ⊎ ((m < n) ⊎ (n ≡ m))
order zero zero = inr (inr refl)
order zero (suc m) = inl (omega arith)
order (suc n) zero = inr (inl (omega arith))
order (suc n) (suc m) = elim (order n m) [ inl h ↦ inl (omega arith) | inr h ↦ elim h [ inl g ↦ inr (inl (omega arith)) | inr g ↦ inr (inr (ap suc g)) ] ]

module _ (w : s.Workload) (base : List ℤ) (calls : List CallId) where
  canned : (n : ℕ) (c : Config) (a : Option Stop) → IsForecast w base calls n c a → CanServe w base (take n calls)
  unfolding definitions
  canned n c a h = record { config = c; fits = h.fits; serves = h.serves }

  same_kept : (n m : ℕ) (c d : Config) (a b : Option Stop) → IsForecast w base calls n c a → IsForecast w base calls m d b → n ≡ m
  same_kept n m c d a b h k = go (order n m)
    where
      go : (n < m) ⊎ ((m < n) ⊎ (n ≡ m)) → n ≡ m
      go (inl lt) = absurd (h.longest m lt k.within (canned m d b k))
      go (inr (inl lt)) = absurd (k.longest n lt h.within (canned n c a h))
      go (inr (inr e)) = e

  same_stop : (n : ℕ) (c d : Config) (a b : Option Stop) → IsForecast w base calls n c a → IsForecast w base calls n d b → a ≡ b
  same_stop n c d None None h k = refl
  same_stop n c d None (Some y) h k = absurd (none_past calls n k.stop_is.0 k.stop_is.1 h.stop_is)
  same_stop n c d (Some x) None h k = absurd (none_past calls n h.stop_is.0 h.stop_is.1 k.stop_is)
  same_stop n c d (Some x) (Some y) h k =
      let same : h.stop_is.0 ≡ k.stop_is.0 = let p = h.stop_is.1 in let q = k.stop_is.1 in cc in
      sym h.stop_is.2 ∙ ap (λ call. first_stop (sites_of w) (template_at w base) (visits w base (take n calls)) (next_visit w base (take n calls) call)) same ∙ k.stop_is.2

pub one_forecast : OneForecast
one_forecast w base calls n m c d a b h k =
    let same = same_kept w base calls n m c d a b h k in
    let k' : IsForecast w base calls n d b = subst (λ x. IsForecast w base calls x d b) (sym same) k in
    (same, h.config_is ∙ sym k'.config_is, same_stop w base calls n c d a b h k')
