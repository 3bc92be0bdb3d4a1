-- One call, at its site.
use Rattle.homeo_site.specs.Key.{definitions as site_definitions}
use Rattle.homeo_meaning.specs.Key.{definitions as meaning_definitions}
use Rattle.homeo_core.specs.Key.{definitions as core_definitions}
use Rattle.homeo_nodes.specs.Key.{definitions}
use Rattle.std.proofs.Common.{◌≡◌, ℕ, suc, ◌<◌, List, [], ◌∷◌, map, length, replicate, cond, eqb, ℤ, Option, Some, None, refl, sym, ap, subst, ◌∙◌, arith, slice_index_or, slice_set}
use Rattle.std.specs.Prelude.{slice_get}
use Rattle.std.proofs.lemmas.List.{length-map}
use mathlib.Core.Logic.{⊎_elim}
use Rattle.homeo_lemmas.proofs.Places.{get_map, set_itself}
use Rattle.homeo_syntax.specs.Listed.{Listed}
use Rattle.homeo_syntax.specs.Source as source
use Rattle.homeo_syntax.specs.SourceView.{plain_workload}
use Rattle.homeo_syntax.specs.declared.workload.Workload.{Workload}
use Rattle.homeo_meaning.specs.Acceptance.{IsAccepted}
use Rattle.homeo_meaning.specs.Bounds.{AreIn, IsWithin, all_bounds}
use Rattle.homeo_meaning.specs.Schema.{schema_of}
use Rattle.homeo_meaning.specs.Serial.{call_outcome}
use Rattle.homeo_meaning.specs.declared.call.CallId.{CallId}
use Rattle.homeo_plan.specs.declared.treaty.Broken.{Broken}
use Rattle.homeo_plan.specs.Planned.{sites_of}
use Rattle.homeo_plan.proofs.PlannedCalls.{site_below}
use Rattle.homeo_history.specs.Answers.{Answer, local_answer}
use Rattle.homeo_history.specs.Legal.{IsCallAt}
use Rattle.homeo_history.proofs.CallRuns.{site_is}
use Rattle.homeo_history.proofs.Lists.{get_index, set_cases, length_set}
use Rattle.homeo_site.specs.BareView.{BareValue, after_bare, after_ran, IsRan}
use Rattle.homeo_site.specs.declared.bare.Ran.{Ran}
use Rattle.homeo_site.specs.declared.bare.Ran.TheVariants.{Kept, Breaks}
use Rattle.homeo_site.specs.SiteState.{SiteState, step_prints, step_deltas, step_finding}
use Rattle.homeo_core.specs.Events.{closing_on}
use Rattle.homeo_nodes.specs.declared.breach.Breach.{Breach}
use Rattle.homeo_nodes.specs.Brief.{Brief, Answered, zeros, brief_at, site_at, briefly_by, briefly}
use Rattle.homeo_nodes.specs.Making as n
use Rattle.homeo_nodes.specs.Nodes.{folded, own_answer}
use Rattle.homeo_nodes.proofs.Places.{map_set}
use Rattle.homeo_carry.specs.CarryView.{plain_bounds}
use Rattle.homeo_carry.specs.declared.answers.Answers.{Answers}
use Rattle.homeo_carry.specs.declared.bounds.Bounds.{Bounds}
use Rattle.homeo_carry.specs.declared.calls.Called.{Called}
use Rattle.homeo_carry.specs.declared.carrying.Rounds.{Rounds}
use Rattle.homeo_carry.specs.inner.Answering.{AreMore, closing_by}
use Rattle.homeo_carry.specs.inner.Carrying.{plain_called, deltas_in, brief_of, breach_at, closed_by, FoldsFit, IsOf, IsNext, CanMake}
use Rattle.homeo_carry.proofs.SumLists.{sums_fit, whole_within}

pub site_lt : (w : source.Workload) (site : ℕ) (call : CallId) → IsAccepted w → IsCallAt w site call → site < sites_of w
site_lt w site call accepted at =
    subst (λ n. n < sites_of w) (site_is w call site at) (site_below w call accepted at.exists)

-- ---- the base that a call is made on
pub within_here : (v work : Workload) (bounds : List Bounds) (values items : List ℤ) → work ≡ v → map plain_bounds bounds ≡ all_bounds (schema_of (plain_workload v)) → values ≡ items → AreIn (map plain_bounds bounds) values → IsWithin (schema_of (plain_workload work)) items
unfolding meaning_definitions
within_here v work bounds values items same are is h =
    subst (λ u. IsWithin (schema_of (plain_workload u)) items) (sym same) (subst (IsWithin (schema_of (plain_workload v))) is (subst (λ bs. AreIn bs values) are h))

pub within_there : (work : Workload) (bounds : List Bounds) (values items : List ℤ) → map plain_bounds bounds ≡ all_bounds (schema_of (plain_workload work)) → values ≡ items → IsWithin (schema_of (plain_workload work)) items → AreIn (map plain_bounds bounds) values
unfolding meaning_definitions
within_there work bounds values items are is h =
    subst (λ bs. AreIn bs values) (sym are) (subst (IsWithin (schema_of (plain_workload work))) (sym is) h)

-- ---- the next round
closing_is : (w : source.Workload) (u : Breach) (whole prints : List ℤ) → prints ≡ (call_outcome w u.call whole).prints → closing_by u prints ≡ closing_on w whole u.site u.call u.broken
unfolding core_definitions
closing_is w u whole prints is =
    ap (λ ps. record { site = u.site; entry = record { call = u.call; prints = ps }; broken = u.broken }) is

pub next_is : (work v : Workload) (answers more : Answers) (u : Breach) (whole left prints : List ℤ) (round : ℕ) (next : Rounds) → v ≡ work → round ≡ suc u.round → left ≡ (call_outcome (plain_workload v) u.call whole).database → prints ≡ (call_outcome (plain_workload v) u.call whole).prints → AreMore answers more (own_answer answers.own u.round (Some (closing_by u prints))) → brief_of next ≡ brief_at (plain_workload work) round left → next.answers ≡ more → IsNext answers (closed_by (plain_workload work) answers.own u whole) next
next_is work v answers more u whole left prints round next same numbered leaves printed given brief are =
    let w : source.Workload = plain_workload work in
    record {
      brief = brief ∙ ap (λ r. brief_at w r left) numbered ∙ ap (brief_at w (suc u.round)) (leaves ∙ ap (λ (y : Workload). (call_outcome (plain_workload y) u.call whole).database) same);
      answers = subst (λ a. AreMore answers a (closed_by w answers.own u whole).answers) (sym are) (subst (λ cl. AreMore answers more (own_answer answers.own u.round (Some cl))) (closing_is w u whole prints (printed ∙ ap (λ (y : Workload). (call_outcome (plain_workload y) u.call whole).prints) same)) given);
    }

-- ---- sums of rounds that can be so
module _ (w : source.Workload) (x : Rounds) (c : n.Called) (accepted : IsAccepted w) (can : CanMake w (brief_of x) c) where
  pub rounds_fit : (base : List ℤ) (sites : List BareValue) → base ≡ x.base.items → sites ≡ x.sites.items → FoldsFit base (deltas_in sites)
  rounds_fit base sites is are =
      subst (λ b. FoldsFit b (deltas_in sites)) (sym is) (subst (λ ss. FoldsFit x.base.items (deltas_in ss)) (sym are) (sums_fit w x.base.items (deltas_in x.sites.items) accepted can.sums))

  pub rounds_within : (whole : List ℤ) → whole ≡ folded x.base.items (deltas_in x.sites.items) → IsWithin (schema_of w) whole
  rounds_within whole is =
      subst (IsWithin (schema_of w)) (sym is) (whole_within w x.base.items (deltas_in x.sites.items) can.sums)

-- ---- the call
abbrev delta_of : BareValue → List ℤ
delta_of s = s.state.deltas

pub site_there : (work v : Workload) (x : Rounds) (c : Called) → IsAccepted (plain_workload work) → IsOf work x → v ≡ work → IsCallAt (plain_workload v) c.site c.call → c.site < length x.sites.items
site_there work v x c accepted holds same call =
    let lt = site_lt (plain_workload work) c.site c.call accepted (subst (λ u. IsCallAt (plain_workload u) c.site c.call) same call) in
    let count = holds.count in
    omega (arith, lt, count)

pub call_here : (work : Workload) (x : Rounds) → IsOf work x → (c : Called) (s : BareValue) → slice_get x.sites.items c.site ≡ Some s → (v : Workload) → v ≡ work → IsCallAt (plain_workload v) c.site c.call → IsCallAt (plain_workload s.work) s.state.number c.call
call_here work x holds c s here v same call =
    subst (λ (y : BareValue). IsCallAt (plain_workload y.work) y.state.number c.call) (sym (holds.sites c.site s here)) (subst (λ u. IsCallAt (plain_workload u) c.site c.call) same call)

bare_same : (s z : BareValue) → s.work ≡ z.work → s.state ≡ z.state → s ≡ z
bare_same s z work state = ap (λ (v : Workload). record { work = v; state = s.state }) work ∙ ap (λ x. record { work = z.work; state = x }) state

module _ (work : Workload) (x : Rounds) (holds : IsOf work x) (c : Called) (s t : BareValue) (here : slice_get x.sites.items c.site ≡ Some s) (x' : Rounds) (round : x'.round ≡ x.round) (base : x'.base ≡ x.base) (sites : x'.sites.items ≡ slice_set x.sites.items c.site t) (works : t.work ≡ s.work) where
  abbrev w : source.Workload
  w = plain_workload work

  at : s ≡ record { work = work; state = site_at (brief_of x) c.site }
  at = holds.sites c.site s here

  long : length (deltas_in x.sites.items) ≡ sites_of w
  long = length-map x.sites.items delta_of ∙ holds.count

  finding_is : (o : Option Broken) → step_finding w s.state c.call ≡ o → step_finding w (site_at (brief_of x) c.site) c.call ≡ o
  finding_is o e = sym (ap (λ (y : BareValue). step_finding w y.state c.call) at) ∙ e

  -- where it breaks the treaty, the sites are as they were
  module _ (state : t.state ≡ s.state) where
    items_same : x'.sites.items ≡ x.sites.items
    items_same = sites ∙ ap (slice_set x.sites.items c.site) (bare_same t s works state) ∙ set_itself x.sites.items c.site s here

    brief_same : brief_of x' ≡ brief_of x
    brief_same =
        ap (λ r. record { round = r; base = x'.base.items; deltas = deltas_in x'.sites.items }) round
        ∙ ap (λ b. record { round = x.round; base = b.items; deltas = deltas_in x'.sites.items }) base
        ∙ ap (λ ss. record { round = x.round; base = x.base.items; deltas = deltas_in ss }) items_same

    map_const : (ds : List (List ℤ)) (z : List ℤ) → map (λ (d : List ℤ). z) ds ≡ replicate (length ds) z
    map_const [] z = refl
    map_const (d ∷ ds) z = ap (λ l. z ∷ l) (map_const ds z)

    closed_at : ℕ → Broken → Brief → Answered
    unfolding definitions
    closed_at own broken b =
        closed_by w own (record { round = b.round; site = c.site; call = c.call; broken = broken }) (folded b.base b.deltas)

    breaks : (own : ℕ) (broken : Broken) → step_finding w s.state c.call ≡ Some broken → closed_by w own (breach_at x' c broken) (folded x'.base.items (deltas_in x'.sites.items)) ≡ briefly w own (plain_called c) (brief_of x)
    unfolding definitions closed_at
    breaks own broken found =
        let next : List ℤ = (call_outcome w c.call (folded x.base.items (deltas_in x.sites.items))).database in
        let answers : List Answer = (closed_at own broken (brief_of x)).answers in
        ap (closed_at own broken) brief_same
        ∙ ap (λ n. record { brief = record { round = suc x.round; base = next; deltas = replicate n (zeros next) }; answers = answers }) (sym long)
        ∙ ap (λ ds. record { brief = record { round = suc x.round; base = next; deltas = ds }; answers = answers }) (sym (map_const (deltas_in x.sites.items) (zeros next)))
        ∙ ap (briefly_by w own (brief_of x) (plain_called c)) (sym (finding_is (Some broken) found))

  -- where it keeps it, its own site has gone on
  module _ (state : t.state ≡ after_bare w s.state c.call) (kept : step_finding w s.state c.call ≡ None) where
    deltas_after : (after_bare w s.state c.call).deltas ≡ step_deltas w s.state c.call
    unfolding site_definitions
    deltas_after = refl

    deltas_then : deltas_in x'.sites.items ≡ slice_set (deltas_in x.sites.items) c.site (step_deltas w (site_at (brief_of x) c.site) c.call)
    deltas_then =
        ap deltas_in sites ∙ map_set delta_of x.sites.items c.site t
        ∙ ap (slice_set (deltas_in x.sites.items) c.site) (ap (λ (y : SiteState). y.deltas) state ∙ deltas_after ∙ ap (λ (y : BareValue). step_deltas w y.state c.call) at)

    brief_then : brief_of x' ≡ record { round = x.round; base = x.base.items; deltas = slice_set (deltas_in x.sites.items) c.site (step_deltas w (site_at (brief_of x) c.site) c.call) }
    brief_then =
        ap (λ r. record { round = r; base = x'.base.items; deltas = deltas_in x'.sites.items }) round
        ∙ ap (λ b. record { round = x.round; base = b.items; deltas = deltas_in x'.sites.items }) base
        ∙ ap (λ ds. record { round = x.round; base = x.base.items; deltas = ds }) deltas_then

    abbrev answered : ℕ → List ℤ → List Answer
    answered own prints = cond (eqb c.site own) (local_answer x.round own (record { call = c.call; prints = prints }) ∷ []) []

    keeps : (own : ℕ) (prints : List ℤ) → prints ≡ step_prints w s.state c.call → record { brief = brief_of x'; answers = answered own prints } ≡ briefly w own (plain_called c) (brief_of x)
    unfolding definitions
    keeps own prints is =
        ap (λ (b : Brief). record { brief = b; answers = answered own prints }) brief_then
        ∙ ap (λ ps. record { brief = record { round = x.round; base = x.base.items; deltas = slice_set (deltas_in x.sites.items) c.site (step_deltas w (site_at (brief_of x) c.site) c.call) }; answers = answered own ps }) (is ∙ ap (λ (y : BareValue). step_prints w y.state c.call) at)
        ∙ ap (briefly_by w own (brief_of x) (plain_called c)) (sym (finding_is None kept))

    delta_t : (i : ℕ) (y : BareValue) → slice_get x'.sites.items i ≡ Some y → slice_index_or (deltas_in x'.sites.items) i [] ≡ y.state.deltas
    delta_t i y e = get_index (deltas_in x'.sites.items) i y.state.deltas [] (get_map delta_of x'.sites.items i y e)

    after_is : (y : SiteState) (n r : ℕ) (b ds : List ℤ) → y.number ≡ n → y.round ≡ r → y.base ≡ b → (after_bare w y c.call).deltas ≡ ds → after_bare w y c.call ≡ record { number = n; round = r; base = b; deltas = ds; segment = [] }
    unfolding site_definitions
    after_is y n r b ds e f g h =
        ap (λ a. record { number = a; round = y.round; base = y.base; deltas = step_deltas w y c.call; segment = [] }) e
        ∙ ap (λ a. record { number = n; round = a; base = y.base; deltas = step_deltas w y c.call; segment = [] }) f
        ∙ ap (λ a. record { number = n; round = r; base = a; deltas = step_deltas w y c.call; segment = [] }) g
        ∙ ap (λ a. record { number = n; round = r; base = b; deltas = a; segment = [] }) h

    site_after : (i : ℕ) (y : BareValue) → slice_get x'.sites.items i ≡ Some y → (slice_get (slice_set x.sites.items c.site t) i ≡ Some y) → y ≡ record { work = work; state = site_at (brief_of x') i }
    site_after i y e f = ⊎_elim own other (set_cases x.sites.items c.site i t y f)
      where
        own : (i ≡ c.site) × (t ≡ y) → y ≡ record { work = work; state = site_at (brief_of x') i }
        own h =
            bare_same y (record { work = work; state = site_at (brief_of x') i }) (ap (λ (z : BareValue). z.work) (sym h.1) ∙ works ∙ ap (λ (z : BareValue). z.work) at) (ap (λ (z : BareValue). z.state) (sym h.1) ∙ state ∙ after_is s.state i x'.round x'.base.items (slice_index_or (deltas_in x'.sites.items) i []) (ap (λ (z : BareValue). z.state.number) at ∙ sym h.0) (ap (λ (z : BareValue). z.state.round) at ∙ sym round) (ap (λ (z : BareValue). z.state.base) at ∙ ap (λ b. b.items) (sym base)) (ap (λ (z : SiteState). z.deltas) (sym state) ∙ ap delta_of h.1 ∙ sym (delta_t i y e)))

        other : slice_get x.sites.items i ≡ Some y → y ≡ record { work = work; state = site_at (brief_of x') i }
        other g =
            let was = holds.sites i y g in
            was
            ∙ ap (λ ds. record { work = work; state = record { number = i; round = x.round; base = x.base.items; deltas = ds; segment = [] } }) (ap delta_of (sym was) ∙ sym (delta_t i y e))
            ∙ ap (λ r. record { work = work; state = record { number = i; round = r; base = x.base.items; deltas = slice_index_or (deltas_in x'.sites.items) i []; segment = [] } }) (sym round)
            ∙ ap (λ b. record { work = work; state = record { number = i; round = x'.round; base = b.items; deltas = slice_index_or (deltas_in x'.sites.items) i []; segment = [] } }) (sym base)

    after_holds : IsOf work x'
    after_holds = record {
      count = ap length sites ∙ length_set x.sites.items c.site t ∙ holds.count;
      within = subst (λ b. IsWithin (schema_of w) b.items) (sym base) holds.within;
      sites = λ i y e. site_after i y e (sym (ap (λ ss. slice_get ss i) sites) ∙ e);
    }

  -- by what the call came to
  module _ (r : Ran) (after : t.state ≡ after_ran (plain_workload s.work) s.state c.call r) (ran : IsRan (plain_workload s.work) s.state c.call r) where
    same_work : plain_workload s.work ≡ w
    same_work = ap (λ (y : BareValue). plain_workload y.work) at

    after_w : t.state ≡ after_ran w s.state c.call r
    after_w = subst (λ v. t.state ≡ after_ran v s.state c.call r) same_work after

    ran_w : IsRan w s.state c.call r
    ran_w = subst (λ v. IsRan v s.state c.call r) same_work ran

    module _ (prints : Listed ℤ) (is : r ≡ Kept prints) where
      state_kept : t.state ≡ after_bare w s.state c.call
      unfolding site_definitions
      state_kept = after_w ∙ ap (after_ran w s.state c.call) is

      none_kept : step_finding w s.state c.call ≡ None
      unfolding site_definitions
      none_kept = (subst (IsRan w s.state c.call) is ran_w).0

      prints_kept : prints.items ≡ step_prints w s.state c.call
      unfolding site_definitions
      prints_kept = (subst (IsRan w s.state c.call) is ran_w).1

      pub kept_next : AreMore x.answers x'.answers (cond (eqb c.site x.answers.own) (local_answer x.round x.answers.own (record { call = c.call; prints = prints.items }) ∷ []) []) → IsNext x.answers (briefly w x.answers.own (plain_called c) (brief_of x)) x'
      kept_next more =
          subst (λ a. IsNext x.answers a x') (keeps state_kept none_kept x.answers.own prints.items prints_kept) (record { brief = refl; answers = more })

      pub kept_holds : IsOf work x'
      kept_holds = after_holds state_kept none_kept

    module _ (broken : Broken) (is : r ≡ Breaks broken) where
      state_breaks : t.state ≡ s.state
      unfolding site_definitions
      state_breaks = after_w ∙ ap (after_ran w s.state c.call) is

      some_breaks : step_finding w s.state c.call ≡ Some broken
      unfolding site_definitions
      some_breaks = subst (IsRan w s.state c.call) is ran_w

      pub breaks_is : (own : ℕ) → closed_by w own (breach_at x' c broken) (folded x'.base.items (deltas_in x'.sites.items)) ≡ briefly w own (plain_called c) (brief_of x)
      breaks_is own = breaks state_breaks own broken some_breaks

      pub breaks_brief : brief_of x' ≡ brief_of x
      breaks_brief = brief_same state_breaks
