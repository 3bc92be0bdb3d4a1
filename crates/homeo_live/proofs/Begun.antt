-- What a node in memory stands for when it begins, and when it is kept.
use Rattle.homeo_site.specs.Key.{definitions as site_definitions}
use Rattle.homeo_nodes.specs.Key.{definitions as node_definitions}
use Rattle.homeo_live.specs.Key.{definitions}
use Rattle.std.proofs.Common.{◌≡◌, ℕ, ◌<◌, ◌≤◌, List, [], map, length, replicate, ℤ, ◌+ℤ◌, Option, Some, None, sym, ap, subst, ◌∙◌}
use Rattle.std.specs.Prelude.{IfSome, option_map}
use Rattle.std.proofs.lemmas.List.{length-map}
use Rattle.std.proofs.lemmas.List.Elements.{All-nil}
use Rattle.homeo_syntax.specs.Source as s
use Rattle.homeo_syntax.specs.SourceView.{plain_workload}
use Rattle.homeo_syntax.specs.declared.workload.Workload.{Workload}
use Rattle.homeo_meaning.specs.Acceptance.{IsAccepted}
use Rattle.homeo_meaning.specs.Bounds.{IsWithin, AllWithin, all_bounds}
use Rattle.homeo_meaning.specs.Initial.{initial}
use Rattle.homeo_meaning.specs.Schema.{schema_of}
use Rattle.homeo_meaning.specs.Serial.{values_of}
use Rattle.homeo_meaning.specs.declared.call.CallId.{CallId}
use Rattle.homeo_plan.specs.Planned.{sites_of}
use Rattle.homeo_history.specs.Legal.{IsCallAt}
use Rattle.homeo_history.specs.Replayed.{MeetsTreaty}
use Rattle.homeo_site.specs.BareView.{BareValue, bare_begun}
use Rattle.homeo_site.specs.SiteState.{SiteState, begun}
use Rattle.homeo_site.specs.SiteView.{StartValue, with_deltas}
use Rattle.homeo_nodes.specs.declared.breach.Breach.{Breach}
use Rattle.homeo_nodes.specs.declared.breach.Mode.{Mode}
use Rattle.homeo_nodes.specs.declared.breach.Mode.TheVariants.{Running}
use Rattle.homeo_nodes.specs.Holding.{NodeHolds}
use Rattle.homeo_nodes.specs.Nodes.{first_node, most_waiting}
use Rattle.homeo_nodes.specs.Small.{Small, small}
use Rattle.homeo_nodes.proofs.Holding.{nodes_hold}
use Rattle.homeo_nodes.proofs.Places.{length_replicate}
use Rattle.homeo_carry.specs.CarryView.{plain_bounds, plain_said}
use Rattle.homeo_carry.specs.declared.bounds.Bounds.{Bounds}
use Rattle.homeo_carry.specs.declared.said.Said.{Said}
use Rattle.homeo_live.specs.declared.state.NodeState.{NodeState}
use Rattle.homeo_live.specs.declared.state.Past.{Past}
use Rattle.homeo_live.specs.LiveView.{plain_state, plain_past, plain_node, LiveValue, IsReached}
use Rattle.homeo_live.specs.inner.Standing.{node_of, IsModeOf, AreCallsOf, IsLive, IsFit}

abbrev pub value_of : Workload → SiteState → Mode → Option Breach → List (Option Said) → Option Past → List CallId → LiveValue
value_of work x mode decided states past queue = record { work = work; node = node_of x mode decided states past queue }

-- ---- the first round
pub begun_live : (work planner : Workload) (bounds : List Bounds) (start : StartValue) (site round : ℕ) (base : List ℤ) (new : BareValue) (states : List (Option Said)) (count : ℕ) (queue : List CallId) → IsAccepted (plain_workload work) → planner ≡ work → map plain_bounds bounds ≡ all_bounds (schema_of (plain_workload work)) → start ≡ record { work = work; number = site; round = round; base = base } → new ≡ bare_begun start → map plain_state states ≡ replicate count None → count ≡ sites_of (plain_workload work) → queue ≡ [] → IsLive planner bounds new Running states None queue
unfolding site_definitions
begun_live work planner bounds start site round base new states count queue accepted same are is began none counted idle =
    subst (λ v. IsLive v bounds new Running states None queue) (sym same) (record {
      work_is = ap (λ (v : BareValue). v.work) began ∙ ap (λ (v : StartValue). v.work) is;
      accepted = accepted;
      empty = ap (λ (v : BareValue). v.state.segment) began;
      bounds_are = are;
      count = sym (length-map states plain_state) ∙ ap length none ∙ length_replicate count None ∙ counted;
      mode_of = tt;
      past_long = tt;
      waiting = subst (AreCallsOf (plain_workload work) new.state.number) (sym idle) (All-nil (IsCallAt (plain_workload work) new.state.number));
    })

pub begun_view : (work planner : Workload) (start : StartValue) (site : ℕ) (base : List ℤ) (new : BareValue) (states : List (Option Said)) (count : ℕ) (queue : List CallId) → planner ≡ work → start ≡ record { work = work; number = site; round = 0; base = base } → base ≡ initial (plain_workload work) → new ≡ bare_begun start → map plain_state states ≡ replicate count None → count ≡ sites_of (plain_workload work) → queue ≡ [] → value_of planner new.state Running None states None queue ≡ record { work = work; node = small (first_node (plain_workload work) site) }
unfolding node_definitions site_definitions
begun_view work planner start site base new states count queue same is at began none counted idle =
    let state : new.state ≡ begun site 0 (initial (plain_workload work)) =
    ap (λ (v : BareValue). v.state) began ∙ ap (λ (v : StartValue). begun v.number v.round v.base) is ∙ ap (begun site 0) at in
    let empty : map plain_state states ≡ replicate (sites_of (plain_workload work)) None = none ∙ ap (λ k. replicate k None) counted in
    λ j. record { work = same j; node = record { number = (state j).number; round = (state j).round; base = (state j).base; deltas = (state j).deltas; mode = Running; decided = None; states = empty j; past = None; queue = idle j } }

-- ---- a state from outside
pub fit_live : (work planner : Workload) (bounds : List Bounds) (x : NodeState) (start : StartValue) (new : BareValue) → IsAccepted (plain_workload work) → IsFit (plain_workload work) x → planner ≡ work → map plain_bounds bounds ≡ all_bounds (schema_of (plain_workload work)) → start ≡ record { work = work; number = x.site; round = x.round; base = x.base.items } → new ≡ record { work = start.work; state = with_deltas start x.deltas.items } → IsLive planner bounds new x.mode x.states.items x.past x.queue.items
fit_live work planner bounds x start new accepted fit same are at is =
    let number : new.state.number ≡ x.site = ap (λ (v : BareValue). v.state.number) is ∙ ap (λ (v : StartValue). v.number) at in
    subst (λ v. IsLive v bounds new x.mode x.states.items x.past x.queue.items) (sym same) (record {
      work_is = ap (λ (v : BareValue). v.work) is ∙ ap (λ (v : StartValue). v.work) at;
      accepted = accepted;
      empty = ap (λ (v : BareValue). v.state.segment) is;
      bounds_are = are;
      count = fit.shape.count;
      mode_of = fit.mode_of;
      past_long = fit.shape.past_long;
      waiting = subst (λ k. AreCallsOf (plain_workload work) k x.queue.items) (sym number) fit.queue_of.calls;
    })

pub fit_view : (work planner : Workload) (x : NodeState) (start : StartValue) (new : BareValue) → planner ≡ work → start ≡ record { work = work; number = x.site; round = x.round; base = x.base.items } → new ≡ record { work = start.work; state = with_deltas start x.deltas.items } → value_of planner new.state x.mode x.decided x.states.items x.past x.queue.items ≡ record { work = work; node = plain_node x }
unfolding definitions
fit_view work planner x start new same at is =
    let state : new.state ≡ record { number = x.site; round = x.round; base = x.base.items; deltas = x.deltas.items; segment = [] } =
    ap (λ (v : BareValue). v.state) is ∙ ap (λ (v : StartValue). with_deltas v x.deltas.items) at in
    λ j. record { work = same j; node = node_of (state j) x.mode x.decided x.states.items x.past x.queue.items }

-- ---- a node that is kept
pub state_is : (x : SiteState) (mode : Mode) (decided : Option Breach) (kept states : List (Option Said)) (past other : Option Past) (queue waits : List CallId) (number round : ℕ) (base deltas : List ℤ) → number ≡ x.number → round ≡ x.round → base ≡ x.base → deltas ≡ x.deltas → map plain_state kept ≡ map plain_state states → option_map plain_past other ≡ option_map plain_past past → waits ≡ queue → (record { number = number; round = round; base = base; deltas = deltas; mode = mode; decided = decided; states = map plain_state kept; past = option_map plain_past other; queue = waits }) ≡ node_of x mode decided states past queue
state_is x mode decided kept states past other queue waits number round base deltas a b c d e f g = λ j. record { number = a j; round = b j; base = c j; deltas = d j; mode = mode; decided = decided; states = e j; past = f j; queue = g j }

-- ---- a state that nodes have led to
past_there : (past : Option Past) (sites : ℕ) → IfSome (option_map plain_past past) (λ p. length p.states ≡ sites) → IfSome past (λ p. length p.states.items ≡ sites)
unfolding definitions
past_there None sites long = tt
past_there (Some p) sites long = sym (length-map p.states.items plain_said) ∙ long

module _ (w : s.Workload) (x : NodeState) (accepted : IsAccepted w) (led : IsReached w (plain_node x)) where
  holds : NodeHolds w led.node
  unfolding node_definitions
  holds = nodes_hold w led.events led.site led.node accepted led.there

  there : (P : Small → Type 0) → P (small led.node) → P (plain_node x)
  there P h = subst P (sym led.is) h

  pub reached_meets : MeetsTreaty w x.base.items x.site (values_of x.deltas.items)
  unfolding definitions node_definitions
  reached_meets = there (λ y. MeetsTreaty w y.base y.number (values_of y.deltas)) holds.site.meets

  pub reached_fits : IsFit w x
  unfolding definitions node_definitions
  reached_fits = record {
    shape = record {
      site = there (λ y. y.number < sites_of w) holds.site.site;
      count = sym (length-map x.states.items plain_state) ∙ there (λ y. length y.states ≡ sites_of w) holds.states;
      past_long = past_there x.past (sites_of w) (there (λ y. IfSome y.past (λ p. length p.states ≡ sites_of w)) holds.past);
    };
    mode_of = there (λ y. IsModeOf w y.mode) holds.mode;
    queue_of = record {
      few = there (λ y. length y.queue ≤ most_waiting) holds.few;
      calls = there (λ y. AreCallsOf w y.number y.queue) holds.calls;
    };
    values = record {
      within = there (λ y. IsWithin (schema_of w) y.base) holds.site.within;
      count = there (λ y. length y.deltas ≡ length y.base) holds.site.count;
      all = there (λ y. AllWithin (schema_of w) (λ n. values_of y.base n +ℤ values_of y.deltas n)) holds.within;
    };
  }
