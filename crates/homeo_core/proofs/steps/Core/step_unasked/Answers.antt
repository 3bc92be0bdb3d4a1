use Rattle.std.proofs.Common.{rules, ◌≡◌, ◌+◌, ◌<◌, List, length, take, drop, ◌++◌, sym, ap, subst, ◌∙◌, slice_set}
use Rattle.std.proofs.lemmas.List.{get_or_default}
use Rattle.std.specs.Prelude.{slice_index_or}
use Rattle.homeo_syntax.specs.declared.workload.Workload.{Workload}
use Rattle.homeo_syntax.specs.SourceView.{plain_workload}
use Rattle.homeo_history.specs.Answers.{Answer}
use Rattle.homeo_history.specs.Legal.{IsClientAt, call_count, IsLegalFrom}
use Rattle.homeo_site.specs.SiteView.{SiteValue}
use Rattle.homeo_core.specs.Key.{definitions}
use Rattle.homeo_core.specs.CoreView.{CoreValue, CoreHolds, core_history, start_of, WasCallMade, IsStep, IsSomeStep}
use Rattle.homeo_core.specs.Books.{book_of}
use Rattle.homeo_core.specs.SiteLists.{states, AreOf}
use Rattle.homeo_core.proofs.CoreSteps.{core_of, can_call, is_legal, whole_slice, IsNext, IsStepped, taken}
use Rattle.homeo_core.proofs.steps.Core.step_unasked.Goals as goal
use Rattle.homeo_core.proofs.steps.Core.step_unasked.Goals.{After-as_mut_slice, In_ok-make_unasked}

-- ---- the client's next call
is_next : (c : After-as_mut_slice) → IsNext (core_of c.self.inside) c.args.client c.site_of-home.result c.index-last.result.now
unfolding definitions
is_next c =
    let x : CoreValue = core_of c.self.inside in
    let client = c.args.client in
    let holds : CoreHolds x = c.self.invariant.1 in
    let view : x ≡ c.args.self.now = c.self.view_is in
    let work : c.workload.result.now ≡ x.work = c.workload.ensures ∙ c.deref.ensures in
    let exists : client < length (plain_workload x.work).clients = subst (λ (v : CoreValue). client < length (plain_workload v.work).clients) (sym view) c.requires.exists in
    let lt : client < length x.counts = subst (λ n. client < n) (sym holds.ordered.clients) exists in
    record {
      lt = lt;
      last_is = c.index-last.ensures ∙ get_or_default x.counts client c.index-last.result.now 0 lt;
      at = subst (λ (v : Workload). IsClientAt (plain_workload v) c.site_of-home.result client) work c.site_of-home.ensures;
      left = subst (λ (v : CoreValue). slice_index_or v.counts client 0 < call_count (plain_workload v.work) client) (sym view) c.requires.left;
    }

pub make_unasked-requires-clause-at_home : goal.make_unasked-requires-clause-at_home
unfolding definitions
make_unasked-requires-clause-at_home c =
    can_call (core_of c.self.inside) c.args.client c.site_of-home.result c.index-last.result.now (is_next (goal.at.make_unasked-requires-clause-at_home c).After-as_mut_slice)

-- ---- where the call fails
pub returns-in_err-make_unasked-clause-legal : goal.returns-in_err-make_unasked-clause-legal
unfolding definitions
returns-in_err-make_unasked-clause-legal c =
    let f = c.self.inside in
    let x : CoreValue = core_of f in
    let new : List SiteValue = take f.sites.len (c.make_unasked.new.sites ++ drop (length c.make_unasked.new.sites) f.sites.items) in
    let whole : new ≡ c.make_unasked.new.sites = whole_slice f.sites.len f.sites.items c.make_unasked.new.sites (search rules) (search rules) in
    let sites : states new ≡ x.sites = ap states whole ∙ c.in_err-make_unasked.ensures.unchanged ∙ ap states c.as_mut_slice.ensures.value in
    let y : CoreValue = record { work = x.work; book = book_of c.make_unasked.new.closed.items c.make_unasked.new.base.items; sites = states new; counts = x.counts } in
    let same : y ≡ x = (λ j. record { work = x.work; book = book_of (c.in_err-make_unasked.ensures.unclosed j) (c.in_err-make_unasked.ensures.unmoved j).items; sites = sites j; counts = x.counts }) in
    subst (λ (v : CoreValue). IsLegalFrom (plain_workload v.work) (start_of v.book) x.counts (core_history y)) c.self.view_is
    (subst (λ (v : CoreValue). IsLegalFrom (plain_workload x.work) (start_of x.book) x.counts (core_history v)) (sym same) (is_legal x c.self.invariant.1))

-- ---- where it is made
abbrev sites : In_ok-make_unasked → List SiteValue
sites c = take c.self.inside.sites.len (c.make_unasked.new.sites ++ drop (length c.make_unasked.new.sites) c.self.inside.sites.items)

whole : (c : In_ok-make_unasked) → sites c ≡ c.make_unasked.new.sites
whole c =
    let count : length c.make_unasked.new.sites ≡ length c.self.inside.sites.items = search rules in
    let long : length c.self.inside.sites.items ≡ c.self.inside.sites.len = search rules in
    whole_slice c.self.inside.sites.len c.self.inside.sites.items c.make_unasked.new.sites count long

abbrev after : In_ok-make_unasked → CoreValue
after c = record { work = c.self.inside.compiled.value; book = book_of c.make_unasked.new.closed.items c.make_unasked.new.base.items; sites = states (sites c); counts = slice_set c.self.inside.counts.items c.args.client (c.index-last.result.now + 1) }

abbrev Stepped : In_ok-make_unasked → Answer → CoreValue → Type 0
Stepped c a x = IsStepped x c.args.client a (after c) × IsStep x c.args.client a (after c)

has_stepped : (c : In_ok-make_unasked) → IsNext (core_of c.self.inside) c.args.client c.site_of-home.result c.index-last.result.now → (a : Answer) × Stepped c a c.args.self.now
unfolding definitions
has_stepped c next =
    let x : CoreValue = core_of c.self.inside in
    let made = subst (λ l. WasCallMade (plain_workload x.work) x.book l c.site_of-home.result (record { client = c.args.client; seq = c.index-last.result.now + 1 }) (after c).book (states c.make_unasked.new.sites)) (ap states c.as_mut_slice.ensures.value) c.in_ok-make_unasked.ensures.made in (
      made.answer,
      subst (Stepped c made.answer) c.self.view_is
          (taken x c.args.client c.site_of-home.result c.index-last.result.now made.answer (after c).book (states c.make_unasked.new.sites) (after c).sites c.self.invariant.1 next (ap states (whole c)) made.made),
    )

stepped_here : (c : In_ok-make_unasked) → IsNext (core_of c.self.inside) c.args.client c.site_of-home.result c.index-last.result.now → IsSomeStep c.args.self.now c.args.client (after c)
stepped_here c next = let s = has_stepped c next in record { answer = s.0; step = s.1.1 }

pub invariant_of-self-2 : goal.invariant_of-self-2
unfolding definitions
invariant_of-self-2 c =
    let at = goal.at.invariant_of-self-2 c in
    (subst (AreOf c.self.inside.compiled.value) (sym (whole at.In_ok-make_unasked)) c.make_unasked.ensures.of, (has_stepped at.In_ok-make_unasked (is_next at.After-as_mut_slice)).1.0.holds)

pub returns-clause-step : goal.returns-clause-step
unfolding definitions
returns-clause-step c = stepped_here (goal.at.returns-clause-step c).In_ok-make_unasked (is_next (goal.at.returns-clause-step c).After-as_mut_slice)

pub returns-clause-follows : goal.returns-clause-follows
unfolding definitions
returns-clause-follows c = (has_stepped (goal.at.returns-clause-follows c).In_ok-make_unasked (is_next (goal.at.returns-clause-follows c).After-as_mut_slice)).1.0.follows

pub returns-clause-legal : goal.returns-clause-legal
unfolding definitions
returns-clause-legal c = (has_stepped (goal.at.returns-clause-legal c).In_ok-make_unasked (is_next (goal.at.returns-clause-legal c).After-as_mut_slice)).1.0.legal

pub returns-clause-start : goal.returns-clause-start
unfolding definitions
returns-clause-start c = (has_stepped (goal.at.returns-clause-start c).In_ok-make_unasked (is_next (goal.at.returns-clause-start c).After-as_mut_slice)).1.0.start
