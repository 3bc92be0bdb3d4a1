use Rattle.homeo_history.specs.Key.{definitions as history_definitions}
use Rattle.std.proofs.Common.{◌≡◌, [], length, replicate, sym, ap, subst, ◌∙◌}
use Rattle.homeo_syntax.specs.Listed.{Listed}
use Rattle.homeo_syntax.specs.declared.workload.Workload.{Workload}
use Rattle.homeo_syntax.specs.SourceView.{plain_workload}
use Rattle.homeo_meaning.specs.Acceptance.{IsAccepted}
use Rattle.homeo_plan.specs.Planned.{sites_of}
use Rattle.homeo_build.specs.Plan.{IsObjectPlan}
use Rattle.homeo_history.specs.Follows.{Follows}
use Rattle.homeo_history.specs.Legal.{IsLegalFrom}
use Rattle.homeo_history.specs.declared.history.Round.{Round}
use Rattle.homeo_core.specs.Key.{definitions}
use Rattle.homeo_core.specs.CoreView.{CoreValue, CoreHolds, begun_sites, core_at, core_history}
use Rattle.homeo_core.specs.Books.{book_of}
use Rattle.homeo_core.specs.SiteLists.{states}
use Rattle.homeo_core.proofs.CoreStarts.{core_begins, follows_none}
use Rattle.homeo_core.proofs.CoreSteps.{is_legal}
use Rattle.homeo_core.proofs.steps.Core.begin_at.Goals as goal
use Rattle.homeo_core.proofs.steps.Core.begin_at.Goals.{After-new}

-- ---- the core that begins
abbrev begun : After-new → CoreValue
begun c = record { work = c.args.c.value; book = book_of c.new.result.items c.args.base.items; sites = states c.in_ok-sites.sites.items; counts = c.in_ok-counts.counts.items }

work_is : (c : After-new) → c.workload.result.now ≡ c.args.c.value
work_is c = c.workload.ensures ∙ c.deref-2.ensures

is_begun : (c : After-new) → begun c ≡ core_at c.args.c.value c.args.base.items
unfolding definitions
is_begun c =
    let w : Workload = c.args.c.value in
    let closed : c.new.result.items ≡ [] = ap (λ (l : Listed Round). l.items) c.new.ensures in
    let plan : IsObjectPlan (plain_workload w) c.args.base.items c.in_ok-plan.plan.value = subst (λ (v : Workload). IsObjectPlan (plain_workload v) c.args.base.items c.in_ok-plan.plan.value) c.deref.ensures c.in_ok-plan.ensures.plan in
    let sites : states c.in_ok-sites.sites.items ≡ begun_sites (sites_of (plain_workload w)) c.args.base.items =
    c.in_ok-sites.ensures.states ∙ (λ j. begun_sites (sites_of (plain_workload w)) (plan.base j)) in
    let zeros : c.in_ok-counts.counts.items ≡ replicate (length (plain_workload w).clients) 0 =
    c.in_ok-counts.ensures.counts ∙ ap (λ (v : Workload). replicate (length (plain_workload v).clients) 0) (work_is c) in
    (λ j. record { work = w; book = book_of (closed j) c.args.base.items; sites = sites j; counts = zeros j })

holds : (c : After-new) → CoreHolds (core_at c.args.c.value c.args.base.items)
unfolding definitions
holds c =
    let accepted : IsAccepted (plain_workload c.args.c.value) = subst (λ (v : Workload). IsAccepted (plain_workload v)) (work_is c) c.in_ok-counts.ensures.accepted in
    core_begins c.args.c.value c.args.base.items accepted c.requires.within

pub invariant_of-result : goal.invariant_of-result
unfolding definitions
invariant_of-result c =
    let e = (goal.at.invariant_of-result c).After-new in
    (c.in_ok-sites.ensures.of, subst CoreHolds (sym (is_begun e)) (holds e))

pub returns-clause-core : goal.returns-clause-core
unfolding definitions
returns-clause-core c = is_begun (goal.at.returns-clause-core c).After-new

pub returns-clause-legal : goal.returns-clause-legal
unfolding definitions history_definitions
returns-clause-legal c =
    let e = (goal.at.returns-clause-legal c).After-new in
    subst (λ (v : CoreValue). IsLegalFrom (plain_workload c.args.c.value) c.args.base.items v.counts (core_history v)) (sym (is_begun e)) (is_legal (core_at c.args.c.value c.args.base.items) (holds e))

pub returns-clause-follows : goal.returns-clause-follows
unfolding definitions
returns-clause-follows c =
    subst (λ (v : CoreValue). Follows (plain_workload c.args.c.value) (core_history v) []) (sym (is_begun (goal.at.returns-clause-follows c).After-new)) (follows_none c.args.c.value c.args.base.items)
