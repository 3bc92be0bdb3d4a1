use Rattle.homeo_history.specs.Key.{definitions as history_definitions}
use Rattle.homeo_core.specs.Key.{definitions as core_definitions}
use Rattle.std.proofs.Common.{rules, ◌≡◌, ◌+◌, ◌<◌, true, List, [], length, replicate, vec_len, sym, ap, subst, ◌∙◌}
use Rattle.std.specs.Prelude.{unwrap_or}
use Rattle.std.proofs.lemmas.List.{length-replicate}
use Rattle.homeo_syntax.specs.Source as s
use Rattle.homeo_syntax.specs.SourceView.{plain_workload}
use Rattle.homeo_meaning.specs.Bounds.{IsWithin}
use Rattle.homeo_meaning.specs.Initial.{initial}
use Rattle.homeo_meaning.specs.Schema.{schema_of}
use Rattle.homeo_meaning.specs.Serial.{call_outcome}
use Rattle.homeo_plan.specs.Planned.{sites_of}
use Rattle.homeo_history.specs.Follows.{site_or_zero}
use Rattle.homeo_site.specs.SiteState.{SiteState}
use Rattle.homeo_round.specs.GatherView.{GatherValue}
use Rattle.homeo_core.specs.Events.{closing_on}
use Rattle.homeo_core.specs.PreparedView.{PreparedValue}
use Rattle.homeo_core.specs.Joined.{AreJoined, gathered}
use Rattle.homeo_core.proofs.InRounds.{at_round}
use Rattle.homeo_cluster.specs.inner.Cells.{book_state, book_lists}
use Rattle.homeo_cluster.specs.inner.Meets.{site_states}
use Rattle.homeo_cluster.specs.inner.Rows.{held_cells}
use Rattle.homeo_cluster.proofs.Rows.{held_long, joined_hand}
use Rattle.homeo_cluster.proofs.Settles.{sums_fit, last_within, states_long}
use Rattle.homeo_cluster.proofs.frame.Frame.prepare_row.Goals as goal
use Rattle.homeo_cluster.proofs.frame.Frame.prepare_row.Goals.{After-accepted}
use Rattle.homeo_cluster.proofs.frame.Frame.prepare_row.Given.{Over}

abbrev sites : (g : Over) (c : After-accepted g) → List SiteState
sites g c = site_states (held_cells c.args.cells.now.items)

joined : (g : Over) (c : After-accepted g) → AreJoined g.N.ClusterNaming.workload (initial g.N.ClusterNaming.workload) (book_state c.args.book.now) (sites g c)
joined g c =
    joined_hand g.N.ClusterNaming.workload (held_cells c.args.cells.now.items) (book_state c.args.book.now) (book_lists g.N.ClusterNaming.workload c.args.book.now.held) c.requires.hand

pub gather_row-requires-clause-at : goal.gather_row-requires-clause-at
gather_row-requires-clause-at g c =
    let e = (goal.at.gather_row-requires-clause-at g c).After-accepted in
    at_round g.N.ClusterNaming.workload (initial g.N.ClusterNaming.workload) (book_state c.args.book.now) (sites g e) (joined g e)

pub gather_row-requires-clause-fits : goal.gather_row-requires-clause-fits
gather_row-requires-clause-fits g c n =
    let e = (goal.at.gather_row-requires-clause-fits g c).After-accepted in
    sums_fit g.N.ClusterNaming.workload (book_state c.args.book.now) (sites g e) c.accepted.ensures (joined g e) n

pub prepare-requires-clause-within : goal.prepare-requires-clause-within
prepare-requires-clause-within g c =
    let e = (goal.at.prepare-requires-clause-within g c).After-accepted in
    let sum : c.in_ok-gather.gather.sum ≡ gathered c.args.book.now.base (sites g e) = ap (λ (x : GatherValue). x.sum) c.in_ok-gather.ensures.gathered in
    subst (λ w. IsWithin (schema_of w) c.in_ok-gather.gather.sum) (sym c.self.invariant.named)
    (subst (IsWithin (schema_of g.N.ClusterNaming.workload)) (sym sum)
    (last_within g.N.ClusterNaming.workload (book_state c.args.book.now) (sites g e) c.accepted.ensures (joined g e)))

pub returns : goal.returns
unfolding history_definitions core_definitions
returns g c =
    let w = g.N.ClusterNaming.workload in
    let e = (goal.at.returns g c).After-accepted in
    let call = c.args.call in
    let is = c.in_ok-prepared.ensures in
    let named : plain_workload c.self.inside.compiled.value ≡ w = c.self.invariant.named in
    let all = c.in_ok-gather.ensures.gathered in
    let sum : c.in_ok-gather.gather.sum ≡ gathered c.args.book.now.base (sites g e) = ap (λ (x : GatherValue). x.sum) all in
    let round : c.in_ok-prepared.prepared.round ≡ length c.args.book.now.closed = ap (λ (p : PreparedValue). p.round) is ∙ ap (λ (x : GatherValue). x.round) all in
    let home : site_or_zero (plain_workload c.self.inside.compiled.value) call ≡ c.args.home = ap (λ (v : s.Workload). site_or_zero v call) named ∙ ap (λ o. unwrap_or o 0) c.requires.breaks.at_site.at_site in
    let cells : length c.args.cells.now.items ≡ vec_len c.args.cells.now = search rules in
    let count : sites_of (plain_workload c.self.inside.compiled.value) ≡ length (sites g e) =
    ap sites_of named ∙ sym (states_long (held_cells c.args.cells.now.items) ∙ (held_long c.args.cells.now.items ∙ (cells ∙ c.requires.count))) in
    let few : c.in_ok-gather.gather.round + 1 < 9223372036854775808 = c.in_ok-gather.ensures.few in
    record {
      work = ap (λ (p : PreparedValue). plain_workload p.work) is ∙ named;
      round = round;
      base = ap (λ (p : PreparedValue). p.base) is ∙ ap (λ (x : GatherValue). x.base) all;
      closing = ap (λ (p : PreparedValue). p.closing) is ∙ (λ i. closing_on (named i) (sum i) (home i) call c.args.broken);
      next = ap (λ (p : PreparedValue). p.next) is ∙ (λ i. (call_outcome (named i) call (sum i)).database);
      segments = ap (λ (p : PreparedValue). length p.segments) is ∙ length-replicate (sites_of (plain_workload c.self.inside.compiled.value)) [] ∙ count;
      waiting = ap (λ (p : PreparedValue). p.waiting) is ∙ ap (λ n. replicate n true) count;
      few = subst (λ n. n + 1 < 9223372036854775808) (sym (ap (λ (p : PreparedValue). p.round) is)) few;
    }
