use Rattle.homeo_history.specs.Key.{definitions as history_definitions}
use Rattle.homeo_core.specs.Key.{definitions as core_definitions}
use Rattle.std.proofs.Common.{rules, ◌≡◌, ℕ, suc, ◌+◌, ◌<◌, true, false, List, [], ◌∷◌, ◌++◌, Some, slice_get, slice_set, length, length-set, replicate, vec_len, refl, sym, ap, subst, ◌∙◌, arith}
use Rattle.homeo_lemmas.proofs.Places.{get_map}
use Rattle.homeo_notes.specs.Lines.{list_at}
use Rattle.homeo_history.specs.Answers.{Answer}
use Rattle.homeo_history.specs.HistoryView.{plain_answer}
use Rattle.homeo_history.specs.Legal.{IsClientAt}
use Rattle.homeo_site.specs.SiteState.{SiteState}
use Rattle.homeo_core.specs.PreparedView.{PreparedValue}
use Rattle.homeo_core.specs.Joined.{segments_of}
use Rattle.homeo_core.specs.SiteLists.{first_from}
use Rattle.homeo_core.proofs.GatheredSites.{from_next, from_at, same_in}
use Rattle.homeo_cluster.specs.inner.Cells.{CellValue}
use Rattle.homeo_cluster.specs.Places.{at_line, bases_line}
use Rattle.homeo_cluster.specs.inner.Meets.{site_states}
use Rattle.homeo_cluster.specs.inner.Renewed.{IsAsked, IsRenewed}
use Rattle.homeo_cluster.specs.inner.Rows.{held_cells, HaveGoneOn, IsReady, prepared_at}
use Rattle.homeo_cluster.proofs.GoneOn as on
use Rattle.homeo_cluster.proofs.Rows.{held_at, held_set, held_long}
use Rattle.homeo_cluster.proofs.Settles.{states_get, states_long}
use Rattle.homeo_cluster.proofs.frame.Frame.renew_row.Goals as goal
use Rattle.homeo_cluster.proofs.frame.Frame.renew_row.Goals.{After-deref_mut}
use Rattle.homeo_cluster.proofs.frame.Frame.renew_row.Given.{Over}

pub loop-i-init : goal.loop-i-init
unfolding core_definitions
loop-i-init g c = record {
  long = search rules;
  gone = on.gone_none g.N.ClusterNaming.workload c.args.next.now (plain_answer c.args.answer.now) (held_cells c.args.cells.now.items) c.args.book.now c.args.asker.now c.requires.book;
  prepared = refl;
}

-- ---- the site whose turn it is
abbrev before : (g : Over) (c : After-deref_mut g) → List CellValue
before g c = held_cells c.args.cells.now.items

abbrev now : (g : Over) (c : After-deref_mut g) → List CellValue
now g c = held_cells c.loop-i.cells.items

inside : (g : Over) (c : After-deref_mut g) → c.loop-i.i < length (before g c)
inside g c =
    let lt : c.loop-i.i < vec_len c.args.cells.now = search rules in
    let long : length c.args.cells.now.items ≡ vec_len c.args.cells.now = search rules in
    let held : length (held_cells c.args.cells.now.items) ≡ length c.args.cells.now.items = held_long c.args.cells.now.items in
    omega (arith, lt, long, held)

stands : (g : Over) (c : After-deref_mut g) → slice_get (now g c) c.loop-i.i ≡ Some c.deref_mut.result.now
stands g c =
    let gs = c.loop-i.cells.items in
    let lt : c.loop-i.i < vec_len c.args.cells.now = search rules in
    let long : length gs ≡ vec_len c.args.cells.now = c.loop-i.invariant.long in
    held_at gs c.loop-i.i c.index_mut.result.now c.deref_mut.result.now (omega (arith, lt, long)) c.index_mut.ensures.value c.deref_mut.ensures.value

stood : (g : Over) (c : After-deref_mut g) → slice_get (before g c) c.loop-i.i ≡ Some c.deref_mut.result.now
stood g c =
    on.before_is g.N.ClusterNaming.workload c.args.next.now (plain_answer c.args.answer.now) c.loop-i.i (before g c) (now g c) c.args.book.now c.loop-i.book c.args.asker.now c.loop-i.asker
    c.loop-i.invariant.gone c.deref_mut.result.now (inside g c) (stands g c)

number : (g : Over) (c : After-deref_mut g) → c.deref_mut.result.now.site.state.number ≡ c.loop-i.i
number g c = c.requires.numbers c.loop-i.i c.deref_mut.result.now (stood g c)

ready : (g : Over) (c : After-deref_mut g) → IsReady g.N.ClusterNaming.workload c.args.next.now c.loop-i.book c.loop-i.i c.deref_mut.result.now
ready g c =
    on.ready_now g.N.ClusterNaming.workload c.args.next.now (plain_answer c.args.answer.now) c.loop-i.i (before g c) (now g c) c.args.book.now c.loop-i.book c.args.asker.now c.loop-i.asker
    c.loop-i.invariant.gone c.deref_mut.result.now c.requires.each (stands g c) (inside g c)

at_own : (g : Over) (c : After-deref_mut g) (client : ℕ) → IsClientAt g.N.ClusterNaming.workload c.deref_mut.result.now.site.state.number client → IsClientAt g.N.ClusterNaming.workload c.loop-i.i client
at_own g c client own = subst (λ n. IsClientAt g.N.ClusterNaming.workload n client) (number g c) own

state_at : (g : Over) (c : After-deref_mut g) → slice_get (site_states (before g c)) c.loop-i.i ≡ Some c.deref_mut.result.now.site.state
state_at g c = states_get (before g c) c.loop-i.i c.deref_mut.result.now (stood g c)

pub renew-requires-clause-waits : goal.renew-requires-clause-waits
unfolding core_definitions
renew-requires-clause-waits g c =
    let e = (goal.at.renew-requires-clause-waits g c).After-deref_mut in
    let n : ℕ = length (site_states (before g e)) in
    let lt : c.loop-i.i < vec_len c.args.cells.now = search rules in
    ap (λ (p : PreparedValue). slice_get p.waiting c.deref_mut.result.now.site.state.number) c.loop-i.invariant.prepared
    ∙ ap (slice_get (first_from c.args.prepared.now.waiting (replicate n false) c.loop-i.i)) (number g e)
    ∙ from_at c.args.prepared.now.waiting (replicate n false) c.loop-i.i
    ∙ ap (λ l. slice_get l c.loop-i.i) c.requires.waiting
    ∙ same_in (vec_len c.args.cells.now) c.loop-i.i true lt

pub renew-requires-clause-round : goal.renew-requires-clause-round
unfolding core_definitions
renew-requires-clause-round g c =
    let e = (goal.at.renew-requires-clause-round g c).After-deref_mut in
    (c.requires.rounds c.loop-i.i c.deref_mut.result.now.site.state (state_at g e)).in_round ∙ sym (ap (λ (p : PreparedValue). p.round) c.loop-i.invariant.prepared)

pub renew-requires-clause-pairs : goal.renew-requires-clause-pairs
renew-requires-clause-pairs g c client own =
    let e = (goal.at.renew-requires-clause-pairs g c).After-deref_mut in
    (ready g e).pairs client (at_own g e client own)

pub renew-requires-clause-short : goal.renew-requires-clause-short
renew-requires-clause-short g c client own =
    let e = (goal.at.renew-requires-clause-short g c).After-deref_mut in
    (ready g e).short client (at_own g e client own)

pub renew-requires-clause-few : goal.renew-requires-clause-few
renew-requires-clause-few g c = (ready g (goal.at.renew-requires-clause-few g c).After-deref_mut).few

pub renew-requires-clause-ahead : goal.renew-requires-clause-ahead
renew-requires-clause-ahead g c =
    let e = (goal.at.renew-requires-clause-ahead g c).After-deref_mut in
    subst (λ n. list_at c.loop-i.book (bases_line g.N.ClusterNaming.workload) ≡ list_at c.deref_mut.result.now.held (at_line g.N.ClusterNaming.workload n) ++ c.args.next.now ∷ []) (sym (number g e)) (ready g e).ahead

pub renew-requires-clause-asker : goal.renew-requires-clause-asker
unfolding history_definitions
renew-requires-clause-asker g c own =
    let e = (goal.at.renew-requires-clause-asker g c).After-deref_mut in
    on.asker_now g.N.ClusterNaming.workload c.args.next.now (plain_answer c.args.answer.now) c.loop-i.i (before g e) (now g e) c.args.book.now c.loop-i.book c.args.asker.now c.loop-i.asker
    c.loop-i.invariant.gone (at_own g e c.args.answer.now.client own) c.requires.asker

pub loop-i-preserved : goal.loop-i-preserved
unfolding core_definitions
loop-i-preserved g c =
    let w = g.N.ClusterNaming.workload in
    let a : Answer = plain_answer c.args.answer.now in
    let e = (goal.at.loop-i-preserved g c).After-deref_mut in
    let i = c.loop-i.i in
    let gs = c.loop-i.cells.items in
    let v : CellValue = c.deref_mut.result.now in
    let p = c.args.prepared.now in
    let sites = site_states (before g e) in
    let x : SiteState = v.site.state in
    let is = number g e in
    let same = c.loop-i.invariant.prepared in
    let plus : suc i ≡ i + 1 = omega arith in
    let lt : i < vec_len c.args.cells.now = search rules in
    let next : c.loop-i.prepared.next ≡ c.args.next.now = ap (λ (q : PreparedValue). q.next) same ∙ sym c.requires.next in
    let renewed : IsRenewed w c.args.next.now a v c.renew.new.cell c.loop-i.book c.renew.new.book = subst (λ n. IsRenewed w n a v c.renew.new.cell c.loop-i.book c.renew.new.book) next c.renew.ensures.renewed in
    let asked : IsAsked w i a c.loop-i.asker c.renew.new.asker = subst (λ n. IsAsked w n a c.loop-i.asker c.renew.new.asker) is c.renew.ensures.asked in
    let segments : slice_set c.loop-i.prepared.segments x.number x.segment ≡ first_from p.segments (segments_of sites) (i + 1) =
    ap (λ (q : PreparedValue). slice_set q.segments x.number x.segment) same
    ∙ ap (λ n. slice_set (first_from p.segments (segments_of sites) i) n x.segment) is
    ∙ from_next p.segments (segments_of sites) i x.segment (get_map (λ (y : SiteState). y.segment) sites i x (state_at g e))
    ∙ ap (first_from p.segments (segments_of sites)) plus in
    let long : length (held_cells c.args.cells.now.items) ≡ length sites = sym (states_long (before g e)) in
    let within : i < length (before g e) = inside g e in
    let waiting : slice_set c.loop-i.prepared.waiting x.number false ≡ first_from p.waiting (replicate (length sites) false) (i + 1) =
    ap (λ (q : PreparedValue). slice_set q.waiting x.number false) same
    ∙ ap (λ n. slice_set (first_from p.waiting (replicate (length sites) false) i) n false) is
    ∙ from_next p.waiting (replicate (length sites) false) i false (same_in (length sites) i false (omega (arith, within, long)))
    ∙ ap (first_from p.waiting (replicate (length sites) false)) plus in
    record {
      long = length-set gs i _ ∙ c.loop-i.invariant.long;
      gone = subst (λ vs. HaveGoneOn w c.args.next.now a (i + 1) (before g e) vs c.args.book.now c.renew.new.book c.args.asker.now c.renew.new.asker) (sym (held_set gs i _))
          (on.gone_more w c.args.next.now a i (before g e) (now g e) c.args.book.now c.loop-i.book c.args.asker.now c.loop-i.asker c.loop-i.invariant.gone v c.renew.new.cell c.renew.new.book c.renew.new.asker
          (stands g e) within is renewed asked);
      prepared = c.renew.ensures.taken ∙ (λ j. record {
        work = (same j).work;
        round = (same j).round;
        base = (same j).base;
        closing = (same j).closing;
        next = (same j).next;
        segments = segments j;
        waiting = waiting j;
      });
    }

pub returns-clause-gone : goal.returns-clause-gone
returns-clause-gone g c =
    let all : c.loop-i.i ≡ vec_len c.args.cells.now = omega (arith, c.loop-i-test.false, c.loop-i.auto.i-end) in
    subst (λ n. HaveGoneOn g.N.ClusterNaming.workload c.args.next.now (plain_answer c.args.answer.now) n (held_cells c.args.cells.now.items) (held_cells c.loop-i.cells.items) c.args.book.now c.loop-i.book c.args.asker.now c.loop-i.asker) all c.loop-i.invariant.gone

pub returns-clause-prepared : goal.returns-clause-prepared
returns-clause-prepared g c =
    let all : c.loop-i.i ≡ vec_len c.args.cells.now = omega (arith, c.loop-i-test.false, c.loop-i.auto.i-end) in
    c.loop-i.invariant.prepared ∙ ap (prepared_at c.args.prepared.now (site_states (held_cells c.args.cells.now.items))) all
