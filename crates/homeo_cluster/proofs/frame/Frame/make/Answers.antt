use Rattle.homeo_site.specs.Key.{definitions as site_definitions}
use Rattle.std.proofs.Common.{rules, ◌≡◌, ℕ, suc, List, ◌++◌, length, sym, ap, subst, ◌∙◌}
use Rattle.std.specs.Prelude.{ℤ}
use Rattle.homeo_syntax.specs.SourceView.{plain_workload}
use Rattle.homeo_notes.specs.Lines.{IsOwner, HasSeen, list_at}
use Rattle.homeo_history.specs.Answers.{local_answer}
use Rattle.homeo_history.specs.Legal.{IsClientAt, IsCallAt}
use Rattle.homeo_history.proofs.ClientAnswers.{client_at}
use Rattle.homeo_history.proofs.Exists.{client_lt}
use Rattle.homeo_site.specs.Attempts.{IsChange}
use Rattle.homeo_site.specs.SiteState.{SiteState, after_local, local_entry}
use Rattle.homeo_site.specs.SiteView.{SiteValue}
use Rattle.homeo_assembly.specs.Written.{written, head_of}
use Rattle.homeo_history.specs.declared.answer.Path.TheVariants.{Local}
use Rattle.homeo_cluster.specs.inner.Cells.{HoldsFor}
use Rattle.homeo_cluster.specs.Places.{asked_line, done_line}
use Rattle.homeo_cluster.specs.inner.Grows.{Grew}
use Rattle.homeo_cluster.proofs.Entries.{written_entry}
use Rattle.homeo_cluster.proofs.Locals.{cell_local}
use Rattle.homeo_cluster.proofs.frame.Frame.make.Goals as goal
use Rattle.homeo_cluster.proofs.frame.Frame.make.Goals.{After-as_slice}
use Rattle.homeo_cluster.proofs.frame.Frame.make.Given.{Over}

pub done-done-requires : goal.done-done-requires
done-done-requires g c =
    let w = g.N.ClusterNaming.workload in
    let call = c.args.change.call in
    record { exists = client_lt w c.args.cell.now.site.state.number call.client (client_at w call c.args.cell.now.site.state.number c.requires.call.at_site) }

-- the client is one of the site
own : (g : Over) (c : After-as_slice g) → IsClientAt g.N.ClusterNaming.workload c.cell.inside.site.state.number c.args.change.call.client
own g c =
    let here : IsClientAt g.N.ClusterNaming.workload c.args.cell.now.site.state.number c.args.change.call.client =
    client_at g.N.ClusterNaming.workload c.args.change.call c.args.cell.now.site.state.number c.requires.call.at_site in
    let same : c.args.cell.now.site.state.number ≡ c.cell.inside.site.state.number = search rules in
    subst (λ n. IsClientAt g.N.ClusterNaming.workload n c.args.change.call.client) same here

for_client : (g : Over) (c : After-as_slice g) → HoldsFor g.N.ClusterNaming.workload c.cell.inside.holder c.args.change.call.client
for_client g c = c.cell.invariant.holds.each c.args.change.call.client (own g c)

line : (g : Over) (c : After-as_slice g) → c.done-done.result ≡ done_line g.N.ClusterNaming.workload c.args.change.call.client
line g c = c.done-done.ensures

pub extend_pair-requires-clause-owners : goal.extend_pair-requires-clause-owners
extend_pair-requires-clause-owners g c =
    (subst (IsOwner c.cell.inside.holder) (sym (line g c)) (for_client g c).owns_done, c.requires.owns)

pub extend_pair-requires-clause-left : goal.extend_pair-requires-clause-left
extend_pair-requires-clause-left g c =
    subst (λ l. HasSeen c.cell.inside.holder (asked_line c.args.change.call.client) (list_at c.cell.inside.holder l)) (sym (line g c)) (for_client g c).seen_asked

-- what is written is the local answer
entry : (g : Over) (c : After-as_slice g) → c.local_head-head.result ++ c.as_slice.result.now ≡ written (local_answer c.cell.inside.site.state.round c.cell.inside.site.state.number (local_entry g.N.ClusterNaming.workload c.cell.inside.site.state c.args.change.call))
unfolding site_definitions
entry g c =
    let w = g.N.ClusterNaming.workload in
    let x : SiteState = c.cell.inside.site.state in
    let number : c.number.result ≡ x.number = c.number.ensures in
    let round : c.round.result ≡ x.round = c.round.ensures in
    let change : IsChange w x c.args.change.call c.args.change = search rules in
    written_entry x.round x.number (local_entry w x c.args.change.call) c.local_head-head.result c.as_slice.result.now
    (c.local_head-head.ensures ∙ (λ i. head_of c.args.change.call.seq (number i) (round i) Local))
    (c.as_slice.ensures ∙ change.prints)

abbrev LineEntry : Type 0
LineEntry = ℕ × List ℤ

pub invariant_of-cell : goal.invariant_of-cell
invariant_of-cell g c =
    let w = g.N.ClusterNaming.workload in
    let x : SiteState = c.cell.inside.site.state in
    let call = c.args.change.call in
    let e = (goal.at.invariant_of-cell g c).After-as_slice in
    let same : c.args.cell.now.site.state ≡ x = search rules in
    let change : IsChange w x call c.args.change = search rules in
    let work : c.commit.new.self.work ≡ c.cell.inside.site.work = ap (λ (v : SiteValue). v.work) c.commit.ensures in
    let made : c.commit.new.self.state ≡ after_local (plain_workload c.cell.inside.site.work) x call = ap (λ (v : SiteValue). v.state) c.commit.ensures in
    let equal : list_at c.cell.inside.holder c.done-done.result ≡ list_at c.args.asker.now call.client = c.extend_pair.ensures.equal in
    cell_local w c.cell.inside.site c.commit.new.self c.cell.inside.holder c.extend_pair.new.left call
    c.accepted.ensures c.cell.invariant (subst (λ (y : SiteState). IsCallAt w y.number call) same c.requires.call) change.keeps work
    (made ∙ ap (λ v. after_local v x call) c.cell.invariant.work)
    (c.requires.next ∙ ap (λ xs. suc (length xs)) (sym equal ∙ ap (list_at c.cell.inside.holder) (line g e)))
    (subst (λ (x : LineEntry). Grew c.cell.inside.holder c.extend_pair.new.left x.0 x.1) (λ i. (line g e i, entry g e i)) c.extend_pair.ensures.left)
    (subst (λ l. HasSeen c.extend_pair.new.left (asked_line call.client) (list_at c.extend_pair.new.left l)) (line g e) c.extend_pair.ensures.left_seen)

pub returns-clause-asked : goal.returns-clause-asked
returns-clause-asked g c =
    let w = g.N.ClusterNaming.workload in
    let e = (goal.at.returns-clause-asked g c).After-as_slice in
    let same : c.cell.inside.site.state ≡ c.args.cell.now.site.state = search rules in
    subst (λ (x : SiteState). Grew c.args.asker.now c.extend_pair.new.right (asked_line c.args.change.call.client) (written (local_answer x.round x.number (local_entry w x c.args.change.call)))) same
    (subst (λ (x : List ℤ). Grew c.args.asker.now c.extend_pair.new.right (asked_line c.args.change.call.client) x) (entry g e) c.extend_pair.ensures.right)
