use Rattle.homeo_site.specs.Key.{definitions as site_definitions}
use Rattle.homeo_history.specs.Key.{definitions as history_definitions}
use Rattle.std.proofs.Common.{rules, ◌≡◌, ℕ, suc, ◌+◌, ◌<◌, length, map, ap, sym, subst, ◌∙◌, arith}
use Rattle.homeo_syntax.specs.SourceView.{plain_workload}
use Rattle.homeo_meaning.specs.Bounds.{IsWithin}
use Rattle.homeo_meaning.specs.Schema.{schema_of}
use Rattle.homeo_notes.specs.Lines.{HasSeen, list_at}
use Rattle.homeo_history.specs.Answers.{Answer}
use Rattle.homeo_history.specs.HistoryView.{plain_answer}
use Rattle.homeo_history.specs.Legal.{IsClientAt}
use Rattle.homeo_site.specs.SiteState.{SiteState, renewed}
use Rattle.homeo_assembly.specs.Events.{IsNext, Renews}
use Rattle.homeo_assembly.specs.Key.{definitions}
use Rattle.homeo_assembly.specs.Written.{read}
use Rattle.homeo_cluster.specs.inner.Cells.{CellValue, site_lists}
use Rattle.homeo_cluster.specs.Places.{at_line, bases_line}
use Rattle.homeo_cluster.specs.inner.Grows.{Grew}
use Rattle.homeo_cluster.specs.inner.Moves.{AreShort}
use Rattle.homeo_cluster.specs.inner.Renewed.{IsGiven, IsRenewed}
use Rattle.homeo_cluster.proofs.Moving.{moving_room}
use Rattle.homeo_cluster.proofs.Renewals.{cell_renewed}
use Rattle.homeo_cluster.proofs.SiteRenewed as site
use Rattle.homeo_cluster.proofs.frame.Frame.renew.Goals as goal

pub give-requires-clause-room : goal.give-requires-clause-room
give-requires-clause-room g c own =
    let w = g.N.ClusterNaming.workload in
    let x : SiteState = c.cell.inside.site.state in
    let cell : c.args.cell.now ≡ record { site = c.cell.inside.site; held = c.cell.inside.holder } = search rules in
    let number : c.number-number.result ≡ x.number = c.number-number.ensures.number ∙ ap (λ (v : CellValue). v.site.state.number) cell in
    moving_room w x (length x.segment) c.cell.inside.holder c.args.book.now c.move_segment.new.holder c.move_segment.new.book c.args.answer.now.client
    c.cell.invariant.facts (subst (λ (v : CellValue). AreShort w v.site.state.number v.held) cell c.requires.short) c.move_segment.ensures.moved
    (subst (λ n. IsClientAt w n c.args.answer.now.client) number own)

pub follow_pair-requires-clause-room : goal.follow_pair-requires-clause-room
follow_pair-requires-clause-room g c =
    let w = g.N.ClusterNaming.workload in
    let x : SiteState = c.cell.inside.site.state in
    let cell : c.args.cell.now ≡ record { site = c.cell.inside.site; held = c.cell.inside.holder } = search rules in
    let number : c.number-number.result ≡ x.number = c.number-number.ensures.number ∙ ap (λ (v : CellValue). v.site.state.number) cell in
    let given : IsGiven w x.number (plain_answer c.args.answer.now) c.move_segment.new.holder c.move_segment.new.book c.give.new.site c.give.new.book =
    subst (λ n. IsGiven w n (plain_answer c.args.answer.now) c.move_segment.new.holder c.move_segment.new.book c.give.new.site c.give.new.book) number c.give.ensures.given in
    let line : c.at-at.result ≡ at_line w x.number = c.at-at.ensures ∙ ap (at_line w) number in
    let long : length (list_at c.give.new.site c.at-at.result) ≡ suc x.round =
    ap (λ l. length (list_at c.give.new.site l)) line ∙ ap length (given.at ∙ c.move_segment.ensures.moved.at) ∙ c.cell.invariant.facts.rounds in
    let few : x.round + 1 < 9223372036854775808 = subst (λ (v : CellValue). v.site.state.round + 1 < 9223372036854775808) cell c.requires.few in
    omega (arith, long, few)

pub invariant_of-cell : goal.invariant_of-cell
unfolding definitions site_definitions history_definitions
invariant_of-cell g c =
    let w = g.N.ClusterNaming.workload in
    let x : SiteState = c.cell.inside.site.state in
    let a : Answer = plain_answer c.args.answer.now in
    let cell : c.args.cell.now ≡ record { site = c.cell.inside.site; held = c.cell.inside.holder } = search rules in
    let number : c.number-number.result ≡ x.number = c.number-number.ensures.number ∙ ap (λ (v : CellValue). v.site.state.number) cell in
    let is_next : IsNext w x.number a (site_lists w x.number c.cell.inside.holder).done =
    (λ at. c.give.ensures.next (subst (λ n. IsClientAt w n a.client) (sym number) at) ∙ ap (λ es. suc (length (map (read a.client) es))) (c.move_segment.ensures.moved.done a.client at)) in
    let given : IsGiven w x.number a c.move_segment.new.holder c.move_segment.new.book c.give.new.site c.give.new.book =
    subst (λ n. IsGiven w n a c.move_segment.new.holder c.move_segment.new.book c.give.new.site c.give.new.book) number c.give.ensures.given in
    let line : c.at-at.result ≡ at_line w x.number = c.at-at.ensures ∙ ap (at_line w) number in
    let grew : Grew c.give.new.site c.follow_pair.new.left (at_line w x.number) c.args.next.now =
    subst (λ l. Grew c.give.new.site c.follow_pair.new.left l c.args.next.now) line c.follow_pair.ensures.left in
    let seen : HasSeen c.follow_pair.new.left (bases_line w) (list_at c.follow_pair.new.left (at_line w x.number)) =
    subst (λ (l : ℕ × ℕ). HasSeen c.follow_pair.new.left l.1 (list_at c.follow_pair.new.left l.0)) (λ i. (line i, c.bases-bases.ensures i)) c.follow_pair.ensures.left_seen in
    let renews : Renews w c.args.next.now x a (site_lists w x.number c.cell.inside.holder) (site_lists w x.number c.follow_pair.new.left) =
    site.renews w x c.args.next.now a c.cell.inside.holder c.move_segment.new.holder c.give.new.site c.follow_pair.new.left
    c.args.book.now c.move_segment.new.book c.give.new.book c.follow_pair.new.right c.cell.invariant.facts is_next c.move_segment.ensures.moved given grew c.follow_pair.ensures.right seen in
    let next : c.args.next.now ≡ c.args.prepared.now.next = c.requires.next in
    cell_renewed w c.cell.inside.site c.install.new.site c.cell.inside.holder c.follow_pair.new.left c.args.next.now a c.accepted.ensures
    (subst (IsWithin (schema_of w)) (sym next) c.requires.within) c.cell.invariant (ap plain_workload c.install.ensures.work ∙ c.requires.work)
    (c.install.ensures.site ∙ ap (λ d. renewed d x) (sym next)) renews
    (site.holds w x c.args.next.now a c.cell.inside.holder c.move_segment.new.holder c.give.new.site c.follow_pair.new.left
    c.args.book.now c.move_segment.new.book c.give.new.book c.follow_pair.new.right c.cell.invariant.facts is_next c.move_segment.ensures.moved given grew c.follow_pair.ensures.right seen)

pub returns-clause-renewed : goal.returns-clause-renewed
unfolding definitions site_definitions history_definitions
returns-clause-renewed g c =
    let w = g.N.ClusterNaming.workload in
    let x : SiteState = c.cell.inside.site.state in
    let a : Answer = plain_answer c.args.answer.now in
    let cell : c.args.cell.now ≡ record { site = c.cell.inside.site; held = c.cell.inside.holder } = search rules in
    let number : c.number-number.result ≡ x.number = c.number-number.ensures.number ∙ ap (λ (v : CellValue). v.site.state.number) cell in
    let is_next : IsNext w x.number a (site_lists w x.number c.cell.inside.holder).done =
    (λ at. c.give.ensures.next (subst (λ n. IsClientAt w n a.client) (sym number) at) ∙ ap (λ es. suc (length (map (read a.client) es))) (c.move_segment.ensures.moved.done a.client at)) in
    let given : IsGiven w x.number a c.move_segment.new.holder c.move_segment.new.book c.give.new.site c.give.new.book =
    subst (λ n. IsGiven w n a c.move_segment.new.holder c.move_segment.new.book c.give.new.site c.give.new.book) number c.give.ensures.given in
    let line : c.at-at.result ≡ at_line w x.number = c.at-at.ensures ∙ ap (at_line w) number in
    let grew : Grew c.give.new.site c.follow_pair.new.left (at_line w x.number) c.args.next.now =
    subst (λ l. Grew c.give.new.site c.follow_pair.new.left l c.args.next.now) line c.follow_pair.ensures.left in
    let seen : HasSeen c.follow_pair.new.left (bases_line w) (list_at c.follow_pair.new.left (at_line w x.number)) =
    subst (λ (l : ℕ × ℕ). HasSeen c.follow_pair.new.left l.1 (list_at c.follow_pair.new.left l.0)) (λ i. (line i, c.bases-bases.ensures i)) c.follow_pair.ensures.left_seen in
    let renews : Renews w c.args.next.now x a (site_lists w x.number c.cell.inside.holder) (site_lists w x.number c.follow_pair.new.left) =
    site.renews w x c.args.next.now a c.cell.inside.holder c.move_segment.new.holder c.give.new.site c.follow_pair.new.left
    c.args.book.now c.move_segment.new.book c.give.new.book c.follow_pair.new.right c.cell.invariant.facts is_next c.move_segment.ensures.moved given grew c.follow_pair.ensures.right seen in
    let told : HasSeen c.follow_pair.new.right (at_line w x.number) (list_at c.follow_pair.new.right (bases_line w)) =
    subst (λ (l : ℕ × ℕ). HasSeen c.follow_pair.new.right l.0 (list_at c.follow_pair.new.right l.1)) (λ i. (line i, c.bases-bases.ensures i)) c.follow_pair.ensures.right_seen in
    subst (λ (v : CellValue). IsRenewed w c.args.prepared.now.next a v (record { site = c.install.new.site; held = c.follow_pair.new.left }) c.args.book.now c.follow_pair.new.right) (sym cell) (record {
      state = c.install.ensures.site;
      lists = subst (λ n. Renews w n x a (site_lists w x.number c.cell.inside.holder) (site_lists w x.number c.follow_pair.new.left)) c.requires.next renews;
      pairs = site.pairs w x c.args.next.now a c.cell.inside.holder c.move_segment.new.holder c.give.new.site c.follow_pair.new.left
          c.args.book.now c.move_segment.new.book c.give.new.book c.follow_pair.new.right c.cell.invariant.facts is_next c.move_segment.ensures.moved given grew c.follow_pair.ensures.right seen;
      keeps = site.keeps w x c.args.next.now a c.cell.inside.holder c.move_segment.new.holder c.give.new.site c.follow_pair.new.left
          c.args.book.now c.move_segment.new.book c.give.new.book c.follow_pair.new.right c.cell.invariant.facts is_next c.move_segment.ensures.moved given grew c.follow_pair.ensures.right seen;
      told = told;
    })
