use Rattle.std.proofs.Common.{rules, ◌≡◌, map, ap, sym, ◌∙◌}
use Rattle.homeo_notes.specs.Lines.{list_at}
use Rattle.homeo_history.specs.HistoryView.{plain_answer}
use Rattle.homeo_cluster.specs.Places.{done_line}
use Rattle.homeo_cluster.proofs.Roses.{rose_cell, rose_pass, log_is_done}
use Rattle.homeo_cluster.proofs.frame.Frame.meet_done.Goals as goal

pub invariant_of-cell : goal.invariant_of-cell
invariant_of-cell g c =
    rose_cell g.N.ClusterNaming.workload c.cell.inside.site c.cell.inside.holder c.meet_pair.new.left c.cell.invariant c.meet_pair.ensures.left

pub invariant_of-pass : goal.invariant_of-pass
invariant_of-pass g c =
    rose_pass g.N.ClusterNaming.workload c.pass.inside.client c.pass.inside.left (map plain_answer c.pass.inside.log.items) c.pass.inside.holder c.meet_pair.new.right c.pass.invariant c.meet_pair.ensures.right

pub returns-clause-met : goal.returns-clause-met
returns-clause-met g c =
    let w = g.N.ClusterNaming.workload in
    let line : c.done-line.result ≡ done_line w c.pass.inside.client = search rules in
    let equal : list_at c.cell.inside.holder c.done-line.result ≡ list_at c.pass.inside.holder c.pass.inside.client = c.meet_pair.ensures.equal in
    let same = log_is_done w c.pass.inside.client c.pass.inside.left (map plain_answer c.pass.inside.log.items) c.pass.inside.holder c.cell.inside.holder c.pass.invariant (ap (list_at c.cell.inside.holder) (sym line) ∙ equal) in
    rw (← c.pass.view_is, ← c.cell.view_is) same
