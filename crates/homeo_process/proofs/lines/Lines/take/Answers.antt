use Rattle.homeo_process.proofs.Lining.{no_line_ends, line_there, cut_there, none_taken, line_taken, all_taken}
use Rattle.homeo_process.proofs.lines.Lines.take.Goals as goal

pub loop-end-init : goal.loop-end-init
loop-end-init c = λ work bytes given h. none_taken work bytes given _ _ _ h

pub loop-end-preserved : goal.loop-end-preserved
loop-end-preserved c = λ work bytes given h.
    let left = c.loop-end.left.now in
    let split = c.split_at.ensures in
    line_taken work bytes given _ left _ _ _ _ _ _ _ (c.loop-end.invariant work bytes given h)
    (cut_there left _ _ c.in-Some.end c.in-Some.ensures split.front split.back)
    (line_there left _ c.in-Some.end c.in-Some.ensures split.front) c.in_ok-end_line.ensures.took c.in_ok-end_line.ensures.keeps

pub returns : goal.returns
returns c = λ work bytes given h.
    let left = c.loop-end.left.now in
    all_taken c.keep.result work bytes given _ left _ _ _ _ (c.loop-end.invariant work bytes given h) (no_line_ends left c.in_default.ensures) c.keep.ensures.node c.keep.ensures.keeps
