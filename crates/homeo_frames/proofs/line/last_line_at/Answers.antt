use Rattle.std.proofs.Common.{◌≡◌, ◌≤◌, ℕ, zero, suc, List, drop, sym, arith, true}
use Rattle.homeo_frames.specs.Frames.{is_line}
use Rattle.homeo_frames.specs.LastLines.{last_line}
use Rattle.homeo_frames.proofs.EndLines.{last_at, whole_last}
use Rattle.homeo_frames.proofs.line.last_line_at.Goals as goal

at_start : (xs : List ℕ) (at : ℕ) → at ≤ 0 → is_line (drop at xs) ≡ true → drop at xs ≡ last_line xs
at_start xs zero h line = sym (whole_last xs line)
at_start xs (suc at) h line = absurd (omega arith)

pub returns-after-loop-at-clause-line : goal.returns-after-loop-at-clause-line
returns-after-loop-at-clause-line c = at_start c.args.bytes.now c.loop-at.at c.loop-at-test.false c.loop-at.invariant.1

pub returns-else-bytes-at-ne-NEWLINE-clause-line : goal.returns-else-bytes-at-ne-NEWLINE-clause-line
returns-else-bytes-at-ne-NEWLINE-clause-line c =
    sym (last_at c.args.bytes.now c.loop-at.at c.loop-at-test.true c.loop-at.invariant.0 c.if-bytes-at-ne-NEWLINE.false c.loop-at.invariant.1)
