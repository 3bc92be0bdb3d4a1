-- The tests that are left pass where all do.
use Rattle.std.proofs.Common.{◌≡◌, true, map, drop}
use Rattle.homeo_syntax.specs.LowView.{low_tests, plain_ltest}
use Rattle.homeo_split.specs.CanExec.{run_limit, cond_fits}
use Rattle.homeo_meaning.specs.LowMeaning.{holds}
use Rattle.homeo_split.proofs.phrases.+conditions.Given as goal

abbrev pub invariant-all_pass-loop-t : goal.invariant-all_pass-loop-t
invariant-all_pass-loop-t g l =
    let s = g.S.Reads.values l.state in
    let rest = low_tests (map plain_ltest (drop l.t-index l.ts)) in
    record {
      fits : cond_fits run_limit rest s ≡ true;
      left : holds rest s ≡ holds (low_tests (map plain_ltest l.ts)) s;
    }
