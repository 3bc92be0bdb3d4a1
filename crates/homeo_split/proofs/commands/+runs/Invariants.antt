-- The commands that are left, run behind the prints so far.
use Rattle.std.proofs.Common.{◌≡◌, true, map, drop}
use Rattle.homeo_syntax.specs.LowView.{low_commands, plain_lcommand}
use Rattle.homeo_meaning.specs.LowMeaning.{after_prints, exec_all}
use Rattle.homeo_split.specs.CanExec.{run_limit, can_exec_all}
use Rattle.homeo_split.specs.Shape.{has_places_all}
use Rattle.homeo_split.proofs.commands.+runs.Given as goal

abbrev pub invariant-run_all-loop-c : goal.invariant-run_all-loop-c
invariant-run_all-loop-c g l =
    let rest = low_commands (map plain_lcommand (drop l.c-index l.cs)) in
    record {
      places : has_places_all (g.S.Store.shape l.initial.state) rest ≡ true;
      can : can_exec_all run_limit rest (g.S.Reads.values l.state) ≡ true;
      left : after_prints l.prints.items (exec_all rest (g.S.Reads.values l.state)) ≡ after_prints l.initial.prints.items (exec_all (low_commands (map plain_lcommand l.cs)) (g.S.Reads.values l.initial.state));
      leads : g.S.Store.leads_to l.initial.state l.state;
    }
