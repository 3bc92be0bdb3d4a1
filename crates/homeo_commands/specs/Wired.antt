-- What `wire` makes of a workload, and which texts have too many calls for it (this project's rule).
use Rattle.std.specs.Prelude.{◌≡◌, ◌≤◌, ℕ, List, Some, length}
use Rattle.homeo_syntax.specs.declared.workload.Refusal.{Refusal}
use Rattle.homeo_syntax.specs.Source as s
use Rattle.homeo_meaning.specs.declared.call.Purpose.TheVariants.{Run}
use Rattle.homeo_meaning.specs.Verdict.{Accepts}
use Rattle.homeo_history.specs.History.{History}
use Rattle.homeo_history.specs.Legal.{IsLegal}
use Rattle.homeo_report.specs.Report.{report}
use Rattle.homeo_wire.specs.Drive.{calls_in, excess, drive}
use Rattle.homeo_wire.specs.Nodes.{reached}
use Rattle.homeo_wire.specs.Read.{history_in, counts_in}

-- the history that stands in the nodes after the events that a number chooses
abbrev pub driven : s.Workload → ℕ → History
driven w number = history_in (reached w (drive w number))

-- the report of that history, which is legal, and has as many calls of each client as stand in it
pub record IsWireReport (w : s.Workload) (number : ℕ) (output : List ℕ) : Type 0 where
  pub few : length (calls_in w) ≤ 200
  pub legal : IsLegal w (counts_in w (driven w number).rounds) (driven w number)
  pub reported : output ≡ report w (driven w number)

-- a workload has more than 200 calls: it is refused with E18 at the name of the 201st
pub record IsExcess (w : s.Workload) (r : Refusal) : Type 0 where
  pub call : s.Call
  pub past : excess w ≡ Some call
  pub refusal : r ≡ record { code = 18; offset = call.name.offset }

-- so an accepted text
pub record HasExcess (text : List ℕ) (r : Refusal) : Type 0 where
  pub workload : s.Workload
  pub accepted : Accepts text Run workload
  pub excess_is : IsExcess workload r
