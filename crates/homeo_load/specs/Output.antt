-- What every full history of a load leaves and prints, and its summary.
use Rattle.std.specs.Prelude.{◌≡◌, ℕ, List, ◌++◌, length, codes}
use Rattle.homeo_history.specs.History.{History}
use Rattle.homeo_history.specs.Legal.{calls_of}
use Rattle.homeo_print.specs.Names.{heading}
use Rattle.homeo_report.specs.Report.{object_lines}
use Rattle.homeo_report.specs.Summary.{prints_of}
use Rattle.homeo_load.specs.Key.{definitions}
use Rattle.homeo_load.specs.Additions.{Addition, additions}
use Rattle.homeo_load.specs.Load.{load_object_names}
use Rattle.homeo_load.specs.Sums.{sums}

-- each object has the sum of the numbers added to it, there are as many calls as additions, and each printed one number
pub record HasOutput (all : List Addition) (h : History) : Type 0 where
  pub last : h.last ≡ sums all
  pub calls : length (calls_of h.rounds) ≡ length all
  pub prints : length (prints_of h.rounds) ≡ length all

-- calls N, prints N, and for each object the sum of the numbers added to it
abbrev pub load_summary : ℕ → ℕ → List ℕ
unfolding definitions
load_summary number calls =
    heading (codes "calls ") calls ++ heading (codes "prints ") calls
    ++ object_lines load_object_names (sums (additions number calls))
