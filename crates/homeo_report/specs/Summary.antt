-- The text of a summary (this project's rule).
use Rattle.std.specs.Prelude.{List, ◌++◌, ℕ, ℤ, length, codes}
use Rattle.std.specs.List.{flat_map}
use Rattle.homeo_syntax.specs.Source as s
use Rattle.homeo_history.specs.History.{Entry, Round, History}
use Rattle.homeo_history.specs.Legal.{entries_of, calls_of}
use Rattle.homeo_print.specs.Names.{heading, object_names}
use Rattle.homeo_report.specs.Key.{definitions}
use Rattle.homeo_report.specs.Report.{object_lines}

-- what entries printed, one after another
abbrev pub prints_in : List Entry → List ℤ
unfolding definitions
prints_in entries = flat_map (λ e. e.prints) entries

-- what the calls of rounds printed
abbrev pub prints_of : List Round → List ℤ
unfolding definitions
prints_of rounds = prints_in (flat_map entries_of rounds)

-- calls N, prints M, and the values of the objects
abbrev pub summary : s.Workload → History → List ℕ
unfolding definitions
summary w h =
    heading (codes "calls ") (length (calls_of h.rounds)) ++ heading (codes "prints ") (length (prints_of h.rounds))
    ++ object_lines (object_names w) h.last
