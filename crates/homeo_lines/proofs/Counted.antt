-- How many members an answer has.
use Rattle.std.proofs.Common.{◌≡◌, ℕ, List, ℤ, length, refl}
use Rattle.homeo_syntax.specs.Source as s
use Rattle.homeo_meaning.specs.declared.call.CallId.{CallId}
use Rattle.homeo_desk.specs.declared.output.Path.{Path}
use Rattle.homeo_desk.specs.declared.output.Path.TheVariants.{Local, Closing}
use Rattle.homeo_lines.specs.Lines as l
use Rattle.homeo_lines.specs.Written.{given_fields, other_fields}

abbrev answer : ℕ → CallId → List ℤ → ℕ → Path → l.Answer
answer number call prints round path = record { number = number; call = call; prints = prints; round = round; path = path }

pub seven : (w : s.Workload) (number : ℕ) (call : CallId) (prints : List ℤ) (round : ℕ) (path : Path) → 7 ≡ length (given_fields w (answer number call prints round path))
seven w number call prints round (Local place) = refl
seven w number call prints round (Closing broken) = refl

pub five : (w : s.Workload) (number : ℕ) (call : CallId) (prints : List ℤ) (round : ℕ) (path : Path) → 5 ≡ length (other_fields w (l.CallOk (answer number call prints round path)))
five w number call prints round (Local place) = refl
five w number call prints round (Closing broken) = refl
