-- A node that takes the lines behind a text, one after another (this project's rule).
use Rattle.std.specs.Prelude.{◌≡◌, ◌⊎◌, ◌≢◌, ℕ, List, [], ◌∷◌, ◌++◌, All}
use Rattle.std.specs.List.{flat_map}
use Rattle.homeo_syntax.specs.SourceView.{plain_workload}
use Rattle.homeo_syntax.specs.declared.workload.Workload.{Workload}
use Rattle.homeo_meaning.specs.declared.call.Purpose.TheVariants.{Run}
use Rattle.homeo_meaning.specs.Verdict.{Accepts}
use Rattle.homeo_frames.specs.Frames.{IsFrame, IsOpen}
use Rattle.homeo_process.specs.Driven.{Driven, before_all}
use Rattle.homeo_process.specs.Taking.{IsTaken}

-- ---- lines
abbrev pub newline : ℕ
newline = 10

abbrev pub IsLine : List ℕ → Type 0
IsLine bytes = All (λ b. b ≢ newline) bytes

-- the bytes are these lines, each with its newline, and the beginning of a line that hasn't ended
pub record AreLines (bytes : List ℕ) (lines : List (List ℕ)) (rest : List ℕ) : Type 0 where
  pub are : bytes ≡ flat_map (λ line. line ++ newline ∷ []) lines ++ rest
  pub each : All IsLine lines
  pub goes_on : IsLine rest

-- ---- a run
-- a node of the workload has taken these lines, each once and in their order, is this after them, and has written this
pub data HasRun (work : Workload) : List (List ℕ) → Driven → List ℕ → Type 0 where
  begin : HasRun work [] (before_all work) []
  more : (lines : List (List ℕ)) (d : Driven) (written : List ℕ) (line : List ℕ) (after : Driven) (then : List ℕ) →
      HasRun work lines d written → IsTaken d line after then → HasRun work (lines ++ line ∷ []) after (written ++ then)

-- ---- a stream
-- the bytes are a text up to its line `end`, which is accepted, and lines; and by these a node of the text has written this
pub record HasServed (bytes written : List ℕ) : Type 0 where
  pub text : List ℕ
  pub behind : List ℕ
  pub are : bytes ≡ text ++ behind
  pub ended : IsFrame text
  pub work : Workload
  pub accepted : Accepts text Run (plain_workload work)
  pub lines : List (List ℕ)
  pub rest : List ℕ
  pub are_lines : AreLines behind lines rest
  pub node : Driven
  pub run : HasRun work lines node written

-- before its text has ended nothing is written
abbrev pub Gives : (bytes written : List ℕ) → Type 0
Gives bytes written = (IsOpen bytes × (written ≡ [])) ⊎ HasServed bytes written
