-- The law of texts.
use Rattle.std.specs.Prelude.{ℕ, List}
use Rattle.homeo_syntax.specs.declared.workload.Refusal.{Refusal}
use Rattle.homeo_syntax.specs.Source as s
use Rattle.homeo_meaning.specs.declared.call.Purpose.{Purpose}
use Rattle.homeo_meaning.specs.Verdict.{Accepts, IsRefused}

-- a text is not both accepted and refused for one purpose
abbrev pub NotBoth : Type 0
NotBoth = (text : List ℕ) (purpose : Purpose) (w : s.Workload) (r : Refusal) → Accepts text purpose w → IsRefused text purpose r → ⊥
