-- The line that tells a refusal (this project's rule).
use Rattle.std.specs.Prelude.{ℕ, List, ◌++◌, codes}
use Rattle.std.specs.Fmt.{decimal}
use Rattle.homeo_syntax.specs.declared.workload.Refusal.{Refusal}

-- code and offset in decimal digits, and a newline at the end
abbrev pub refusal_line : Refusal → List ℕ
refusal_line r = codes "refused E" ++ (decimal r.code ++ (codes " at " ++ (decimal r.offset ++ codes "\n")))
