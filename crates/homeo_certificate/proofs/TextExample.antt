-- The text of a small certificate.
use Rattle.homeo_plan.specs.Key.{definitions as plan_definitions}
use Rattle.homeo_certificate.specs.Key.{definitions}
use Rattle.std.proofs.Common.{◌≡◌, List, ℕ, [], ◌∷◌, pos, negsuc, refl, Some}
use Rattle.std.specs.Prelude.{codes}
use Rattle.std.specs.Fmt.{digits}
use Rattle.serde_json.proofs.OnLiterals.{serde_json_on_literals}
use Rattle.serde_json.specs.Read.{read}
use Rattle.homeo_syntax.specs.declared.low.SplitName.TheVariants as split
use Rattle.homeo_syntax.specs.declared.phrase.Compare.TheVariants.{LessEqual}
use Rattle.homeo_syntax.specs.Low.{Literal, Read, Sum, Neg, NoExpr, MoreExpr, Comparison, NoTest, MoreTest, Skip, Write, Seq, If, NoCommand, MoreCommand}
use Rattle.homeo_certificate.specs.Certificate.{Certificate}
use Rattle.homeo_certificate.specs.Text.{text_of, certificate_data}

given : Certificate
given = record { sites = 1; base = (pos 10) ∷ []; clauses = record { terms = record { delta = record { object = 0; site = 0 }; factor = (negsuc 0) } ∷ []; slack = (pos 0) } ∷ []; bounds = ((pos 0) ∷ []) ∷ []; freezes = []; calls = record { site = 0; command = (Seq (MoreCommand (If (MoreTest (Comparison LessEqual (Literal (pos 0)) (Sum (MoreExpr (Sum (MoreExpr (Read (split.Base 0)) (MoreExpr (Read (split.Delta 0 0)) NoExpr))) (MoreExpr (Literal (pos 1)) NoExpr)))) (MoreTest (Comparison LessEqual (Sum (MoreExpr (Sum (MoreExpr (Read (split.Base 0)) (MoreExpr (Read (split.Delta 0 0)) NoExpr))) (MoreExpr (Literal (pos 1)) NoExpr))) (Literal (pos 10))) NoTest)) (Write (split.Delta 0 0) (Sum (MoreExpr (Sum (MoreExpr (Sum (MoreExpr (Read (split.Base 0)) (MoreExpr (Read (split.Delta 0 0)) NoExpr))) (MoreExpr (Literal (pos 1)) NoExpr))) (MoreExpr (Neg (Read (split.Base 0))) NoExpr)))) Skip) NoCommand)) } ∷ [] }

text : List ℕ
text = codes "{\"base\":[10],\"bounds\":[[0]],\"calls\":[{\"command\":[[\"seq\",1],[\"if\",2],[\"<=\"],[\"lit\",0],[\"sum\",2],[\"sum\",2],[\"base\",0],[\"delta\",0,0],[\"lit\",1],[\"<=\"],[\"sum\",2],[\"sum\",2],[\"base\",0],[\"delta\",0,0],[\"lit\",1],[\"lit\",10],[\"write\",0,0],[\"sum\",2],[\"sum\",2],[\"sum\",2],[\"base\",0],[\"delta\",0,0],[\"lit\",1],[\"neg\"],[\"base\",0],[\"skip\"]],\"site\":0}],\"clauses\":[{\"slack\":0,\"terms\":[[0,0,-1]]}],\"freezes\":[],\"sites\":1,\"version\":1}"

text_is : text_of given ≡ text
unfolding definitions plan_definitions given text digits serde_json_on_literals
text_is = refl

reads : read text ≡ Some (certificate_data given)
unfolding definitions plan_definitions given text digits serde_json_on_literals
reads = refl
