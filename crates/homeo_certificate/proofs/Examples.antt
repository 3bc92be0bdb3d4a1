-- Certificates with their verdicts, as an independent program gives them.
use Rattle.homeo_meaning.specs.Key.{definitions as meaning_definitions}
use Rattle.homeo_plan.specs.Key.{definitions as plan_definitions}
use Rattle.homeo_certificate.specs.Key.{definitions}
use Rattle.std.proofs.Common.{◌≡◌, [], ◌∷◌, pos, negsuc, refl}
use Rattle.homeo_syntax.specs.declared.low.Temp.TheVariants as temp
use Rattle.homeo_syntax.specs.declared.low.SplitName.TheVariants as split
use Rattle.homeo_syntax.specs.declared.phrase.Compare.TheVariants.{Less, LessEqual, Equal}
use Rattle.homeo_syntax.specs.Low.{Literal, OfTemp, Read, Sum, Product, Neg, NoExpr, MoreExpr, True, Comparison, NoTest, MoreTest, Skip, Assign, Write, Print, Seq, If, NoCommand, MoreCommand}
use Rattle.homeo_certificate.specs.declared.verdict.Verdict.TheVariants as verdict
use Rattle.homeo_certificate.specs.Certificate.{Certificate}
use Rattle.homeo_certificate.specs.Verdict.{verdict_of}

c0 : Certificate
c0 = record { sites = 1; base = (pos 10) ∷ []; clauses = record { terms = record { delta = record { object = 0; site = 0 }; factor = (negsuc 0) } ∷ []; slack = (pos 0) } ∷ []; bounds = ((pos 0) ∷ []) ∷ []; freezes = []; calls = record { site = 0; command = (Seq (MoreCommand (If (MoreTest (Comparison LessEqual (Literal (pos 0)) (Sum (MoreExpr (Sum (MoreExpr (Read (split.Base 0)) (MoreExpr (Read (split.Delta 0 0)) NoExpr))) (MoreExpr (Literal (pos 1)) NoExpr)))) (MoreTest (Comparison LessEqual (Sum (MoreExpr (Sum (MoreExpr (Read (split.Base 0)) (MoreExpr (Read (split.Delta 0 0)) NoExpr))) (MoreExpr (Literal (pos 1)) NoExpr))) (Literal (pos 10))) NoTest)) (Write (split.Delta 0 0) (Sum (MoreExpr (Sum (MoreExpr (Sum (MoreExpr (Read (split.Base 0)) (MoreExpr (Read (split.Delta 0 0)) NoExpr))) (MoreExpr (Literal (pos 1)) NoExpr))) (MoreExpr (Neg (Read (split.Base 0))) NoExpr)))) Skip) NoCommand)) } ∷ [] }

c0_verdict : verdict_of c0 ≡ verdict.Valid
unfolding definitions meaning_definitions plan_definitions c0
c0_verdict = refl

c1 : Certificate
c1 = record { sites = 1; base = (pos 10) ∷ []; clauses = record { terms = record { delta = record { object = 0; site = 0 }; factor = (negsuc 0) } ∷ []; slack = (pos 0) } ∷ []; bounds = ((pos 1) ∷ []) ∷ []; freezes = []; calls = record { site = 0; command = (Seq (MoreCommand (If (MoreTest (Comparison LessEqual (Literal (pos 0)) (Sum (MoreExpr (Sum (MoreExpr (Read (split.Base 0)) (MoreExpr (Read (split.Delta 0 0)) NoExpr))) (MoreExpr (Literal (pos 1)) NoExpr)))) (MoreTest (Comparison LessEqual (Sum (MoreExpr (Sum (MoreExpr (Read (split.Base 0)) (MoreExpr (Read (split.Delta 0 0)) NoExpr))) (MoreExpr (Literal (pos 1)) NoExpr))) (Literal (pos 10))) NoTest)) (Write (split.Delta 0 0) (Sum (MoreExpr (Sum (MoreExpr (Sum (MoreExpr (Read (split.Base 0)) (MoreExpr (Read (split.Delta 0 0)) NoExpr))) (MoreExpr (Literal (pos 1)) NoExpr))) (MoreExpr (Neg (Read (split.Base 0))) NoExpr)))) Skip) NoCommand)) } ∷ [] }

c1_verdict : verdict_of c1 ≡ (verdict.Bounds 0)
unfolding definitions meaning_definitions plan_definitions c1
c1_verdict = refl

c2 : Certificate
c2 = record { sites = 1; base = (pos 10) ∷ []; clauses = record { terms = record { delta = record { object = 0; site = 0 }; factor = (negsuc 0) } ∷ []; slack = (pos 1) } ∷ []; bounds = ((pos 1) ∷ []) ∷ []; freezes = []; calls = record { site = 0; command = (Seq (MoreCommand (If (MoreTest (Comparison LessEqual (Literal (pos 0)) (Sum (MoreExpr (Sum (MoreExpr (Read (split.Base 0)) (MoreExpr (Read (split.Delta 0 0)) NoExpr))) (MoreExpr (Literal (pos 1)) NoExpr)))) (MoreTest (Comparison LessEqual (Sum (MoreExpr (Sum (MoreExpr (Read (split.Base 0)) (MoreExpr (Read (split.Delta 0 0)) NoExpr))) (MoreExpr (Literal (pos 1)) NoExpr))) (Literal (pos 10))) NoTest)) (Write (split.Delta 0 0) (Sum (MoreExpr (Sum (MoreExpr (Sum (MoreExpr (Read (split.Base 0)) (MoreExpr (Read (split.Delta 0 0)) NoExpr))) (MoreExpr (Literal (pos 1)) NoExpr))) (MoreExpr (Neg (Read (split.Base 0))) NoExpr)))) Skip) NoCommand)) } ∷ [] }

c2_verdict : verdict_of c2 ≡ (verdict.Clause 0)
unfolding definitions meaning_definitions plan_definitions c2
c2_verdict = refl

c3 : Certificate
c3 = record { sites = 1; base = (pos 42) ∷ (pos 0) ∷ (pos 13) ∷ (pos 6) ∷ (pos 0) ∷ (pos 0) ∷ (pos 0) ∷ (pos 4) ∷ []; clauses = record { terms = record { delta = record { object = 4; site = 0 }; factor = (pos 1) } ∷ []; slack = (pos 0) } ∷ record { terms = record { delta = record { object = 7; site = 0 }; factor = (pos 1) } ∷ []; slack = (pos 71) } ∷ []; bounds = ((pos 0) ∷ []) ∷ ((pos 71) ∷ []) ∷ []; freezes = []; calls = record { site = 0; command = (Seq (MoreCommand (Seq (MoreCommand (If (MoreTest (Comparison Equal (Sum (MoreExpr (Read (split.Base 4)) (MoreExpr (Read (split.Delta 4 0)) NoExpr))) (Literal (pos 1))) (MoreTest (Comparison Equal (Sum (MoreExpr (Read (split.Base 6)) (MoreExpr (Read (split.Delta 6 0)) NoExpr))) (Sum (MoreExpr (Sum (MoreExpr (Read (split.Base 7)) (MoreExpr (Read (split.Delta 7 0)) NoExpr))) (MoreExpr (Neg (Sum (MoreExpr (Read (split.Base 5)) (MoreExpr (Read (split.Delta 5 0)) NoExpr)))) NoExpr)))) NoTest)) (If (MoreTest (Comparison LessEqual (Literal (pos 0)) (Neg (Sum (MoreExpr (Read (split.Base 0)) (MoreExpr (Read (split.Delta 0 0)) NoExpr))))) (MoreTest (Comparison LessEqual (Neg (Sum (MoreExpr (Read (split.Base 0)) (MoreExpr (Read (split.Delta 0 0)) NoExpr)))) (Literal (pos 2))) NoTest)) (Write (split.Delta 6 0) (Sum (MoreExpr (Neg (Sum (MoreExpr (Read (split.Base 0)) (MoreExpr (Read (split.Delta 0 0)) NoExpr)))) (MoreExpr (Neg (Read (split.Base 6))) NoExpr)))) Skip) Skip) NoCommand)) NoCommand)) } ∷ record { site = 0; command = (Seq (MoreCommand (If (MoreTest (Comparison LessEqual (Literal (pos 4)) (Sum (MoreExpr (Sum (MoreExpr (Read (split.Base 7)) (MoreExpr (Read (split.Delta 7 0)) NoExpr))) (MoreExpr (Neg (Literal (pos 72))) NoExpr)))) (MoreTest (Comparison LessEqual (Sum (MoreExpr (Sum (MoreExpr (Read (split.Base 7)) (MoreExpr (Read (split.Delta 7 0)) NoExpr))) (MoreExpr (Neg (Literal (pos 72))) NoExpr))) (Literal (pos 21))) NoTest)) (Write (split.Delta 7 0) (Sum (MoreExpr (Sum (MoreExpr (Sum (MoreExpr (Read (split.Base 7)) (MoreExpr (Read (split.Delta 7 0)) NoExpr))) (MoreExpr (Neg (Literal (pos 72))) NoExpr))) (MoreExpr (Neg (Read (split.Base 7))) NoExpr)))) Skip) (MoreCommand (Seq (MoreCommand (Assign (temp.Fresh 0) (Literal (pos 0))) (MoreCommand (If (MoreTest (Comparison Equal (Sum (MoreExpr (Read (split.Base 4)) (MoreExpr (Read (split.Delta 4 0)) NoExpr))) (Literal (pos 1))) (MoreTest (Comparison Equal (Sum (MoreExpr (Read (split.Base 1)) (MoreExpr (Read (split.Delta 1 0)) NoExpr))) (Sum (MoreExpr (Read (split.Base 1)) (MoreExpr (Read (split.Delta 1 0)) NoExpr)))) NoTest)) (Assign (temp.Fresh 0) (Sum (MoreExpr (OfTemp (temp.Fresh 0)) (MoreExpr (Literal (pos 1)) NoExpr)))) Skip) (MoreCommand (If (MoreTest (Comparison Equal (Sum (MoreExpr (Read (split.Base 4)) (MoreExpr (Read (split.Delta 4 0)) NoExpr))) (Literal (pos 1))) (MoreTest (Comparison Equal (Sum (MoreExpr (Read (split.Base 0)) (MoreExpr (Read (split.Delta 0 0)) NoExpr))) (Sum (MoreExpr (Read (split.Base 2)) (MoreExpr (Read (split.Delta 2 0)) NoExpr)))) (MoreTest (Comparison LessEqual (Sum (MoreExpr (Literal (pos 0)) (MoreExpr (Neg (Sum (MoreExpr (Read (split.Base 7)) (MoreExpr (Read (split.Delta 7 0)) NoExpr)))) (MoreExpr (Sum (MoreExpr (Read (split.Base 6)) (MoreExpr (Read (split.Delta 6 0)) NoExpr))) NoExpr)))) (OfTemp (temp.Fresh 0))) NoTest))) (If (MoreTest (Comparison LessEqual (Literal (pos 0)) (Literal (pos 1))) (MoreTest (Comparison LessEqual (Literal (pos 1)) (Literal (pos 2))) NoTest)) (Write (split.Delta 6 0) (Sum (MoreExpr (Literal (pos 1)) (MoreExpr (Neg (Read (split.Base 6))) NoExpr)))) Skip) Skip) NoCommand)))) NoCommand))) } ∷ [] }

c3_verdict : verdict_of c3 ≡ verdict.Valid
unfolding definitions meaning_definitions plan_definitions c3
c3_verdict = refl

c4 : Certificate
c4 = record { sites = 1; base = (pos 42) ∷ (pos 0) ∷ (pos 13) ∷ (pos 6) ∷ (pos 0) ∷ (pos 0) ∷ (pos 0) ∷ (pos 4) ∷ []; clauses = record { terms = record { delta = record { object = 4; site = 0 }; factor = (pos 1) } ∷ []; slack = (pos 0) } ∷ record { terms = record { delta = record { object = 7; site = 0 }; factor = (pos 1) } ∷ []; slack = (pos 71) } ∷ []; bounds = ((pos 0) ∷ []) ∷ ((pos 71) ∷ []) ∷ []; freezes = []; calls = record { site = 0; command = (Seq (MoreCommand (Seq (MoreCommand (If (MoreTest (Comparison Equal (Sum (MoreExpr (Read (split.Base 4)) (MoreExpr (Read (split.Delta 4 0)) NoExpr))) (Literal (pos 1))) (MoreTest (Comparison Equal (Sum (MoreExpr (Read (split.Base 6)) (MoreExpr (Read (split.Delta 6 0)) NoExpr))) (Sum (MoreExpr (Sum (MoreExpr (Read (split.Base 7)) (MoreExpr (Read (split.Delta 7 0)) NoExpr))) (MoreExpr (Neg (Sum (MoreExpr (Read (split.Base 5)) (MoreExpr (Read (split.Delta 5 0)) NoExpr)))) NoExpr)))) NoTest)) (If (MoreTest (Comparison LessEqual (Literal (pos 0)) (Neg (Sum (MoreExpr (Read (split.Base 0)) (MoreExpr (Read (split.Delta 0 0)) NoExpr))))) (MoreTest (Comparison LessEqual (Neg (Sum (MoreExpr (Read (split.Base 0)) (MoreExpr (Read (split.Delta 0 0)) NoExpr)))) (Literal (pos 2))) NoTest)) (Write (split.Delta 6 0) (Sum (MoreExpr (Neg (Sum (MoreExpr (Read (split.Base 0)) (MoreExpr (Read (split.Delta 0 0)) NoExpr)))) (MoreExpr (Neg (Read (split.Base 6))) NoExpr)))) Skip) Skip) NoCommand)) NoCommand)) } ∷ record { site = 0; command = (Seq (MoreCommand (If (MoreTest (Comparison LessEqual (Literal (pos 4)) (Sum (MoreExpr (Sum (MoreExpr (Read (split.Base 7)) (MoreExpr (Read (split.Delta 7 0)) NoExpr))) (MoreExpr (Neg (Literal (pos 72))) NoExpr)))) (MoreTest (Comparison LessEqual (Sum (MoreExpr (Sum (MoreExpr (Read (split.Base 7)) (MoreExpr (Read (split.Delta 7 0)) NoExpr))) (MoreExpr (Neg (Literal (pos 72))) NoExpr))) (Literal (pos 21))) NoTest)) (Write (split.Delta 7 0) (Sum (MoreExpr (Sum (MoreExpr (Sum (MoreExpr (Read (split.Base 7)) (MoreExpr (Read (split.Delta 7 0)) NoExpr))) (MoreExpr (Neg (Literal (pos 72))) NoExpr))) (MoreExpr (Neg (Read (split.Base 7))) NoExpr)))) Skip) (MoreCommand (Seq (MoreCommand (Assign (temp.Fresh 0) (Literal (pos 0))) (MoreCommand (If (MoreTest (Comparison Equal (Sum (MoreExpr (Read (split.Base 4)) (MoreExpr (Read (split.Delta 4 0)) NoExpr))) (Literal (pos 1))) (MoreTest (Comparison Equal (Sum (MoreExpr (Read (split.Base 1)) (MoreExpr (Read (split.Delta 1 0)) NoExpr))) (Sum (MoreExpr (Read (split.Base 1)) (MoreExpr (Read (split.Delta 1 0)) NoExpr)))) NoTest)) (Assign (temp.Fresh 0) (Sum (MoreExpr (OfTemp (temp.Fresh 0)) (MoreExpr (Literal (pos 1)) NoExpr)))) Skip) (MoreCommand (If (MoreTest (Comparison Equal (Sum (MoreExpr (Read (split.Base 4)) (MoreExpr (Read (split.Delta 5 0)) NoExpr))) (Literal (pos 1))) (MoreTest (Comparison Equal (Sum (MoreExpr (Read (split.Base 0)) (MoreExpr (Read (split.Delta 0 0)) NoExpr))) (Sum (MoreExpr (Read (split.Base 2)) (MoreExpr (Read (split.Delta 2 0)) NoExpr)))) (MoreTest (Comparison LessEqual (Sum (MoreExpr (Literal (pos 0)) (MoreExpr (Neg (Sum (MoreExpr (Read (split.Base 7)) (MoreExpr (Read (split.Delta 7 0)) NoExpr)))) (MoreExpr (Sum (MoreExpr (Read (split.Base 6)) (MoreExpr (Read (split.Delta 6 0)) NoExpr))) NoExpr)))) (OfTemp (temp.Fresh 0))) NoTest))) (If (MoreTest (Comparison LessEqual (Literal (pos 0)) (Literal (pos 1))) (MoreTest (Comparison LessEqual (Literal (pos 1)) (Literal (pos 2))) NoTest)) (Write (split.Delta 6 0) (Sum (MoreExpr (Literal (pos 1)) (MoreExpr (Neg (Read (split.Base 6))) NoExpr)))) Skip) Skip) NoCommand)))) NoCommand))) } ∷ [] }

c4_verdict : verdict_of c4 ≡ (verdict.Clause 1)
unfolding definitions meaning_definitions plan_definitions c4
c4_verdict = refl

c5 : Certificate
c5 = record { sites = 1; base = (pos 42) ∷ (pos 0) ∷ (pos 13) ∷ (pos 6) ∷ (pos 0) ∷ (pos 0) ∷ (pos 0) ∷ (pos 4) ∷ []; clauses = record { terms = record { delta = record { object = 4; site = 0 }; factor = (pos 1) } ∷ []; slack = (pos 0) } ∷ record { terms = record { delta = record { object = 7; site = 0 }; factor = (pos 1) } ∷ []; slack = (pos 71) } ∷ []; bounds = ((pos 0) ∷ []) ∷ ((pos 71) ∷ []) ∷ []; freezes = []; calls = record { site = 0; command = (Seq (MoreCommand (Seq (MoreCommand (If (MoreTest (Comparison Equal (Sum (MoreExpr (Read (split.Base 4)) (MoreExpr (Read (split.Delta 4 0)) NoExpr))) (Literal (pos 1))) (MoreTest (Comparison Equal (Sum (MoreExpr (Read (split.Base 6)) (MoreExpr (Read (split.Delta 6 0)) NoExpr))) (Sum (MoreExpr (Sum (MoreExpr (Read (split.Base 7)) (MoreExpr (Read (split.Delta 7 0)) NoExpr))) (MoreExpr (Neg (Sum (MoreExpr (Read (split.Base 5)) (MoreExpr (Read (split.Delta 5 0)) NoExpr)))) NoExpr)))) NoTest)) (If (MoreTest (Comparison LessEqual (Literal (pos 0)) (Neg (Sum (MoreExpr (Read (split.Base 0)) (MoreExpr (Read (split.Delta 0 0)) NoExpr))))) (MoreTest (Comparison LessEqual (Neg (Sum (MoreExpr (Read (split.Base 0)) (MoreExpr (Read (split.Delta 0 0)) NoExpr)))) (Literal (pos 2))) NoTest)) (Write (split.Delta 6 0) (Sum (MoreExpr (Neg (Sum (MoreExpr (Read (split.Base 0)) (MoreExpr (Read (split.Delta 0 0)) NoExpr)))) (MoreExpr (Neg (Read (split.Base 6))) NoExpr)))) Skip) Skip) NoCommand)) NoCommand)) } ∷ record { site = 0; command = (Seq (MoreCommand (If (MoreTest (Comparison LessEqual (Literal (pos 4)) (Sum (MoreExpr (Sum (MoreExpr (Read (split.Base 7)) (MoreExpr (Read (split.Delta 7 0)) NoExpr))) (MoreExpr (Neg (Literal (pos 72))) NoExpr)))) (MoreTest (Comparison LessEqual (Sum (MoreExpr (Sum (MoreExpr (Read (split.Base 7)) (MoreExpr (Read (split.Delta 7 0)) NoExpr))) (MoreExpr (Neg (Literal (pos 72))) NoExpr))) (Literal (pos 21))) NoTest)) (Write (split.Delta 7 0) (Sum (MoreExpr (Sum (MoreExpr (Sum (MoreExpr (Read (split.Base 7)) (MoreExpr (Read (split.Delta 7 0)) NoExpr))) (MoreExpr (Neg (Literal (pos 72))) NoExpr))) (MoreExpr (Neg (Read (split.Base 7))) NoExpr)))) Skip) (MoreCommand (Seq (MoreCommand (Assign (temp.Fresh 0) (Literal (pos 0))) (MoreCommand (If (MoreTest (Comparison Equal (Sum (MoreExpr (Read (split.Base 4)) (MoreExpr (Read (split.Delta 4 0)) NoExpr))) (Literal (pos 1))) (MoreTest (Comparison Equal (Sum (MoreExpr (Read (split.Base 1)) (MoreExpr (Read (split.Delta 1 0)) NoExpr))) (Sum (MoreExpr (Read (split.Base 1)) (MoreExpr (Read (split.Delta 1 0)) NoExpr)))) NoTest)) (Assign (temp.Fresh 0) (Sum (MoreExpr (OfTemp (temp.Fresh 0)) (MoreExpr (Literal (pos 1)) NoExpr)))) Skip) (MoreCommand (If (MoreTest (Comparison Equal (Sum (MoreExpr (Read (split.Base 4)) (MoreExpr (Read (split.Delta 4 0)) NoExpr))) (Literal (pos 1))) (MoreTest (Comparison Equal (Sum (MoreExpr (Read (split.Base 0)) (MoreExpr (Read (split.Delta 0 0)) NoExpr))) (Sum (MoreExpr (Read (split.Base 2)) (MoreExpr (Read (split.Delta 2 0)) NoExpr)))) (MoreTest (Comparison LessEqual (Sum (MoreExpr (Literal (pos 0)) (MoreExpr (Neg (Sum (MoreExpr (Read (split.Base 7)) (MoreExpr (Read (split.Delta 7 0)) NoExpr)))) (MoreExpr (Sum (MoreExpr (Read (split.Base 6)) (MoreExpr (Read (split.Delta 6 0)) NoExpr))) NoExpr)))) (OfTemp (temp.Fresh 0))) NoTest))) (If (MoreTest (Comparison LessEqual (Literal (pos 0)) (Literal (pos 1))) (MoreTest (Comparison LessEqual (Literal (pos 1)) (Literal (pos 2))) NoTest)) (Write (split.Delta 6 0) (Sum (MoreExpr (Literal (pos 1)) (MoreExpr (Neg (Read (split.Base 6))) NoExpr)))) Skip) Skip) NoCommand)))) NoCommand))) } ∷ [] }

c5_verdict : verdict_of c5 ≡ verdict.Valid
unfolding definitions meaning_definitions plan_definitions c5
c5_verdict = refl

c6 : Certificate
c6 = record { sites = 1; base = (pos 42) ∷ (pos 0) ∷ (pos 13) ∷ (pos 6) ∷ (pos 0) ∷ (pos 0) ∷ (pos 0) ∷ (pos 4) ∷ []; clauses = record { terms = record { delta = record { object = 4; site = 0 }; factor = (pos 1) } ∷ []; slack = (pos 0) } ∷ record { terms = record { delta = record { object = 7; site = 0 }; factor = (pos 1) } ∷ []; slack = (pos 71) } ∷ []; bounds = ((pos 0) ∷ []) ∷ ((pos 71) ∷ []) ∷ []; freezes = []; calls = record { site = 0; command = (Seq (MoreCommand (Seq (MoreCommand (If (MoreTest (Comparison Equal (Sum (MoreExpr (Read (split.Base 4)) (MoreExpr (Read (split.Delta 4 0)) NoExpr))) (Literal (pos 1))) (MoreTest (Comparison Equal (Sum (MoreExpr (Read (split.Base 6)) (MoreExpr (Read (split.Delta 6 0)) NoExpr))) (Sum (MoreExpr (Sum (MoreExpr (Read (split.Base 7)) (MoreExpr (Read (split.Delta 7 0)) NoExpr))) (MoreExpr (Neg (Sum (MoreExpr (Read (split.Base 5)) (MoreExpr (Read (split.Delta 5 0)) NoExpr)))) NoExpr)))) NoTest)) (If (MoreTest (Comparison LessEqual (Literal (pos 0)) (Neg (Sum (MoreExpr (Read (split.Base 0)) (MoreExpr (Read (split.Delta 0 0)) NoExpr))))) (MoreTest (Comparison LessEqual (Neg (Sum (MoreExpr (Read (split.Base 0)) (MoreExpr (Read (split.Delta 0 0)) NoExpr)))) (Literal (pos 2))) NoTest)) (Write (split.Delta 6 0) (Sum (MoreExpr (Neg (Sum (MoreExpr (Read (split.Base 0)) (MoreExpr (Read (split.Delta 0 0)) NoExpr)))) (MoreExpr (Neg (Read (split.Base 6))) NoExpr)))) Skip) Skip) NoCommand)) NoCommand)) } ∷ record { site = 0; command = (Seq (MoreCommand (If (MoreTest (Comparison LessEqual (Literal (pos 4)) (Sum (MoreExpr (Sum (MoreExpr (Read (split.Base 7)) (MoreExpr (Read (split.Delta 7 0)) NoExpr))) (MoreExpr (Neg (Literal (pos 72))) NoExpr)))) (MoreTest (Comparison LessEqual (Sum (MoreExpr (Sum (MoreExpr (Read (split.Base 7)) (MoreExpr (Read (split.Delta 7 0)) NoExpr))) (MoreExpr (Neg (Literal (pos 72))) NoExpr))) (Literal (pos 21))) NoTest)) (Write (split.Delta 7 0) (Sum (MoreExpr (Sum (MoreExpr (Sum (MoreExpr (Read (split.Base 7)) (MoreExpr (Read (split.Delta 7 0)) NoExpr))) (MoreExpr (Neg (Literal (pos 72))) NoExpr))) (MoreExpr (Neg (Read (split.Base 7))) NoExpr)))) Skip) (MoreCommand (Seq (MoreCommand (Assign (temp.Fresh 0) (Literal (pos 0))) (MoreCommand (If (MoreTest (Comparison Equal (Sum (MoreExpr (Read (split.Base 4)) (MoreExpr (Read (split.Delta 4 0)) NoExpr))) (Literal (pos 1))) (MoreTest (Comparison Equal (Sum (MoreExpr (Read (split.Base 1)) (MoreExpr (Read (split.Delta 1 0)) NoExpr))) (Sum (MoreExpr (Read (split.Base 1)) (MoreExpr (Read (split.Delta 1 0)) NoExpr)))) NoTest)) (Assign (temp.Fresh 0) (Sum (MoreExpr (OfTemp (temp.Fresh 0)) (MoreExpr (Literal (pos 1)) NoExpr)))) Skip) (MoreCommand (If (MoreTest (Comparison Equal (Sum (MoreExpr (Read (split.Base 4)) (MoreExpr (Read (split.Delta 4 0)) NoExpr))) (Literal (pos 1))) (MoreTest (Comparison Equal (Sum (MoreExpr (Read (split.Base 0)) (MoreExpr (Read (split.Delta 0 0)) NoExpr))) (Sum (MoreExpr (Read (split.Base 2)) (MoreExpr (Read (split.Delta 2 0)) NoExpr)))) (MoreTest (Comparison LessEqual (Sum (MoreExpr (Literal (pos 0)) (MoreExpr (Neg (Sum (MoreExpr (Read (split.Base 7)) (MoreExpr (Read (split.Delta 7 0)) NoExpr)))) (MoreExpr (Sum (MoreExpr (Read (split.Base 6)) (MoreExpr (Read (split.Delta 6 0)) NoExpr))) NoExpr)))) (OfTemp (temp.Fresh 0))) NoTest))) (If (MoreTest (Comparison LessEqual (Literal (pos 0)) (Literal (pos 1))) (MoreTest (Comparison LessEqual (Literal (pos 1)) (Literal (pos 2))) NoTest)) (Write (split.Delta 6 0) (Sum (MoreExpr (Literal (pos 1)) (MoreExpr (Neg (Read (split.Base 6))) NoExpr)))) Skip) Skip) NoCommand)))) NoCommand))) } ∷ [] }

c6_verdict : verdict_of c6 ≡ verdict.Valid
unfolding definitions meaning_definitions plan_definitions c6
c6_verdict = refl

c7 : Certificate
c7 = record { sites = 1; base = (pos 42) ∷ (pos 0) ∷ (pos 13) ∷ (pos 6) ∷ (pos 0) ∷ (pos 0) ∷ (pos 0) ∷ (pos 4) ∷ []; clauses = record { terms = record { delta = record { object = 1; site = 0 }; factor = (pos 1) } ∷ []; slack = (pos 0) } ∷ record { terms = record { delta = record { object = 7; site = 0 }; factor = (pos 1) } ∷ []; slack = (pos 71) } ∷ []; bounds = ((pos 0) ∷ []) ∷ ((pos 71) ∷ []) ∷ []; freezes = []; calls = record { site = 0; command = (Seq (MoreCommand (Seq (MoreCommand (If (MoreTest (Comparison Equal (Sum (MoreExpr (Read (split.Base 4)) (MoreExpr (Read (split.Delta 4 0)) NoExpr))) (Literal (pos 1))) (MoreTest (Comparison Equal (Sum (MoreExpr (Read (split.Base 6)) (MoreExpr (Read (split.Delta 6 0)) NoExpr))) (Sum (MoreExpr (Sum (MoreExpr (Read (split.Base 7)) (MoreExpr (Read (split.Delta 7 0)) NoExpr))) (MoreExpr (Neg (Sum (MoreExpr (Read (split.Base 5)) (MoreExpr (Read (split.Delta 5 0)) NoExpr)))) NoExpr)))) NoTest)) (If (MoreTest (Comparison LessEqual (Literal (pos 0)) (Neg (Sum (MoreExpr (Read (split.Base 0)) (MoreExpr (Read (split.Delta 0 0)) NoExpr))))) (MoreTest (Comparison LessEqual (Neg (Sum (MoreExpr (Read (split.Base 0)) (MoreExpr (Read (split.Delta 0 0)) NoExpr)))) (Literal (pos 2))) NoTest)) (Write (split.Delta 6 0) (Sum (MoreExpr (Neg (Sum (MoreExpr (Read (split.Base 0)) (MoreExpr (Read (split.Delta 0 0)) NoExpr)))) (MoreExpr (Neg (Read (split.Base 6))) NoExpr)))) Skip) Skip) NoCommand)) NoCommand)) } ∷ record { site = 0; command = (Seq (MoreCommand (If (MoreTest (Comparison LessEqual (Literal (pos 4)) (Sum (MoreExpr (Sum (MoreExpr (Read (split.Base 7)) (MoreExpr (Read (split.Delta 7 0)) NoExpr))) (MoreExpr (Neg (Literal (pos 72))) NoExpr)))) (MoreTest (Comparison LessEqual (Sum (MoreExpr (Sum (MoreExpr (Read (split.Base 7)) (MoreExpr (Read (split.Delta 7 0)) NoExpr))) (MoreExpr (Neg (Literal (pos 72))) NoExpr))) (Literal (pos 21))) NoTest)) (Write (split.Delta 7 0) (Sum (MoreExpr (Sum (MoreExpr (Sum (MoreExpr (Read (split.Base 7)) (MoreExpr (Read (split.Delta 7 0)) NoExpr))) (MoreExpr (Neg (Literal (pos 72))) NoExpr))) (MoreExpr (Neg (Read (split.Base 7))) NoExpr)))) Skip) (MoreCommand (Seq (MoreCommand (Assign (temp.Fresh 0) (Literal (pos 0))) (MoreCommand (If (MoreTest (Comparison Equal (Sum (MoreExpr (Read (split.Base 4)) (MoreExpr (Read (split.Delta 4 0)) NoExpr))) (Literal (pos 1))) (MoreTest (Comparison Equal (Sum (MoreExpr (Read (split.Base 1)) (MoreExpr (Read (split.Delta 1 0)) NoExpr))) (Sum (MoreExpr (Read (split.Base 1)) (MoreExpr (Read (split.Delta 1 0)) NoExpr)))) NoTest)) (Assign (temp.Fresh 0) (Sum (MoreExpr (OfTemp (temp.Fresh 0)) (MoreExpr (Literal (pos 1)) NoExpr)))) Skip) (MoreCommand (If (MoreTest (Comparison Equal (Sum (MoreExpr (Read (split.Base 4)) (MoreExpr (Read (split.Delta 4 0)) NoExpr))) (Literal (pos 1))) (MoreTest (Comparison Equal (Sum (MoreExpr (Read (split.Base 0)) (MoreExpr (Read (split.Delta 0 0)) NoExpr))) (Sum (MoreExpr (Read (split.Base 2)) (MoreExpr (Read (split.Delta 2 0)) NoExpr)))) (MoreTest (Comparison LessEqual (Sum (MoreExpr (Literal (pos 0)) (MoreExpr (Neg (Sum (MoreExpr (Read (split.Base 7)) (MoreExpr (Read (split.Delta 7 0)) NoExpr)))) (MoreExpr (Sum (MoreExpr (Read (split.Base 6)) (MoreExpr (Read (split.Delta 6 0)) NoExpr))) NoExpr)))) (OfTemp (temp.Fresh 0))) NoTest))) (If (MoreTest (Comparison LessEqual (Literal (pos 0)) (Literal (pos 1))) (MoreTest (Comparison LessEqual (Literal (pos 1)) (Literal (pos 2))) NoTest)) (Write (split.Delta 6 0) (Sum (MoreExpr (Literal (pos 1)) (MoreExpr (Neg (Read (split.Base 6))) NoExpr)))) Skip) Skip) NoCommand)))) NoCommand))) } ∷ [] }

c7_verdict : verdict_of c7 ≡ (verdict.Clause 0)
unfolding definitions meaning_definitions plan_definitions c7
c7_verdict = refl

c8 : Certificate
c8 = record { sites = 1; base = (pos 0) ∷ []; clauses = []; bounds = []; freezes = []; calls = record { site = 0; command = (Seq (MoreCommand Skip NoCommand)) } ∷ [] }

c8_verdict : verdict_of c8 ≡ verdict.Valid
unfolding definitions meaning_definitions plan_definitions c8
c8_verdict = refl

c9 : Certificate
c9 = record { sites = 1; base = (pos 0) ∷ []; clauses = []; bounds = []; freezes = []; calls = record { site = 0; command = (Seq (MoreCommand Skip NoCommand)) } ∷ [] }

c9_verdict : verdict_of c9 ≡ verdict.Valid
unfolding definitions meaning_definitions plan_definitions c9
c9_verdict = refl

c10 : Certificate
c10 = record { sites = 1; base = (pos 0) ∷ []; clauses = []; bounds = []; freezes = []; calls = record { site = 0; command = (Seq (MoreCommand Skip NoCommand)) } ∷ [] }

c10_verdict : verdict_of c10 ≡ verdict.Valid
unfolding definitions meaning_definitions plan_definitions c10
c10_verdict = refl

c11 : Certificate
c11 = record { sites = 1; base = (pos 0) ∷ (pos 0) ∷ []; clauses = record { terms = record { delta = record { object = 0; site = 0 }; factor = (pos 1) } ∷ []; slack = (negsuc 0) } ∷ []; bounds = ((negsuc 0) ∷ []) ∷ []; freezes = []; calls = record { site = 0; command = (Seq (MoreCommand (Print (Literal (pos 3))) NoCommand)) } ∷ record { site = 0; command = (Seq (MoreCommand (Print (Literal (pos 2))) NoCommand)) } ∷ record { site = 0; command = (Seq (MoreCommand (Seq (MoreCommand (Assign (temp.Fresh 0) (Literal (pos 0))) (MoreCommand (If (MoreTest (Comparison Equal (Sum (MoreExpr (Read (split.Base 0)) (MoreExpr (Read (split.Delta 0 0)) NoExpr))) (Literal (pos 1))) (MoreTest (Comparison LessEqual (Sum (MoreExpr (Read (split.Base 1)) (MoreExpr (Read (split.Delta 1 0)) NoExpr))) (Literal (pos 3))) NoTest)) (Assign (temp.Fresh 0) (Sum (MoreExpr (OfTemp (temp.Fresh 0)) (MoreExpr (Sum (MoreExpr (Read (split.Base 1)) (MoreExpr (Read (split.Delta 1 0)) NoExpr))) NoExpr)))) Skip) (MoreCommand (Assign (temp.Named 7) (Sum (MoreExpr (OfTemp (temp.Fresh 0)) (MoreExpr (Literal (pos 1)) NoExpr)))) NoCommand)))) NoCommand)) } ∷ record { site = 0; command = (Seq (MoreCommand (Assign (temp.Fresh 0) (Literal (pos 0))) (MoreCommand (Assign (temp.Fresh 1) (Sum (MoreExpr (Read (split.Base 1)) (MoreExpr (Read (split.Delta 1 0)) NoExpr)))) (MoreCommand (Seq (MoreCommand (If (MoreTest (Comparison LessEqual (Literal (pos 0)) (Sum (MoreExpr (Literal (pos 0)) (MoreExpr (Neg (Literal (pos 0))) NoExpr)))) (MoreTest (Comparison LessEqual (Sum (MoreExpr (Literal (pos 0)) (MoreExpr (Neg (Literal (pos 0))) NoExpr))) (Literal (pos 9))) NoTest)) (If (MoreTest (Comparison Equal (Sum (MoreExpr (Literal (pos 0)) (MoreExpr (Neg (Literal (pos 1))) NoExpr))) (Literal (pos 0))) NoTest) (Write (split.Delta 1 0) (Sum (MoreExpr (Sum (MoreExpr (Literal (pos 0)) (MoreExpr (Neg (Literal (pos 0))) NoExpr))) (MoreExpr (Neg (Read (split.Base 1))) NoExpr)))) Skip) Skip) (MoreCommand (Seq (MoreCommand (Assign (temp.Fresh 2) (Literal (pos 0))) (MoreCommand (If (MoreTest (Comparison Equal (Sum (MoreExpr (Read (split.Base 0)) (MoreExpr (Read (split.Delta 0 0)) NoExpr))) (Literal (pos 1))) (MoreTest (Comparison Less (Literal (pos 0)) (Sum (MoreExpr (Read (split.Base 1)) (MoreExpr (Read (split.Delta 1 0)) NoExpr)))) NoTest)) (Assign (temp.Fresh 2) (Sum (MoreExpr (OfTemp (temp.Fresh 2)) (MoreExpr (Literal (pos 1)) NoExpr)))) Skip) (MoreCommand (Print (OfTemp (temp.Fresh 2))) NoCommand)))) (MoreCommand (Assign (temp.Named 12) (Literal (pos 0))) (MoreCommand (Assign (temp.Fresh 0) (Literal (pos 1))) NoCommand))))) (MoreCommand (If (MoreTest (Comparison Equal (OfTemp (temp.Fresh 0)) (Literal (pos 1))) NoTest) (Seq (MoreCommand (Write (split.Delta 1 0) (Sum (MoreExpr (OfTemp (temp.Fresh 1)) (MoreExpr (Neg (Read (split.Base 1))) NoExpr)))) NoCommand)) Skip) NoCommand))))) } ∷ [] }

c11_verdict : verdict_of c11 ≡ (verdict.Bounds 0)
unfolding definitions meaning_definitions plan_definitions c11
c11_verdict = refl

c12 : Certificate
c12 = record { sites = 3; base = (pos 1) ∷ (pos 0) ∷ (pos 0) ∷ (pos 0) ∷ (pos 0) ∷ []; clauses = record { terms = record { delta = record { object = 0; site = 0 }; factor = (pos 1) } ∷ record { delta = record { object = 0; site = 1 }; factor = (pos 1) } ∷ record { delta = record { object = 0; site = 2 }; factor = (pos 1) } ∷ []; slack = (pos 0) } ∷ record { terms = record { delta = record { object = 0; site = 0 }; factor = (pos 1) } ∷ record { delta = record { object = 0; site = 1 }; factor = (pos 1) } ∷ record { delta = record { object = 0; site = 2 }; factor = (pos 1) } ∷ []; slack = (pos 1) } ∷ []; bounds = ((pos 0) ∷ (pos 0) ∷ (pos 0) ∷ []) ∷ ((pos 4000000000000000000) ∷ (pos 0) ∷ (pos 1) ∷ []) ∷ []; freezes = []; calls = record { site = 0; command = (Seq (MoreCommand (If (MoreTest (Comparison LessEqual (Literal (pos 0)) (Sum (MoreExpr (Sum (MoreExpr (Read (split.Base 0)) (MoreExpr (Read (split.Delta 0 0)) (MoreExpr (Read (split.Delta 0 1)) (MoreExpr (Read (split.Delta 0 2)) NoExpr))))) (MoreExpr (Neg (Literal (pos 2))) NoExpr)))) (MoreTest (Comparison LessEqual (Sum (MoreExpr (Sum (MoreExpr (Read (split.Base 0)) (MoreExpr (Read (split.Delta 0 0)) (MoreExpr (Read (split.Delta 0 1)) (MoreExpr (Read (split.Delta 0 2)) NoExpr))))) (MoreExpr (Neg (Literal (pos 2))) NoExpr))) (Literal (pos 3))) NoTest)) (Write (split.Delta 0 0) (Sum (MoreExpr (Sum (MoreExpr (Sum (MoreExpr (Read (split.Base 0)) (MoreExpr (Read (split.Delta 0 0)) (MoreExpr (Read (split.Delta 0 1)) (MoreExpr (Read (split.Delta 0 2)) NoExpr))))) (MoreExpr (Neg (Literal (pos 2))) NoExpr))) (MoreExpr (Neg (Read (split.Base 0))) (MoreExpr (Neg (Read (split.Delta 0 1))) (MoreExpr (Neg (Read (split.Delta 0 2))) NoExpr)))))) Skip) (MoreCommand (If (MoreTest True NoTest) (Seq (MoreCommand (Assign (temp.Named 4) (Sum (MoreExpr (Read (split.Base 0)) (MoreExpr (Read (split.Delta 0 0)) (MoreExpr (Read (split.Delta 0 1)) (MoreExpr (Read (split.Delta 0 2)) NoExpr)))))) (MoreCommand (If (MoreTest (Comparison Less (OfTemp (temp.Named 4)) (Literal (pos 3))) NoTest) (Seq (MoreCommand (If (MoreTest (Comparison LessEqual (Literal (pos 0)) (Sum (MoreExpr (OfTemp (temp.Named 4)) (MoreExpr (Neg (Literal (pos 3))) NoExpr)))) (MoreTest (Comparison LessEqual (Sum (MoreExpr (OfTemp (temp.Named 4)) (MoreExpr (Neg (Literal (pos 3))) NoExpr))) (Literal (pos 3))) NoTest)) (Write (split.Delta 0 0) (Sum (MoreExpr (Sum (MoreExpr (OfTemp (temp.Named 4)) (MoreExpr (Neg (Literal (pos 3))) NoExpr))) (MoreExpr (Neg (Read (split.Base 0))) (MoreExpr (Neg (Read (split.Delta 0 1))) (MoreExpr (Neg (Read (split.Delta 0 2))) NoExpr)))))) Skip) (MoreCommand (Print (Literal (pos 1))) NoCommand))) (Print (Literal (pos 0)))) NoCommand))) (If (MoreTest (Comparison LessEqual (Literal (pos 0)) (Sum (MoreExpr (Sum (MoreExpr (Read (split.Base 0)) (MoreExpr (Read (split.Delta 0 0)) (MoreExpr (Read (split.Delta 0 1)) (MoreExpr (Read (split.Delta 0 2)) NoExpr))))) (MoreExpr (Literal (pos 2)) NoExpr)))) (MoreTest (Comparison LessEqual (Sum (MoreExpr (Sum (MoreExpr (Read (split.Base 0)) (MoreExpr (Read (split.Delta 0 0)) (MoreExpr (Read (split.Delta 0 1)) (MoreExpr (Read (split.Delta 0 2)) NoExpr))))) (MoreExpr (Literal (pos 2)) NoExpr))) (Literal (pos 3))) NoTest)) (Write (split.Delta 0 0) (Sum (MoreExpr (Sum (MoreExpr (Sum (MoreExpr (Read (split.Base 0)) (MoreExpr (Read (split.Delta 0 0)) (MoreExpr (Read (split.Delta 0 1)) (MoreExpr (Read (split.Delta 0 2)) NoExpr))))) (MoreExpr (Literal (pos 2)) NoExpr))) (MoreExpr (Neg (Read (split.Base 0))) (MoreExpr (Neg (Read (split.Delta 0 1))) (MoreExpr (Neg (Read (split.Delta 0 2))) NoExpr)))))) Skip)) (MoreCommand Skip NoCommand)))) } ∷ [] }

c12_verdict : verdict_of c12 ≡ (verdict.Bounds 1)
unfolding definitions meaning_definitions plan_definitions c12
c12_verdict = refl

c13 : Certificate
c13 = record { sites = 3; base = (pos 1) ∷ (pos 0) ∷ (pos 0) ∷ (pos 0) ∷ (pos 0) ∷ []; clauses = record { terms = record { delta = record { object = 0; site = 0 }; factor = (pos 1) } ∷ record { delta = record { object = 0; site = 1 }; factor = (pos 1) } ∷ record { delta = record { object = 0; site = 2 }; factor = (pos 1) } ∷ []; slack = (pos 0) } ∷ record { terms = record { delta = record { object = 0; site = 0 }; factor = (pos 1) } ∷ record { delta = record { object = 0; site = 1 }; factor = (pos 1) } ∷ record { delta = record { object = 0; site = 2 }; factor = (pos 1) } ∷ []; slack = (pos 6) } ∷ []; bounds = ((pos 0) ∷ (pos 0) ∷ (pos 0) ∷ []) ∷ ((pos 0) ∷ (pos 0) ∷ (pos 1) ∷ []) ∷ []; freezes = []; calls = record { site = 0; command = (Seq (MoreCommand (If (MoreTest (Comparison LessEqual (Literal (pos 0)) (Sum (MoreExpr (Sum (MoreExpr (Read (split.Base 0)) (MoreExpr (Read (split.Delta 0 0)) (MoreExpr (Read (split.Delta 0 1)) (MoreExpr (Read (split.Delta 0 2)) NoExpr))))) (MoreExpr (Neg (Literal (pos 2))) NoExpr)))) (MoreTest (Comparison LessEqual (Sum (MoreExpr (Sum (MoreExpr (Read (split.Base 0)) (MoreExpr (Read (split.Delta 0 0)) (MoreExpr (Read (split.Delta 0 1)) (MoreExpr (Read (split.Delta 0 2)) NoExpr))))) (MoreExpr (Neg (Literal (pos 2))) NoExpr))) (Literal (pos 3))) NoTest)) (Write (split.Delta 0 0) (Sum (MoreExpr (Sum (MoreExpr (Sum (MoreExpr (Read (split.Base 0)) (MoreExpr (Read (split.Delta 0 0)) (MoreExpr (Read (split.Delta 0 1)) (MoreExpr (Read (split.Delta 0 2)) NoExpr))))) (MoreExpr (Neg (Literal (pos 2))) NoExpr))) (MoreExpr (Neg (Read (split.Base 0))) (MoreExpr (Neg (Read (split.Delta 0 1))) (MoreExpr (Neg (Read (split.Delta 0 2))) NoExpr)))))) Skip) (MoreCommand (If (MoreTest True NoTest) (Seq (MoreCommand (Assign (temp.Named 4) (Sum (MoreExpr (Read (split.Base 0)) (MoreExpr (Read (split.Delta 0 0)) (MoreExpr (Read (split.Delta 0 1)) (MoreExpr (Read (split.Delta 0 2)) NoExpr)))))) (MoreCommand (If (MoreTest (Comparison Less (OfTemp (temp.Named 4)) (Literal (pos 3))) NoTest) (Seq (MoreCommand (If (MoreTest (Comparison LessEqual (Literal (pos 0)) (Sum (MoreExpr (OfTemp (temp.Named 4)) (MoreExpr (Neg (Literal (pos 3))) NoExpr)))) (MoreTest (Comparison LessEqual (Sum (MoreExpr (OfTemp (temp.Named 4)) (MoreExpr (Neg (Literal (pos 3))) NoExpr))) (Literal (pos 3))) NoTest)) (Write (split.Delta 0 0) (Sum (MoreExpr (Sum (MoreExpr (OfTemp (temp.Named 4)) (MoreExpr (Neg (Literal (pos 3))) NoExpr))) (MoreExpr (Neg (Read (split.Base 0))) (MoreExpr (Neg (Read (split.Delta 0 1))) (MoreExpr (Neg (Read (split.Delta 0 2))) NoExpr)))))) Skip) (MoreCommand (Print (Literal (pos 1))) NoCommand))) (Print (Literal (pos 0)))) NoCommand))) (If (MoreTest (Comparison LessEqual (Literal (pos 0)) (Sum (MoreExpr (Sum (MoreExpr (Read (split.Base 0)) (MoreExpr (Read (split.Delta 0 0)) (MoreExpr (Read (split.Delta 0 1)) (MoreExpr (Read (split.Delta 0 2)) NoExpr))))) (MoreExpr (Literal (pos 2)) NoExpr)))) (MoreTest (Comparison LessEqual (Sum (MoreExpr (Sum (MoreExpr (Read (split.Base 0)) (MoreExpr (Read (split.Delta 0 0)) (MoreExpr (Read (split.Delta 0 1)) (MoreExpr (Read (split.Delta 0 2)) NoExpr))))) (MoreExpr (Literal (pos 2)) NoExpr))) (Literal (pos 3))) NoTest)) (Write (split.Delta 0 0) (Sum (MoreExpr (Sum (MoreExpr (Sum (MoreExpr (Read (split.Base 0)) (MoreExpr (Read (split.Delta 0 0)) (MoreExpr (Read (split.Delta 0 1)) (MoreExpr (Read (split.Delta 0 2)) NoExpr))))) (MoreExpr (Literal (pos 2)) NoExpr))) (MoreExpr (Neg (Read (split.Base 0))) (MoreExpr (Neg (Read (split.Delta 0 1))) (MoreExpr (Neg (Read (split.Delta 0 2))) NoExpr)))))) Skip)) (MoreCommand Skip NoCommand)))) } ∷ [] }

c13_verdict : verdict_of c13 ≡ (verdict.Bounds 1)
unfolding definitions meaning_definitions plan_definitions c13
c13_verdict = refl

c14 : Certificate
c14 = record { sites = 3; base = (negsuc 6) ∷ (negsuc 11) ∷ (pos 28) ∷ (pos 1) ∷ (pos 0) ∷ (pos 1) ∷ (pos 0) ∷ (pos 0) ∷ (pos 1) ∷ []; clauses = record { terms = record { delta = record { object = 3; site = 0 }; factor = (pos 1) } ∷ record { delta = record { object = 3; site = 1 }; factor = (pos 1) } ∷ record { delta = record { object = 3; site = 2 }; factor = (pos 1) } ∷ []; slack = (pos 0) } ∷ record { terms = record { delta = record { object = 3; site = 0 }; factor = (negsuc 0) } ∷ record { delta = record { object = 3; site = 1 }; factor = (negsuc 0) } ∷ record { delta = record { object = 3; site = 2 }; factor = (negsuc 0) } ∷ []; slack = (pos 0) } ∷ []; bounds = ((pos 0) ∷ (pos 0) ∷ (pos 0) ∷ []) ∷ ((pos 0) ∷ (pos 0) ∷ (pos 0) ∷ []) ∷ []; freezes = record { object = 3; site = 0 } ∷ record { object = 3; site = 2 } ∷ record { object = 4; site = 0 } ∷ record { object = 4; site = 2 } ∷ record { object = 5; site = 0 } ∷ record { object = 5; site = 2 } ∷ []; calls = record { site = 1; command = (Seq (MoreCommand (Seq (MoreCommand (Assign (temp.Fresh 0) (Literal (pos 12))) (MoreCommand (Assign (temp.Fresh 1) (Literal (pos 1))) (MoreCommand (If (MoreTest (Comparison LessEqual (Literal (pos 0)) (OfTemp (temp.Fresh 0))) (MoreTest (Comparison LessEqual (OfTemp (temp.Fresh 0)) (Literal (pos 22))) (MoreTest (Comparison LessEqual (Literal (pos 1)) (OfTemp (temp.Fresh 1))) (MoreTest (Comparison LessEqual (OfTemp (temp.Fresh 1)) (Literal (pos 9))) NoTest)))) (If (MoreTest (Comparison Equal (Sum (MoreExpr (Read (split.Base 3)) (MoreExpr (Read (split.Delta 3 0)) (MoreExpr (Read (split.Delta 3 1)) (MoreExpr (Read (split.Delta 3 2)) NoExpr))))) (Literal (pos 0))) NoTest) (Seq (MoreCommand (Write (split.Delta 4 1) (Sum (MoreExpr (OfTemp (temp.Fresh 0)) (MoreExpr (Neg (Read (split.Base 4))) (MoreExpr (Neg (Read (split.Delta 4 0))) (MoreExpr (Neg (Read (split.Delta 4 2))) NoExpr)))))) (MoreCommand (Write (split.Delta 5 1) (Sum (MoreExpr (OfTemp (temp.Fresh 1)) (MoreExpr (Neg (Read (split.Base 5))) (MoreExpr (Neg (Read (split.Delta 5 0))) (MoreExpr (Neg (Read (split.Delta 5 2))) NoExpr)))))) (MoreCommand (Write (split.Delta 3 1) (Sum (MoreExpr (Literal (pos 1)) (MoreExpr (Neg (Read (split.Base 3))) (MoreExpr (Neg (Read (split.Delta 3 0))) (MoreExpr (Neg (Read (split.Delta 3 2))) NoExpr)))))) (MoreCommand (Assign (temp.Named 7) (Literal (pos 1))) NoCommand))))) (If (MoreTest (Comparison Equal (Sum (MoreExpr (Read (split.Base 6)) (MoreExpr (Read (split.Delta 6 0)) (MoreExpr (Read (split.Delta 6 1)) (MoreExpr (Read (split.Delta 6 2)) NoExpr))))) (Literal (pos 0))) NoTest) (Seq (MoreCommand (Write (split.Delta 7 1) (Sum (MoreExpr (OfTemp (temp.Fresh 0)) (MoreExpr (Neg (Read (split.Base 7))) (MoreExpr (Neg (Read (split.Delta 7 0))) (MoreExpr (Neg (Read (split.Delta 7 2))) NoExpr)))))) (MoreCommand (Write (split.Delta 8 1) (Sum (MoreExpr (OfTemp (temp.Fresh 1)) (MoreExpr (Neg (Read (split.Base 8))) (MoreExpr (Neg (Read (split.Delta 8 0))) (MoreExpr (Neg (Read (split.Delta 8 2))) NoExpr)))))) (MoreCommand (Write (split.Delta 6 1) (Sum (MoreExpr (Literal (pos 1)) (MoreExpr (Neg (Read (split.Base 6))) (MoreExpr (Neg (Read (split.Delta 6 0))) (MoreExpr (Neg (Read (split.Delta 6 2))) NoExpr)))))) (MoreCommand (Assign (temp.Named 7) (Literal (pos 2))) NoCommand))))) (Assign (temp.Named 7) (Literal (pos 0))))) (Assign (temp.Named 7) (Literal (pos 0)))) NoCommand)))) NoCommand)) } ∷ [] }

c14_verdict : verdict_of c14 ≡ (verdict.Clause 0)
unfolding definitions meaning_definitions plan_definitions c14
c14_verdict = refl

c15 : Certificate
c15 = record { sites = 2; base = (pos 1) ∷ (pos 0) ∷ (pos 3) ∷ (pos 0) ∷ (negsuc 2) ∷ (negsuc 2) ∷ []; clauses = record { terms = record { delta = record { object = 4; site = 0 }; factor = (negsuc 0) } ∷ record { delta = record { object = 4; site = 1 }; factor = (negsuc 0) } ∷ []; slack = (negsuc 17) } ∷ record { terms = record { delta = record { object = 4; site = 0 }; factor = (pos 1) } ∷ record { delta = record { object = 4; site = 1 }; factor = (pos 1) } ∷ []; slack = (pos 0) } ∷ record { terms = record { delta = record { object = 3; site = 0 }; factor = (pos 1) } ∷ record { delta = record { object = 3; site = 1 }; factor = (pos 1) } ∷ []; slack = (pos 0) } ∷ record { terms = record { delta = record { object = 3; site = 0 }; factor = (negsuc 0) } ∷ record { delta = record { object = 3; site = 1 }; factor = (negsuc 0) } ∷ []; slack = (pos 0) } ∷ record { terms = record { delta = record { object = 0; site = 0 }; factor = (pos 1) } ∷ record { delta = record { object = 0; site = 1 }; factor = (pos 1) } ∷ []; slack = (pos 1) } ∷ record { terms = record { delta = record { object = 0; site = 0 }; factor = (negsuc 0) } ∷ record { delta = record { object = 0; site = 1 }; factor = (negsuc 0) } ∷ []; slack = (pos 2) } ∷ []; bounds = ((pos 18) ∷ (pos 0) ∷ []) ∷ ((pos 0) ∷ (pos 0) ∷ []) ∷ ((pos 0) ∷ (pos 0) ∷ []) ∷ ((pos 0) ∷ (pos 0) ∷ []) ∷ ((pos 1) ∷ (pos 0) ∷ []) ∷ ((pos 2) ∷ (pos 0) ∷ []) ∷ []; freezes = record { object = 3; site = 1 } ∷ record { object = 5; site = 1 } ∷ []; calls = record { site = 1; command = (Seq (MoreCommand Skip NoCommand)) } ∷ record { site = 0; command = (Seq (MoreCommand (Seq (MoreCommand (Assign (temp.Fresh 0) (Sum (MoreExpr (Read (split.Base 4)) (MoreExpr (Read (split.Delta 4 0)) (MoreExpr (Read (split.Delta 4 1)) NoExpr))))) (MoreCommand (Assign (temp.Fresh 1) (Neg (Literal (pos 7)))) (MoreCommand (If (MoreTest (Comparison LessEqual (Literal (negsuc 20)) (OfTemp (temp.Fresh 0))) (MoreTest (Comparison LessEqual (OfTemp (temp.Fresh 0)) (Literal (negsuc 2))) (MoreTest (Comparison LessEqual (Literal (negsuc 14)) (OfTemp (temp.Fresh 1))) (MoreTest (Comparison LessEqual (OfTemp (temp.Fresh 1)) (Literal (negsuc 2))) NoTest)))) (If (MoreTest (Comparison Equal (Sum (MoreExpr (Read (split.Base 3)) (MoreExpr (Read (split.Delta 3 0)) (MoreExpr (Read (split.Delta 3 1)) NoExpr)))) (Literal (pos 0))) NoTest) (Seq (MoreCommand (Write (split.Delta 4 0) (Sum (MoreExpr (OfTemp (temp.Fresh 0)) (MoreExpr (Neg (Read (split.Base 4))) (MoreExpr (Neg (Read (split.Delta 4 1))) NoExpr))))) (MoreCommand (Write (split.Delta 5 0) (Sum (MoreExpr (OfTemp (temp.Fresh 1)) (MoreExpr (Neg (Read (split.Base 5))) (MoreExpr (Neg (Read (split.Delta 5 1))) NoExpr))))) (MoreCommand (Write (split.Delta 3 0) (Sum (MoreExpr (Literal (pos 1)) (MoreExpr (Neg (Read (split.Base 3))) (MoreExpr (Neg (Read (split.Delta 3 1))) NoExpr))))) (MoreCommand (Assign (temp.Named 8) (Literal (pos 1))) NoCommand))))) (Assign (temp.Named 8) (Literal (pos 0)))) (Assign (temp.Named 8) (Literal (pos 0)))) NoCommand)))) (MoreCommand (Seq (MoreCommand (Assign (temp.Named 9) (Sum (MoreExpr (Read (split.Base 0)) (MoreExpr (Read (split.Delta 0 0)) (MoreExpr (Read (split.Delta 0 1)) NoExpr))))) (MoreCommand (If (MoreTest (Comparison Less (OfTemp (temp.Named 9)) (Literal (pos 3))) NoTest) (Seq (MoreCommand (If (MoreTest (Comparison LessEqual (Literal (pos 0)) (Sum (MoreExpr (OfTemp (temp.Named 9)) (MoreExpr (Literal (pos 1)) NoExpr)))) (MoreTest (Comparison LessEqual (Sum (MoreExpr (OfTemp (temp.Named 9)) (MoreExpr (Literal (pos 1)) NoExpr))) (Literal (pos 3))) NoTest)) (Write (split.Delta 0 0) (Sum (MoreExpr (Sum (MoreExpr (OfTemp (temp.Named 9)) (MoreExpr (Literal (pos 1)) NoExpr))) (MoreExpr (Neg (Read (split.Base 0))) (MoreExpr (Neg (Read (split.Delta 0 1))) NoExpr))))) Skip) (MoreCommand (Print (Literal (pos 1))) NoCommand))) (Print (Literal (pos 0)))) NoCommand))) NoCommand))) } ∷ [] }

c15_verdict : verdict_of c15 ≡ (verdict.Bounds 0)
unfolding definitions meaning_definitions plan_definitions c15
c15_verdict = refl

c16 : Certificate
c16 = record { sites = 2; base = (pos 21) ∷ (pos 6) ∷ (pos 1) ∷ []; clauses = record { terms = record { delta = record { object = 0; site = 0 }; factor = (negsuc 0) } ∷ record { delta = record { object = 1; site = 1 }; factor = (negsuc 0) } ∷ record { delta = record { object = 2; site = 0 }; factor = (negsuc 0) } ∷ record { delta = record { object = 2; site = 1 }; factor = (negsuc 0) } ∷ []; slack = (pos 21) } ∷ []; bounds = ((pos 10) ∷ (pos 11) ∷ []) ∷ []; freezes = record { object = 0; site = 0 } ∷ record { object = 1; site = 0 } ∷ []; calls = record { site = 1; command = (Seq (MoreCommand (Seq (MoreCommand (If (MoreTest (Comparison Less (Neg (Sum (MoreExpr (Read (split.Base 0)) (MoreExpr (Read (split.Delta 0 0)) (MoreExpr (Read (split.Delta 0 1)) NoExpr))))) (Sum (MoreExpr (Read (split.Base 2)) (MoreExpr (Read (split.Delta 2 0)) (MoreExpr (Read (split.Delta 2 1)) NoExpr))))) NoTest) (Seq NoCommand) (If (MoreTest (Comparison LessEqual (Literal (pos 0)) (Sum (MoreExpr (Sum (MoreExpr (Read (split.Base 2)) (MoreExpr (Read (split.Delta 2 0)) (MoreExpr (Read (split.Delta 2 1)) NoExpr)))) (MoreExpr (Product (MoreExpr (Literal (pos 1)) (MoreExpr (Literal (pos 1)) NoExpr))) NoExpr)))) (MoreTest (Comparison LessEqual (Sum (MoreExpr (Sum (MoreExpr (Read (split.Base 2)) (MoreExpr (Read (split.Delta 2 0)) (MoreExpr (Read (split.Delta 2 1)) NoExpr)))) (MoreExpr (Product (MoreExpr (Literal (pos 1)) (MoreExpr (Literal (pos 1)) NoExpr))) NoExpr))) (Literal (pos 9))) NoTest)) (Write (split.Delta 1 1) (Sum (MoreExpr (Sum (MoreExpr (Sum (MoreExpr (Read (split.Base 2)) (MoreExpr (Read (split.Delta 2 0)) (MoreExpr (Read (split.Delta 2 1)) NoExpr)))) (MoreExpr (Product (MoreExpr (Literal (pos 1)) (MoreExpr (Literal (pos 1)) NoExpr))) NoExpr))) (MoreExpr (Neg (Read (split.Base 1))) (MoreExpr (Neg (Read (split.Delta 1 0))) NoExpr))))) Skip)) NoCommand)) (MoreCommand (Print (Sum (MoreExpr (Sum (MoreExpr (Read (split.Base 0)) (MoreExpr (Read (split.Delta 0 0)) (MoreExpr (Read (split.Delta 0 1)) NoExpr)))) (MoreExpr (Sum (MoreExpr (Read (split.Base 1)) (MoreExpr (Read (split.Delta 1 0)) (MoreExpr (Read (split.Delta 1 1)) NoExpr)))) NoExpr)))) NoCommand))) } ∷ [] }

c16_verdict : verdict_of c16 ≡ (verdict.Clause 0)
unfolding definitions meaning_definitions plan_definitions c16
c16_verdict = refl

c17 : Certificate
c17 = record { sites = 2; base = (pos 21) ∷ (pos 6) ∷ (pos 1) ∷ []; clauses = record { terms = record { delta = record { object = 0; site = 0 }; factor = (negsuc 0) } ∷ record { delta = record { object = 0; site = 1 }; factor = (negsuc 0) } ∷ record { delta = record { object = 2; site = 0 }; factor = (negsuc 0) } ∷ record { delta = record { object = 2; site = 1 }; factor = (negsuc 0) } ∷ []; slack = (pos 21) } ∷ []; bounds = ((pos 10) ∷ (pos 11) ∷ []) ∷ []; freezes = record { object = 1; site = 0 } ∷ []; calls = record { site = 1; command = (Seq (MoreCommand (Seq (MoreCommand (If (MoreTest (Comparison Less (Neg (Sum (MoreExpr (Read (split.Base 0)) (MoreExpr (Read (split.Delta 0 0)) (MoreExpr (Read (split.Delta 0 1)) NoExpr))))) (Sum (MoreExpr (Read (split.Base 2)) (MoreExpr (Read (split.Delta 2 0)) (MoreExpr (Read (split.Delta 2 1)) NoExpr))))) NoTest) (Seq NoCommand) (If (MoreTest (Comparison LessEqual (Literal (pos 0)) (Sum (MoreExpr (Sum (MoreExpr (Read (split.Base 2)) (MoreExpr (Read (split.Delta 2 0)) (MoreExpr (Read (split.Delta 2 1)) NoExpr)))) (MoreExpr (Product (MoreExpr (Literal (pos 1)) (MoreExpr (Literal (pos 1)) NoExpr))) NoExpr)))) (MoreTest (Comparison LessEqual (Sum (MoreExpr (Sum (MoreExpr (Read (split.Base 2)) (MoreExpr (Read (split.Delta 2 0)) (MoreExpr (Read (split.Delta 2 1)) NoExpr)))) (MoreExpr (Product (MoreExpr (Literal (pos 1)) (MoreExpr (Literal (pos 1)) NoExpr))) NoExpr))) (Literal (pos 9))) NoTest)) (Write (split.Delta 1 1) (Sum (MoreExpr (Sum (MoreExpr (Sum (MoreExpr (Read (split.Base 2)) (MoreExpr (Read (split.Delta 2 0)) (MoreExpr (Read (split.Delta 2 1)) NoExpr)))) (MoreExpr (Product (MoreExpr (Literal (pos 1)) (MoreExpr (Literal (pos 1)) NoExpr))) NoExpr))) (MoreExpr (Neg (Read (split.Base 1))) (MoreExpr (Neg (Read (split.Delta 1 0))) NoExpr))))) Skip)) NoCommand)) (MoreCommand (Print (Sum (MoreExpr (Sum (MoreExpr (Read (split.Base 0)) (MoreExpr (Read (split.Delta 0 0)) (MoreExpr (Read (split.Delta 0 1)) NoExpr)))) (MoreExpr (Sum (MoreExpr (Read (split.Base 1)) (MoreExpr (Read (split.Delta 1 0)) (MoreExpr (Read (split.Delta 1 1)) NoExpr)))) NoExpr)))) NoCommand))) } ∷ [] }

c17_verdict : verdict_of c17 ≡ (verdict.Freeze 0 (record { object = 0; site = 0 }))
unfolding definitions meaning_definitions plan_definitions c17
c17_verdict = refl

c18 : Certificate
c18 = record { sites = 2; base = (pos 21) ∷ (pos 6) ∷ (pos 1) ∷ []; clauses = record { terms = record { delta = record { object = 0; site = 0 }; factor = (negsuc 0) } ∷ record { delta = record { object = 1; site = 1 }; factor = (negsuc 0) } ∷ record { delta = record { object = 2; site = 0 }; factor = (negsuc 0) } ∷ record { delta = record { object = 2; site = 1 }; factor = (negsuc 0) } ∷ []; slack = (pos 21) } ∷ []; bounds = ((pos 10) ∷ (pos 11) ∷ []) ∷ []; freezes = record { object = 0; site = 0 } ∷ record { object = 1; site = 0 } ∷ []; calls = record { site = 1; command = (Seq (MoreCommand (Seq (MoreCommand (If (MoreTest (Comparison Less (Neg (Sum (MoreExpr (Read (split.Base 0)) (MoreExpr (Read (split.Delta 0 0)) (MoreExpr (Read (split.Delta 0 1)) NoExpr))))) (Sum (MoreExpr (Read (split.Base 2)) (MoreExpr (Read (split.Delta 2 0)) (MoreExpr (Read (split.Delta 2 1)) NoExpr))))) NoTest) (Seq NoCommand) (If (MoreTest (Comparison LessEqual (Literal (pos 0)) (Sum (MoreExpr (Sum (MoreExpr (Read (split.Base 2)) (MoreExpr (Read (split.Delta 2 0)) (MoreExpr (Read (split.Delta 2 1)) NoExpr)))) (MoreExpr (Product (MoreExpr (Literal (pos 1)) (MoreExpr (Literal (pos 1)) NoExpr))) NoExpr)))) (MoreTest (Comparison LessEqual (Sum (MoreExpr (Sum (MoreExpr (Read (split.Base 2)) (MoreExpr (Read (split.Delta 2 0)) (MoreExpr (Read (split.Delta 2 1)) NoExpr)))) (MoreExpr (Product (MoreExpr (Literal (pos 1)) (MoreExpr (Literal (pos 1)) NoExpr))) NoExpr))) (Literal (pos 9))) NoTest)) (Write (split.Delta 1 1) (Sum (MoreExpr (Sum (MoreExpr (Sum (MoreExpr (Read (split.Base 2)) (MoreExpr (Read (split.Delta 2 0)) (MoreExpr (Read (split.Delta 2 1)) NoExpr)))) (MoreExpr (Product (MoreExpr (Literal (pos 1)) (MoreExpr (Literal (pos 1)) NoExpr))) NoExpr))) (MoreExpr (Neg (Read (split.Base 1))) (MoreExpr (Neg (Read (split.Delta 1 0))) NoExpr))))) Skip)) NoCommand)) (MoreCommand (Print (Sum (MoreExpr (Sum (MoreExpr (Read (split.Base 0)) (MoreExpr (Read (split.Delta 0 0)) (MoreExpr (Read (split.Delta 0 1)) NoExpr)))) (MoreExpr (Sum (MoreExpr (Read (split.Base 1)) (MoreExpr (Read (split.Delta 1 0)) (MoreExpr (Read (split.Delta 1 1)) NoExpr)))) NoExpr)))) NoCommand))) } ∷ [] }

c18_verdict : verdict_of c18 ≡ (verdict.Clause 0)
unfolding definitions meaning_definitions plan_definitions c18
c18_verdict = refl

c19 : Certificate
c19 = record { sites = 2; base = (pos 21) ∷ (pos 6) ∷ (pos 1) ∷ []; clauses = record { terms = record { delta = record { object = 0; site = 0 }; factor = (negsuc 0) } ∷ record { delta = record { object = 0; site = 1 }; factor = (negsuc 0) } ∷ record { delta = record { object = 2; site = 0 }; factor = (negsuc 0) } ∷ record { delta = record { object = 2; site = 1 }; factor = (negsuc 0) } ∷ []; slack = (pos 20) } ∷ []; bounds = ((pos 10) ∷ (pos 11) ∷ []) ∷ []; freezes = record { object = 0; site = 0 } ∷ record { object = 1; site = 0 } ∷ []; calls = record { site = 1; command = (Seq (MoreCommand (Seq (MoreCommand (If (MoreTest (Comparison Less (Neg (Sum (MoreExpr (Read (split.Base 0)) (MoreExpr (Read (split.Delta 0 0)) (MoreExpr (Read (split.Delta 0 1)) NoExpr))))) (Sum (MoreExpr (Read (split.Base 2)) (MoreExpr (Read (split.Delta 2 0)) (MoreExpr (Read (split.Delta 2 1)) NoExpr))))) NoTest) (Seq NoCommand) (If (MoreTest (Comparison LessEqual (Literal (pos 0)) (Sum (MoreExpr (Sum (MoreExpr (Read (split.Base 2)) (MoreExpr (Read (split.Delta 2 0)) (MoreExpr (Read (split.Delta 2 1)) NoExpr)))) (MoreExpr (Product (MoreExpr (Literal (pos 1)) (MoreExpr (Literal (pos 1)) NoExpr))) NoExpr)))) (MoreTest (Comparison LessEqual (Sum (MoreExpr (Sum (MoreExpr (Read (split.Base 2)) (MoreExpr (Read (split.Delta 2 0)) (MoreExpr (Read (split.Delta 2 1)) NoExpr)))) (MoreExpr (Product (MoreExpr (Literal (pos 1)) (MoreExpr (Literal (pos 1)) NoExpr))) NoExpr))) (Literal (pos 9))) NoTest)) (Write (split.Delta 1 1) (Sum (MoreExpr (Sum (MoreExpr (Sum (MoreExpr (Read (split.Base 2)) (MoreExpr (Read (split.Delta 2 0)) (MoreExpr (Read (split.Delta 2 1)) NoExpr)))) (MoreExpr (Product (MoreExpr (Literal (pos 1)) (MoreExpr (Literal (pos 1)) NoExpr))) NoExpr))) (MoreExpr (Neg (Read (split.Base 1))) (MoreExpr (Neg (Read (split.Delta 1 0))) NoExpr))))) Skip)) NoCommand)) (MoreCommand (Print (Sum (MoreExpr (Sum (MoreExpr (Read (split.Base 0)) (MoreExpr (Read (split.Delta 0 0)) (MoreExpr (Read (split.Delta 0 1)) NoExpr)))) (MoreExpr (Sum (MoreExpr (Read (split.Base 1)) (MoreExpr (Read (split.Delta 1 0)) (MoreExpr (Read (split.Delta 1 1)) NoExpr)))) NoExpr)))) NoCommand))) } ∷ [] }

c19_verdict : verdict_of c19 ≡ (verdict.Bounds 0)
unfolding definitions meaning_definitions plan_definitions c19
c19_verdict = refl

c20 : Certificate
c20 = record { sites = 2; base = (negsuc 6) ∷ (pos 14) ∷ (pos 15) ∷ (pos 4) ∷ (pos 0) ∷ (negsuc 3) ∷ []; clauses = []; bounds = []; freezes = record { object = 1; site = 0 } ∷ record { object = 2; site = 1 } ∷ record { object = 3; site = 0 } ∷ record { object = 3; site = 1 } ∷ []; calls = record { site = 0; command = (Seq (MoreCommand (Print (Sum (MoreExpr (Read (split.Base 3)) (MoreExpr (Read (split.Delta 3 0)) (MoreExpr (Read (split.Delta 3 1)) NoExpr))))) (MoreCommand (If (MoreTest (Comparison LessEqual (Literal (pos 0)) (Literal (pos 20))) (MoreTest (Comparison LessEqual (Literal (pos 20)) (Literal (pos 25))) NoTest)) (Write (split.Delta 1 0) (Sum (MoreExpr (Literal (pos 20)) (MoreExpr (Neg (Read (split.Base 1))) (MoreExpr (Neg (Read (split.Delta 1 1))) NoExpr))))) Skip) NoCommand))) } ∷ record { site = 1; command = (Seq (MoreCommand (Print (Sum (MoreExpr (Read (split.Base 3)) (MoreExpr (Read (split.Delta 3 0)) (MoreExpr (Read (split.Delta 3 1)) NoExpr))))) (MoreCommand (If (MoreTest (Comparison LessEqual (Literal (pos 0)) (Literal (pos 20))) (MoreTest (Comparison LessEqual (Literal (pos 20)) (Literal (pos 20))) NoTest)) (Write (split.Delta 1 1) (Sum (MoreExpr (Literal (pos 20)) (MoreExpr (Neg (Read (split.Base 1))) (MoreExpr (Neg (Read (split.Delta 1 0))) NoExpr))))) Skip) NoCommand))) } ∷ [] }

c20_verdict : verdict_of c20 ≡ (verdict.Freeze 0 (record { object = 1; site = 1 }))
unfolding definitions meaning_definitions plan_definitions c20
c20_verdict = refl

c21 : Certificate
c21 = record { sites = 2; base = (negsuc 1) ∷ (pos 0) ∷ (negsuc 0) ∷ (negsuc 2) ∷ []; clauses = record { terms = record { delta = record { object = 0; site = 0 }; factor = (negsuc 0) } ∷ record { delta = record { object = 0; site = 1 }; factor = (negsuc 0) } ∷ []; slack = (pos 5) } ∷ record { terms = record { delta = record { object = 0; site = 0 }; factor = (pos 1) } ∷ record { delta = record { object = 0; site = 1 }; factor = (pos 1) } ∷ []; slack = (pos 0) } ∷ record { terms = record { delta = record { object = 0; site = 0 }; factor = (negsuc 0) } ∷ record { delta = record { object = 0; site = 1 }; factor = (negsuc 0) } ∷ []; slack = (pos 2) } ∷ record { terms = record { delta = record { object = 0; site = 0 }; factor = (pos 1) } ∷ record { delta = record { object = 0; site = 1 }; factor = (pos 1) } ∷ []; slack = (pos 3) } ∷ []; bounds = ((pos 2) ∷ (pos 3) ∷ []) ∷ ((pos 0) ∷ (pos 0) ∷ []) ∷ ((pos 1) ∷ (pos 1) ∷ []) ∷ ((pos 4000000000000000000) ∷ (pos 2) ∷ []) ∷ []; freezes = []; calls = record { site = 1; command = (Seq (MoreCommand (If (MoreTest (Comparison LessEqual (Literal (negsuc 6)) (Sum (MoreExpr (Read (split.Base 0)) (MoreExpr (Read (split.Delta 0 0)) (MoreExpr (Read (split.Delta 0 1)) NoExpr))))) (MoreTest (Comparison LessEqual (Sum (MoreExpr (Read (split.Base 0)) (MoreExpr (Read (split.Delta 0 0)) (MoreExpr (Read (split.Delta 0 1)) NoExpr)))) (Literal (negsuc 1))) NoTest)) (Write (split.Delta 0 1) (Sum (MoreExpr (Sum (MoreExpr (Read (split.Base 0)) (MoreExpr (Read (split.Delta 0 0)) (MoreExpr (Read (split.Delta 0 1)) NoExpr)))) (MoreExpr (Neg (Read (split.Base 0))) (MoreExpr (Neg (Read (split.Delta 0 0))) NoExpr))))) Skip) (MoreCommand (Seq (MoreCommand (Assign (temp.Named 5) (Sum (MoreExpr (Read (split.Base 0)) (MoreExpr (Read (split.Delta 0 0)) (MoreExpr (Read (split.Delta 0 1)) NoExpr))))) (MoreCommand (If (MoreTest (Comparison Equal (OfTemp (temp.Named 5)) (Neg (Literal (pos 5)))) NoTest) (Seq (MoreCommand (If (MoreTest (Comparison LessEqual (Literal (negsuc 6)) (Sum (MoreExpr (OfTemp (temp.Named 5)) (MoreExpr (Literal (pos 1)) NoExpr)))) (MoreTest (Comparison LessEqual (Sum (MoreExpr (OfTemp (temp.Named 5)) (MoreExpr (Literal (pos 1)) NoExpr))) (Literal (negsuc 1))) NoTest)) (Write (split.Delta 0 1) (Sum (MoreExpr (Sum (MoreExpr (OfTemp (temp.Named 5)) (MoreExpr (Literal (pos 1)) NoExpr))) (MoreExpr (Neg (Read (split.Base 0))) (MoreExpr (Neg (Read (split.Delta 0 0))) NoExpr))))) Skip) (MoreCommand (Print (Literal (pos 1))) NoCommand))) (Print (Literal (pos 0)))) NoCommand))) (MoreCommand (If (MoreTest (Comparison LessEqual (Literal (negsuc 6)) (Sum (MoreExpr (Sum (MoreExpr (Read (split.Base 0)) (MoreExpr (Read (split.Delta 0 0)) (MoreExpr (Read (split.Delta 0 1)) NoExpr)))) (MoreExpr (Neg (Literal (pos 3))) NoExpr)))) (MoreTest (Comparison LessEqual (Sum (MoreExpr (Sum (MoreExpr (Read (split.Base 0)) (MoreExpr (Read (split.Delta 0 0)) (MoreExpr (Read (split.Delta 0 1)) NoExpr)))) (MoreExpr (Neg (Literal (pos 3))) NoExpr))) (Literal (negsuc 1))) NoTest)) (Write (split.Delta 0 1) (Sum (MoreExpr (Sum (MoreExpr (Sum (MoreExpr (Read (split.Base 0)) (MoreExpr (Read (split.Delta 0 0)) (MoreExpr (Read (split.Delta 0 1)) NoExpr)))) (MoreExpr (Neg (Literal (pos 3))) NoExpr))) (MoreExpr (Neg (Read (split.Base 0))) (MoreExpr (Neg (Read (split.Delta 0 0))) NoExpr))))) Skip) NoCommand)))) } ∷ [] }

c21_verdict : verdict_of c21 ≡ (verdict.Bounds 3)
unfolding definitions meaning_definitions plan_definitions c21
c21_verdict = refl

c22 : Certificate
c22 = record { sites = 2; base = (negsuc 0) ∷ (pos 0) ∷ (negsuc 0) ∷ (negsuc 2) ∷ []; clauses = record { terms = record { delta = record { object = 0; site = 0 }; factor = (negsuc 0) } ∷ record { delta = record { object = 0; site = 1 }; factor = (negsuc 0) } ∷ []; slack = (pos 5) } ∷ record { terms = record { delta = record { object = 0; site = 0 }; factor = (pos 1) } ∷ record { delta = record { object = 0; site = 1 }; factor = (pos 1) } ∷ []; slack = (pos 0) } ∷ record { terms = record { delta = record { object = 0; site = 0 }; factor = (negsuc 0) } ∷ record { delta = record { object = 0; site = 1 }; factor = (negsuc 0) } ∷ []; slack = (pos 2) } ∷ record { terms = record { delta = record { object = 0; site = 0 }; factor = (pos 1) } ∷ record { delta = record { object = 0; site = 1 }; factor = (pos 1) } ∷ []; slack = (pos 3) } ∷ []; bounds = ((pos 2) ∷ (pos 3) ∷ []) ∷ ((pos 0) ∷ (pos 0) ∷ []) ∷ ((pos 1) ∷ (pos 1) ∷ []) ∷ ((pos 1) ∷ (pos 2) ∷ []) ∷ []; freezes = []; calls = record { site = 1; command = (Seq (MoreCommand (If (MoreTest (Comparison LessEqual (Literal (negsuc 6)) (Sum (MoreExpr (Read (split.Base 0)) (MoreExpr (Read (split.Delta 0 0)) (MoreExpr (Read (split.Delta 0 1)) NoExpr))))) (MoreTest (Comparison LessEqual (Sum (MoreExpr (Read (split.Base 0)) (MoreExpr (Read (split.Delta 0 0)) (MoreExpr (Read (split.Delta 0 1)) NoExpr)))) (Literal (negsuc 1))) NoTest)) (Write (split.Delta 0 1) (Sum (MoreExpr (Sum (MoreExpr (Read (split.Base 0)) (MoreExpr (Read (split.Delta 0 0)) (MoreExpr (Read (split.Delta 0 1)) NoExpr)))) (MoreExpr (Neg (Read (split.Base 0))) (MoreExpr (Neg (Read (split.Delta 0 0))) NoExpr))))) Skip) (MoreCommand (Seq (MoreCommand (Assign (temp.Named 5) (Sum (MoreExpr (Read (split.Base 0)) (MoreExpr (Read (split.Delta 0 0)) (MoreExpr (Read (split.Delta 0 1)) NoExpr))))) (MoreCommand (If (MoreTest (Comparison Equal (OfTemp (temp.Named 5)) (Neg (Literal (pos 5)))) NoTest) (Seq (MoreCommand (If (MoreTest (Comparison LessEqual (Literal (negsuc 6)) (Sum (MoreExpr (OfTemp (temp.Named 5)) (MoreExpr (Literal (pos 1)) NoExpr)))) (MoreTest (Comparison LessEqual (Sum (MoreExpr (OfTemp (temp.Named 5)) (MoreExpr (Literal (pos 1)) NoExpr))) (Literal (negsuc 1))) NoTest)) (Write (split.Delta 0 1) (Sum (MoreExpr (Sum (MoreExpr (OfTemp (temp.Named 5)) (MoreExpr (Literal (pos 1)) NoExpr))) (MoreExpr (Neg (Read (split.Base 0))) (MoreExpr (Neg (Read (split.Delta 0 0))) NoExpr))))) Skip) (MoreCommand (Print (Literal (pos 1))) NoCommand))) (Print (Literal (pos 0)))) NoCommand))) (MoreCommand (If (MoreTest (Comparison LessEqual (Literal (negsuc 6)) (Sum (MoreExpr (Sum (MoreExpr (Read (split.Base 0)) (MoreExpr (Read (split.Delta 0 0)) (MoreExpr (Read (split.Delta 0 1)) NoExpr)))) (MoreExpr (Neg (Literal (pos 3))) NoExpr)))) (MoreTest (Comparison LessEqual (Sum (MoreExpr (Sum (MoreExpr (Read (split.Base 0)) (MoreExpr (Read (split.Delta 0 0)) (MoreExpr (Read (split.Delta 0 1)) NoExpr)))) (MoreExpr (Neg (Literal (pos 3))) NoExpr))) (Literal (negsuc 1))) NoTest)) (Write (split.Delta 0 1) (Sum (MoreExpr (Sum (MoreExpr (Sum (MoreExpr (Read (split.Base 0)) (MoreExpr (Read (split.Delta 0 0)) (MoreExpr (Read (split.Delta 0 1)) NoExpr)))) (MoreExpr (Neg (Literal (pos 3))) NoExpr))) (MoreExpr (Neg (Read (split.Base 0))) (MoreExpr (Neg (Read (split.Delta 0 0))) NoExpr))))) Skip) NoCommand)))) } ∷ [] }

c22_verdict : verdict_of c22 ≡ (verdict.Clause 0)
unfolding definitions meaning_definitions plan_definitions c22
c22_verdict = refl

c23 : Certificate
c23 = record { sites = 3; base = (pos 24) ∷ (pos 0) ∷ (pos 0) ∷ (pos 0) ∷ []; clauses = record { terms = record { delta = record { object = 0; site = 0 }; factor = (negsuc 0) } ∷ record { delta = record { object = 0; site = 1 }; factor = (negsuc 0) } ∷ record { delta = record { object = 0; site = 2 }; factor = (negsuc 0) } ∷ []; slack = (pos 0) } ∷ []; bounds = ((pos 0) ∷ (pos 0) ∷ (pos 0) ∷ []) ∷ []; freezes = []; calls = record { site = 2; command = (Seq (MoreCommand (Seq (MoreCommand (Assign (temp.Named 10) (Sum (MoreExpr (Read (split.Base 0)) (MoreExpr (Read (split.Delta 0 0)) (MoreExpr (Read (split.Delta 0 1)) (MoreExpr (Read (split.Delta 0 2)) NoExpr)))))) (MoreCommand (If (MoreTest (Comparison Less (OfTemp (temp.Named 5)) (Literal (pos 24))) NoTest) (Seq (MoreCommand (If (MoreTest (Comparison LessEqual (Literal (pos 0)) (Sum (MoreExpr (OfTemp (temp.Named 5)) (MoreExpr (Literal (pos 1)) NoExpr)))) (MoreTest (Comparison LessEqual (Sum (MoreExpr (OfTemp (temp.Named 5)) (MoreExpr (Literal (pos 1)) NoExpr))) (Literal (pos 24))) NoTest)) (Write (split.Delta 0 2) (Sum (MoreExpr (Sum (MoreExpr (OfTemp (temp.Named 5)) (MoreExpr (Literal (pos 1)) NoExpr))) (MoreExpr (Neg (Read (split.Base 0))) (MoreExpr (Neg (Read (split.Delta 0 0))) (MoreExpr (Neg (Read (split.Delta 0 1))) NoExpr)))))) Skip) (MoreCommand (Print (Literal (pos 1))) NoCommand))) (Print (Literal (pos 0)))) NoCommand))) NoCommand)) } ∷ record { site = 0; command = (Seq (MoreCommand (Seq (MoreCommand (Assign (temp.Named 5) (Sum (MoreExpr (Read (split.Base 0)) (MoreExpr (Read (split.Delta 0 0)) (MoreExpr (Read (split.Delta 0 1)) (MoreExpr (Read (split.Delta 0 2)) NoExpr)))))) (MoreCommand (If (MoreTest (Comparison Less (OfTemp (temp.Named 5)) (Literal (pos 24))) NoTest) (Seq (MoreCommand (If (MoreTest (Comparison LessEqual (Literal (pos 0)) (Sum (MoreExpr (OfTemp (temp.Named 5)) (MoreExpr (Literal (pos 1)) NoExpr)))) (MoreTest (Comparison LessEqual (Sum (MoreExpr (OfTemp (temp.Named 5)) (MoreExpr (Literal (pos 1)) NoExpr))) (Literal (pos 24))) NoTest)) (Write (split.Delta 0 0) (Sum (MoreExpr (Sum (MoreExpr (OfTemp (temp.Named 5)) (MoreExpr (Literal (pos 1)) NoExpr))) (MoreExpr (Neg (Read (split.Base 0))) (MoreExpr (Neg (Read (split.Delta 0 1))) (MoreExpr (Neg (Read (split.Delta 0 2))) NoExpr)))))) Skip) (MoreCommand (Print (Literal (pos 1))) NoCommand))) (Print (Literal (pos 0)))) NoCommand))) NoCommand)) } ∷ record { site = 1; command = (Seq (MoreCommand (Seq (MoreCommand (Assign (temp.Named 5) (Sum (MoreExpr (Read (split.Base 0)) (MoreExpr (Read (split.Delta 0 0)) (MoreExpr (Read (split.Delta 0 1)) (MoreExpr (Read (split.Delta 0 2)) NoExpr)))))) (MoreCommand (If (MoreTest (Comparison Less (OfTemp (temp.Named 5)) (Literal (pos 24))) NoTest) (Seq (MoreCommand (If (MoreTest (Comparison LessEqual (Literal (pos 0)) (Sum (MoreExpr (OfTemp (temp.Named 5)) (MoreExpr (Literal (pos 1)) NoExpr)))) (MoreTest (Comparison LessEqual (Sum (MoreExpr (OfTemp (temp.Named 5)) (MoreExpr (Literal (pos 1)) NoExpr))) (Literal (pos 24))) NoTest)) (Write (split.Delta 0 1) (Sum (MoreExpr (Sum (MoreExpr (OfTemp (temp.Named 5)) (MoreExpr (Literal (pos 1)) NoExpr))) (MoreExpr (Neg (Read (split.Base 0))) (MoreExpr (Neg (Read (split.Delta 0 0))) (MoreExpr (Neg (Read (split.Delta 0 2))) NoExpr)))))) Skip) (MoreCommand (Print (Literal (pos 1))) NoCommand))) (Print (Literal (pos 0)))) NoCommand))) NoCommand)) } ∷ [] }

c23_verdict : verdict_of c23 ≡ (verdict.Freeze 0 (record { object = 0; site = 0 }))
unfolding definitions meaning_definitions plan_definitions c23
c23_verdict = refl

c24 : Certificate
c24 = record { sites = 2; base = (pos 5) ∷ (negsuc 14) ∷ (negsuc 25) ∷ (pos 20) ∷ (pos 0) ∷ (pos 0) ∷ (pos 0) ∷ (pos 0) ∷ (pos 0) ∷ (pos 0) ∷ (pos 0) ∷ (negsuc 2) ∷ (pos 0) ∷ (pos 0) ∷ (pos 0) ∷ (negsuc 2) ∷ []; clauses = []; bounds = []; freezes = record { object = 3; site = 0 } ∷ []; calls = record { site = 0; command = (Seq (MoreCommand (If (MoreTest (Comparison LessEqual (Literal (pos 0)) (Literal (pos 20))) (MoreTest (Comparison LessEqual (Literal (pos 20)) (Literal (pos 20))) NoTest)) (Write (split.Delta 3 0) (Sum (MoreExpr (Literal (pos 20)) (MoreExpr (Neg (Read (split.Base 3))) (MoreExpr (Neg (Read (split.Delta 3 1))) NoExpr))))) Skip) NoCommand)) } ∷ [] }

c24_verdict : verdict_of c24 ≡ (verdict.Freeze 0 (record { object = 3; site = 1 }))
unfolding definitions meaning_definitions plan_definitions c24
c24_verdict = refl

c25 : Certificate
c25 = record { sites = 2; base = (negsuc 8) ∷ (negsuc 14) ∷ (pos 11) ∷ []; clauses = record { terms = record { delta = record { object = 0; site = 0 }; factor = (negsuc 0) } ∷ record { delta = record { object = 0; site = 1 }; factor = (negsuc 0) } ∷ []; slack = (pos 10) } ∷ record { terms = record { delta = record { object = 0; site = 0 }; factor = (pos 1) } ∷ record { delta = record { object = 0; site = 1 }; factor = (pos 1) } ∷ []; slack = (pos 5) } ∷ record { terms = record { delta = record { object = 0; site = 0 }; factor = (pos 1) } ∷ record { delta = record { object = 0; site = 1 }; factor = (pos 1) } ∷ []; slack = (pos 11) } ∷ []; bounds = ((pos 5) ∷ (pos 5) ∷ []) ∷ ((pos 2) ∷ (pos 3) ∷ []) ∷ ((pos 5) ∷ (pos 6) ∷ []) ∷ []; freezes = []; calls = record { site = 0; command = (Seq (MoreCommand (If (MoreTest (Comparison LessEqual (Literal (negsuc 15)) (Sum (MoreExpr (Sum (MoreExpr (Read (split.Base 0)) (MoreExpr (Read (split.Delta 0 0)) (MoreExpr (Read (split.Delta 0 1)) NoExpr)))) (MoreExpr (Literal (pos 3)) NoExpr)))) (MoreTest (Comparison LessEqual (Sum (MoreExpr (Sum (MoreExpr (Read (split.Base 0)) (MoreExpr (Read (split.Delta 0 0)) (MoreExpr (Read (split.Delta 0 1)) NoExpr)))) (MoreExpr (Literal (pos 3)) NoExpr))) (Literal (negsuc 0))) NoTest)) (Write (split.Delta 0 1) (Sum (MoreExpr (Sum (MoreExpr (Sum (MoreExpr (Read (split.Base 0)) (MoreExpr (Read (split.Delta 0 0)) (MoreExpr (Read (split.Delta 0 1)) NoExpr)))) (MoreExpr (Literal (pos 3)) NoExpr))) (MoreExpr (Neg (Read (split.Base 0))) (MoreExpr (Neg (Read (split.Delta 0 0))) NoExpr))))) Skip) NoCommand)) } ∷ record { site = 0; command = (Seq (MoreCommand (If (MoreTest (Comparison LessEqual (Literal (negsuc 15)) (Sum (MoreExpr (Sum (MoreExpr (Read (split.Base 0)) (MoreExpr (Read (split.Delta 0 0)) (MoreExpr (Read (split.Delta 0 1)) NoExpr)))) (MoreExpr (Literal (pos 3)) NoExpr)))) (MoreTest (Comparison LessEqual (Sum (MoreExpr (Sum (MoreExpr (Read (split.Base 0)) (MoreExpr (Read (split.Delta 0 0)) (MoreExpr (Read (split.Delta 0 1)) NoExpr)))) (MoreExpr (Literal (pos 3)) NoExpr))) (Literal (negsuc 0))) NoTest)) (Write (split.Delta 0 0) (Sum (MoreExpr (Sum (MoreExpr (Sum (MoreExpr (Read (split.Base 0)) (MoreExpr (Read (split.Delta 0 0)) (MoreExpr (Read (split.Delta 0 1)) NoExpr)))) (MoreExpr (Literal (pos 3)) NoExpr))) (MoreExpr (Neg (Read (split.Base 0))) (MoreExpr (Neg (Read (split.Delta 0 1))) NoExpr))))) Skip) NoCommand)) } ∷ record { site = 0; command = (Seq (MoreCommand (Seq (MoreCommand (Assign (temp.Named 4) (Sum (MoreExpr (Read (split.Base 0)) (MoreExpr (Read (split.Delta 0 0)) (MoreExpr (Read (split.Delta 0 1)) NoExpr))))) (MoreCommand (If (MoreTest (Comparison LessEqual (Literal (pos 3)) (OfTemp (temp.Named 4))) NoTest) (Seq (MoreCommand (If (MoreTest (Comparison LessEqual (Literal (negsuc 15)) (Sum (MoreExpr (OfTemp (temp.Named 4)) (MoreExpr (Literal (pos 3)) NoExpr)))) (MoreTest (Comparison LessEqual (Sum (MoreExpr (OfTemp (temp.Named 4)) (MoreExpr (Literal (pos 3)) NoExpr))) (Literal (negsuc 0))) NoTest)) (Write (split.Delta 0 0) (Sum (MoreExpr (Sum (MoreExpr (OfTemp (temp.Named 4)) (MoreExpr (Literal (pos 3)) NoExpr))) (MoreExpr (Neg (Read (split.Base 0))) (MoreExpr (Neg (Read (split.Delta 0 1))) NoExpr))))) Skip) (MoreCommand (Print (Literal (pos 1))) NoCommand))) (Print (Literal (pos 0)))) NoCommand))) NoCommand)) } ∷ [] }

c25_verdict : verdict_of c25 ≡ (verdict.Foreign 0)
unfolding definitions meaning_definitions plan_definitions c25
c25_verdict = refl

c26 : Certificate
c26 = record { sites = 2; base = (pos 3) ∷ (pos 0) ∷ (pos 3) ∷ (pos 0) ∷ (pos 3) ∷ []; clauses = record { terms = record { delta = record { object = 1; site = 0 }; factor = (pos 1) } ∷ record { delta = record { object = 1; site = 1 }; factor = (pos 1) } ∷ []; slack = (pos 0) } ∷ record { terms = record { delta = record { object = 1; site = 0 }; factor = (negsuc 0) } ∷ record { delta = record { object = 1; site = 1 }; factor = (negsuc 0) } ∷ []; slack = (pos 0) } ∷ record { terms = record { delta = record { object = 0; site = 0 }; factor = (negsuc 0) } ∷ record { delta = record { object = 0; site = 1 }; factor = (negsuc 0) } ∷ []; slack = (pos 1) } ∷ record { terms = record { delta = record { object = 0; site = 0 }; factor = (negsuc 0) } ∷ record { delta = record { object = 0; site = 1 }; factor = (negsuc 0) } ∷ []; slack = (pos 2) } ∷ record { terms = record { delta = record { object = 0; site = 0 }; factor = (pos 1) } ∷ record { delta = record { object = 0; site = 1 }; factor = (pos 1) } ∷ []; slack = (pos 6) } ∷ []; bounds = ((pos 0) ∷ (pos 0) ∷ []) ∷ ((pos 0) ∷ (pos 0) ∷ []) ∷ ((pos 1) ∷ (pos 0) ∷ []) ∷ ((pos 2) ∷ (pos 0) ∷ []) ∷ ((pos 6) ∷ (pos 0) ∷ []) ∷ []; freezes = record { object = 1; site = 1 } ∷ record { object = 2; site = 1 } ∷ []; calls = record { site = 0; command = (Seq (MoreCommand (Seq (MoreCommand (Assign (temp.Fresh 0) (Literal (pos 14))) (MoreCommand (If (MoreTest (Comparison LessEqual (Literal (pos 3)) (OfTemp (temp.Fresh 0))) (MoreTest (Comparison LessEqual (OfTemp (temp.Fresh 0)) (Literal (pos 26))) NoTest)) (If (MoreTest (Comparison Equal (Sum (MoreExpr (Read (split.Base 1)) (MoreExpr (Read (split.Delta 1 0)) (MoreExpr (Read (split.Delta 1 1)) NoExpr)))) (Literal (pos 0))) NoTest) (Seq (MoreCommand (Write (split.Delta 2 0) (Sum (MoreExpr (OfTemp (temp.Fresh 0)) (MoreExpr (Neg (Read (split.Base 2))) (MoreExpr (Neg (Read (split.Delta 2 1))) NoExpr))))) (MoreCommand (Write (split.Delta 1 0) (Sum (MoreExpr (Literal (pos 1)) (MoreExpr (Neg (Read (split.Base 1))) (MoreExpr (Neg (Read (split.Delta 1 1))) NoExpr))))) (MoreCommand (Assign (temp.Named 6) (Literal (pos 1))) NoCommand)))) (If (MoreTest (Comparison Equal (Sum (MoreExpr (Read (split.Base 3)) (MoreExpr (Read (split.Delta 3 0)) (MoreExpr (Read (split.Delta 3 1)) NoExpr)))) (Literal (pos 0))) NoTest) (Seq (MoreCommand (Write (split.Delta 4 0) (Sum (MoreExpr (OfTemp (temp.Fresh 0)) (MoreExpr (Neg (Read (split.Base 4))) (MoreExpr (Neg (Read (split.Delta 4 1))) NoExpr))))) (MoreCommand (Write (split.Delta 3 0) (Sum (MoreExpr (Literal (pos 1)) (MoreExpr (Neg (Read (split.Base 3))) (MoreExpr (Neg (Read (split.Delta 3 1))) NoExpr))))) (MoreCommand (Assign (temp.Named 6) (Literal (pos 2))) NoCommand)))) (Assign (temp.Named 6) (Literal (pos 0))))) (Assign (temp.Named 6) (Literal (pos 0)))) NoCommand))) (MoreCommand (Seq (MoreCommand (Assign (temp.Named 7) (Sum (MoreExpr (Read (split.Base 0)) (MoreExpr (Read (split.Delta 0 0)) (MoreExpr (Read (split.Delta 0 1)) NoExpr))))) (MoreCommand (If (MoreTest (Comparison LessEqual (Literal (pos 2)) (OfTemp (temp.Named 7))) NoTest) (Seq (MoreCommand (If (MoreTest (Comparison LessEqual (Literal (pos 4000000000000000001)) (Sum (MoreExpr (OfTemp (temp.Named 7)) (MoreExpr (Literal (pos 2)) NoExpr)))) (MoreTest (Comparison LessEqual (Sum (MoreExpr (OfTemp (temp.Named 7)) (MoreExpr (Literal (pos 2)) NoExpr))) (Literal (pos 11))) NoTest)) (Write (split.Delta 0 0) (Sum (MoreExpr (Sum (MoreExpr (OfTemp (temp.Named 7)) (MoreExpr (Literal (pos 2)) NoExpr))) (MoreExpr (Neg (Read (split.Base 0))) (MoreExpr (Neg (Read (split.Delta 0 1))) NoExpr))))) Skip) (MoreCommand (Print (Literal (pos 1))) NoCommand))) (Print (Literal (pos 0)))) NoCommand))) NoCommand))) } ∷ [] }

c26_verdict : verdict_of c26 ≡ (verdict.Size 0)
unfolding definitions meaning_definitions plan_definitions c26
c26_verdict = refl

c27 : Certificate
c27 = record { sites = 3; base = (pos 7) ∷ []; clauses = []; bounds = []; freezes = []; calls = record { site = 1; command = (Seq (MoreCommand (Print (Sum (MoreExpr (Neg (Literal (pos 1))) (MoreExpr (Literal (pos 4000000000000000001)) NoExpr)))) NoCommand)) } ∷ record { site = 2; command = (Seq (MoreCommand (Print (Sum (MoreExpr (Neg (Literal (pos 3))) (MoreExpr (Literal (pos 3)) NoExpr)))) NoCommand)) } ∷ record { site = 2; command = (Seq (MoreCommand (Print (Sum (MoreExpr (Neg (Literal (pos 1))) (MoreExpr (Literal (pos 3)) NoExpr)))) NoCommand)) } ∷ record { site = 1; command = (Seq (MoreCommand (Print (Sum (MoreExpr (Neg (Literal (pos 1))) (MoreExpr (Literal (pos 3)) NoExpr)))) NoCommand)) } ∷ record { site = 1; command = (Seq (MoreCommand (Print (Sum (MoreExpr (Neg (Literal (pos 3))) (MoreExpr (Literal (pos 3)) NoExpr)))) NoCommand)) } ∷ [] }

c27_verdict : verdict_of c27 ≡ (verdict.Size 0)
unfolding definitions meaning_definitions plan_definitions c27
c27_verdict = refl

c28 : Certificate
c28 = record { sites = 2; base = (pos 10) ∷ (pos 7) ∷ []; clauses = []; bounds = []; freezes = record { object = 0; site = 1 } ∷ []; calls = record { site = 0; command = (Seq (MoreCommand (Seq NoCommand) NoCommand)) } ∷ record { site = 0; command = (Seq (MoreCommand (Seq NoCommand) NoCommand)) } ∷ record { site = 1; command = (Seq (MoreCommand (Print (Sum (MoreExpr (Read (split.Base 0)) (MoreExpr (Read (split.Delta 0 0)) (MoreExpr (Read (split.Delta 0 1)) NoExpr))))) NoCommand)) } ∷ record { site = 0; command = (Seq (MoreCommand (Seq NoCommand) NoCommand)) } ∷ record { site = 0; command = (Seq (MoreCommand (Print (Sum (MoreExpr (Read (split.Base 0)) (MoreExpr (Read (split.Delta 0 0)) (MoreExpr (Read (split.Delta 0 1)) NoExpr))))) NoCommand)) } ∷ [] }

c28_verdict : verdict_of c28 ≡ (verdict.Freeze 2 (record { object = 0; site = 0 }))
unfolding definitions meaning_definitions plan_definitions c28
c28_verdict = refl

c29 : Certificate
c29 = record { sites = 2; base = (pos 10) ∷ (pos 7) ∷ []; clauses = []; bounds = []; freezes = record { object = 0; site = 1 } ∷ []; calls = record { site = 0; command = (Seq (MoreCommand (Seq NoCommand) NoCommand)) } ∷ record { site = 0; command = (Seq (MoreCommand (Seq NoCommand) NoCommand)) } ∷ record { site = 0; command = (Seq (MoreCommand (Print (Sum (MoreExpr (Read (split.Base 0)) (MoreExpr (Read (split.Delta 0 0)) (MoreExpr (Read (split.Delta 1 1)) NoExpr))))) NoCommand)) } ∷ record { site = 0; command = (Seq (MoreCommand (Seq NoCommand) NoCommand)) } ∷ record { site = 0; command = (Seq (MoreCommand (Print (Sum (MoreExpr (Read (split.Base 0)) (MoreExpr (Read (split.Delta 0 0)) (MoreExpr (Read (split.Delta 0 1)) NoExpr))))) NoCommand)) } ∷ [] }

c29_verdict : verdict_of c29 ≡ (verdict.Freeze 2 (record { object = 1; site = 1 }))
unfolding definitions meaning_definitions plan_definitions c29
c29_verdict = refl

c30 : Certificate
c30 = record { sites = 3; base = (pos 4000000000000000001) ∷ (pos 301) ∷ (negsuc 20) ∷ (pos 0) ∷ (negsuc 0) ∷ (pos 0) ∷ (pos 0) ∷ (pos 0) ∷ []; clauses = record { terms = record { delta = record { object = 0; site = 0 }; factor = (negsuc 0) } ∷ record { delta = record { object = 0; site = 1 }; factor = (negsuc 0) } ∷ record { delta = record { object = 0; site = 2 }; factor = (negsuc 0) } ∷ []; slack = (pos 99) } ∷ record { terms = record { delta = record { object = 0; site = 0 }; factor = (pos 1) } ∷ record { delta = record { object = 0; site = 1 }; factor = (pos 1) } ∷ record { delta = record { object = 0; site = 2 }; factor = (pos 1) } ∷ []; slack = (pos 1) } ∷ []; bounds = ((pos 33) ∷ (pos 33) ∷ (pos 33) ∷ []) ∷ ((pos 0) ∷ (pos 0) ∷ (pos 1) ∷ []) ∷ []; freezes = record { object = 0; site = 1 } ∷ record { object = 0; site = 2 } ∷ record { object = 2; site = 1 } ∷ record { object = 2; site = 2 } ∷ []; calls = record { site = 0; command = (Seq (MoreCommand (If (MoreTest (Comparison LessEqual (Literal (pos 0)) (Sum (MoreExpr (Sum (MoreExpr (Read (split.Base 0)) (MoreExpr (Read (split.Delta 0 0)) (MoreExpr (Read (split.Delta 0 1)) (MoreExpr (Read (split.Delta 0 2)) NoExpr))))) (MoreExpr (Neg (Literal (pos 1))) NoExpr)))) (MoreTest (Comparison LessEqual (Sum (MoreExpr (Sum (MoreExpr (Read (split.Base 0)) (MoreExpr (Read (split.Delta 0 0)) (MoreExpr (Read (split.Delta 0 1)) (MoreExpr (Read (split.Delta 0 2)) NoExpr))))) (MoreExpr (Neg (Literal (pos 1))) NoExpr))) (Literal (pos 100))) NoTest)) (Write (split.Delta 0 0) (Sum (MoreExpr (Sum (MoreExpr (Sum (MoreExpr (Read (split.Base 0)) (MoreExpr (Read (split.Delta 0 0)) (MoreExpr (Read (split.Delta 0 1)) (MoreExpr (Read (split.Delta 0 2)) NoExpr))))) (MoreExpr (Neg (Literal (pos 1))) NoExpr))) (MoreExpr (Neg (Read (split.Base 0))) (MoreExpr (Neg (Read (split.Delta 0 1))) (MoreExpr (Neg (Read (split.Delta 0 2))) NoExpr)))))) Skip) (MoreCommand (Print (Sum (MoreExpr (Sum (MoreExpr (Read (split.Base 0)) (MoreExpr (Read (split.Delta 0 0)) (MoreExpr (Read (split.Delta 0 1)) (MoreExpr (Read (split.Delta 0 2)) NoExpr))))) (MoreExpr (Sum (MoreExpr (Read (split.Base 2)) (MoreExpr (Read (split.Delta 2 0)) (MoreExpr (Read (split.Delta 2 1)) (MoreExpr (Read (split.Delta 2 2)) NoExpr))))) NoExpr)))) NoCommand))) } ∷ [] }

c30_verdict : verdict_of c30 ≡ (verdict.Size 0)
unfolding definitions meaning_definitions plan_definitions c30
c30_verdict = refl

c31 : Certificate
c31 = record { sites = 3; base = (pos 6) ∷ (pos 1) ∷ (pos 4000000000000000001) ∷ (pos 2) ∷ []; clauses = []; bounds = []; freezes = []; calls = record { site = 2; command = (Seq (MoreCommand (Assign (temp.Named 5) (Sum (MoreExpr (Read (split.Base 2)) (MoreExpr (Read (split.Delta 2 0)) (MoreExpr (Read (split.Delta 2 1)) (MoreExpr (Read (split.Delta 2 2)) NoExpr)))))) NoCommand)) } ∷ record { site = 0; command = (Seq (MoreCommand (Assign (temp.Named 5) (Sum (MoreExpr (Read (split.Base 2)) (MoreExpr (Read (split.Delta 2 0)) (MoreExpr (Read (split.Delta 2 1)) (MoreExpr (Read (split.Delta 2 2)) NoExpr)))))) NoCommand)) } ∷ record { site = 1; command = (Seq (MoreCommand (Assign (temp.Named 9) (Literal (pos 2))) NoCommand)) } ∷ [] }

c31_verdict : verdict_of c31 ≡ (verdict.Size 0)
unfolding definitions meaning_definitions plan_definitions c31
c31_verdict = refl

c32 : Certificate
c32 = record { sites = 1; base = (pos 12) ∷ (negsuc 2) ∷ (pos 0) ∷ (pos 0) ∷ (pos 0) ∷ []; clauses = record { terms = record { delta = record { object = 0; site = 0 }; factor = (negsuc 0) } ∷ []; slack = (pos 11) } ∷ []; bounds = ((pos 11) ∷ []) ∷ []; freezes = []; calls = record { site = 0; command = (Seq (MoreCommand (Seq (MoreCommand (If (MoreTest (Comparison Equal (Sum (MoreExpr (Read (split.Base 0)) (MoreExpr (Read (split.Delta 0 0)) NoExpr))) (Literal (pos 0))) NoTest) (Assign (temp.Fresh 0) (Sum (MoreExpr (Read (split.Base 3)) (MoreExpr (Read (split.Delta 3 0)) NoExpr)))) (Assign (temp.Fresh 0) (Literal (pos 4000000000000000001)))) (MoreCommand (Print (Sum (MoreExpr (Literal (negsuc 8)) (MoreExpr (Neg (Literal (negsuc 8))) (MoreExpr (OfTemp (temp.Fresh 0)) (MoreExpr (Sum (MoreExpr (Read (split.Base 1)) (MoreExpr (Read (split.Delta 1 0)) NoExpr))) NoExpr)))))) NoCommand))) NoCommand)) } ∷ record { site = 0; command = (Seq (MoreCommand (Seq (MoreCommand (If (MoreTest (Comparison Equal (Sum (MoreExpr (Read (split.Base 0)) (MoreExpr (Read (split.Delta 0 0)) NoExpr))) (Literal (pos 0))) NoTest) (Assign (temp.Fresh 0) (Sum (MoreExpr (Read (split.Base 3)) (MoreExpr (Read (split.Delta 3 0)) NoExpr)))) (Assign (temp.Fresh 0) (Literal (pos 0)))) (MoreCommand (Print (Sum (MoreExpr (Literal (negsuc 1)) (MoreExpr (Neg (Literal (negsuc 1))) (MoreExpr (OfTemp (temp.Fresh 0)) (MoreExpr (Sum (MoreExpr (Read (split.Base 1)) (MoreExpr (Read (split.Delta 1 0)) NoExpr))) NoExpr)))))) NoCommand))) NoCommand)) } ∷ record { site = 0; command = (Seq (MoreCommand (Seq (MoreCommand (If (MoreTest (Comparison Equal (Sum (MoreExpr (Read (split.Base 0)) (MoreExpr (Read (split.Delta 0 0)) NoExpr))) (Literal (pos 0))) NoTest) (Assign (temp.Fresh 0) (Sum (MoreExpr (Read (split.Base 3)) (MoreExpr (Read (split.Delta 3 0)) NoExpr)))) (Assign (temp.Fresh 0) (Literal (pos 0)))) (MoreCommand (Print (Sum (MoreExpr (Literal (negsuc 2)) (MoreExpr (Neg (Literal (negsuc 2))) (MoreExpr (OfTemp (temp.Fresh 0)) (MoreExpr (Sum (MoreExpr (Read (split.Base 1)) (MoreExpr (Read (split.Delta 1 0)) NoExpr))) NoExpr)))))) NoCommand))) NoCommand)) } ∷ [] }

c32_verdict : verdict_of c32 ≡ (verdict.Size 0)
unfolding definitions meaning_definitions plan_definitions c32
c32_verdict = refl

c33 : Certificate
c33 = record { sites = 1; base = (pos 4000000000000000001) ∷ (negsuc 2) ∷ (pos 0) ∷ (pos 0) ∷ (pos 0) ∷ []; clauses = record { terms = record { delta = record { object = 0; site = 0 }; factor = (negsuc 0) } ∷ []; slack = (pos 11) } ∷ []; bounds = ((pos 11) ∷ []) ∷ []; freezes = []; calls = record { site = 0; command = (Seq (MoreCommand (Seq (MoreCommand (If (MoreTest (Comparison Equal (Sum (MoreExpr (Read (split.Base 0)) (MoreExpr (Read (split.Delta 0 0)) NoExpr))) (Literal (pos 0))) NoTest) (Assign (temp.Fresh 0) (Sum (MoreExpr (Read (split.Base 3)) (MoreExpr (Read (split.Delta 3 0)) NoExpr)))) (Assign (temp.Fresh 0) (Literal (pos 0)))) (MoreCommand (Print (Sum (MoreExpr (Literal (negsuc 8)) (MoreExpr (Neg (Literal (negsuc 8))) (MoreExpr (OfTemp (temp.Fresh 0)) (MoreExpr (Sum (MoreExpr (Read (split.Base 1)) (MoreExpr (Read (split.Delta 1 0)) NoExpr))) NoExpr)))))) NoCommand))) NoCommand)) } ∷ record { site = 0; command = (Seq (MoreCommand (Seq (MoreCommand (If (MoreTest (Comparison Equal (Sum (MoreExpr (Read (split.Base 0)) (MoreExpr (Read (split.Delta 0 0)) NoExpr))) (Literal (pos 0))) NoTest) (Assign (temp.Fresh 0) (Sum (MoreExpr (Read (split.Base 3)) (MoreExpr (Read (split.Delta 3 0)) NoExpr)))) (Assign (temp.Fresh 0) (Literal (pos 0)))) (MoreCommand (Print (Sum (MoreExpr (Literal (negsuc 1)) (MoreExpr (Neg (Literal (negsuc 1))) (MoreExpr (OfTemp (temp.Fresh 0)) (MoreExpr (Sum (MoreExpr (Read (split.Base 1)) (MoreExpr (Read (split.Delta 1 0)) NoExpr))) NoExpr)))))) NoCommand))) NoCommand)) } ∷ record { site = 0; command = (Seq (MoreCommand (Seq (MoreCommand (If (MoreTest (Comparison Equal (Sum (MoreExpr (Read (split.Base 0)) (MoreExpr (Read (split.Delta 0 0)) NoExpr))) (Literal (pos 0))) NoTest) (Assign (temp.Fresh 0) (Sum (MoreExpr (Read (split.Base 3)) (MoreExpr (Read (split.Delta 3 0)) NoExpr)))) (Assign (temp.Fresh 0) (Literal (pos 0)))) (MoreCommand (Print (Sum (MoreExpr (Literal (negsuc 2)) (MoreExpr (Neg (Literal (negsuc 2))) (MoreExpr (OfTemp (temp.Fresh 0)) (MoreExpr (Sum (MoreExpr (Read (split.Base 1)) (MoreExpr (Read (split.Delta 1 0)) NoExpr))) NoExpr)))))) NoCommand))) NoCommand)) } ∷ [] }

c33_verdict : verdict_of c33 ≡ (verdict.Size 0)
unfolding definitions meaning_definitions plan_definitions c33
c33_verdict = refl

c34 : Certificate
c34 = record { sites = 2; base = (pos 0) ∷ (negsuc 0) ∷ []; clauses = record { terms = record { delta = record { object = 0; site = 0 }; factor = (pos 1) } ∷ record { delta = record { object = 0; site = 1 }; factor = (pos 1) } ∷ []; slack = (pos 0) } ∷ record { terms = record { delta = record { object = 0; site = 0 }; factor = (negsuc 0) } ∷ record { delta = record { object = 0; site = 1 }; factor = (negsuc 0) } ∷ []; slack = (pos 0) } ∷ []; bounds = ((pos 0) ∷ (pos 0) ∷ []) ∷ ((pos 0) ∷ (pos 0) ∷ []) ∷ []; freezes = record { object = 0; site = 1 } ∷ record { object = 1; site = 1 } ∷ []; calls = record { site = 0; command = (Seq (MoreCommand (Seq (MoreCommand (Assign (temp.Fresh 0) (Neg (Literal (pos 11)))) (MoreCommand (If (MoreTest (Comparison LessEqual (Literal (negsuc 14)) (OfTemp (temp.Fresh 0))) (MoreTest (Comparison LessEqual (OfTemp (temp.Fresh 0)) (Literal (negsuc 0))) NoTest)) (If (MoreTest (Comparison Equal (Sum (MoreExpr (Read (split.Base 0)) (MoreExpr (Read (split.Delta 0 0)) (MoreExpr (Read (split.Delta 0 1)) NoExpr)))) (Literal (pos 0))) NoTest) (Seq (MoreCommand (Write (split.Delta 1 0) (Sum (MoreExpr (OfTemp (temp.Fresh 0)) (MoreExpr (Neg (Read (split.Base 1))) (MoreExpr (Neg (Read (split.Delta 1 1))) NoExpr))))) (MoreCommand (Write (split.Delta 0 1) (Sum (MoreExpr (Literal (pos 1)) (MoreExpr (Neg (Read (split.Base 0))) (MoreExpr (Neg (Read (split.Delta 0 1))) NoExpr))))) (MoreCommand (Assign (temp.Named 6) (Literal (pos 1))) NoCommand)))) (Assign (temp.Named 6) (Literal (pos 0)))) (Assign (temp.Named 6) (Literal (pos 0)))) NoCommand))) NoCommand)) } ∷ record { site = 0; command = (Seq (MoreCommand (Seq (MoreCommand (Assign (temp.Fresh 0) (Neg (Literal (pos 2)))) (MoreCommand (If (MoreTest (Comparison LessEqual (Literal (negsuc 14)) (OfTemp (temp.Fresh 0))) (MoreTest (Comparison LessEqual (OfTemp (temp.Fresh 0)) (Literal (negsuc 0))) NoTest)) (If (MoreTest (Comparison Equal (Sum (MoreExpr (Read (split.Base 0)) (MoreExpr (Read (split.Delta 0 0)) (MoreExpr (Read (split.Delta 0 1)) NoExpr)))) (Literal (pos 0))) NoTest) (Seq (MoreCommand (Write (split.Delta 1 0) (Sum (MoreExpr (OfTemp (temp.Fresh 0)) (MoreExpr (Neg (Read (split.Base 1))) (MoreExpr (Neg (Read (split.Delta 1 1))) NoExpr))))) (MoreCommand (Write (split.Delta 0 0) (Sum (MoreExpr (Literal (pos 1)) (MoreExpr (Neg (Read (split.Base 0))) (MoreExpr (Neg (Read (split.Delta 0 1))) NoExpr))))) (MoreCommand (Assign (temp.Named 3) (Literal (pos 1))) NoCommand)))) (Assign (temp.Named 3) (Literal (pos 0)))) (Assign (temp.Named 3) (Literal (pos 0)))) NoCommand))) NoCommand)) } ∷ [] }

c34_verdict : verdict_of c34 ≡ (verdict.Foreign 0)
unfolding definitions meaning_definitions plan_definitions c34
c34_verdict = refl

c35 : Certificate
c35 = record { sites = 2; base = (pos 22) ∷ (pos 0) ∷ (pos 0) ∷ (negsuc 2) ∷ (pos 1000000000000000000) ∷ []; clauses = record { terms = record { delta = record { object = 0; site = 0 }; factor = (negsuc 0) } ∷ record { delta = record { object = 0; site = 1 }; factor = (negsuc 0) } ∷ []; slack = (pos 19) } ∷ record { terms = record { delta = record { object = 0; site = 0 }; factor = (pos 1) } ∷ record { delta = record { object = 0; site = 1 }; factor = (pos 1) } ∷ []; slack = (pos 2) } ∷ []; bounds = ((pos 9) ∷ (pos 10) ∷ []) ∷ ((pos 1) ∷ (pos 1) ∷ []) ∷ []; freezes = []; calls = record { site = 0; command = (Seq (MoreCommand (If (MoreTest (Comparison LessEqual (Literal (pos 1)) (Sum (MoreExpr (Sum (MoreExpr (Read (split.Base 0)) (MoreExpr (Read (split.Delta 0 0)) (MoreExpr (Read (split.Delta 0 1)) NoExpr)))) (MoreExpr (Neg (Literal (pos 2))) NoExpr)))) (MoreTest (Comparison LessEqual (Sum (MoreExpr (Sum (MoreExpr (Read (split.Base 0)) (MoreExpr (Read (split.Delta 0 0)) (MoreExpr (Read (split.Delta 0 1)) NoExpr)))) (MoreExpr (Neg (Literal (pos 2))) NoExpr))) (Literal (pos 22))) NoTest)) (Write (split.Delta 0 1) (Sum (MoreExpr (Sum (MoreExpr (Sum (MoreExpr (Read (split.Base 0)) (MoreExpr (Read (split.Delta 0 0)) (MoreExpr (Read (split.Delta 0 1)) NoExpr)))) (MoreExpr (Neg (Literal (pos 2))) NoExpr))) (MoreExpr (Neg (Read (split.Base 0))) (MoreExpr (Neg (Read (split.Delta 0 0))) NoExpr))))) Skip) NoCommand)) } ∷ [] }

c35_verdict : verdict_of c35 ≡ (verdict.Foreign 0)
unfolding definitions meaning_definitions plan_definitions c35
c35_verdict = refl

c36 : Certificate
c36 = record { sites = 2; base = (pos 0) ∷ (negsuc 2) ∷ []; clauses = []; bounds = []; freezes = record { object = 1; site = 0 } ∷ []; calls = record { site = 1; command = (Seq (MoreCommand (If (MoreTest (Comparison LessEqual (Literal (negsuc 11)) (Sum (MoreExpr (Literal (pos 0)) (MoreExpr (Neg (Literal (pos 3))) NoExpr)))) (MoreTest (Comparison LessEqual (Sum (MoreExpr (Literal (pos 0)) (MoreExpr (Neg (Literal (pos 3))) NoExpr))) (Literal (negsuc 2))) NoTest)) (Write (split.Delta 1 1) (Sum (MoreExpr (Sum (MoreExpr (Literal (pos 0)) (MoreExpr (Neg (Literal (pos 3))) NoExpr))) (MoreExpr (Neg (Read (split.Base 1))) (MoreExpr (Neg (Read (split.Delta 1 0))) NoExpr))))) Skip) NoCommand)) } ∷ record { site = 1; command = (Seq (MoreCommand (If (MoreTest (Comparison LessEqual (Literal (negsuc 11)) (Sum (MoreExpr (Literal (pos 0)) (MoreExpr (Neg (Literal (pos 3))) NoExpr)))) (MoreTest (Comparison LessEqual (Sum (MoreExpr (Literal (pos 0)) (MoreExpr (Neg (Literal (pos 3))) NoExpr))) (Literal (negsuc 2))) NoTest)) (Write (split.Delta 1 0) (Sum (MoreExpr (Sum (MoreExpr (Literal (pos 0)) (MoreExpr (Neg (Literal (pos 3))) NoExpr))) (MoreExpr (Neg (Read (split.Base 1))) (MoreExpr (Neg (Read (split.Delta 1 0))) NoExpr))))) Skip) NoCommand)) } ∷ [] }

c36_verdict : verdict_of c36 ≡ (verdict.Foreign 1)
unfolding definitions meaning_definitions plan_definitions c36
c36_verdict = refl

c37 : Certificate
c37 = record { sites = 2; base = (pos 14) ∷ (pos 0) ∷ (negsuc 0) ∷ (pos 0) ∷ (pos 0) ∷ (pos 0) ∷ (pos 0) ∷ (pos 0) ∷ (pos 0) ∷ (pos 0) ∷ []; clauses = record { terms = record { delta = record { object = 0; site = 0 }; factor = (negsuc 0) } ∷ record { delta = record { object = 0; site = 1 }; factor = (negsuc 0) } ∷ []; slack = (pos 11) } ∷ []; bounds = ((pos 5) ∷ (pos 6) ∷ []) ∷ []; freezes = record { object = 2; site = 0 } ∷ []; calls = record { site = 0; command = (Seq (MoreCommand (Seq (MoreCommand (Assign (temp.Named 12) (Sum (MoreExpr (Read (split.Base 0)) (MoreExpr (Read (split.Delta 0 0)) (MoreExpr (Read (split.Delta 0 1)) NoExpr))))) (MoreCommand (If (MoreTest (Comparison Equal (OfTemp (temp.Named 12)) (Literal (pos 2))) NoTest) (Seq (MoreCommand (If (MoreTest (Comparison LessEqual (Literal (pos 1)) (Sum (MoreExpr (OfTemp (temp.Named 12)) (MoreExpr (Neg (Literal (pos 2))) NoExpr)))) (MoreTest (Comparison LessEqual (Sum (MoreExpr (OfTemp (temp.Named 12)) (MoreExpr (Neg (Literal (pos 2))) NoExpr))) (Literal (pos 16))) NoTest)) (Write (split.Delta 0 0) (Sum (MoreExpr (Sum (MoreExpr (OfTemp (temp.Named 12)) (MoreExpr (Neg (Literal (pos 2))) NoExpr))) (MoreExpr (Neg (Read (split.Base 0))) (MoreExpr (Neg (Read (split.Delta 0 1))) NoExpr))))) Skip) (MoreCommand (Print (Literal (pos 1))) NoCommand))) (Print (Literal (pos 0)))) NoCommand))) NoCommand)) } ∷ record { site = 0; command = (Seq (MoreCommand (Assign (temp.Named 16) (Sum (MoreExpr (Sum (MoreExpr (Read (split.Base 0)) (MoreExpr (Read (split.Delta 0 0)) (MoreExpr (Read (split.Delta 0 1)) NoExpr)))) (MoreExpr (Literal (pos 0)) (MoreExpr (Sum (MoreExpr (Read (split.Base 2)) (MoreExpr (Read (split.Delta 2 0)) (MoreExpr (Read (split.Delta 2 1)) NoExpr)))) NoExpr))))) (MoreCommand (If (MoreTest (Comparison LessEqual (Literal (negsuc 2)) (Neg (Literal (pos 3)))) (MoreTest (Comparison LessEqual (Neg (Literal (pos 3))) (Literal (pos 4))) NoTest)) (Write (split.Delta 2 1) (Sum (MoreExpr (Neg (Literal (pos 3))) (MoreExpr (Neg (Read (split.Base 2))) (MoreExpr (Neg (Read (split.Delta 2 0))) NoExpr))))) Skip) NoCommand))) } ∷ [] }

c37_verdict : verdict_of c37 ≡ (verdict.Foreign 1)
unfolding definitions meaning_definitions plan_definitions c37
c37_verdict = refl

c38 : Certificate
c38 = record { sites = 2; base = (negsuc 4) ∷ (negsuc 2) ∷ []; clauses = []; bounds = []; freezes = record { object = 1; site = 0 } ∷ []; calls = record { site = 1; command = (Seq (MoreCommand (Assign (temp.Named 4) (Literal (negsuc 1))) (MoreCommand (If (MoreTest (Comparison LessEqual (Literal (negsuc 9)) (Literal (negsuc 1))) (MoreTest (Comparison LessEqual (Literal (negsuc 1)) (Literal (negsuc 2))) NoTest)) (Write (split.Delta 1 1) (Sum (MoreExpr (Literal (negsuc 1)) (MoreExpr (Neg (Read (split.Base 1))) (MoreExpr (Neg (Read (split.Delta 1 0))) NoExpr))))) Skip) NoCommand))) } ∷ record { site = 1; command = (Seq (MoreCommand (Assign (temp.Named 4) (Literal (negsuc 8))) (MoreCommand (If (MoreTest (Comparison LessEqual (Literal (negsuc 9)) (Literal (negsuc 8))) (MoreTest (Comparison LessEqual (Literal (negsuc 8)) (Literal (negsuc 2))) NoTest)) (Write (split.Delta 1 0) (Sum (MoreExpr (Literal (negsuc 8)) (MoreExpr (Neg (Read (split.Base 1))) (MoreExpr (Neg (Read (split.Delta 1 0))) NoExpr))))) Skip) NoCommand))) } ∷ [] }

c38_verdict : verdict_of c38 ≡ (verdict.Foreign 1)
unfolding definitions meaning_definitions plan_definitions c38
c38_verdict = refl
