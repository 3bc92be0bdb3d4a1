-- Tests, conditions and visits are spelled again by what is printed for them, where expressions are.
use Rattle.std.proofs.Common.{◌≡◌, List, [], ◌∷◌, ◌++◌, map, refl, ap}
use Rattle.std.specs.List.{flat_map}
use Rattle.homeo_syntax.specs.Key.{definitions as syntax_definitions}
use Rattle.homeo_syntax.specs.declared.token.Mark.TheVariants as mark
use Rattle.homeo_syntax.specs.declared.token.Kind.TheVariants as kind
use Rattle.homeo_syntax.specs.declared.phrase.Ident.{Ident}
use Rattle.homeo_syntax.specs.declared.phrase.Compare.TheVariants as compare
use Rattle.homeo_syntax.specs.Source as s
use Rattle.homeo_syntax.specs.SourceView.{tests}
use Rattle.homeo_syntax.specs.Grammar.{call}
use Rattle.homeo_syntax.specs.Rules as rules
use Rattle.homeo_syntax.specs.Rules.{Test}
use Rattle.homeo_print_workload.specs.Key.{definitions}
use Rattle.homeo_print.specs.Parentheses.{Alone}
use Rattle.homeo_print_workload.specs.TokensOf.{Kinds, comparison_mark, expr_at, test_kinds, cond_kinds, later_tests, rows_kinds}
use Rattle.homeo_print_workload.specs.Offsets.{ident_without, expr_without, test_without, cond_without}
use Rattle.homeo_print_workload.proofs.Claims.{Meaning, Back, back_fixed, back_seq, back_as, back_alt, back_part, back_lead, back_closed, back_many}
use Rattle.homeo_print_workload.proofs.NamesBack.{back_ident}

-- ---- lists
tests_same : (ts : List s.Test) → cond_without (tests ts) ≡ tests (map test_without ts)
unfolding definitions syntax_definitions
tests_same [] = refl
tests_same (t ∷ ts) = ap (s.MoreTest (test_without t)) (tests_same ts)

tests_are : (ts : List s.Test) → flat_map (λ t. kind.Fixed mark.And ∷ test_kinds t) ts ≡ later_tests (tests ts)
unfolding definitions syntax_definitions
tests_are [] = refl
tests_are (t ∷ ts) = ap (λ (x : Kinds). kind.Fixed mark.And ∷ (test_kinds t ++ x)) (tests_are ts)

back_comparison : {M : Meaning} → Back M rules.comparison (λ c. c) (λ c. kind.Fixed (comparison_mark c) ∷ [])
back_comparison =
    back_part
    (back_alt (back_as (λ p. compare.Less) (λ c. c) (λ c. kind.Fixed (comparison_mark c) ∷ []) (λ x. refl) (λ x. refl) (back_fixed mark.Less))
    (back_alt (back_as (λ p. compare.LessEqual) (λ c. c) (λ c. kind.Fixed (comparison_mark c) ∷ []) (λ x. refl) (λ x. refl) (back_fixed mark.LessEqual))
    (back_as (λ p. compare.Equal) (λ c. c) (λ c. kind.Fixed (comparison_mark c) ∷ []) (λ x. refl) (λ x. refl) (back_fixed mark.Equal))))

-- ---- tests
pub cond_step : {M : Meaning} → Back M (call Test) test_without test_kinds → Back M rules.cond cond_without cond_kinds
unfolding definitions syntax_definitions
cond_step test =
    back_part (back_as (λ p. tests (p.0 ∷ p.1)) cond_without cond_kinds (λ p. tests_same (p.0 ∷ p.1)) (λ p. ap (λ (x : Kinds). test_kinds p.0 ++ x) (tests_are p.1))
    (back_seq test (back_many (back_lead mark.And test))))

pub test_step : {M : Meaning} → Back M rules.expr expr_without (expr_at Alone) → Back M (call Test) test_without test_kinds → Back M rules.test test_without test_kinds
unfolding definitions syntax_definitions
test_step expr test =
    back_alt (back_as (λ p. s.True) test_without test_kinds (λ x. refl) (λ x. refl) (back_fixed mark.True))
    (back_alt (back_as s.Not test_without test_kinds (λ x. refl) (λ x. refl) (back_lead mark.Not (back_lead mark.Open (back_closed mark.Close (cond_step test)))))
    (back_as (λ p. s.Comparison p.1.0 p.0 p.1.1) test_without test_kinds (λ x. refl) (λ x. refl) (back_seq expr (back_seq back_comparison expr))))

-- ---- visits
abbrev Visit : Type 0
Visit = Ident × (Ident × s.Cond)

abbrev pub visit_without : Visit → Visit
unfolding definitions
visit_without v = (ident_without v.0, (ident_without v.1.0, cond_without v.1.1))

abbrev pub visit_kinds : Visit → Kinds
unfolding definitions
visit_kinds v = rows_kinds v.0 v.1.0 v.1.1

pub back_visit : {M : Meaning} → Back M rules.cond cond_without cond_kinds → Back M rules.visit visit_without visit_kinds
unfolding definitions
back_visit cond = back_part (back_seq back_ident (back_lead mark.Of (back_seq back_ident (back_lead mark.When cond))))
