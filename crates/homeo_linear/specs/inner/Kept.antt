-- What keeps a comparison, test or condition as it is at a base.
use Rattle.std.specs.Prelude.{◌≡◌, ℕ, ◌<◌, cond, List, map, length, get_or, negsuc, int_lt, Option, MatchOption, true}
use Rattle.homeo_syntax.specs.declared.phrase.Compare.{Compare}
use Rattle.homeo_syntax.specs.declared.low.LTest.{LTest}
use Rattle.homeo_syntax.specs.Low.{Expr, Cond}
use Rattle.homeo_syntax.specs.LowView.{low_tests, plain_ltest}
use Rattle.homeo_meaning.specs.Meaning.{compared}
use Rattle.homeo_meaning.specs.Small.{IsSmall}
use Rattle.homeo_plan.specs.Atoms.{true_comparison, false_comparison}
use Rattle.homeo_plan.specs.FormSizes.{Numbers, CanForm, CanTest}
use Rattle.homeo_plan.specs.Linear.{Linear, Forms, add_forms, scale_form, form}
use Rattle.homeo_plan.specs.Limit.{form_limit}
use Rattle.homeo_follow.specs.Follow.{passes_by, holds_by}
pub use Rattle.homeo_linear.specs.Kept.{kept_test, kept_cond}

-- the numbers met in the difference of two forms are small
pub record AreApart (a b : Linear) : Type 0 where
  pub left : Numbers (IsSmall form_limit) a
  pub right : Numbers (IsSmall form_limit) b
  pub negated : Numbers (IsSmall form_limit) (scale_form (negsuc 0) b)
  pub apart : Numbers (IsSmall form_limit) (add_forms a (scale_form (negsuc 0) b))

-- whether the comparison holds at the base is seen by the constants of the forms
-- the forms of both sides of a comparison, and their differences
pub record AreSides (f : Forms) (x y : Expr) : Type 0 where
  pub left : CanForm (IsSmall form_limit) f x
  pub right : CanForm (IsSmall form_limit) f y
  pub there : AreApart (form f x) (form f y)
  pub back : AreApart (form f y) (form f x)

abbrev pub kept_comparison : Compare → Linear → Linear → List Linear
kept_comparison op a b =
    cond (compared op a.constant b.constant) (true_comparison op a b) (false_comparison op (int_lt a.constant b.constant) a b)

-- the condition of tests
abbrev pub cond_of : List LTest → Cond
cond_of ts = low_tests (map plain_ltest ts)

-- what keeps the test at place n as it is keeps the whole condition so
pub record Decides (f : Forms) (ts : List LTest) (n : ℕ) : Type 0 where
  pub within : n < length ts
  pub small : (t : LTest) → t ≡ get_or ts n t → CanTest (IsSmall form_limit) f (plain_ltest t)
  pub holds : (t : LTest) → t ≡ get_or ts n t → passes_by f (plain_ltest t) ≡ holds_by f (cond_of ts)
  pub kept : (t : LTest) → t ≡ get_or ts n t → kept_test f (plain_ltest t) ≡ kept_cond f (cond_of ts)

-- a test decides, or all pass
abbrev pub IsDeciding : Forms → List LTest → Option ℕ → Type 0
IsDeciding f ts o = MatchOption o (holds_by f (cond_of ts) ≡ true) (Decides f ts)
