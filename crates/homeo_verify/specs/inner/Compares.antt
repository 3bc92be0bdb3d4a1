-- Comparisons of forms that keep a condition as it is where all deltas are 0.
use Rattle.std.specs.Prelude.{◌≡◌, cond, List}
use Rattle.std.specs.List.{flat_map}
use Rattle.homeo_syntax.specs.Low.{Test}
use Rattle.homeo_meaning.specs.LowMeaning.{passes}
use Rattle.homeo_meaning.specs.Small.{IsSmall}
use Rattle.homeo_plan.specs.Each.{Each}
use Rattle.homeo_plan.specs.FormSizes.{Numbers}
use Rattle.homeo_plan.specs.Limit.{form_limit}
use Rattle.homeo_plan.specs.Linear.{Forms}
use Rattle.homeo_certificate.specs.Met.{at_zero}
use Rattle.homeo_certificate.specs.Kept.{Atom, kept_true, kept_false, true_test, false_test}
use Rattle.homeo_verify.specs.declared.conditions.Compared.{Compared}

-- what keeps a comparison as it is
abbrev pub atoms_of : Compared → List Atom
atoms_of c = cond c.holds (kept_true c.op c.left c.right) (kept_false c.op c.left c.right)

-- no number of its sides is too large
pub record AreSmall (c : Compared) : Type 0 where
  pub left : Numbers (IsSmall form_limit) c.left
  pub right : Numbers (IsSmall form_limit) c.right

-- these comparisons give the atoms
pub record Give (cs : List Compared) (kept : List Atom) : Type 0 where
  pub atoms : flat_map atoms_of cs ≡ kept
  pub small : Each AreSmall cs

-- what keeps a test as it is
abbrev pub kept_in_test : Forms → Test → List Atom
kept_in_test f t = cond (passes t (at_zero f)) (true_test f t) (false_test f t)
