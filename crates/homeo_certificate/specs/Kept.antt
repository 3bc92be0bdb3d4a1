-- What keeps a condition as it is where all deltas are 0: differences of forms that have to stay at most 0.
use Rattle.std.specs.Prelude.{cond, List, [], ◌∷◌, ◌++◌, ℤ, pos, negsuc, int_lt}
use Rattle.homeo_syntax.specs.declared.phrase.Compare.{Compare}
use Rattle.homeo_syntax.specs.declared.phrase.Compare.TheVariants.{Less, LessEqual, Equal}
use Rattle.homeo_syntax.specs.Low.{Test, Cond, True, Not, Comparison, NoTest, MoreTest}
use Rattle.homeo_meaning.specs.LowMeaning.{passes, holds}
use Rattle.homeo_plan.specs.Linear.{Linear, add_forms, scale_form, Forms, form}
use Rattle.homeo_plan.specs.Atoms.{difference}
use Rattle.homeo_certificate.specs.Key.{definitions}
use Rattle.homeo_certificate.specs.Met.{at_zero}

-- left - right + more, which has to be at most 0
pub record Atom : Type 0 where
  pub left : Linear
  pub right : Linear
  pub more : ℤ

abbrev pub atom : Linear → Linear → ℤ → Atom
unfolding definitions
atom a b n = record { left = a; right = b; more = n }

-- left - right
abbrev pub gap : Atom → Linear
unfolding definitions
gap a = add_forms a.left (scale_form (negsuc 0) a.right)

abbrev pub form_of : Atom → Linear
unfolding definitions
form_of a = difference a.left a.right a.more

-- of a comparison that is true where all deltas are 0
abbrev pub kept_true : Compare → Linear → Linear → List Atom
unfolding definitions
kept_true Less a b = atom a b (pos 1) ∷ []
kept_true LessEqual a b = atom a b (pos 0) ∷ []
kept_true Equal a b = atom a b (pos 0) ∷ atom b a (pos 0) ∷ []

-- of one that is false there
abbrev pub kept_false : Compare → Linear → Linear → List Atom
unfolding definitions
kept_false Less a b = atom b a (pos 0) ∷ []
kept_false LessEqual a b = atom b a (pos 1) ∷ []
kept_false Equal a b = cond (int_lt a.constant b.constant) (atom a b (pos 1)) (atom b a (pos 1)) ∷ []

abbrev mutual
  unfolding definitions

  -- of tests and conditions that are true there
  pub true_test : Forms → Test → List Atom
  true_test f True = []
  true_test f (Not c) = false_cond f c
  true_test f (Comparison op a b) = kept_true op (form f a) (form f b)

  pub true_cond : Forms → Cond → List Atom
  true_cond f NoTest = []
  true_cond f (MoreTest t c) = true_test f t ++ true_cond f c

  -- of those that are false: of a condition its first test that is false
  pub false_test : Forms → Test → List Atom
  false_test f True = []
  false_test f (Not c) = true_cond f c
  false_test f (Comparison op a b) = kept_false op (form f a) (form f b)

  pub false_cond : Forms → Cond → List Atom
  false_cond f NoTest = []
  false_cond f (MoreTest t c) = cond (passes t (at_zero f)) (false_cond f c) (false_test f t)

-- of a condition as it is
abbrev pub kept : Forms → Cond → List Atom
unfolding definitions
kept f c = cond (holds c (at_zero f)) (true_cond f c) (false_cond f c)
