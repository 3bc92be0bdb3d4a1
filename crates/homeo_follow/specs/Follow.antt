-- A command followed along the branch that it takes at a base, by forms alone: what its tests ask, what it prints and what it
-- writes. A form's constant is its value at the base. A form over whole objects is one of a split database with one site: an
-- object is its base with its delta there (this project's rule).
use Rattle.std.specs.Prelude.{ℕ, Bool, true, cond, not, ◌&&◌, List, [], ◌∷◌, ◌++◌, ℤ, pos, negsuc, int_lt}
use Rattle.homeo_syntax.specs.declared.low.SplitName.{SplitName}
use Rattle.homeo_syntax.specs.declared.low.SplitName.TheVariants as split
use Rattle.homeo_syntax.specs.Low.{Test, Cond, True, Not, Comparison, NoTest, MoreTest, Command, Commands, Skip, Assign, Write, Print, Seq, If, NoCommand, MoreCommand}
use Rattle.homeo_meaning.specs.Meaning.{compared}
use Rattle.homeo_meaning.specs.LowMeaning.{TempAt, BaseAt, DeltaAt, State, location_of, put}
use Rattle.homeo_plan.specs.declared.forms.Delta.{Delta}
use Rattle.homeo_plan.specs.Linear.{Linear, delta_of, add_deltas, support, constant_form, add_forms, scale_form, Forms, form}
use Rattle.homeo_plan.specs.Atoms.{true_comparison, false_comparison}
use Rattle.homeo_follow.specs.Key.{definitions}

-- ---- whether tests pass at the base
abbrev mutual
  unfolding definitions

  pub passes_by : Forms → Test → Bool
  passes_by f True = true
  passes_by f (Not c) = not (holds_by f c)
  passes_by f (Comparison op x y) = compared op (form f x).constant (form f y).constant

  pub holds_by : Forms → Cond → Bool
  holds_by f NoTest = true
  holds_by f (MoreTest t c) = passes_by f t && holds_by f c

-- ---- atoms
abbrev mutual
  unfolding definitions

  -- of a test that passes at the base
  pub passed_test : Forms → Test → List Linear
  passed_test f True = []
  passed_test f (Not c) = failed f c
  passed_test f (Comparison op x y) = true_comparison op (form f x) (form f y)

  -- of one that doesn't
  pub failed_test : Forms → Test → List Linear
  failed_test f True = []
  failed_test f (Not c) = passed f c
  failed_test f (Comparison op x y) =
      false_comparison op (int_lt (form f x).constant (form f y).constant) (form f x) (form f y)

  -- of a condition that holds at the base: those of all its tests
  pub passed : Forms → Cond → List Linear
  passed f NoTest = []
  passed f (MoreTest t c) = passed_test f t ++ passed f c

  -- of one that doesn't: those of its first test that fails there
  pub failed : Forms → Cond → List Linear
  failed f NoTest = []
  failed f (MoreTest t c) = cond (passes_by f t) (failed f c) (failed_test f t)

-- ---- commands
-- the atoms of the tests, the forms of what is printed, the objects that are written, each in order, and the forms after it
pub record Followed : Type 0 where
  pub atoms : List Linear
  pub prints : List Linear
  pub written : List ℕ
  pub forms : Forms

-- where nothing is asked, printed or written
abbrev pub nothing : Forms → Followed
unfolding definitions
nothing f = record { atoms = []; prints = []; written = []; forms = f }

-- atoms that are asked first
abbrev pub asked : List Linear → Followed → Followed
unfolding definitions
asked atoms r = record { atoms = atoms ++ r.atoms; prints = r.prints; written = r.written; forms = r.forms }

-- one command's before another's
abbrev pub and_then : Followed → Followed → Followed
unfolding definitions
and_then q r = record { atoms = q.atoms ++ r.atoms; prints = q.prints ++ r.prints; written = q.written ++ r.written; forms = r.forms }

-- the object that a name names
abbrev pub object_of : SplitName → ℕ
unfolding definitions
object_of (split.Whole x) = x
object_of (split.Base x) = x
object_of (split.Delta x j) = x

abbrev mutual
  unfolding definitions

  pub follow : Command → Forms → Followed
  follow Skip f = nothing f
  follow (Assign t e) f = nothing (put f (TempAt t) (form f e))
  follow (Write x e) f = record { atoms = []; prints = []; written = object_of x ∷ []; forms = put f (location_of x) (form f e) }
  follow (Print e) f = record { atoms = []; prints = form f e ∷ []; written = []; forms = f }
  follow (Seq cs) f = follow_all cs f
  follow (If b c d) f = cond (holds_by f b) (asked (passed f b) (follow c f)) (asked (failed f b) (follow d f))

  pub follow_all : Commands → Forms → Followed
  follow_all NoCommand f = nothing f
  follow_all (MoreCommand c cs) f = and_then (follow c f) (follow_all cs (follow c f).forms)

-- ---- over whole objects
-- the delta of an object at the one site
abbrev pub object_delta : ℕ → Delta
unfolding definitions
object_delta x = delta_of x 0

-- an object with this base
abbrev pub object_form : ℤ → ℕ → Linear
unfolding definitions
object_form n x = record { constant = n; terms = record { delta = object_delta x; factor = pos 1 } ∷ []; mixed = [] }

-- the deltas of objects, whatever the site: those of one site alone
abbrev pub own_state : (ℕ → ℤ) → State
own_state x (TempAt t) = pos 0
own_state x (BaseAt n) = pos 0
own_state x (DeltaAt n j) = x n

-- at a base b: temporaries are 0, and objects whole
abbrev pub object_forms : (ℕ → ℤ) → Forms
unfolding definitions
object_forms b (TempAt t) = constant_form (pos 0)
object_forms b (BaseAt x) = object_form (b x) x
object_forms b (DeltaAt x j) = constant_form (pos 0)

-- a command over whole objects at a base
abbrev pub followed : (ℕ → ℤ) → Command → Followed
unfolding definitions
followed b c = follow c (object_forms b)

-- ---- needs
-- what an object with this base gains where this form is written to it
abbrev pub gain : ℤ → ℕ → Linear → Linear
unfolding definitions
gain n x a = add_forms (scale_form (negsuc 0) (object_form n x)) a

-- what the forms of prints depend on, beside others
abbrev pub print_needs : List Linear → List Delta → List Delta
unfolding definitions
print_needs [] ds = ds
print_needs (p ∷ ps) ds = add_deltas (support p) (print_needs ps ds)

-- what the gains of these objects depend on
abbrev pub write_needs : (ℕ → ℤ) → Forms → List ℕ → List Delta
unfolding definitions
write_needs b f [] = []
write_needs b f (x ∷ xs) = add_deltas (support (gain (b x) x (f (BaseAt x)))) (write_needs b f xs)

-- what a command depends on, so that the deltas of other sites have to be 0 there
abbrev pub needed : (ℕ → ℤ) → Followed → List Delta
unfolding definitions
needed b r = print_needs r.prints (write_needs b r.forms r.written)
