-- The L forms of a workload's ground calls, once for each transaction with arguments.
use Rattle.std.specs.Prelude.{◌≡◌, ℕ, ◌==◌, Bool, ◌&&◌, if◌then◌else◌, List, [], ◌∷◌, ◌++◌, map, Some, slice_get, ℤ}
use Rattle.std.specs.Cmp.Lexicographic.{pointwise}
use Rattle.std.specs.List.{list_any}
use Rattle.std.specs.Ordering.{int_eq}
use Rattle.homeo_syntax.specs.Low.{Command}
use Rattle.homeo_syntax.specs.Source as s
use Rattle.homeo_meaning.specs.Key.{definitions}
use Rattle.homeo_meaning.specs.CallForm.{ground_form}
use Rattle.homeo_meaning.specs.Ground.{Ground, grounds}

-- a transaction with its arguments, which the L form of a ground call depends on
pub record CallBody : Type 0 where
  pub transaction : ℕ
  pub args : List ℤ

abbrev pub body_of : Ground → CallBody
body_of g = record { transaction = g.transaction; args = g.args }

abbrev pub body_ground : CallBody → Ground
body_ground b = record { transaction = b.transaction; args = b.args; site = 0 }

abbrev pub same_body : CallBody → CallBody → Bool
same_body a b = (a.transaction == b.transaction) && pointwise int_eq a.args b.args

-- it stands behind the others, unless it is there
abbrev pub with_body : List CallBody → CallBody → List CallBody
with_body bs b = if list_any (same_body b) bs then bs else bs ++ b ∷ []

abbrev pub bodies_after : List CallBody → List Ground → List CallBody
unfolding definitions
bodies_after bs [] = bs
bodies_after bs (g ∷ gs) = bodies_after (with_body bs (body_of g)) gs

-- the L forms of the ground calls, each where it is first called
abbrev pub call_forms : s.Workload → List Command
unfolding definitions
call_forms w = map (λ b. ground_form w (body_ground b)) (bodies_after [] (grounds w))

-- each of these ground calls has its own at its place
abbrev pub HaveForms : s.Workload → List Command → List Ground → List ℕ → Type 0
unfolding definitions
HaveForms w forms [] [] = Unit {0}
HaveForms w forms [] (n ∷ ns) = ⊥
HaveForms w forms (g ∷ gs) [] = ⊥
HaveForms w forms (g ∷ gs) (n ∷ ns) = (slice_get forms n ≡ Some (ground_form w g)) × HaveForms w forms gs ns

-- the forms of the ground calls, among which each of these has its own at its place
pub record AreForms (w : s.Workload) (forms : List Command) (places : List ℕ) : Type 0 where
  pub are : forms ≡ call_forms w
  pub placed : HaveForms w forms (grounds w) places
