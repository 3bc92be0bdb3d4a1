-- The L forms that were made so far, each with what it depends on.
use Rattle.std.specs.Prelude.{◌≡◌, ℕ, List, [], ◌∷◌, map, Some, slice_get}
use Rattle.homeo_syntax.specs.Low.{Command}
use Rattle.homeo_syntax.specs.LowView.{plain_lcommand}
use Rattle.homeo_syntax.specs.Source as s
use Rattle.homeo_meaning.specs.CallForm.{ground_form}
use Rattle.homeo_meaning.specs.Forms.{CallBody}
use Rattle.homeo_meaning.specs.Ground.{Ground}
use Rattle.homeo_build.specs.declared.forms.Bodies.{Bodies}
use Rattle.homeo_build.specs.declared.forms.Body.{Body}

-- what a transaction with its arguments stands for
abbrev pub call_body : Body → CallBody
call_body b = record { transaction = b.transaction; args = b.args.items }

-- the ground call of a transaction with its arguments at the first site
abbrev pub ground_to : Body → Ground
ground_to b = record { transaction = b.transaction; args = b.args.items; site = 0 }

-- each of these has the form at its place
abbrev pub HaveBodies : s.Workload → List Body → List Command → Type 0
HaveBodies w [] [] = Unit {0}
HaveBodies w [] (f ∷ fs) = ⊥
HaveBodies w (b ∷ bs) [] = ⊥
HaveBodies w (b ∷ bs) (f ∷ fs) = (f ≡ ground_form w (ground_to b)) × HaveBodies w bs fs

abbrev pub AreBodies : s.Workload → Bodies → Type 0
AreBodies w b = HaveBodies w b.bodies.keys (map plain_lcommand b.forms.items)

-- what stands at a place of the one list stands there in the other
abbrev pub StayPlaced : List Command → List Command → Type 0
StayPlaced old new = (n : ℕ) (f : Command) → slice_get old n ≡ Some f → slice_get new n ≡ Some f
