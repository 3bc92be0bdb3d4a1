-- What is kept of transactions with arguments: their L forms, and the measures of these.
use Rattle.std.specs.Prelude.{◌≡◌, ℕ, map, List, [], ◌∷◌, Option, Some, None, slice_get}
use Rattle.homeo_syntax.specs.Low.{Command}
use Rattle.homeo_syntax.specs.LowView.{plain_lcommand}
use Rattle.homeo_syntax.specs.Source as s
use Rattle.homeo_meaning.specs.CallForm.{ground_form}
use Rattle.homeo_meaning.specs.Forms.{CallBody, body_of, body_ground, with_body, bodies_after}
use Rattle.homeo_meaning.specs.Schema.{nat_of, schema_of}
use Rattle.homeo_size.specs.Measured.{IsMeasure}
use Rattle.homeo_size.specs.declared.measures.Measure.{Measure}
use Rattle.homeo_rules.specs.inner.Sizes.{ground_of_call}
use Rattle.homeo_rules.specs.declared.rules.bodies.Body.{Body}
use Rattle.homeo_rules.specs.declared.rules.bodies.Bodies.{Bodies}
use Rattle.homeo_rules.specs.declared.rules.bodies.MeasuredBody.{MeasuredBody}
use Rattle.homeo_rules.specs.declared.rules.sizes.MeasuredCall.{MeasuredCall}

-- what a transaction with its arguments stands for
abbrev pub call_body : Body → CallBody
call_body b = record { transaction = b.transaction; args = b.args.items }

abbrev pub bodies_of : Bodies → List CallBody
bodies_of b = map call_body b.bodies.keys

-- the L form of a transaction with its arguments
abbrev pub form_to : s.Workload → CallBody → Command
form_to w b = ground_form w (body_ground b)

-- each of these has the measure of its L form at its place
abbrev pub HaveMeasures : s.Workload → List CallBody → List Measure → Type 0
HaveMeasures w [] [] = Unit {0}
HaveMeasures w [] (m ∷ ms) = ⊥
HaveMeasures w (b ∷ bs) [] = ⊥
HaveMeasures w (b ∷ bs) (m ∷ ms) = IsMeasure (schema_of w) (nat_of w.sites.value) (form_to w b) m × HaveMeasures w bs ms

pub record AreBodies (w : s.Workload) (b : Bodies) : Type 0 where
  pub forms : map plain_lcommand b.forms.items ≡ map (form_to w) (bodies_of b)
  pub measures : HaveMeasures w (bodies_of b) b.measures.items

-- one that is measured stands among the others, at its place
abbrev pub IsPut : List CallBody → List CallBody → CallBody → Option MeasuredBody → Type 0
IsPut old new b None = Unit {0}
IsPut old new b (Some m) = (new ≡ with_body old b) × (slice_get new m.place ≡ Some b)

-- the place of a call's L form, and 0 where it has none
abbrev pub form_place : Option MeasuredBody → ℕ
form_place (Some m) = m.place
form_place None = 0

-- each call's transaction with arguments stands at its place
abbrev pub ArePlaced : s.Workload → List CallBody → List MeasuredCall → Type 0
ArePlaced w bs [] = Unit {0}
ArePlaced w bs (m ∷ ms) = (slice_get bs (form_place m.body) ≡ Some (body_of (ground_of_call w m))) × ArePlaced w bs ms

-- these are the transactions with arguments of the calls
pub record ArePut (w : s.Workload) (bs : List CallBody) (ms : List MeasuredCall) : Type 0 where
  pub are : bs ≡ bodies_after [] (map (ground_of_call w) ms)
  pub placed : ArePlaced w bs ms
