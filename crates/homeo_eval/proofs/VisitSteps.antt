-- A loop over the slots of a relation that tests a condition at each.
use Rattle.std.proofs.Common.{◌≡◌, ℕ, ◌+◌, ◌*◌, ◌<◌, ◌≤◌, Bool, true, false, ◌&&◌, List, length, refl, sym, ap, ◌∙◌, subst}
use Rattle.homeo_syntax.specs.Source.{Cond}
use Rattle.homeo_context.specs.declared.slots.Slot as code
use Rattle.homeo_context.specs.declared.slots.Slots.{Slots}
use Rattle.homeo_context.specs.Slots.{plain_slot, slots_of}
use Rattle.homeo_context.proofs.SlotLists.{slot_of, left, slot_is, left_all}
use Rattle.homeo_meaning.specs.Acceptance.{weight_limit}
use Rattle.homeo_meaning.specs.Context.{Context, Slot, bind}
use Rattle.homeo_meaning.specs.Meaning.{State, Run, done, is_used, holds, visit}
use Rattle.homeo_eval.specs.inner.CanRun.{cond_fits, visits_fit}
use Rattle.homeo_eval.specs.inner.Visits.{holds_at, cond_fits_at}
use Rattle.homeo_eval.proofs.SlotSteps.{here_of, VisitStep, visit_step, visit_stop, quiet_step, here_visited, here_passed}

module _ (x : Context) (row : ℕ) (d : Cond) (bodies : Slot → State → Bool) (body : Slot → State → Run) (t : Slots) where
  -- what is left of the relation's slots fits
  abbrev LeftFit : List Slot → State → Type 0
  LeftFit slots s = visits_fit (cond_fits_at weight_limit x row d) bodies (holds_at x row d) body slots s ≡ true

  -- the loop is at a slot of the code
  pub record AtSlot (i : ℕ) (here : code.Slot) (s : State) : Type 0 where
    pub slot : plain_slot here ≡ slot_of t i
    pub step : VisitStep (cond_fits_at weight_limit x row d) bodies (holds_at x row d) body t i s
    pub tested : cond_fits weight_limit (bind x row (plain_slot here)) d s ≡ true

  pub at_slot : (i : ℕ) (here : code.Slot) (s : State) → here.number ≡ i → here.used ≡ t.first + i * (1 + length t.fields.now) →
      here.fields.now ≡ t.fields.now → i < t.count → LeftFit (left t i) s → AtSlot i here s
  at_slot i here s number used fields within fits =
      let slot = slot_is t i here number used fields in
      let step = visit_step (cond_fits_at weight_limit x row d) bodies (holds_at x row d) body t i s within fits in
      record { slot = slot; step = step; tested = ap (λ z. cond_fits weight_limit (bind x row z) d s) slot ∙ step.tested }

  -- whether the slot is visited
  abbrev IsVisited : code.Slot → State → Bool → Type 0
  IsVisited here s b = b ≡ (is_used s (plain_slot here) && holds (bind x row (plain_slot here)) d s)

  visited_of : {i : ℕ} {here : code.Slot} {s : State} {b : Bool} → AtSlot i here s → IsVisited here s b → b ≡ (is_used s (slot_of t i) && holds_at x row d (slot_of t i) s)
  visited_of {s = s} at is = is ∙ ap (λ z. is_used s z && holds (bind x row z) d s) at.slot

  -- the loop is at slot i: so many places are left as there were, and what is left to do comes to the same as all did at the start
  pub record Going (i places_now places_first : ℕ) (s first : State) : Type 0 where
    pub places : places_now ≡ places_first
    pub fits : LeftFit (left t i) s
    pub left : visit (holds_at x row d) body (left t i) s ≡ visit (holds_at x row d) body (left t 0) first

  pub begun : (all : List Slot) (places : ℕ) (s : State) → slots_of t ≡ all → LeftFit all s → Going 0 places places s s
  begun all places s e h = record { places = refl; fits = subst (λ slots. LeftFit slots s) (sym (left_all t ∙ e)) h; left = refl }

  module _ {i m n k : ℕ} {here : code.Slot} {s u first : State} {b : Bool} (so_far : Going i m n s first) (at : AtSlot i here s) (is : IsVisited here s b) (same : k ≡ m) where
    goes_on : done u ≡ here_of (holds_at x row d) body (slot_of t i) s → Going (i + 1) k n u first
    goes_on did =
        let next = quiet_step (cond_fits_at weight_limit x row d) bodies (holds_at x row d) body t i s u at.step did in
        record { places = same ∙ so_far.places; fits = next.fits; left = next.same ∙ so_far.left }

    -- the slot was visited, and nothing was printed
    pub visited : b ≡ true → done u ≡ body (slot_of t i) s → Going (i + 1) k n u first
    visited holds_here did = goes_on (did ∙ sym (here_visited (holds_at x row d) body (slot_of t i) s b (visited_of at is) holds_here))

    -- it was not
    pub passed : b ≡ false → u ≡ s → Going (i + 1) k n u first
    passed fails_here kept = goes_on (ap done kept ∙ sym (here_passed (holds_at x row d) body (slot_of t i) s b (visited_of at is) fails_here))

  -- no slot is left
  pub over : {i m n : ℕ} {s first : State} (all : List Slot) → Going i m n s first → t.count ≤ i → slots_of t ≡ all → done s ≡ visit (holds_at x row d) body all first
  over {i} {m} {n} {s} {first} all so_far end e =
      sym (visit_stop (holds_at x row d) body t i s end) ∙ so_far.left ∙ ap (λ slots. visit (holds_at x row d) body slots first) (left_all t ∙ e)
