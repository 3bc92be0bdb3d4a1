-- The slots of a relation that are left in a loop over them.
use Rattle.std.proofs.Common.{◌≡◌, ℕ, zero, suc, ◌+◌, ◌*◌, ◌-◌, ◌<◌, ◌≤◌, Bool, true, false, cond, ◌&&◌, ◌||◌, ℤ, ◌+ℤ◌, List, [], ◌∷◌, ◌++◌, map, length, refl, sym, ap, ◌∙◌, subst, append-nil, arith}
use Rattle.std.proofs.lemmas.Bool.{and_parts}
use Rattle.std.proofs.lemmas.List.{length-map}
use Rattle.homeo_context.specs.declared.slots.Slot as code
use Rattle.homeo_context.specs.declared.slots.Slots.{Slots}
use Rattle.homeo_meaning.specs.Key.{definitions}
use Rattle.homeo_meaning.specs.Schema.{Declared, declared_range}
use Rattle.homeo_meaning.specs.Context.{Slot, spot, field_cell, slots_from}
use Rattle.homeo_meaning.specs.Meaning.{State, Run, done, after_prints, then_do, is_used, added, visit}
use Rattle.homeo_meaning.specs.Small.{is_small}
use Rattle.homeo_eval.specs.inner.CanRun.{adding_fits, visits_fit}
use Rattle.homeo_eval.specs.inner.States.{run_of}
use Rattle.homeo_context.specs.Slots.{slots_of}
use Rattle.homeo_lform.proofs.ObjectBounds.{Each}
use Rattle.homeo_eval.proofs.Thens.{prints_twice, then_on, then_end, or_on}
use Rattle.homeo_eval.specs.inner.Terms.{term_of}
use Rattle.homeo_eval.specs.declared.phrases.Term.TheVariants.{Field}
use Rattle.homeo_context.proofs.SlotLists.{slot_of, left, left_next, left_none}

-- ---- one more slot of a count or a sum
pub record AddStep (b : ℕ) (tests passes : Slot → Bool) (term : Slot → ℤ) (t : Slots) (i : ℕ) (n : ℤ) : Type 0 where
  pub tested : tests (slot_of t i) ≡ true
  pub small : is_small b (n +ℤ term (slot_of t i)) ≡ true
  pub rest : adding_fits b tests passes term (left t (i + 1)) (cond (passes (slot_of t i)) (n +ℤ term (slot_of t i)) n) ≡ true
  pub same : added passes term (left t (i + 1)) (cond (passes (slot_of t i)) (n +ℤ term (slot_of t i)) n) ≡ added passes term (left t i) n

adds_more : (b : ℕ) (tests passes : Slot → Bool) (term : Slot → ℤ) (slot : Slot) (more : List Slot) (n : ℤ) → adding_fits b tests passes term (slot ∷ more) n ≡ tests slot && (is_small b (n +ℤ term slot) && adding_fits b tests passes term more (cond (passes slot) (n +ℤ term slot) n))
unfolding definitions
adds_more b tests passes term slot more n = refl

added_more : (passes : Slot → Bool) (term : Slot → ℤ) (slot : Slot) (more : List Slot) (n : ℤ) → added passes term (slot ∷ more) n ≡ added passes term more (cond (passes slot) (n +ℤ term slot) n)
unfolding definitions
added_more passes term slot more n = refl

pub add_step : (b : ℕ) (tests passes : Slot → Bool) (term : Slot → ℤ) (t : Slots) (i : ℕ) (n : ℤ) → i < t.count → adding_fits b tests passes term (left t i) n ≡ true → AddStep b tests passes term t i n
add_step b tests passes term t i n h fits =
    let next = left_next t i h in
    let k = and_parts _ _ (sym (adds_more b tests passes term (slot_of t i) (left t (i + 1)) n) ∙ ap (λ l. adding_fits b tests passes term l n) (sym next) ∙ fits) in
    let m = and_parts _ _ k.1 in
    record { tested = k.0; small = m.0; rest = m.1; same = sym (added_more passes term (slot_of t i) (left t (i + 1)) n) ∙ ap (λ l. added passes term l n) (sym next) }

pub add_stop : (passes : Slot → Bool) (term : Slot → ℤ) (t : Slots) (i : ℕ) (n : ℤ) → t.count ≤ i → added passes term (left t i) n ≡ n
unfolding definitions
add_stop passes term t i n h = ap (λ l. added passes term l n) (left_none t i h)

-- a field of each slot, by the field's place
added_fields : (passes : Slot → Bool) (s : State) (f p k first n : ℕ) (ds : List Declared) (z : ℤ) → p ≡ (spot ds f).place → added passes (λ slot. s.database (field_cell slot f)) (slots_from k first ds n) z ≡ added passes (λ slot. s.database (slot.used + 1 + p)) (slots_from k first ds n) z
unfolding definitions
added_fields passes s f p k first zero ds z e = refl
added_fields passes s f p k first (suc n) ds z e =
    let slot : Slot = record { number = k; used = first; fields = ds } in
    let at : s.database (first + 1 + (spot ds f).place) ≡ s.database (first + 1 + p) = ap (λ m. s.database (first + 1 + m)) (sym e) in
    added_fields passes s f p (suc k) (first + (1 + length ds)) n ds (cond (passes slot) (z +ℤ s.database (first + 1 + (spot ds f).place)) z) e
    ∙ ap (λ v. added passes (λ slot. s.database (slot.used + 1 + p)) (slots_from (suc k) (first + (1 + length ds)) ds n) (cond (passes slot) (z +ℤ v) z)) at

adding_fields : (b : ℕ) (tests passes : Slot → Bool) (s : State) (f p k first n : ℕ) (ds : List Declared) (z : ℤ) → p ≡ (spot ds f).place → adding_fits b tests passes (λ slot. s.database (field_cell slot f)) (slots_from k first ds n) z ≡ adding_fits b tests passes (λ slot. s.database (slot.used + 1 + p)) (slots_from k first ds n) z
unfolding definitions
adding_fields b tests passes s f p k first zero ds z e = refl
adding_fields b tests passes s f p k first (suc n) ds z e =
    let slot : Slot = record { number = k; used = first; fields = ds } in
    let at : s.database (first + 1 + (spot ds f).place) ≡ s.database (first + 1 + p) = ap (λ m. s.database (first + 1 + m)) (sym e) in
    ap (λ r. tests slot && (is_small b (z +ℤ s.database (first + 1 + (spot ds f).place)) && r)) (adding_fields b tests passes s f p (suc k) (first + (1 + length ds)) n ds (cond (passes slot) (z +ℤ s.database (first + 1 + (spot ds f).place)) z) e)
    ∙ ap (λ v. tests slot && (is_small b (z +ℤ v) && adding_fits b tests passes (λ slot. s.database (slot.used + 1 + p)) (slots_from (suc k) (first + (1 + length ds)) ds n) (cond (passes slot) (z +ℤ v) z))) at

-- of the relation that a slots is of
pub total_is : (passes : Slot → Bool) (s : State) (f p : ℕ) (t : Slots) (all : List Slot) (z : ℤ) → slots_of t ≡ all → p ≡ (spot (map declared_range t.fields.now) f).place → added passes (term_of (Field p) s) (slots_of t) z ≡ added passes (λ slot. s.database (field_cell slot f)) all z
unfolding definitions
total_is passes s f p t all z e h =
    sym (ap (λ l. added passes (λ slot. s.database (field_cell slot f)) l z) (sym e) ∙ added_fields passes s f p 0 t.first t.count (map declared_range t.fields.now) z h)

pub total_fits : (b : ℕ) (tests passes : Slot → Bool) (s : State) (f p : ℕ) (t : Slots) (all : List Slot) (z : ℤ) → slots_of t ≡ all → p ≡ (spot (map declared_range t.fields.now) f).place → adding_fits b tests passes (λ slot. s.database (field_cell slot f)) all z ≡ true → adding_fits b tests passes (term_of (Field p) s) (slots_of t) z ≡ true
unfolding definitions
total_fits b tests passes s f p t all z e h k =
    sym (ap (λ l. adding_fits b tests passes (λ slot. s.database (field_cell slot f)) l z) (sym e) ∙ adding_fields b tests passes s f p 0 t.first t.count (map declared_range t.fields.now) z h) ∙ k

-- ---- one more visit
-- what a visit of a slot does
abbrev pub here_of : (Slot → State → Bool) → (Slot → State → Run) → Slot → State → Run
unfolding definitions
here_of test body slot s = cond (is_used s slot && test slot s) (body slot s) (done s)

pub record VisitStep (tests bodies test : Slot → State → Bool) (body : Slot → State → Run) (t : Slots) (i : ℕ) (s : State) : Type 0 where
  pub tested : tests (slot_of t i) s ≡ true
  pub fits : bodies (slot_of t i) s ≡ true
  pub rest : ((here_of test body (slot_of t i) s).ended || visits_fit tests bodies test body (left t (i + 1)) (here_of test body (slot_of t i) s).state) ≡ true
  pub same : visit test body (left t i) s ≡ then_do (here_of test body (slot_of t i) s) (visit test body (left t (i + 1)))

visits_more : (tests bodies test : Slot → State → Bool) (body : Slot → State → Run) (slot : Slot) (more : List Slot) (s : State) → visits_fit tests bodies test body (slot ∷ more) s ≡ tests slot s && (bodies slot s && ((here_of test body slot s).ended || visits_fit tests bodies test body more (here_of test body slot s).state))
unfolding definitions
visits_more tests bodies test body slot more s = refl

visit_more : (test : Slot → State → Bool) (body : Slot → State → Run) (slot : Slot) (more : List Slot) (s : State) → visit test body (slot ∷ more) s ≡ then_do (here_of test body slot s) (visit test body more)
unfolding definitions
visit_more test body slot more s = refl

pub visit_step : (tests bodies test : Slot → State → Bool) (body : Slot → State → Run) (t : Slots) (i : ℕ) (s : State) → i < t.count → visits_fit tests bodies test body (left t i) s ≡ true → VisitStep tests bodies test body t i s
visit_step tests bodies test body t i s h fits =
    let next = left_next t i h in
    let k = and_parts _ _ (sym (visits_more tests bodies test body (slot_of t i) (left t (i + 1)) s) ∙ ap (λ l. visits_fit tests bodies test body l s) (sym next) ∙ fits) in
    let m = and_parts _ _ k.1 in
    record { tested = k.0; fits = m.0; rest = m.1; same = ap (λ l. visit test body l s) next ∙ visit_more test body (slot_of t i) (left t (i + 1)) s }

pub visit_stop : (test : Slot → State → Bool) (body : Slot → State → Run) (t : Slots) (i : ℕ) (s : State) → t.count ≤ i → visit test body (left t i) s ≡ done s
unfolding definitions
visit_stop test body t i s h = ap (λ l. visit test body l s) (left_none t i h)

-- a visit that prints nothing
pub record QuietStep (tests bodies test : Slot → State → Bool) (body : Slot → State → Run) (t : Slots) (i : ℕ) (s u : State) : Type 0 where
  pub fits : visits_fit tests bodies test body (left t (i + 1)) u ≡ true
  pub same : visit test body (left t (i + 1)) u ≡ visit test body (left t i) s

quiet_then : (r : Run) → after_prints [] r ≡ r
unfolding definitions
quiet_then r = refl

pub quiet_step : (tests bodies test : Slot → State → Bool) (body : Slot → State → Run) (t : Slots) (i : ℕ) (s u : State) → VisitStep tests bodies test body t i s → done u ≡ here_of test body (slot_of t i) s → QuietStep tests bodies test body t i s u
unfolding definitions
quiet_step tests bodies test body t i s u step e =
    let here : Run = here_of test body (slot_of t i) s in
    let state : u ≡ here.state = ap (λ (r : Run). r.state) e in
    let prints : [] ≡ here.prints = ap (λ (r : Run). r.prints) e in
    let on : here.ended ≡ false = sym (ap (λ (r : Run). r.ended) e) in
    record {
      fits = ap (visits_fit tests bodies test body (left t (i + 1))) state ∙ or_on here.ended _ on step.rest;
      same = sym (quiet_then (visit test body (left t (i + 1)) u)) ∙ (λ j. after_prints (prints j) (visit test body (left t (i + 1)) (state j))) ∙ sym (step.same ∙ then_on here (visit test body (left t (i + 1))) on);
    }

-- a visit that prints
pub record LoudStep (tests bodies test : Slot → State → Bool) (body : Slot → State → Run) (t : Slots) (i : ℕ) (s u : State) (ps qs : List ℤ) : Type 0 where
  pub fits : visits_fit tests bodies test body (left t (i + 1)) u ≡ true
  pub same : after_prints qs (visit test body (left t (i + 1)) u) ≡ after_prints ps (visit test body (left t i) s)

pub loud_step : (tests bodies test : Slot → State → Bool) (body : Slot → State → Run) (t : Slots) (i : ℕ) (s u : State) (ps qs : List ℤ) → VisitStep tests bodies test body t i s → run_of u qs false ≡ after_prints ps (here_of test body (slot_of t i) s) → LoudStep tests bodies test body t i s u ps qs
unfolding definitions
loud_step tests bodies test body t i s u ps qs step e =
    let here : Run = here_of test body (slot_of t i) s in
    let state : u ≡ here.state = ap (λ (r : Run). r.state) e in
    let prints : qs ≡ ps ++ here.prints = ap (λ (r : Run). r.prints) e in
    let on : here.ended ≡ false = sym (ap (λ (r : Run). r.ended) e) in
    record {
      fits = ap (visits_fit tests bodies test body (left t (i + 1))) state ∙ or_on here.ended _ on step.rest;
      same = (λ j. after_prints (prints j) (visit test body (left t (i + 1)) (state j))) ∙ prints_twice ps here.prints (visit test body (left t (i + 1)) here.state)
          ∙ ap (after_prints ps) (sym (step.same ∙ then_on here (visit test body (left t (i + 1))) on));
    }

-- the last visit, which ends the call
pub loud_end : (tests bodies test : Slot → State → Bool) (body : Slot → State → Run) (t : Slots) (i : ℕ) (s u : State) (ps qs : List ℤ) → VisitStep tests bodies test body t i s → run_of u qs true ≡ after_prints ps (here_of test body (slot_of t i) s) → run_of u qs true ≡ after_prints ps (visit test body (left t i) s)
unfolding definitions
loud_end tests bodies test body t i s u ps qs step e =
    let here : Run = here_of test body (slot_of t i) s in
    e ∙ ap (after_prints ps) (sym (step.same ∙ then_end here (visit test body (left t (i + 1))) (sym (ap (λ (r : Run). r.ended) e))))

-- what a visit does where the slot is visited, and where it isn't
pub here_visited : (test : Slot → State → Bool) (body : Slot → State → Run) (slot : Slot) (s : State) (b : Bool) → b ≡ is_used s slot && test slot s → b ≡ true → here_of test body slot s ≡ body slot s
unfolding definitions
here_visited test body slot s b e h = ap (λ v. cond v (body slot s) (done s)) (sym e ∙ h)

pub here_passed : (test : Slot → State → Bool) (body : Slot → State → Run) (slot : Slot) (s : State) (b : Bool) → b ≡ is_used s slot && test slot s → b ≡ false → here_of test body slot s ≡ done s
unfolding definitions
here_passed test body slot s b e h = ap (λ v. cond v (body slot s) (done s)) (sym e ∙ h)

pub loud_stop : (test : Slot → State → Bool) (body : Slot → State → Run) (t : Slots) (i : ℕ) (s : State) (ps : List ℤ) → t.count ≤ i → run_of s ps false ≡ after_prints ps (visit test body (left t i) s)
unfolding definitions
loud_stop test body t i s ps h = sym (ap (after_prints ps) (visit_stop test body t i s h) ∙ (λ j. record { state = s; prints = append-nil ps j; ended = false }))

-- what holds of each slot of a relation
each_from : (P : Slot → Type 0) (n k first : ℕ) (ds : List Declared) → Each P (slots_from k first ds n) → (i : ℕ) → i < n → P (record { number = k + i; used = first + i * (1 + length ds); fields = ds })
unfolding definitions
each_from P zero k first ds h i l = absurd (omega arith)
each_from P (suc n) k first ds h zero l =
    let number : k ≡ k + 0 = omega arith in
    let used : first ≡ first + 0 * (1 + length ds) = omega arith in
    subst P (λ j. record { number = number j; used = used j; fields = ds }) h.0
each_from P (suc n) k first ds h (suc i) l =
    let number : suc k + i ≡ k + suc i = omega arith in
    let used : first + (1 + length ds) + i * (1 + length ds) ≡ first + suc i * (1 + length ds) = omega arith in
    subst P (λ j. record { number = number j; used = used j; fields = ds }) (each_from P n (suc k) (first + (1 + length ds)) ds h.1 i (omega arith))

pub each_slot : (P : Slot → Type 0) (t : Slots) (all : List Slot) → slots_of t ≡ all → Each P all → (i : ℕ) → i < t.count → P (slot_of t i)
unfolding definitions
each_slot P t all e h i l =
    let ds : List Declared = map declared_range t.fields.now in
    let width : length ds ≡ length t.fields.now = length-map t.fields.now declared_range in
    let number : 0 + i ≡ i = omega arith in
    subst P (λ j. record { number = number j; used = t.first + i * (1 + width j); fields = ds }) (each_from P t.count 0 t.first ds (subst (Each P) (sym e) h) i l)
