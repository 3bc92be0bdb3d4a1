-- The measure of a body that is known stands at its place.
use Rattle.std.proofs.Common.{rules, ◌<◌, length, List, sym, ◌∙◌, subst, slice_index_or, Some, IfOk}
use Rattle.homeo_size.specs.declared.measures.Measure.{Measure}
use Rattle.homeo_size.specs.Measured.{IsMeasure}
use Rattle.homeo_meaning.specs.Schema.{schema_of, nat_of}
use Rattle.homeo_rules.specs.inner.Bodies.{call_body, bodies_of, IsPut, form_to}
use Rattle.homeo_rules.specs.inner.Sizes.{workload_of, IsMeasuredAs}
use Rattle.homeo_rules.specs.declared.rules.bodies.MeasuredBody.{MeasuredBody}
use Rattle.homeo_rules.proofs.BodiesMeasured.{any_body, with_old, found_place, measure_there, measure_at}
use Rattle.homeo_rules.proofs.Measured.{body_is, form_is, there}
use Rattle.homeo_rules.proofs.rules.bodies.Bodies.measure.Goals as goal

pub bounds-as_slice-place : goal.bounds-as_slice-place
bounds-as_slice-place c =
    let old = c.args.self.now in
    let body = c.in_ok-body.body in
    subst (λ (l : List Measure). c.in-Some.place < length l) (sym c.as_slice.ensures.value)
    (measure_there (workload_of c.args.measuring.now) (bodies_of old) old.measures.items c.in-Some.place (call_body body) c.requires.bodies.measures (found_place old.bodies.keys c.in-Some.place body c.in-Some.ensures.index))

pub offset_bounds-as_slice-place : goal.offset_bounds-as_slice-place
offset_bounds-as_slice-place c =
    let h = bounds-as_slice-place c in
    let k = c.as_slice.type_inv in
    search rules

pub returns-in-Some-clause-measure : goal.returns-in-Some-clause-measure
returns-in-Some-clause-measure c =
    let m = c.args.measuring.now in
    let w = workload_of m in
    let old = c.args.self.now in
    let body = c.in_ok-body.body in
    let d : Measure = record { size = 0; depth = 0; weight = 0; rows = 0 } in
    let at = found_place old.bodies.keys c.in-Some.place body c.in-Some.ensures.index in
    subst (λ f. IsMeasure (schema_of w) (nat_of w.sites.value) f (slice_index_or c.as_slice.result.now c.in-Some.place d)) (form_is m c.args.call body c.requires.set_up c.requires.named c.in_ok-body.ensures.transaction c.in_ok-body.ensures.args)
    (subst (λ (l : List Measure). IsMeasure (schema_of w) (nat_of w.sites.value) (form_to w (call_body body)) (slice_index_or l c.in-Some.place d)) (sym c.as_slice.ensures.value)
    (measure_at w (bodies_of old) old.measures.items c.in-Some.place (call_body body) d c.requires.bodies.measures at))

pub returns-in-Some-clause-put : goal.returns-in-Some-clause-put
returns-in-Some-clause-put c =
    let m = c.args.measuring.now in
    let old = c.args.self.now in
    let body = c.in_ok-body.body in
    let known = sym (any_body body old.bodies.keys) ∙ sym c.in-Some.ensures.found in
    let d : Measure = record { size = 0; depth = 0; weight = 0; rows = 0 } in
    let is : MeasuredBody = record { place = c.in-Some.place; measure = slice_index_or c.as_slice.result.now c.in-Some.place d } in
    let put : IsPut (bodies_of old) (bodies_of old) (call_body body) (Some is) = (with_old (bodies_of old) (call_body body) known, found_place old.bodies.keys c.in-Some.place body c.in-Some.ensures.index) in
    subst (λ b. IsPut (bodies_of old) (bodies_of old) b (Some is)) (body_is m c.args.call body c.requires.set_up c.requires.named c.in_ok-body.ensures.transaction c.in_ok-body.ensures.args) put

pub measure_new-requires-clause-there : goal.measure_new-requires-clause-there
measure_new-requires-clause-there c =
    there c.args.measuring.now c.args.call c.in_ok-body.body c.requires.set_up c.requires.named c.in_ok-body.ensures.transaction c.in_ok-body.ensures.args

pub measure_new-requires-clause-new : goal.measure_new-requires-clause-new
measure_new-requires-clause-new c = sym (any_body c.in_ok-body.body c.args.self.now.bodies.keys) ∙ sym c.in-None.ensures.found

pub returns-in-None-clause-measure : goal.returns-in-None-clause-measure
returns-in-None-clause-measure c =
    let m = c.args.measuring.now in
    subst (λ f. IfOk c.measure_new.result (IsMeasuredAs (workload_of m) f)) (form_is m c.args.call c.in_ok-body.body c.requires.set_up c.requires.named c.in_ok-body.ensures.transaction c.in_ok-body.ensures.args) c.measure_new.ensures.measure

pub returns-in-None-clause-put : goal.returns-in-None-clause-put
returns-in-None-clause-put c =
    let m = c.args.measuring.now in
    subst (λ b. IfOk c.measure_new.result (IsPut (bodies_of c.args.self.now) (bodies_of c.measure_new.new.self) b)) (body_is m c.args.call c.in_ok-body.body c.requires.set_up c.requires.named c.in_ok-body.ensures.transaction c.in_ok-body.ensures.args) c.measure_new.ensures.put
