use Rattle.std.proofs.Common.{rules, length, ap, ◌∙◌}
use Rattle.homeo_syntax.specs.SourceView.{plain_expr}
use Rattle.homeo_meaning.specs.Key.{definitions}
use Rattle.homeo_meaning.specs.Acceptance.{weight_limit}
use Rattle.homeo_meaning.specs.Context.{spot, slots, fields, slot_at}
use Rattle.homeo_meaning.specs.Meaning.{value}
use Rattle.homeo_eval.specs.inner.CanRun.{expr_fits}
use Rattle.homeo_context.specs.Contexts.{plain_context}
use Rattle.homeo_eval.specs.inner.States.{state_of}
use Rattle.homeo_context.specs.Slots.{plain_slot, plain_spot}
use Rattle.homeo_eval.proofs.FieldWrites.{none_here, some_here, slot_fits_value, at_fits, at_zero, slot_written, slot_kept, at_index}
use Rattle.homeo_meaning.proofs.Numbers.{kept_is}
use Rattle.homeo_eval.proofs.changes.set_field.Goals as goal

pub returns-then-slots-eq0-clause-set : goal.returns-then-slots-eq0-clause-set
unfolding definitions
returns-then-slots-eq0-clause-set c =
    let x = plain_context c.args.context.now in
    let s = state_of c.args.state.now in
    let none = none_here c.relation-slots.result (slots x c.args.relation) c.relation-slots.ensures.slots c.if-slots-eq0.true in
    slot_kept s (spot (fields x c.args.relation) c.args.field) _ (value x (plain_expr c.args.e.now) s) (ap (slot_at (value x (plain_expr c.args.index.now) s)) none)

pub value-requires : goal.value-requires
value-requires c =
    some_here c.relation-slots.result _ (expr_fits weight_limit (plain_context c.args.context.now) (plain_expr c.args.index.now) (state_of c.args.state.now)) c.relation-slots.ensures.slots c.if-slots-eq0.false c.requires.index

pub value-v-requires : goal.value-v-requires
value-v-requires c =
    let x = plain_context c.args.context.now in
    let found = at_index _ (value x (plain_expr c.args.index.now) (state_of c.args.state.now)) c.relation-slots.result _ _ c.in-Some.ensures (kept_is c.value.result _ (search rules) c.value.ensures) c.relation-slots.ensures.slots in
    slot_fits_value _ _ (plain_slot c.in-Some.slot) (expr_fits weight_limit x (plain_expr c.args.e.now) (state_of c.args.state.now)) found c.requires.value

pub write_field-requires : goal.write_field-requires
unfolding definitions
write_field-requires c =
    let x = plain_context c.args.context.now in
    let found = at_index _ (value x (plain_expr c.args.index.now) (state_of c.args.state.now)) c.relation-slots.result _ _ c.in-Some.ensures (kept_is c.value.result _ (search rules) c.value.ensures) c.relation-slots.ensures.slots in
    at_zero x c.args.relation c.in-Some.slot c.field.result c.args.field (length c.args.state.now.database.items) (c.field.ensures ∙ ap (λ ds. spot ds c.args.field) c.relation-slots.ensures.fields) (at_fits x c.args.relation _ (plain_slot c.in-Some.slot) found) c.requires.serves.places

pub returns-in-Some-clause-set : goal.returns-in-Some-clause-set
unfolding definitions
returns-in-Some-clause-set c =
    let x = plain_context c.args.context.now in
    let found = at_index _ (value x (plain_expr c.args.index.now) (state_of c.args.state.now)) c.relation-slots.result _ _ c.in-Some.ensures (kept_is c.value.result _ (search rules) c.value.ensures) c.relation-slots.ensures.slots in
    let field = c.field.ensures ∙ ap (λ ds. spot ds c.args.field) c.relation-slots.ensures.fields in
    let kept = kept_is c.value-v.result _ (search rules) c.value-v.ensures in
    c.write_field.ensures.set
    ∙ slot_written (state_of c.args.state.now) (plain_spot c.field.result) _ (plain_slot c.in-Some.slot) _ (value x (plain_expr c.args.e.now) (state_of c.args.state.now)) _ field found kept

pub returns-in_default-clause-set : goal.returns-in_default-clause-set
unfolding definitions
returns-in_default-clause-set c =
    let x = plain_context c.args.context.now in
    let none = at_index _ (value x (plain_expr c.args.index.now) (state_of c.args.state.now)) c.relation-slots.result _ _ c.in_default.ensures (kept_is c.value.result _ (search rules) c.value.ensures) c.relation-slots.ensures.slots in
    slot_kept (state_of c.args.state.now) (spot (fields x c.args.relation) c.args.field) _ (value x (plain_expr c.args.e.now) (state_of c.args.state.now)) none
