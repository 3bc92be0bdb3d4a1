use Rattle.std.proofs.Common.{◌≡◌, suc, ◌<◌, ◌^◌, pos, map, length, sym, ap, subst, ◌∙◌, arith}
use Rattle.std.proofs.lemmas.Int.{ints}
use Rattle.std.specs.Prelude.{OnOk}
use Rattle.homeo_syntax.specs.SourceView.{plain_field}
use Rattle.homeo_meaning.specs.Key.{definitions}
use Rattle.homeo_meaning.specs.Context.{slots, fields, first_where}
use Rattle.homeo_meaning.specs.Meaning.{settings, is_free, are_within, set_fields, set_object, set_temp}
use Rattle.homeo_context.specs.Contexts.{plain_context}
use Rattle.homeo_eval.specs.inner.States.{state_of}
use Rattle.homeo_context.specs.Slots.{plain_slot}
use Rattle.homeo_eval.specs.inner.Settings.{plain_setting}
use Rattle.homeo_eval.proofs.InsertSteps.{insert_refused, insert_full, insert_filled}
use Rattle.homeo_meaning.proofs.Numbers.{number_fits, next_fits, next_kept}
use Rattle.homeo_eval.proofs.PastObjects.{used_there, free_fits, settings_zero}
use Rattle.homeo_eval.proofs.inserts.insert.Goals as goal

pub returns-then-not-are_within-clause-set : goal.returns-then-not-are_within-clause-set
returns-then-not-are_within-clause-set c =
    let x = plain_context c.args.context.now in
    let s = state_of c.args.state.now in
    let all = slots x c.args.relation in
    let fs = map plain_field c.args.values.now in
    let gs = map plain_setting c.in_ok-settings.settings.items in
    let same = c.in_ok-settings.ensures ∙ ap (λ ds. settings x ds fs s) c.relation-slots.ensures.fields in
    let within = ap (λ l. are_within (map plain_setting l)) (sym c.as_slice.ensures.value) ∙ sym c.are_within.ensures ∙ c.if-not-are_within.true in
    subst (λ u. OnOk c.assign.result (state_of c.assign.new.self ≡ u)) (insert_refused all (settings x (fields x c.args.relation) fs s) gs c.args.target s same within) c.assign.ensures.set

pub set_fields-requires : goal.set_fields-requires
unfolding definitions
set_fields-requires c =
    let x = plain_context c.args.context.now in
    let s = state_of c.args.state.now in
    let all = slots x c.args.relation in
    let fs = map plain_field c.args.values.now in
    let gs = map plain_setting c.in_ok-settings.settings.items in
    let same = c.in_ok-settings.ensures ∙ ap (λ ds. settings x ds fs s) c.relation-slots.ensures.fields in
    let within = ap (λ l. are_within (map plain_setting l)) (sym c.as_slice.ensures.value) ∙ sym c.are_within.ensures ∙ c.if-not-are_within.false in
    let slot = plain_slot c.in-Some.slot in
    let found = sym (c.in-Some.ensures.slot ∙ ap (first_where (is_free s)) c.relation-slots.ensures.slots) in
    let here = c.as_slice-in-Some.ensures.value in
    settings_zero x c.args.relation s slot fs (length c.args.state.now.database.items) c.as_slice-in-Some.result.now c.requires.serves.places (free_fits x c.args.relation s slot found) (ap (map plain_setting) here ∙ same) (ap (λ l. are_within (map plain_setting l)) here ∙ within)

pub set-requires : goal.set-requires
unfolding definitions
set-requires c =
    let x = plain_context c.args.context.now in
    let s = state_of c.args.state.now in
    let all = slots x c.args.relation in
    let fs = map plain_field c.args.values.now in
    let gs = map plain_setting c.in_ok-settings.settings.items in
    let same = c.in_ok-settings.ensures ∙ ap (λ ds. settings x ds fs s) c.relation-slots.ensures.fields in
    let slot = plain_slot c.in-Some.slot in
    let found = sym (c.in-Some.ensures.slot ∙ ap (first_where (is_free s)) c.relation-slots.ensures.slots) in
    used_there x.schema (length c.set_fields.new.state.database.items) c.in-Some.slot.used (c.set_fields.ensures.places ∙ c.requires.serves.places) ((free_fits x c.args.relation s slot found).used (pos 1) (omega (arith, ints)) (omega (arith, ints)))

pub overflow_cast-slot : goal.overflow_cast-slot
unfolding definitions
overflow_cast-slot c =
    let few : c.in-Some.slot.number < 2 ^ 63 = omega (arith, c.in-Some.ensures.number, c.relation-slots.ensures.counted) in number_fits c.in-Some.slot.number few

pub overflow_add-slot : goal.overflow_add-slot
unfolding definitions
overflow_add-slot c =
    let few : suc c.in-Some.slot.number < 2 ^ 63 = omega (arith, c.in-Some.ensures.number, c.relation-slots.ensures.counted) in next_fits c.in-Some.slot.number few

pub returns-in-Some-clause-set : goal.returns-in-Some-clause-set
unfolding definitions
returns-in-Some-clause-set c =
    let x = plain_context c.args.context.now in
    let s = state_of c.args.state.now in
    let all = slots x c.args.relation in
    let fs = map plain_field c.args.values.now in
    let gs = map plain_setting c.in_ok-settings.settings.items in
    let same = c.in_ok-settings.ensures ∙ ap (λ ds. settings x ds fs s) c.relation-slots.ensures.fields in
    let within = ap (λ l. are_within (map plain_setting l)) (sym c.as_slice.ensures.value) ∙ sym c.are_within.ensures ∙ c.if-not-are_within.false in
    let slot = plain_slot c.in-Some.slot in
    let found = sym (c.in-Some.ensures.slot ∙ ap (first_where (is_free s)) c.relation-slots.ensures.slots) in
    let fields_are = c.set_fields.ensures.set ∙ ap (λ l. set_fields slot (map plain_setting l) s) c.as_slice-in-Some.ensures.value in
    let state = c.set.ensures.set ∙ ap (λ u. set_object u c.in-Some.slot.used (pos 1)) fields_are in
    let few : suc c.in-Some.slot.number < 2 ^ 63 = omega (arith, c.in-Some.ensures.number, c.relation-slots.ensures.counted) in
    let number = next_kept c.in-Some.slot.number few in
    let filled = insert_filled all (settings x (fields x c.args.relation) fs s) gs c.args.target s slot same within found in
    subst (λ u. OnOk c.assign-in-Some.result (state_of c.assign-in-Some.new.self ≡ u)) ((λ j. set_temp (state j) c.args.target (number j)) ∙ filled) c.assign-in-Some.ensures.set

pub returns-clause-set : goal.returns-clause-set
returns-clause-set c =
    let x = plain_context c.args.context.now in
    let s = state_of c.args.state.now in
    let all = slots x c.args.relation in
    let fs = map plain_field c.args.values.now in
    let gs = map plain_setting c.in_ok-settings.settings.items in
    let same = c.in_ok-settings.ensures ∙ ap (λ ds. settings x ds fs s) c.relation-slots.ensures.fields in
    let within = ap (λ l. are_within (map plain_setting l)) (sym c.as_slice.ensures.value) ∙ sym c.are_within.ensures ∙ c.if-not-are_within.false in
    let none = sym (c.in-None.ensures.slot ∙ ap (first_where (is_free s)) c.relation-slots.ensures.slots) in
    subst (λ u. OnOk c.assign-in-None.result (state_of c.assign-in-None.new.self ≡ u)) (insert_full all (settings x (fields x c.args.relation) fs s) gs c.args.target s same within none) c.assign-in-None.ensures.set
