-- Each command has the form that the definition says, part by part.
use Rattle.std.proofs.Common.{◌≡◌, ℕ, false, ◌||◌, map, refl, sym, ap, ◌∙◌, subst, rules, arith}
use Rattle.std.proofs.lemmas.Result.{IfOk-weaker}
use Rattle.homeo_syntax.specs.Key.{definitions as syntax_definitions}
use Rattle.homeo_syntax.specs.Source as s
use Rattle.homeo_syntax.specs.Low as L
use Rattle.homeo_syntax.specs.SourceView.{commands, plain_expr, plain_cond, plain_command, plain_field}
use Rattle.homeo_syntax.specs.LowView.{low_commands, plain_lcond, plain_lcommand}
use Rattle.homeo_syntax.specs.declared.command.Command.TheViews.{the_lemmas}
use Rattle.homeo_syntax.proofs.SourceViews.{plain_Skip, plain_Assign, plain_Write, plain_Print, plain_If, plain_Block, plain_SetField, plain_SetRow, plain_Foreach, plain_Insert, plain_Delete, plain_Update, plain_Abort}
use Rattle.homeo_syntax.proofs.LowViews.{low_Seq, low_Skip, low_If}
use Rattle.homeo_meaning.specs.Key.{definitions as meaning_definitions}
use Rattle.homeo_meaning.specs.Schema.{declared_range}
use Rattle.homeo_meaning.specs.Context.{Spot, Slot, bind, slots, fields, object}
use Rattle.homeo_meaning.specs.Aborts.{holds_abort, hold_abort}
use Rattle.homeo_meaning.specs.LForm.{Lifted, both, lift, lift_cond, visits, guard, clear, form, forms}
use Rattle.homeo_desugar.specs.inner.Key.{definitions}
use Rattle.homeo_desugar.specs.inner.Made.{IsLifted, IsTurned}
use Rattle.homeo_context.specs.Slots.{plain_slot, slots_of, plain_spot}
use Rattle.homeo_context.specs.Contexts.{plain_context}
use Rattle.homeo_context.proofs.SlotLists.{slot_is}
use Rattle.homeo_desugar.specs.inner.Visits.{updating, running, visit_of}
use Rattle.homeo_desugar.proofs.Forms.{loop_formed, or_skip, indexed_as, inserted_as, written_as, set_as, looped_as, ends_as, chosen_formed, forms_step, forms_end, forms_in, command_formed}
use Rattle.homeo_desugar.proofs.Makings.{visits_begin, visit_made, turn_plain, turn_guarded, turn_step, visits_done}
use Rattle.homeo_desugar.proofs.Places.{place_fits}
use Rattle.homeo_desugar.proofs.Rows.{context_bound, bound_fits}
use Rattle.homeo_desugar.proofs.SlotLists.{slot_is_low}
use Rattle.homeo_desugar.specs.declared.making.Making.{Making}
use Rattle.homeo_desugar.proofs.forming.+commands.Goals as goal
use Rattle.homeo_desugar.proofs.forming.+commands.Goals.{form_all-then-guarded, form_all-else-guarded}

pub visit-form_all-requires : goal.visit-form_all-requires
visit-form_all-requires t c =
    (search (rules, the_lemmas), bound_fits c.args.context.now c.with.result c.args.row c.args.slot c.with.ensures.declared c.with.ensures.arguments c.with.ensures.rows c.requires.fits c.requires.low)

pub visit-returns : goal.visit-returns
unfolding definitions meaning_definitions
visit-returns t c =
    let x = plain_context c.args.context.now in
    let inner = plain_context c.with.result in
    let bound = context_bound c.args.context.now c.with.result c.args.row c.args.slot c.with.ensures.declared c.with.ensures.arguments c.with.ensures.rows in
    let slot = plain_slot c.args.slot in
    let cs = commands (map plain_command c.args.body.now) in
    let old = c.args.out.now in
    let mid = c.lift_visit.new.out in
    let new : Making = record { commands = mid.commands; next = c.form_all.new.next } in
    let test = plain_lcond c.in_ok-test.test in
    let formed = forms_in (bind x c.args.row slot) inner cs _ mid.next (low_commands (map plain_lcommand c.in_ok-commands.commands.items)) bound c.in_ok-commands.ensures in
    IfOk-weaker c.choice.result _ _
    (λ r h. visit_made x c.args.row (plain_cond c.args.test.now) (running x c.args.row cs) slot old mid new test _ (plain_lcommand r) c.in_ok-test.ensures (low_Seq c.in_ok-commands.commands ∙ ap L.Seq formed.commands) formed.next refl (or_skip test _ _ h))
    c.choice.ensures

pub take_turn-returns-in_ok-push : goal.take_turn-returns-in_ok-push
unfolding definitions
take_turn-returns-in_ok-push t c =
    let x = plain_context c.args.context.now in
    let tests : Slot → ℕ → Lifted L.Cond = λ slot. lift_cond (bind x c.args.row slot) (plain_cond c.args.test.now) in
    let body = running x c.args.row (commands (map plain_command c.args.body.now)) in
    let slot = plain_slot c.args.slot in
    let now = c.args.out.now in
    let start = c.from-here.result in
    let here = c.visit.new.out in
    let choice = plain_lcommand c.in_ok-choice.choice in
    let lifted : IsLifted start here (visit_of tests body slot now.next) choice = subst (λ n. IsLifted start here (visit_of tests body slot n) choice) c.from-here.ensures.next c.in_ok-choice.ensures in
    subst (λ g. IsTurned g now c.push.new.self (visit_of tests body slot now.next)) (sym c.if-guarded.true)
    (turn_guarded now start here c.push.new.self (visit_of tests body slot now.next) choice (plain_lcommand c.in_ok-all.all) (plain_lcommand c.in_ok-guarded.guarded) c.from-here.ensures.empty lifted c.in_ok-all.ensures c.in_ok-guarded.ensures c.in_ok-push.ensures.pushed c.in_ok-push.ensures.next)

pub take_turn-returns-in_ok-push-2 : goal.take_turn-returns-in_ok-push-2
take_turn-returns-in_ok-push-2 t c =
    let x = plain_context c.args.context.now in
    let v = visit_of (λ slot. lift_cond (bind x c.args.row slot) (plain_cond c.args.test.now)) (running x c.args.row (commands (map plain_command c.args.body.now))) (plain_slot c.args.slot) c.args.out.now.next in
    subst (λ g. IsTurned g c.args.out.now c.push-else-guarded.new.self v) (sym c.if-guarded.false)
    (turn_plain c.args.out.now c.visit-else-guarded.new.out c.push-else-guarded.new.self v (plain_lcommand c.in_ok-choice-2.choice) c.in_ok-choice-2.ensures c.in_ok-push-2.ensures.pushed c.in_ok-push-2.ensures.next)

pub foreach-loop-number-init : goal.foreach-loop-number-init
foreach-loop-number-init t c = visits_begin _ _ _ _ c.args.slots c.from-out.result

pub foreach-take_turn-requires : goal.foreach-take_turn-requires
foreach-take_turn-requires t c =
    (search (rules, the_lemmas), (c.requires.fits, slot_is_low c.args.slots c.loop-number.number c.slot-slot.result c.loop-number-test.true c.requires.slots c.slot-slot.ensures.number c.slot-slot.ensures.used c.slot-slot.ensures.fields))

pub foreach-loop-number-preserved : goal.foreach-loop-number-preserved
foreach-loop-number-preserved t c =
    let x = plain_context c.args.context.now in
    let tests : Slot → ℕ → Lifted L.Cond = λ slot. lift_cond (bind x c.args.row slot) (plain_cond c.args.test.now) in
    let body = running x c.args.row (commands (map plain_command c.args.body.now)) in
    let now = c.loop-number.out in
    let new = c.take_turn.new.out in
    let turned = subst (λ slot. IsTurned c.loop-number.guarded now new (visit_of tests body slot now.next)) (slot_is c.args.slots c.loop-number.number c.slot-slot.result c.slot-slot.ensures.number c.slot-slot.ensures.used c.slot-slot.ensures.fields) c.in_ok-take_turn.ensures in
    turn_step c.loop-number.guarded c.hold_abort-later.result x c.args.row c.loop-number.number (plain_cond c.args.test.now) body c.args.slots c.from-out.result now new _ c.loop-number-test.true turned c.loop-number.invariant

pub foreach-returns : goal.foreach-returns
unfolding definitions
foreach-returns t c =
    let x = plain_context c.args.context.now in
    let tests : Slot → ℕ → Lifted L.Cond = λ slot. lift_cond (bind x c.args.row slot) (plain_cond c.args.test.now) in
    let body = running x c.args.row (commands (map plain_command c.args.body.now)) in
    let made_all = loop_formed c.from-out.result c.loop-number.out c.args.next.now (visits false c.hold_abort-later.result tests body (slots_of c.args.slots)) _ c.from-out.ensures.empty c.from-out.ensures.next
    (visits_done _ _ _ _ c.args.slots c.loop-number.number c.from-out.result c.loop-number.out _ c.loop-number-test.false c.loop-number.invariant) (low_Seq c.loop-number.out.commands) in
    ends_as c.hold_abort-later.result (hold_abort (commands (map plain_command c.args.body.now))) tests body (slots_of c.args.slots) c.loop-number.out.next c.args.next.now _ c.hold_abort-later.ensures made_all

pub form-overflow_cast-object : goal.form-overflow_cast-object
unfolding meaning_definitions
form-overflow_cast-object t c =
    let few = place_fits c.args.context.now.declared.now.schema c.in-Write.object.name c.object-object.result.place c.requires.fits.schema (ap (λ (b : Spot). b.place) c.object-object.ensures) in
    omega (arith, few)

pub form-returns-in-Skip : goal.form-returns-in-Skip
unfolding meaning_definitions
form-returns-in-Skip t c =
    command_formed (plain_context c.args.context.now) c.args.next.now c.args.next.now c.args.c.now s.Skip _ (ap plain_command c.in-Skip.is ∙ plain_Skip) (record { command = low_Skip; next = refl })

pub form-returns-in-Assign : goal.form-returns-in-Assign
form-returns-in-Assign t c =
    IfOk-weaker c.assign.result _ _
    (λ r h. command_formed (plain_context c.args.context.now) _ c.args.next.now c.args.c.now _ (plain_lcommand r) (ap plain_command c.in-Assign.is ∙ plain_Assign c.in-Assign.target c.in-Assign.value) h)
    c.assign.ensures

pub form-returns-in-Print : goal.form-returns-in-Print
form-returns-in-Print t c =
    IfOk-weaker c.print.result _ _
    (λ r h. command_formed (plain_context c.args.context.now) _ c.args.next.now c.args.c.now _ (plain_lcommand r) (ap plain_command c.in-Print.is ∙ plain_Print c.in-Print.value) h)
    c.print.ensures

pub form-returns-in-Write : goal.form-returns-in-Write
unfolding definitions meaning_definitions
form-returns-in-Write t c =
    let x = plain_context c.args.context.now in
    let n = c.args.next.now in
    let o = c.in-Write.object in
    let e = plain_expr c.in-Write.value in
    let after = c.write_to.new.next in
    IfOk-weaker c.write_to.result _ _
    (λ r h. command_formed x after n c.args.c.now (s.Write o e) (plain_lcommand r) (ap plain_command c.in-Write.is ∙ plain_Write o c.in-Write.value) (written_as (plain_spot c.object-object.result) (object x o.name) c.object-object.result.place after (lift x e n) (plain_lcommand r) c.object-object.ensures (ap (λ b. b.place) c.object-object.ensures) h))
    c.write_to.ensures

pub form-returns-in_ok-no-in-If : goal.form-returns-in_ok-no-in-If
unfolding definitions meaning_definitions
form-returns-in_ok-no-in-If t c =
    let x = plain_context c.args.context.now in
    let n = c.args.next.now in
    let b = plain_cond c.in-If.test in
    let yes = plain_command c.deref.result.now in
    let no = plain_command c.deref-in-If.result.now in
    let after = c.form_boxed-in-If.new.next in
    let seen = ap plain_command c.in-If.is ∙ plain_If c.in-If.test c.in-If.yes c.in-If.no ∙ sym (λ i. s.If b (plain_command (c.deref.ensures i)) (plain_command (c.deref-in-If.ensures i))) in
    IfOk-weaker c.in_front.result _ _
    (λ r h. command_formed x after n c.args.c.now (s.If b yes no) (plain_lcommand r) seen (chosen_formed c.from-out.result c.lift_cond.new.out n c.form_boxed.new.next after (lift_cond x b) (form x yes) (form x no) (plain_lcond c.in_ok-test-in-If.test) (plain_lcommand c.in_ok-yes-in-If.yes.value) (plain_lcommand c.in_ok-no-in-If.no.value) _ (plain_lcommand r) c.from-out.ensures.empty c.from-out.ensures.next c.in_ok-test-in-If.ensures c.in_ok-yes-in-If.ensures c.in_ok-no-in-If.ensures (low_If _ _ _) h))
    c.in_front.ensures

pub form-returns-in_ok-commands-in-Block : goal.form-returns-in_ok-commands-in-Block
unfolding definitions meaning_definitions
form-returns-in_ok-commands-in-Block t c =
    let formed = c.in_ok-commands-in-Block.ensures in
    let seen = ap plain_command c.in-Block.is ∙ plain_Block c.in-Block.commands ∙ sym (ap (λ l. s.Block (commands (map plain_command l))) c.as_slice.ensures) in
    command_formed (plain_context c.args.context.now) c.form_all.new.next c.args.next.now c.args.c.now _ _ seen (record { command = low_Seq c.in_ok-commands-in-Block.commands ∙ ap L.Seq formed.commands; next = formed.next })

pub form-returns-in-SetField : goal.form-returns-in-SetField
unfolding definitions meaning_definitions
form-returns-in-SetField t c =
    let x = plain_context c.args.context.now in
    let n = c.args.next.now in
    let q = c.in-SetField.relation in
    let f = c.in-SetField.field in
    let i = plain_expr c.deref-in-SetField.result.now in
    let e = plain_expr c.deref-in-SetField-2.result.now in
    let seen = ap plain_command c.in-SetField.is ∙ plain_SetField q c.in-SetField.index f c.in-SetField.value ∙ sym (λ j. s.SetField q (plain_expr (c.deref-in-SetField.ensures j)) f (plain_expr (c.deref-in-SetField-2.ensures j))) in
    let after = c.set_field.new.next in
    IfOk-weaker c.set_field.result _ _
    (λ r h. command_formed x after n c.args.c.now (s.SetField q i f e) (plain_lcommand r) seen (indexed_as (slots_of c.relation-slots.result) (slots x q.name) (map declared_range c.relation-slots.result.fields.now) (fields x q.name) f.name after (lift x i n) (lift x e) (plain_lcommand r) c.relation-slots.ensures.slots c.relation-slots.ensures.fields h))
    c.set_field.ensures

pub form-returns-in-SetRow : goal.form-returns-in-SetRow
unfolding definitions meaning_definitions
form-returns-in-SetRow t c =
    let x = plain_context c.args.context.now in
    let n = c.args.next.now in
    let row = c.in-SetRow.row in
    let f = c.in-SetRow.field in
    let e = plain_expr c.deref-in-SetRow.result.now in
    let seen = ap plain_command c.in-SetRow.is ∙ plain_SetRow row f c.in-SetRow.value ∙ sym (ap (λ v. s.SetRow row f (plain_expr v)) c.deref-in-SetRow.ensures) in
    let after = c.write_field.new.next in
    IfOk-weaker c.write_field.result _ _
    (λ r h. command_formed x after n c.args.c.now (s.SetRow row f e) (plain_lcommand r) seen (set_as (plain_slot c.row-slot.result) (x.rows row.name) f.name after (lift x e n) (plain_lcommand r) c.row-slot.ensures h))
    c.write_field.ensures

pub form-returns-in-Foreach : goal.form-returns-in-Foreach
unfolding definitions meaning_definitions
form-returns-in-Foreach t c =
    let x = plain_context c.args.context.now in
    let n = c.args.next.now in
    let row = c.in-Foreach.row in
    let q = c.in-Foreach.relation in
    let b = plain_cond c.deref-in-Foreach.result.now in
    let body = commands (map plain_command c.as_slice-in-Foreach.result.now) in
    let after = c.foreach.new.next in
    let seen = ap plain_command c.in-Foreach.is ∙ plain_Foreach row q c.in-Foreach.test c.in-Foreach.body ∙ sym (λ j. s.Foreach row q (plain_cond (c.deref-in-Foreach.ensures j)) (commands (map plain_command (c.as_slice-in-Foreach.ensures j)))) in
    IfOk-weaker c.foreach.result _ _
    (λ r h. command_formed x after n c.args.c.now (s.Foreach row q b body) (plain_lcommand r) seen (looped_as (hold_abort body) (λ slot. lift_cond (bind x row.name slot) b) (running x row.name body) (slots_of c.relation-slots-in-Foreach.result) (slots x q.name) after n (plain_lcommand r) c.relation-slots-in-Foreach.ensures.slots h))
    c.foreach.ensures

pub form-returns-in-Insert : goal.form-returns-in-Insert
unfolding definitions meaning_definitions
form-returns-in-Insert t c =
    let x = plain_context c.args.context.now in
    let n = c.args.next.now in
    let q = c.in-Insert.relation in
    let into = c.in-Insert.into in
    let vs = map plain_field c.as_slice-in-Insert.result.now in
    let after = c.insert.new.next in
    let seen = ap plain_command c.in-Insert.is ∙ plain_Insert q c.in-Insert.fields into ∙ sym (ap (λ l. s.Insert q (map plain_field l) into) c.as_slice-in-Insert.ensures) in
    IfOk-weaker c.insert.result _ _
    (λ r h. command_formed x after n c.args.c.now (s.Insert q vs into) (plain_lcommand r) seen (inserted_as x (slots_of c.relation-slots-in-Insert.result) (slots x q.name) (map declared_range c.relation-slots-in-Insert.result.fields.now) (fields x q.name) into.name after n vs (plain_lcommand r) c.relation-slots-in-Insert.ensures.slots c.relation-slots-in-Insert.ensures.fields h))
    c.insert.ensures

pub form-returns-in-Delete : goal.form-returns-in-Delete
unfolding definitions meaning_definitions
form-returns-in-Delete t c =
    let x = plain_context c.args.context.now in
    let n = c.args.next.now in
    let row = c.in-Delete.row in
    let q = c.in-Delete.relation in
    let b = plain_cond c.in-Delete.test in
    let after = c.delete.new.next in
    IfOk-weaker c.delete.result _ _
    (λ r h. command_formed x after n c.args.c.now (s.Delete row q b) (plain_lcommand r) (ap plain_command c.in-Delete.is ∙ plain_Delete row q c.in-Delete.test) (looped_as false (λ slot. lift_cond (bind x row.name slot) b) clear (slots_of c.relation-slots-in-Delete.result) (slots x q.name) after n (plain_lcommand r) c.relation-slots-in-Delete.ensures.slots h))
    c.delete.ensures

pub form-returns-in-Update : goal.form-returns-in-Update
unfolding definitions meaning_definitions
form-returns-in-Update t c =
    let x = plain_context c.args.context.now in
    let n = c.args.next.now in
    let row = c.in-Update.row in
    let q = c.in-Update.relation in
    let f = c.in-Update.field in
    let b = plain_cond c.deref-in-Update.result.now in
    let e = plain_expr c.deref-in-Update-2.result.now in
    let seen = ap plain_command c.in-Update.is ∙ plain_Update row q c.in-Update.test f c.in-Update.value ∙ sym (λ j. s.Update row q (plain_cond (c.deref-in-Update.ensures j)) f (plain_expr (c.deref-in-Update-2.ensures j))) in
    let after = c.update.new.next in
    IfOk-weaker c.update.result _ _
    (λ r h. command_formed x after n c.args.c.now (s.Update row q b f e) (plain_lcommand r) seen (looped_as false (λ slot. lift_cond (bind x row.name slot) b) (updating x row.name f.name e) (slots_of c.relation-slots-in-Update.result) (slots x q.name) after n (plain_lcommand r) c.relation-slots-in-Update.ensures.slots h))
    c.update.ensures

pub form-returns-in-Abort : goal.form-returns-in-Abort
unfolding meaning_definitions
form-returns-in-Abort t c =
    command_formed (plain_context c.args.context.now) c.args.next.now c.args.next.now c.args.c.now s.Abort _ (ap plain_command c.in-Abort.is ∙ plain_Abort) (record { command = c.set_flag.ensures; next = refl })

pub form_all-loop-c-init : goal.form_all-loop-c-init
unfolding syntax_definitions meaning_definitions
form_all-loop-c-init t c =
    let whole = forms (plain_context c.args.context.now) false (commands (map plain_command c.args.cs.now)) c.args.next.now in
    record { commands = ap (λ l. both (low_commands (map plain_lcommand l.items)) whole.commands) c.new-formed.ensures; next = refl }

pub form_all-loop-c-preserved : goal.form_all-loop-c-preserved
form_all-loop-c-preserved t c =
    let here = holds_abort (plain_command c.c-item.result) in
    let next : c.if-guarded.guarded ≡ c.loop-c.guarded || here = elim c.if-guarded.branch [
      | form_all-then-guarded w ↦ (w.guarded-is ∙ w.if-guarded.true ∙ sym (ap (λ v. v || here) w.if-guarded.true))
      | form_all-else-guarded w ↦ (w.guarded-is ∙ w.holds_abort-guarded.ensures ∙ sym (ap (λ v. v || here) w.if-guarded.false))
    ] in
    forms_step (plain_context c.args.context.now) c.loop-c.guarded c.if-guarded.guarded c.args.cs.now c.loop-c.c-index c.loop-c.next _ c.c-item.result (plain_lcommand c.in_ok-one.one) (guard c.loop-c.guarded (plain_lcommand c.in_ok-one.one)) c.in_ok-guard.field-0 c.loop-c.formed.items c.push.new.self.items _
    c.loop-c-test.true c.c-item.is c.in_ok-one.ensures refl c.in_ok-guard.ensures (ap (λ l. l.items) c.in_ok-push.ensures.ok) next c.loop-c.invariant

pub form_all-returns : goal.form_all-returns
form_all-returns t c =
    forms_end (plain_context c.args.context.now) c.loop-c.guarded c.args.cs.now c.loop-c.c-index c.loop-c.next (low_commands (map plain_lcommand c.loop-c.formed.items)) _ c.loop-c-test.false c.loop-c.invariant
