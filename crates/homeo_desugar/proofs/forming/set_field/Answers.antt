-- A write to the slot that a literal names, or a chain.
use Rattle.std.proofs.Common.{◌≡◌, ◌≤◌, ℕ, w64, Option, Some, None, Result, List, IfOk, map, rules, refl, sym, ap, ◌∙◌, subst}
use Rattle.std.specs.Prelude.{option_map}
use Rattle.std.proofs.lemmas.Int.{to_z-of_z}
use Rattle.std.proofs.lemmas.Result.{IfOk-weaker}
use Rattle.homeo_syntax.specs.Low as L
use Rattle.homeo_syntax.specs.SourceView.{plain_expr}
use Rattle.homeo_syntax.specs.LowView.{plain_lexpr, plain_lcommand}
use Rattle.homeo_syntax.specs.declared.low.LCommand.{LCommand}
use Rattle.homeo_syntax.specs.declared.list.Memory.{Memory}
use Rattle.homeo_syntax.proofs.LowViews.{low_Skip}
use Rattle.homeo_meaning.specs.Key.{definitions as meaning_definitions}
use Rattle.homeo_meaning.specs.Schema.{declared_range}
use Rattle.homeo_meaning.specs.Context.{Spot, Slot, spot, slot_at}
use Rattle.homeo_meaning.specs.LForm.{Lifted, lift, within, write_at, write_indexed, write_chain}
use Rattle.homeo_desugar.specs.inner.Made.{IsFormed}
use Rattle.homeo_context.specs.Slots.{plain_slot, slots_of, plain_spot}
use Rattle.homeo_context.specs.Contexts.{plain_context}
use Rattle.homeo_desugar.proofs.Forms.{write_as, write_literal, write_by_chain}
use Rattle.homeo_desugar.proofs.Places.{field_within}
use Rattle.homeo_desugar.proofs.SlotLists.{at_one}
use Rattle.homeo_desugar.proofs.forming.set_field.Goals.{in-Some-at, in-None}
use Rattle.homeo_desugar.proofs.forming.set_field.Goals as goal

by_result : (x : Lifted L.Expr) (y : ℕ → Lifted L.Expr) (all : List Slot) (f : Spot) (r same : Result LCommand Memory) (after next : ℕ) → r ≡ same → after ≡ next → IfOk same (λ c. IsFormed next (write_indexed all f x y) (plain_lcommand c)) → IfOk r (λ c. IsFormed after (write_indexed all f x y) (plain_lcommand c))
by_result x y all f r same after next e h k =
    subst (λ o. IfOk o (λ c. IsFormed after (write_indexed all f x y) (plain_lcommand c))) (sym e) (subst (λ n. IfOk same (λ c. IsFormed n (write_indexed all f x y) (plain_lcommand c))) (sym h) k)

pub cell-requires-clause-low : goal.cell-requires-clause-low
cell-requires-clause-low c = (at_one c.args.slots _ c.at.result c.in-Some-at.slot c.requires.slots c.at.ensures c.in-Some-at.is).low

pub cell-requires-clause-within : goal.cell-requires-clause-within
cell-requires-clause-within c =
    subst (λ n. c.field-field.result.place ≤ n) (sym (at_one c.args.slots _ c.at.result c.in-Some-at.slot c.requires.slots c.at.ensures c.in-Some-at.is).fields) (field_within c.args.slots.fields.now c.args.name c.field-field.result.place (ap (λ (s : Spot). s.place) c.field-field.ensures))

pub write_by_index-requires-clause-within : goal.write_by_index-requires-clause-within
write_by_index-requires-clause-within c = field_within c.args.slots.fields.now c.args.name c.field-field.result.place (ap (λ (s : Spot). s.place) c.field-field.ensures)

pub returns-in-Some : goal.returns-in-Some
unfolding meaning_definitions
returns-in-Some c =
    let x = plain_context c.args.context.now in
    let n = c.args.next.now in
    let all = slots_of c.args.slots in
    let f = spot (map declared_range c.args.slots.fields.now) c.args.name in
    let out = c.lift.new.out in
    let index : ℕ → Lifted L.Expr = lift x (plain_expr c.args.index.now) in
    let value : ℕ → Lifted L.Expr = lift x (plain_expr c.args.value.now) in
    let literal = sym c.in-Some.is ∙ c.literal_of.ensures in
    let named = ap (λ v. slot_at v all) (to_z-of_z w64 c.in-Some.number (search rules)) in
    let found = sym (c.at.ensures ∙ named) in
    let formed : (o : Option Slot) (after : ℕ) (r : L.Command) → slot_at c.in-Some.number all ≡ o → IsFormed after (write_at o f out.next value) r → IsFormed after (write_indexed all f (index n) value) r =
    λ o after r is h. write_literal c.from-out.result out n after index value all f (plain_lexpr c.in_ok-index.index) r c.in-Some.number o c.from-out.ensures.next c.in_ok-index.ensures literal is h in
    elim c.match-at.branch [ in-Some-at w ↦ by_result (index n) value all f c.match-at.result w.write_to.result c.match-at.next w.write_to.new.next w.result-is w.next-is (IfOk-weaker w.write_to.result _ _ (λ r h. formed (Some (plain_slot w.in-Some-at.slot)) w.write_to.new.next (plain_lcommand r) (found ∙ ap (option_map plain_slot) w.in-Some-at.is) (write_as (plain_slot w.in-Some-at.slot) f w.cell.result _ (plain_spot c.field-field.result) (value out.next) (plain_lcommand r) c.field-field.ensures w.cell.ensures h)) w.write_to.ensures) | in-None w ↦ by_result (index n) value all f c.match-at.result _ c.match-at.next out.next w.result-is w.next-is (formed None out.next _ (found ∙ ap (option_map plain_slot) w.in-None.is) (record { command = low_Skip; next = refl })) ]

pub returns : goal.returns
returns c =
    let x = plain_context c.args.context.now in
    let all = slots_of c.args.slots in
    let f = spot (map declared_range c.args.slots.fields.now) c.args.name in
    let i = plain_lexpr c.in_ok-index.index in
    let v = plain_lexpr c.in_ok-value.value in
    let write = c.in_ok-write.ensures ∙ ap (λ b. L.If (within b v L.NoTest) (write_chain b i v all) L.Skip) c.field-field.ensures in
    IfOk-weaker c.in_front.result _ _
    (λ r h. write_by_chain c.from-out.result c.lift.new.out c.lift-2.new.out c.args.next.now (lift x (plain_expr c.args.index.now)) (lift x (plain_expr c.args.value.now)) all f i v _ (plain_lcommand r) c.from-out.ensures.empty c.from-out.ensures.next c.in_ok-index.ensures c.in_ok-value.ensures (sym c.in_default.is ∙ c.literal_of.ensures) write h)
    c.in_front.ensures
