-- The slot that a literal names, or a chain.
use Rattle.std.proofs.Common.{◌≤◌, w64, pos, rules, map, sym, ap, ◌∙◌, subst}
use Rattle.std.specs.Prelude.{option_map}
use Rattle.std.proofs.lemmas.Int.{to_z-of_z}
use Rattle.homeo_syntax.specs.LowView.{plain_lexpr, plain_lcommand}
use Rattle.homeo_syntax.proofs.LowViews.{low_Literal}
use Rattle.homeo_meaning.specs.Key.{definitions as meaning_definitions}
use Rattle.homeo_meaning.specs.Schema.{declared_range}
use Rattle.homeo_meaning.specs.Context.{Spot, cell, slot_at, spot}
use Rattle.homeo_meaning.specs.LForm.{read, fresh, read_slot, read_chain}
use Rattle.homeo_desugar.specs.inner.Key.{definitions}
use Rattle.homeo_context.specs.Slots.{plain_slot, slots_of}
use Rattle.homeo_desugar.proofs.Makings.{indexed_literal, indexed_chain, pushed_after}
use Rattle.homeo_desugar.proofs.Places.{field_within}
use Rattle.homeo_desugar.proofs.SlotLists.{at_one}
use Rattle.homeo_desugar.proofs.lifting.indexed.Goals.{in-Some-at, in-None}
use Rattle.homeo_desugar.proofs.lifting.indexed.Goals as goal

pub cell-requires-clause-low : goal.cell-requires-clause-low
cell-requires-clause-low c = (at_one c.args.slots _ c.at.result c.in-Some-at.slot c.requires.slots c.at.ensures c.in-Some-at.is).low

pub cell-requires-clause-within : goal.cell-requires-clause-within
cell-requires-clause-within c =
    subst (λ n. c.field-field.result.place ≤ n) (sym (at_one c.args.slots _ c.at.result c.in-Some-at.slot c.requires.slots c.at.ensures c.in-Some-at.is).fields) (field_within c.args.slots.fields.now c.args.name c.field-field.result.place (ap (λ (s : Spot). s.place) c.field-field.ensures))

pub read_chain-requires-clause-within : goal.read_chain-requires-clause-within
read_chain-requires-clause-within c = field_within c.args.slots.fields.now c.args.name c.field-field.result.place (ap (λ (s : Spot). s.place) c.field-field.ensures)

pub returns-in-Some : goal.returns-in-Some
unfolding meaning_definitions
returns-in-Some c =
    let f = spot (map declared_range c.args.slots.fields.now) c.args.name in
    let all = slots_of c.args.slots in
    let named = ap (λ v. slot_at v all) (to_z-of_z w64 c.in-Some.number (search rules)) in
    let found = c.at.ensures ∙ named in
    indexed_literal c.args.out.now all f (plain_lexpr c.args.index) (plain_lexpr c.match-at.result) c.in-Some.number (sym c.in-Some.is ∙ c.literal_of.ensures) (elim c.match-at.branch [ in-Some-at w ↦ ap plain_lexpr w.result-is ∙ w.read.ensures ∙ ap read (w.cell.ensures ∙ ap (cell (plain_slot w.in-Some-at.slot)) c.field-field.ensures) ∙ ap (read_slot f) (sym (ap (option_map plain_slot) w.in-Some-at.is) ∙ found) | in-None w ↦ ap plain_lexpr w.result-is ∙ low_Literal (pos 0) ∙ ap (read_slot f) (sym (ap (option_map plain_slot) w.in-None.is) ∙ found) ])

pub returns : goal.returns
unfolding definitions
returns c =
    let f = spot (map declared_range c.args.slots.fields.now) c.args.name in
    let all = slots_of c.args.slots in
    let i = plain_lexpr c.args.index in
    let temp = c.in_ok-temp.ensures.taken in
    let chain = c.in_ok-chain.ensures ∙ (λ j. read_chain (c.field-field.ensures j) i (temp j) all) in
    let pushed = pushed_after c.args.out.now c.fresh.new.self c.push.new.self (plain_lcommand c.in_ok-chain.chain) c.in_ok-temp.ensures.commands c.in_ok-push.ensures.pushed in
    indexed_chain c.args.out.now c.push.new.self all f i (plain_lexpr c.fresh-2.result) (plain_lcommand c.in_ok-chain.chain) (sym c.in_default.is ∙ c.literal_of.ensures) chain (c.fresh-2.ensures ∙ ap fresh temp) pushed (c.in_ok-push.ensures.next ∙ c.in_ok-temp.ensures.next)
