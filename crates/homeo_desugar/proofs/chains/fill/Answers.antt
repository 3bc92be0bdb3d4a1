-- The write of one target more stands behind the others.
use Rattle.std.proofs.Common.{◌≡◌, ℕ, ◌<◌, ◌^◌, pos, suc, ◌+ℤ◌, w64, to_z, of_z, map, ap, ◌∙◌, arith}
use Rattle.std.proofs.lemmas.Int.{ints}
use Rattle.homeo_syntax.specs.Key.{definitions as syntax_definitions}
use Rattle.homeo_syntax.specs.Low as L
use Rattle.homeo_syntax.specs.LowView.{low_commands, plain_lcommand}
use Rattle.homeo_syntax.specs.declared.low.Temp.TheVariants as temp
use Rattle.homeo_syntax.specs.declared.low.SplitName.TheVariants as split
use Rattle.homeo_syntax.proofs.LowViews.{low_Seq, low_Assign, low_Write, low_Literal}
use Rattle.homeo_meaning.specs.Key.{definitions as meaning_definitions}
use Rattle.homeo_meaning.specs.LForm.{both, field_writes}
use Rattle.homeo_desugar.specs.inner.Key.{definitions}
use Rattle.homeo_desugar.specs.inner.Made.{plain_target}
use Rattle.homeo_context.specs.Slots.{plain_slot}
use Rattle.homeo_desugar.specs.declared.making.Target as code
use Rattle.homeo_desugar.proofs.SlotChains.{writes_step, fill_end, place_within}
use Rattle.homeo_desugar.proofs.chains.fill.Goals as goal

next_number : (n : ℕ) → n < 2 ^ 32 → to_z w64 (of_z w64 (to_z w64 (of_z w64 (pos n)) +ℤ pos 1)) ≡ pos (suc n)
next_number n h = omega (arith, ints)

abbrev no_target : code.Target
no_target = record { field = record { place = 0; lo = pos 0; hi = pos 0 }; temp = 0 }

pub loop-target-init : goal.loop-target-init
unfolding meaning_definitions syntax_definitions
loop-target-init c more =
    ap (λ l. both (low_commands (map plain_lcommand l.items)) (field_writes (plain_slot c.args.slot) (map plain_target c.args.targets.now) more)) c.new-commands.ensures

pub cell-object-requires-clause-within : goal.cell-object-requires-clause-within
cell-object-requires-clause-within c = place_within c.args.slot.fields.now c.args.targets.now c.loop-target.target-index no_target c.loop-target-test.true c.requires.within

pub loop-target-preserved : goal.loop-target-preserved
loop-target-preserved c =
    let w = low_Write _ _ ∙ (λ i. L.Write (split.Whole (c.cell-object.ensures i)) (c.fresh.ensures i)) in
    writes_step (plain_slot c.args.slot) c.args.targets.now c.loop-target.target-index no_target c.loop-target.commands.items _ _ c.push.new.self c.loop-target-test.true c.in_ok-push.ensures.ok w c.loop-target.invariant

pub returns : goal.returns
unfolding definitions
returns c =
    let first = low_Write _ _ ∙ (λ i. L.Write (split.Whole (c.used.ensures i)) (low_Literal (pos 1) i)) in
    let last = low_Assign _ _ ∙ ap (L.Assign (temp.Named c.args.into)) (low_Literal _ ∙ ap L.Literal (next_number c.args.slot.number c.requires.low.number)) in
    low_Seq c.push-3.new.self
    ∙ fill_end (plain_slot c.args.slot) c.args.targets.now c.loop-target.target-index c.args.into c.loop-target.commands.items _ _ _ _ c.push-2.new.self c.push-3.new.self c.loop-target-test.false c.in_ok-push-2.ensures.ok c.in_ok-push-3.ensures.ok first last c.loop-target.invariant
