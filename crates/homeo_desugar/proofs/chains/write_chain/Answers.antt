-- One slot more is put in front of the chain.
use Rattle.std.proofs.Common.{◌-◌, pos, sym, ap, ◌∙◌, arith}
use Rattle.homeo_syntax.specs.Low as L
use Rattle.homeo_syntax.specs.LowView.{plain_lexpr, plain_lcond, plain_lcommand}
use Rattle.homeo_syntax.specs.declared.low.SplitName.TheVariants as split
use Rattle.homeo_syntax.proofs.LowViews.{low_Skip}
use Rattle.homeo_meaning.specs.Key.{definitions as meaning_definitions}
use Rattle.homeo_meaning.specs.Context.{cell}
use Rattle.homeo_meaning.specs.LForm.{equal, one_test, write_chain}
use Rattle.homeo_context.specs.Slots.{plain_spot}
use Rattle.homeo_context.proofs.SlotLists.{slot_is, left_none}
use Rattle.homeo_desugar.proofs.SlotChains.{write_more}
use Rattle.homeo_desugar.proofs.SlotLists.{all_after, slot_is_low}
use Rattle.homeo_desugar.proofs.chains.write_chain.Goals as goal

pub loop-number-init : goal.loop-number-init
unfolding meaning_definitions
loop-number-init c = record {
  within = omega arith;
  chain = low_Skip ∙ sym (ap (write_chain (plain_spot c.args.field) (plain_lexpr c.args.index.now) (plain_lexpr c.args.value.now)) (left_none c.args.slots c.args.slots.count (omega arith)));
}

pub is_slot-requires : goal.is_slot-requires
is_slot-requires c = record {
  low = slot_is_low c.args.slots (c.loop-number.number - 1) c.slot-slot.result (omega (arith, c.loop-number.invariant.within)) c.requires.slots c.slot-slot.ensures.number c.slot-slot.ensures.used c.slot-slot.ensures.fields;
}

pub loop-number-preserved : goal.loop-number-preserved
loop-number-preserved c =
    let slot = slot_is c.args.slots (c.loop-number.number - 1) c.slot-slot.result c.slot-slot.ensures.number c.slot-slot.ensures.used c.slot-slot.ensures.fields in
    let test = c.in_ok-test.ensures ∙ ap (λ n. one_test (equal (plain_lexpr c.args.index.now) (pos n))) c.slot-slot.ensures.number in
    let here = c.cell.ensures ∙ ap (λ s. cell s (plain_spot c.args.field)) slot in
    record {
      within = omega (arith, c.loop-number.invariant.within);
      chain =
          write_more c.args.slots c.loop-number.number (plain_spot c.args.field) (plain_lexpr c.args.index.now) (plain_lexpr c.args.value.now) (plain_lcond c.in_ok-test.test) (plain_lcommand c.in_ok-write.write) (plain_lcommand c.loop-number.chain) (plain_lcommand c.in_ok-chain.chain) c.loop-number-test.true c.loop-number.invariant.within c.in_ok-chain.ensures test (c.in_ok-write.ensures ∙ ap (λ o. L.Write (split.Whole o) (plain_lexpr c.args.value.now)) here) c.loop-number.invariant.chain;
    }

pub returns : goal.returns
returns c =
    c.loop-number.invariant.chain ∙ ap (write_chain (plain_spot c.args.field) (plain_lexpr c.args.index.now) (plain_lexpr c.args.value.now)) (all_after c.args.slots c.loop-number.number c.loop-number-test.false)
