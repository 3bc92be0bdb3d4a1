-- One slot more is put in front of the chain.
use Rattle.std.proofs.Common.{◌-◌, pos, sym, ap, ◌∙◌, arith}
use Rattle.homeo_syntax.specs.Low as L
use Rattle.homeo_syntax.specs.LowView.{plain_lexpr, plain_lcond, plain_lcommand}
use Rattle.homeo_syntax.specs.declared.low.Temp.TheVariants as temp
use Rattle.homeo_syntax.proofs.LowViews.{low_Assign}
use Rattle.homeo_meaning.specs.Key.{definitions as meaning_definitions}
use Rattle.homeo_meaning.specs.Context.{cell}
use Rattle.homeo_meaning.specs.LForm.{read, equal, one_test, read_chain}
use Rattle.homeo_context.specs.Slots.{plain_spot}
use Rattle.homeo_context.proofs.SlotLists.{slot_is, left_none}
use Rattle.homeo_desugar.proofs.SlotChains.{zero_assigned, read_more}
use Rattle.homeo_desugar.proofs.SlotLists.{all_after}
use Rattle.homeo_desugar.proofs.chains.read_chain.Goals as goal

pub loop-number-init : goal.loop-number-init
unfolding meaning_definitions
loop-number-init c = record {
  within = omega arith;
  chain = zero_assigned (temp.Fresh c.args.target) ∙ sym (ap (read_chain (plain_spot c.args.field) (plain_lexpr c.args.index.now) c.args.target) (left_none c.args.slots c.args.slots.count (omega arith)));
}

pub loop-number-preserved : goal.loop-number-preserved
loop-number-preserved c =
    let slot = slot_is c.args.slots (c.loop-number.number - 1) c.slot-slot.result c.slot-slot.ensures.number c.slot-slot.ensures.used c.slot-slot.ensures.fields in
    let test = c.in_ok-test.ensures ∙ ap (λ n. one_test (equal (plain_lexpr c.args.index.now) (pos n))) c.slot-slot.ensures.number in
    let value = c.read-value.ensures ∙ ap read (c.cell.ensures ∙ ap (λ s. cell s (plain_spot c.args.field)) slot) in
    record {
      within = omega (arith, c.loop-number.invariant.within);
      chain =
          read_more c.args.slots c.loop-number.number (plain_spot c.args.field) (plain_lexpr c.args.index.now) c.args.target (plain_lcond c.in_ok-test.test) _ (plain_lcommand c.loop-number.chain) (plain_lcommand c.in_ok-chain.chain) c.loop-number-test.true c.loop-number.invariant.within c.in_ok-chain.ensures test (low_Assign _ _ ∙ ap (L.Assign (temp.Fresh c.args.target)) value) c.loop-number.invariant.chain;
    }

pub returns : goal.returns
returns c =
    c.loop-number.invariant.chain ∙ ap (read_chain (plain_spot c.args.field) (plain_lexpr c.args.index.now) c.args.target) (all_after c.args.slots c.loop-number.number c.loop-number-test.false)
