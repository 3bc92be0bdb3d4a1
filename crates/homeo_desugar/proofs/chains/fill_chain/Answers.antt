-- One slot more is put in front of the chain.
use Rattle.std.proofs.Common.{◌-◌, pos, map, sym, ap, ◌∙◌, subst, arith}
use Rattle.homeo_syntax.specs.LowView.{plain_lcond, plain_lcommand}
use Rattle.homeo_syntax.specs.declared.low.Temp.TheVariants as temp
use Rattle.homeo_meaning.specs.Key.{definitions as meaning_definitions}
use Rattle.homeo_meaning.specs.Context.{Slot}
use Rattle.homeo_meaning.specs.LForm.{read, equal, one_test, fill_chain}
use Rattle.homeo_desugar.specs.inner.Key.{definitions}
use Rattle.homeo_desugar.specs.inner.Made.{plain_target, AreWithin, filled}
use Rattle.homeo_context.proofs.SlotLists.{slot_is, left_none}
use Rattle.homeo_desugar.proofs.SlotChains.{zero_assigned, fill_more}
use Rattle.homeo_desugar.proofs.SlotLists.{all_after}
use Rattle.homeo_desugar.proofs.chains.fill_chain.Goals as goal

pub loop-number-init : goal.loop-number-init
unfolding meaning_definitions
loop-number-init c = record {
  within = omega arith;
  chain = zero_assigned (temp.Named c.args.into) ∙ sym (ap (fill_chain (map plain_target c.args.targets.now) c.args.into) (left_none c.args.slots c.args.slots.count (omega arith)));
}

pub fill-requires-clause-within : goal.fill-requires-clause-within
fill-requires-clause-within c = subst (λ l. AreWithin l c.args.targets.now) (sym c.slot-slot.ensures.fields) c.requires.within

pub loop-number-preserved : goal.loop-number-preserved
unfolding definitions
loop-number-preserved c =
    let slot = slot_is c.args.slots (c.loop-number.number - 1) c.slot-slot.result c.slot-slot.ensures.number c.slot-slot.ensures.used c.slot-slot.ensures.fields in
    let test = c.in_ok-test.ensures ∙ ap one_test (c.equal.ensures ∙ ap (λ e. equal e (pos 0)) (c.read.ensures ∙ ap read (c.used.ensures ∙ ap (λ (x : Slot). x.used) slot))) in
    let here = c.in_ok-filled.ensures ∙ ap (λ s. filled s (map plain_target c.args.targets.now) c.args.into) slot in
    record {
      within = omega (arith, c.loop-number.invariant.within);
      chain =
          fill_more c.args.slots c.loop-number.number (map plain_target c.args.targets.now) c.args.into (plain_lcond c.in_ok-test.test) (plain_lcommand c.in_ok-filled.filled) (plain_lcommand c.loop-number.chain) (plain_lcommand c.in_ok-chain.chain) c.loop-number-test.true c.loop-number.invariant.within c.in_ok-chain.ensures test here c.loop-number.invariant.chain;
    }

pub returns : goal.returns
returns c =
    c.loop-number.invariant.chain ∙ ap (fill_chain (map plain_target c.args.targets.now) c.args.into) (all_after c.args.slots c.loop-number.number c.loop-number-test.false)
