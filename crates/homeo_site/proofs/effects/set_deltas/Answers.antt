-- One write more.
use Rattle.std.proofs.Common.{length, ap, ◌∙◌}
use Rattle.homeo_meaning.specs.Serial.{values_of}
use Rattle.homeo_site.proofs.EffectLists.{set_more, set_all}
use Rattle.homeo_site.proofs.effects.set_deltas.Goals as goal

pub loop-write-init : goal.loop-write-init
loop-write-init c = record {
  count = ap (λ l. length l) c.requires;
  deltas = λ f are n less. ap (λ l. values_of l n) c.requires;
}

pub loop-write-preserved : goal.loop-write-preserved
loop-write-preserved c = record {
  count = c.set_delta.ensures.count ∙ c.loop-write.invariant.count;
  deltas = λ f are.
      set_more c.args.base.now c.args.before.now f c.args.writes.now are c.loop-write.deltas.items _ c.loop-write.write-index _ c.loop-write-test.true
      c.write-item.is c.loop-write.invariant.count c.set_delta.ensures.here c.set_delta.ensures.others (c.loop-write.invariant.deltas f are);
}

pub returns-clause-deltas : goal.returns-clause-deltas
returns-clause-deltas c = λ f are n less.
    c.loop-write.invariant.deltas f are n less
    ∙ set_all c.args.base.now c.args.before.now f c.args.writes.now c.loop-write.write-index n c.loop-write-test.false c.loop-write.auto.write-index-end
