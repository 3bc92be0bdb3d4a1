-- One more pick is one more digit.
use Rattle.std.proofs.Common.{◌≤◌, ap, arith}
use Rattle.std.specs.Prelude.{slice_index_or}
use Rattle.std.proofs.Math.Nat.{div-le_self}
use Rattle.std.proofs.lemmas.Nat.{mod_below}
use Rattle.homeo_joint.proofs.Products.{item-is, alike-more, alike_positive}
use Rattle.homeo_joint.proofs.Blocks.{picks-more}
use Rattle.homeo_joint.proofs.choices.picks_at.Goals as goal

pub nonzero_div-before : goal.nonzero_div-before
nonzero_div-before c =
    let so_far = c.loop-rows in
    let within = c.loop-rows-test.true in
    alike_positive c.args.counts.now so_far.rows-index _ c.requires.some within (item-is c.args.counts.now so_far.rows-index 0 _ within) _ so_far.invariant.alike

pub nonzero_rem-before : goal.nonzero_rem-before
nonzero_rem-before c =
    let so_far = c.loop-rows in
    let within = c.loop-rows-test.true in
    alike_positive c.args.counts.now so_far.rows-index _ c.requires.some within (item-is c.args.counts.now so_far.rows-index 0 _ within) _ so_far.invariant.alike

pub loop-rows-preserved : goal.loop-rows-preserved
loop-rows-preserved c =
    let so_far = c.loop-rows in
    let counts = c.args.counts.now in
    let rows = slice_index_or counts so_far.rows-index 0 in
    let there = c.loop-rows-test.true in
    let is = item-is counts so_far.rows-index 0 rows there in
    let within : c.loop-rows.alike ≤ 1024 = so_far.invariant.within in
    let positive = alike_positive counts so_far.rows-index rows c.requires.some there is _ so_far.invariant.alike in
    record {
      alike = alike-more counts so_far.rows-index rows c.requires.some there is _ so_far.invariant.alike;
      within = omega (arith, div-le_self c.loop-rows.alike (slice_index_or c.args.counts.now c.loop-rows.rows-index 0));
      before = mod_below so_far.before _ positive;
      picks =
          picks-more counts so_far.rows-index rows c.requires.some there is _ _
          so_far.invariant.alike within so_far.invariant.before _ _ _ so_far.invariant.picks
          (ap (λ l. l.items) c.in_ok-push.ensures.ok);
    }
