-- One more place, and none left.
use Rattle.std.proofs.Common.{rules, ℤ, pos, ◌+◌, SFits, w64, get_or, set, Vec, Global, length, drop, ◌∙◌, ap, subst, sym, arith}
use Rattle.std.proofs.lemmas.Int.{to_z-of_z}
use Rattle.std.proofs.lemmas.List.{length-set}
use Rattle.homeo_site.proofs.LevelLists.{IsLevelBut, place_brought, place_skipped, all_brought}
use Rattle.homeo_site.proofs.own_deltas.bring_level.Goals.{then-place-other, else-place-other}
use Rattle.homeo_site.proofs.own_deltas.bring_level.Goals as goal

pub loop-place-init : goal.loop-place-init
loop-place-init c = record { count = c.requires.count; level = c.requires.places }

pub loop-place-preserved : goal.loop-place-preserved
loop-place-preserved c =
    let places = c.args.places.now in
    let k = c.loop-place.place-index in
    let other = c.args.other.now in
    let list = c.loop-place.list.items in
    let before = c.loop-place.invariant in
    let below = c.loop-place-test.true in
    elim c.if-place-other.branch [
      | then-place-other w ↦
          let is = ap (λ (v : Vec ℤ Global). v.items) w.list-is in
          let p = get_or places k 0 in
          let fits : SFits w64 (get_or other p (pos 0)) = search rules in
          let same = to_z-of_z w64 (get_or other p (pos 0)) fits in
          let brought = place_brought places k other list below before.level (let there = w.if-place-other.true in let count = before.count in omega (arith, there, count)) in
          record {
            count = ap length is ∙ length-set _ _ _ ∙ before.count;
            level = subst (IsLevelBut (drop (k + 1) places) other) (ap (set list p) (sym same) ∙ sym is) brought;
          }
      | else-place-other w ↦
          let is = ap (λ (v : Vec ℤ Global). v.items) w.list-is in
          record {
            count = ap length is ∙ before.count;
            level =
                subst (IsLevelBut (drop (k + 1) places) other) (sym is)
                (place_skipped places k other list below before.level before.count w.if-place-other.false);
          }
    ]

pub returns : goal.returns
returns c =
    all_brought c.args.places.now c.loop-place.place-index c.args.other.now c.loop-place.list.items c.loop-place-test.false
    c.loop-place.invariant.count c.loop-place.invariant.level
