-- The object has the value that its delta was made for.
use Rattle.std.proofs.Common.{rules, refl, ◌∙◌, sym, ap, subst, set, ◌-ℤ◌, FitsSigned, SFits, w64, arith}
use Rattle.std.specs.Int.{int_wrap}
use Rattle.std.proofs.lemmas.Grind.{common_steps}
use Rattle.std.proofs.lemmas.Int.{wrapping_sub_is, SFits-int_wrap}
use Rattle.std.proofs.lemmas.List.{length-set}
use Rattle.homeo_split.specs.States.{temps_of}
use Rattle.homeo_local.specs.inner.Key.{definitions}
use Rattle.homeo_local.specs.inner.Own.{own_with}
use Rattle.homeo_local.proofs.Owns.{set_object, stays_or_fits}
use Rattle.homeo_local.proofs.own.Own.set_object.Goals as goal

pub returns-clause-set : goal.returns-clause-set
unfolding definitions
returns-clause-set c =
    let s = c.args.self.now in
    let base : SFits w64 c.item_or.result = search rules in
    let delta = wrapping_sub_is w64 c.args.v c.item_or.result c.ranges.v base ∙ ap (λ b. int_wrap w64 (c.args.v -ℤ b)) c.item_or.ensures in
    ap (λ d. own_with s.base.now (set s.deltas.items c.args.x d) (temps_of s.temporaries)) delta
    ∙ set_object s.base.now s.deltas.items c.args.x c.args.v c.requires c.ranges.v (temps_of s.temporaries)

pub returns-clause-leads : goal.returns-clause-leads
unfolding definitions
returns-clause-leads c =
    let base : SFits w64 c.item_or.result = search rules in
    let delta = wrapping_sub_is w64 c.args.v c.item_or.result c.ranges.v base in
    record {
      base = refl;
      count = length-set _ _ _;
      keeps = λ n h. grind (arith, common_steps);
      fits = stays_or_fits c.args.self.now.deltas.items c.args.x _ c.requires (subst (FitsSigned w64) (sym delta) (SFits-int_wrap w64 (c.args.v -ℤ c.item_or.result)));
    }
