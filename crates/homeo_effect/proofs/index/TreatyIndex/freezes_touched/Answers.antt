-- The numbers that are found are those of the freezes that are touched.
use Rattle.std.proofs.Common.{map, ap, ◌∙◌}
use Rattle.homeo_syntax.specs.LowView.{low_commands, plain_lcommand}
use Rattle.homeo_outline.specs.declared.plan.ObjectPlan.{ObjectPlan}
use Rattle.homeo_effect.proofs.Touching.{index_freezes}
use Rattle.homeo_effect.proofs.index.TreatyIndex.freezes_touched.Goals as goal

pub returns : goal.returns
returns c =
    ap (λ l. l.items) c.from_vec.ensures
    ∙ index_freezes c.self.inside.site c.self.inside.plan.value c.args.self.now c.self.view_is c.deref-2.result.now
    (c.deref-2.ensures ∙ ap (λ (p : ObjectPlan). p.outline.value) c.deref.ensures) (low_commands (map plain_lcommand c.args.commands.now)) c.requires
    c.in_ok-numbers.numbers.items c.in_ok-numbers.ensures.rising c.in_ok-numbers.ensures.all
