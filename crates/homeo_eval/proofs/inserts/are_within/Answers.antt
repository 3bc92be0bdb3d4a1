use Rattle.std.proofs.Common.{rules, refl, sym, ◌∙◌}
use Rattle.homeo_eval.proofs.InsertSteps.{refuses, admits, admits_all}
use Rattle.homeo_meaning.proofs.Numbers.{kept_is}
use Rattle.homeo_eval.proofs.inserts.are_within.Goals as goal

pub returns-then-not-admits : goal.returns-then-not-admits
returns-then-not-admits c =
    sym (sym c.loop-setting.invariant ∙ refuses c.args.settings.now c.loop-setting.setting-index _ _ _ c.loop-setting-test.true (kept_is _ _ (search rules) refl) c.admits.ensures c.if-not-admits.true)

pub loop-setting-preserved : goal.loop-setting-preserved
loop-setting-preserved c =
    admits c.args.settings.now c.loop-setting.setting-index _ _ _ c.loop-setting-test.true (kept_is _ _ (search rules) refl) c.admits.ensures c.if-not-admits.false ∙ c.loop-setting.invariant

pub returns : goal.returns
returns c = sym (sym c.loop-setting.invariant ∙ admits_all c.args.settings.now c.loop-setting.setting-index c.loop-setting-test.false)
