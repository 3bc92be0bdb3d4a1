-- The objects of the next form stand behind those of the others.
use Rattle.std.proofs.Common.{map, ap, sym, ◌∙◌}
use Rattle.std.proofs.lemmas.List.{take_all}
use Rattle.std.proofs.lemmas.Simd.{map-map}
use Rattle.homeo_syntax.specs.LowView.{plain_lcommand}
use Rattle.homeo_follow.specs.Named.{named}
use Rattle.homeo_build.proofs.Grown.{grown}
use Rattle.homeo_build.proofs.names.names_of.Goals as goal

pub loop-form-preserved : goal.loop-form-preserved
loop-form-preserved c =
    grown (λ ns. ns.items) (λ f. named (plain_lcommand f)) c.loop-form.all.items _ _ c.args.forms.now c.loop-form.form-index c.form-item.result
    c.loop-form-test.true c.form-item.is c.in_ok-push.ensures.items c.loop-form.invariant c.in_ok-form_names.ensures

pub returns : goal.returns
returns c =
    c.loop-form.invariant ∙ ap (map (λ f. named (plain_lcommand f))) (take_all c.loop-form.form-index c.args.forms.now c.loop-form-test.false)
    ∙ sym (map-map named plain_lcommand c.args.forms.now)
