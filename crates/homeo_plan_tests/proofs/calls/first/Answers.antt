-- The first call is one of those that are called.
use Rattle.std.proofs.Common.{◌<◌, length, sym, ap, ◌∙◌, subst, arith}
use Rattle.std.proofs.lemmas.List.{get_or-map, length-map}
use Rattle.std.proofs.lemmas.List.Elements.{All-get_or}
use Rattle.homeo_syntax.specs.SourceView.{plain_workload}
use Rattle.homeo_meaning.specs.Ground.{plain_ground}
use Rattle.homeo_ground.specs.Grounding.{IsCalled}
use Rattle.homeo_plan_tests.proofs.calls.first.Goals as goal

pub returns : goal.returns
returns g c =
    let Called = IsCalled (plain_workload c.args.w.now) in
    let call = c.call-item.result in
    let some : 0 < length c.args.calls.now = omega arith in
    let within = subst (λ n. 0 < n) (sym (length-map c.args.calls.now plain_ground)) some in
    subst Called (get_or-map plain_ground c.args.calls.now 0 call (plain_ground call) some ∙ ap plain_ground (sym c.call-item.is))
    (All-get_or Called _ 0 (plain_ground call) within c.requires)
