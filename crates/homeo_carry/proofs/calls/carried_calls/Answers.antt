use Rattle.std.proofs.Common.{refl, ap, ◌∙◌, ◌%◌}
use Rattle.homeo_syntax.specs.SourceView.{plain_workload}
use Rattle.homeo_carry.proofs.CarriedCalls.{from_arbiter, some_site}
use Rattle.homeo_carry.proofs.calls.carried_calls.Goals as goal

pub arbiter-first-requires : goal.arbiter-first-requires
arbiter-first-requires c =
    some_site (plain_workload c.args.w.now) c.site_count.result c.requires.accepted c.site_count.ensures.count

pub returns : goal.returns
returns c =
    from_arbiter (plain_workload c.args.w.now) c.args.u c.args.states.now c.arbiter-first.result c.new-calls.result.items c.push_calls.new.calls.items c.push_calls-2.new.calls.items _ (c.arbiter-first.ensures.arbiter ∙ ap (λ n. c.args.u.round % n) c.site_count.ensures.count) c.new-calls.ensures.items refl c.in_ok-push_calls.ensures c.in_ok-push_calls-2.ensures
