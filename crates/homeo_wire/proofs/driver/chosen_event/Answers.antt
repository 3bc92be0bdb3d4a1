use Rattle.homeo_wire.specs.Key.{definitions}
use Rattle.std.proofs.Common.{◌≡◌, ◌<◌, ◌/◌, ap, ◌∙◌, arith}
use Rattle.std.proofs.Math.Nat.{mod-lt}
use Rattle.homeo_syntax.specs.SourceView.{plain_workload}
use Rattle.homeo_plan.specs.Planned.{sites_of}
use Rattle.homeo_plan.proofs.Policy.{some_sites}
use Rattle.homeo_wire.proofs.driver.chosen_event.Goals as goal

pub nonzero_rem-result : goal.nonzero_rem-result
nonzero_rem-result c =
    let some = some_sites (plain_workload c.args.wire.now.work) c.workload-w.ensures.accepted in
    let count : c.site_count.result ≡ sites_of (plain_workload c.args.wire.now.work) = c.site_count.ensures.count ∙ ap (λ v. sites_of (plain_workload v)) c.workload-w.ensures.work in
    omega (arith, some, count, c.from.ensures)

pub overflow_cast-result : goal.overflow_cast-result
overflow_cast-result c =
    let w = plain_workload c.args.wire.now.work in
    let some = some_sites w c.workload-w.ensures.accepted in
    let count : c.site_count.result ≡ sites_of w = c.site_count.ensures.count ∙ ap (λ v. sites_of (plain_workload v)) c.workload-w.ensures.work in
    let from : 0 < c.from.result = omega (arith, some, count, c.from.ensures) in
    let site = mod-lt (c.args.p / 4) from in
    omega (arith, site, c.site_count.ensures.few, c.from.ensures)

pub returns-clause-can : goal.returns-clause-can
unfolding definitions
returns-clause-can c =
    let w = plain_workload c.args.wire.now.work in
    let some = some_sites w c.workload-w.ensures.accepted in
    let count : c.site_count.result ≡ sites_of w = c.site_count.ensures.count ∙ ap (λ v. sites_of (plain_workload v)) c.workload-w.ensures.work in
    let from : 0 < c.from.result = omega (arith, some, count, c.from.ensures) in
    let site = mod-lt (c.args.p / 4) from in
    let sent : 0 < c.sent-sent.result = omega (arith, c.if-sent-eq0.false) in
    let packet = mod-lt c.args.q sent in
    (omega (arith, site, count, c.from.ensures), omega (arith, packet, c.sent-sent.ensures))
