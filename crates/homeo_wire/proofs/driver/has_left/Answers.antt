use Rattle.homeo_wire.specs.Key.{definitions}
use Rattle.std.proofs.Common.{◌≡◌, ◌<◌, length, true, sym, ap, ◌∙◌, arith}
use Rattle.std.specs.List.{range_with_len, list_any}
use Rattle.homeo_syntax.specs.SourceView.{plain_workload}
use Rattle.homeo_wire.specs.Drive.{lacks}
use Rattle.homeo_wire.proofs.Driving.{lacks_some, lacks_none, none_next, any_here}
use Rattle.homeo_wire.proofs.driver.has_left.Goals as goal

pub left-requires : goal.left-requires
left-requires c =
    let count : c.client_count-client-end.result ≡ length (plain_workload c.args.wire.now.work).clients = c.client_count-client-end.ensures.count ∙ ap (λ v. length (plain_workload v).clients) c.workload.ensures.work in
    omega (arith, c.loop-client-test.true, count)

pub returns-then-left-gt0 : goal.returns-then-left-gt0
unfolding definitions
returns-then-left-gt0 c =
    let w = plain_workload c.args.wire.now.work in
    let count : c.client_count-client-end.result ≡ length w.clients = c.client_count-client-end.ensures.count ∙ ap (λ v. length (plain_workload v).clients) c.workload.ensures.work in
    let lt : c.loop-client.client < length w.clients = omega (arith, c.loop-client-test.true, count) in
    let yes : lacks w c.args.wire.now.world c.loop-client.client ≡ true = lacks_some _ _ _ c.left.ensures c.if-left-gt0.true in
    sym (any_here (lacks w c.args.wire.now.world) (length w.clients) c.loop-client.client lt yes)

pub loop-client-preserved : goal.loop-client-preserved
unfolding definitions
loop-client-preserved c =
    let w = plain_workload c.args.wire.now.work in
    none_next (lacks w c.args.wire.now.world) c.loop-client.client c.loop-client.invariant (lacks_none _ _ _ c.left.ensures c.if-left-gt0.false)

pub returns : goal.returns
unfolding definitions
returns c =
    let w = plain_workload c.args.wire.now.work in
    let count : c.client_count-client-end.result ≡ length w.clients = c.client_count-client-end.ensures.count ∙ ap (λ v. length (plain_workload v).clients) c.workload.ensures.work in
    let all : c.loop-client.client ≡ length w.clients = omega (arith, c.loop-client-test.false, c.loop-client.auto.client-end, count) in
    sym (ap (λ k. list_any (lacks w c.args.wire.now.world) (range_with_len 0 k)) (sym all) ∙ c.loop-client.invariant)
