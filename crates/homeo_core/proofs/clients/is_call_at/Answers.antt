use Rattle.std.proofs.Common.{◌≡◌, ◌<◌, ◌≤◌, sym, ◌∙◌, arith}
use Rattle.homeo_syntax.specs.SourceView.{plain_workload}
use Rattle.homeo_core.proofs.CallTests.{listed, home_is, client_there, number_there, number_some}
use Rattle.homeo_core.proofs.clients.is_call_at.Goals as goal

pub returns-then-from-client_count-clause-no : goal.returns-then-from-client_count-clause-no
returns-then-from-client_count-clause-no c at =
    let there = client_there (plain_workload c.args.w.now) c.args.site c.args.call at in
    let f = c.if-from-client_count.true in
    let a = c.from.ensures in
    let b = c.client_count.ensures.count in
    absurd (let never : ⊥ = omega (arith, there, f, a, b) in never)

pub returns-then-call-eq0-clause-no : goal.returns-then-call-eq0-clause-no
returns-then-call-eq0-clause-no c at = absurd (number_some (plain_workload c.args.w.now) c.args.site c.args.call at c.if-call-eq0.true)

pub returns-then-call-call_count-clause-no : goal.returns-then-call-call_count-clause-no
returns-then-call-call_count-clause-no c at =
    let there = number_there (plain_workload c.args.w.now) c.args.site c.args.call at in
    let f = c.if-call-call_count.true in
    let b = c.call_count.ensures.count in
    absurd (let never : ⊥ = omega (arith, there, f, b) in never)

pub returns : goal.returns
returns c = record {
  yes = λ e. listed (plain_workload c.args.w.now) c.args.site c.site_of.result c.call_count.result c.args.call c.site_of.ensures e c.if-call-eq0.false (let f = c.if-call-call_count.false in let h : c.args.call.seq ≤ c.call_count.result = omega (arith, f) in h) c.call_count.ensures.count;
  no = λ at. home_is (plain_workload c.args.w.now) c.args.site c.site_of.result c.args.call c.site_of.ensures at;
}
