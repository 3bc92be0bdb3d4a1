use Rattle.std.proofs.Common.{◌+◌, ◌++◌, map, drop, ap, ◌∙◌}
use Rattle.std.proofs.lemmas.List.{map-append}
use Rattle.homeo_syntax.specs.SourceView.{plain_workload}
use Rattle.homeo_meaning.specs.Serial.{serial}
use Rattle.homeo_eval.proofs.Outcomes.{serial_step, serial_end}
use Rattle.homeo_eval.proofs.runs.run_each.Goals as goal

pub loop-call-preserved : goal.loop-call-preserved
loop-call-preserved c =
    let w = plain_workload c.args.w.now in
    let before = map (λ p. p.items) c.loop-call.logs.items in
    let step = serial_step w c.loop-call.database.items c.eval_call.new.database.items c.args.calls.now c.loop-call.call-index _ before c.in_ok-prints.prints.items c.loop-call-test.true c.in_ok-prints.ensures.prints c.in_ok-prints.ensures.database in
    let pushed = ap (map (λ p. p.items)) c.in_ok-push.ensures.items ∙ map-append (λ p. p.items) c.loop-call.logs.items _ in
    record {
      within = c.in_ok-prints.ensures.within;
      logs = ap (λ l. l ++ (serial w c.eval_call.new.database.items (drop (c.loop-call.call-index + 1) c.args.calls.now)).logs) pushed ∙ step.logs ∙ c.loop-call.invariant.logs;
      last = step.last ∙ c.loop-call.invariant.last;
    }

pub returns-clause-logs : goal.returns-clause-logs
returns-clause-logs c =
    let end = serial_end (plain_workload c.args.w.now) c.loop-call.database.items c.args.calls.now c.loop-call.call-index (map (λ p. p.items) c.loop-call.logs.items) c.loop-call-test.false in
    end.logs ∙ c.loop-call.invariant.logs

pub returns-clause-database : goal.returns-clause-database
returns-clause-database c =
    let end = serial_end (plain_workload c.args.w.now) c.loop-call.database.items c.args.calls.now c.loop-call.call-index (map (λ p. p.items) c.loop-call.logs.items) c.loop-call-test.false in
    end.last ∙ c.loop-call.invariant.last
