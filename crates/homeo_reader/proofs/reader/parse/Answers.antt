use Rattle.std.proofs.Common.{◌≡◌, length, arith, rules}
use Rattle.homeo_syntax.specs.SourceView.{plain_workload}
use Rattle.homeo_reader.proofs.Top.{all_read, left_over}
use Rattle.homeo_reader.proofs.Unread.{refused_at, fault_refused}
use Rattle.homeo_reader.proofs.reader.parse.Goals as goal

pub returns-then-is_empty : goal.returns-then-is_empty
returns-then-is_empty c =
    let e : length c.workload-parsed.new.self.rest.now ≡ 0 = first_of (omega arith, search rules, grind arith) in
    all_read c.args.version c.args.names.items c.args.tokens.now c.workload-parsed.new.self.rest.now (plain_workload c.in-Ok.workload) c.in-Ok.ensures e

pub returns-else-is_empty : goal.returns-else-is_empty
returns-else-is_empty c =
    refused_at c.args.version c.args.names.items c.args.tokens.now c.workload-parsed.new.self.rest.now c.args.end c.first_offset.result c.refused.result c.refused.ensures
    c.first_offset.ensures
    (left_over c.args.version c.args.names.items c.args.tokens.now c.workload-parsed.new.self.rest.now (plain_workload c.in-Ok.workload) c.in-Ok.ensures
    (λ z. first_of (omega arith, grind arith)))

pub returns-in-Err : goal.returns-in-Err
returns-in-Err c =
    fault_refused c.args.version c.args.names.items c.args.tokens.now c.workload-parsed.new.self.rest.now c.args.end c.first_offset-in-Err.result c.in-Err.fault
    c.refusal_after.result c.in-Err.ensures c.refusal_after.ensures.memory c.refusal_after.ensures.stuck c.first_offset-in-Err.ensures
