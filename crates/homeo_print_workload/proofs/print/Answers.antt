use Rattle.std.proofs.Common.{◌≡◌, arith}
use Rattle.homeo_syntax.specs.SourceView.{plain_workload}
use Rattle.homeo_print_workload.specs.Print.{print}
use Rattle.homeo_print_workload.proofs.Laying.{print_is}
use Rattle.homeo_print_workload.proofs.ReadingBack.{printable, reads_back}
use Rattle.homeo_print_workload.proofs.Scanning.{print_scans}
use Rattle.homeo_print_workload.proofs.print.Goals as goal

pub returns-clause-tokens : goal.returns-clause-tokens
returns-clause-tokens c =
    let is : c.in_ok-text.text.items ≡ print (plain_workload c.args.w.now) = grind (arith, print_is) in
    λ can. print_scans (plain_workload c.args.w.now) c.in_ok-text.text.items is can

pub returns-clause-reads_back : goal.returns-clause-reads_back
returns-clause-reads_back c =
    let w = plain_workload c.args.w.now in
    let is : c.in_ok-text.text.items ≡ print w = grind (arith, print_is) in
    λ text r. reads_back text c.in_ok-text.text.items w r (print_scans w c.in_ok-text.text.items is (printable text w r))
