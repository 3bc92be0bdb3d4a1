use Rattle.homeo_report.proofs.Lookups.{call_at}
use Rattle.homeo_report.proofs.calls.call_of.Goals as goal

pub returns-in-Some : goal.returns-in-Some
returns-in-Some c =
    let e = call_at c.args.w.now c.args.id _ c.in-Some.ensures in cc

pub returns-in-None : goal.returns-in-None
returns-in-None c =
    let e = call_at c.args.w.now c.args.id _ c.in-None.ensures in cc
