-- A delta is one more.
use Rattle.homeo_form.proofs.DeltasBySite.{written_more}
use Rattle.homeo_form.proofs.deltas.push_written.Goals as goal

pub returns-in_ok-push-in-Delta : goal.returns-in_ok-push-in-Delta
returns-in_ok-push-in-Delta c =
    written_more c.args.written.now.items c.push.new.self.items c.args.name _ c.in_ok-push-in-Delta.ensures.items c.in-Delta.is
