use Rattle.std.proofs.Common.{subst, sym}
use Rattle.homeo_meaning.specs.Acceptance.{IsAccepted}
use Rattle.homeo_load.proofs.Accepted.{load_accepted}
use Rattle.homeo_load.proofs.workload.accepted_load.Goals as goal

pub new-requires : goal.new-requires
new-requires c = subst IsAccepted (sym c.in_ok-workload.ensures) (load_accepted c.args.number c.args.calls c.requires)
