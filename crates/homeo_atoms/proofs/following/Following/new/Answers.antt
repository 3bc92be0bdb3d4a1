-- Nothing is written or printed.
use Rattle.homeo_meaning.specs.Serial.{values_of}
use Rattle.std.proofs.Common.{refl}
use Rattle.homeo_atoms.proofs.Needing.{first_needs}
use Rattle.homeo_atoms.proofs.following.Following.new.Goals as goal

pub returns-clause-needs : goal.returns-clause-needs
returns-clause-needs c =
    first_needs (record { site = c.args.site; standing = c.new.result; written = c.new-2.result; prints = c.new-3.result }) c.args.site
    (values_of c.args.base.now) refl c.new.ensures c.new-2.ensures.items c.new-3.ensures.items
