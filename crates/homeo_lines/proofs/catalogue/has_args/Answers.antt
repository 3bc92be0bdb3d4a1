use Rattle.std.proofs.Common.{sym}
use Rattle.homeo_lines.proofs.Names.{other_lengths}
use Rattle.homeo_lines.proofs.catalogue.has_args.Goals as goal

pub returns-then-own-args : goal.returns-then-own-args
returns-then-own-args c = sym (other_lengths c.args.own.now c.args.args.now c.if-own-args.true)
