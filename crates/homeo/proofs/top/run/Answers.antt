use Rattle.std.proofs.Common.{[], refl, subst}
use Rattle.std.proofs.KnownBytes.{Appends-nil, Consumes-nil}
use Rattle.homeo_words.proofs.OneCommand.{one_command}
use Rattle.homeo_words.specs.Command.{Say}
use Rattle.homeo_words.specs.declared.command.Command.{Command}
use Rattle.homeo_words.specs.declared.command.Command.TheVariants as commands
use Rattle.homeo_commands.specs.Made.{IsRefusal}
use Rattle.homeo.specs.declared.status.Status.TheVariants as Status
use Rattle.homeo.proofs.Called.{few_calls}
use Rattle.homeo_commands.proofs.Served.{begins_early}
use Rattle.homeo.proofs.Sessions.{serves_as, reads_some}
use Rattle.homeo.proofs.top.run.Goals as goal

pub run_command-requires-clause-few : goal.run_command-requires-clause-few
run_command-requires-clause-few g c = λ κs within.
    few_calls c.args.words.now.items c.in-Ok-Some.command ((c.in-Ok-Some.ensures c.in-Ok-Some.command).0 c.in-Ok-Some.field-0-is)

-- ---- a session
pub returns-in-Serve-clause-refused_exactly : goal.returns-in-Serve-clause-refused_exactly
returns-in-Serve-clause-refused_exactly g c = λ tells no_read no_write.
    let same = one_command c.args.words.now.items tells.0 commands.Serve tells.3 (subst (Say c.args.words.now.items) c.in-Serve.is ((c.in-Ok-Some.ensures c.in-Ok-Some.command).0 c.in-Ok-Some.field-0-is)) in
    c.serve.ensures.refused_exactly tells.1 tells.2 tells.4 (subst (λ (d : Command). IsRefusal d tells.1 tells.2) same tells.5) no_read no_write

pub returns-in-Serve-clause-unread : goal.returns-in-Serve-clause-unread
returns-in-Serve-clause-unread g c = λ nothing. absurd (reads_some (nothing commands.Serve (subst (Say c.args.words.now.items) c.in-Serve.is ((c.in-Ok-Some.ensures c.in-Ok-Some.command).0 c.in-Ok-Some.field-0-is))))

pub returns-in-Serve-clause-unhindered : goal.returns-in-Serve-clause-unhindered
returns-in-Serve-clause-unhindered g c = λ nothing. absurd (reads_some (nothing commands.Serve (subst (Say c.args.words.now.items) c.in-Serve.is ((c.in-Ok-Some.ensures c.in-Ok-Some.command).0 c.in-Ok-Some.field-0-is))))

pub returns-in-Serve-clause-untouched : goal.returns-in-Serve-clause-untouched
returns-in-Serve-clause-untouched g c = λ other. absurd (other (subst (Say c.args.words.now.items) c.in-Serve.is ((c.in-Ok-Some.ensures c.in-Ok-Some.command).0 c.in-Ok-Some.field-0-is)))

pub returns-in-Serve-clause-cut_off : goal.returns-in-Serve-clause-cut_off
returns-in-Serve-clause-cut_off g c = λ other. absurd (other (subst (Say c.args.words.now.items) c.in-Serve.is ((c.in-Ok-Some.ensures c.in-Ok-Some.command).0 c.in-Ok-Some.field-0-is)))

-- ---- the other commands
pub returns-in_default-clause-served : goal.returns-in_default-clause-served
returns-in_default-clause-served g c = λ says.
    absurd (c.in_default.not-Serve (one_command c.args.words.now.items c.in-Ok-Some.command commands.Serve ((c.in-Ok-Some.ensures c.in-Ok-Some.command).0 c.in-Ok-Some.field-0-is) says))

-- ---- no command
pub returns-in-Ok-None-clause-served : goal.returns-in-Ok-None-clause-served
returns-in-Ok-None-clause-served g c = λ says. let is = (c.in-Ok-None.ensures commands.Serve).1 says in absurd (cc)

pub returns-in-Err-clause-served : goal.returns-in-Err-clause-served
returns-in-Err-clause-served g c = λ says.
    serves_as c.complain-in-Err.result Status.Memory (g.S.Source.left c.args.source.now) (g.S.Source.left c.args.source.now) (g.O.Sink.taken c.args.out.now) (g.O.Sink.taken c.args.out.now)
    (c.complain-in-Err.ensures.memory refl) ([], [], Consumes-nil _, begins_early, Appends-nil _)
