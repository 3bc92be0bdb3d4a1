use Rattle.std.proofs.Common.{◌≡◌, refl, subst}
use Rattle.homeo_syntax.specs.declared.workload.Refusal.{Refusal as AnyRefusal}
use Rattle.homeo_words.specs.declared.command.Command.TheVariants as commands
use Rattle.homeo_commands.specs.Made.{IsRefusedUnder}
use Rattle.homeo_commands.specs.declared.stop.Stop.{Stop as AnyStop}
use Rattle.homeo_commands.specs.declared.stop.Stop.TheVariants as Stop
use Rattle.homeo.proofs.Sessions.{refused_under, stopped_not_doable, served_not_refused}
use Rattle.homeo.proofs.top.serve.Goals as goal

same_refusal : (r q : AnyRefusal) → ◌≡◌ {A = AnyStop} (Stop.Refused r) (Stop.Refused q) → r ≡ q
same_refusal r q is = cc

pub returns-in-Done-clause-refused_exactly : goal.returns-in-Done-clause-refused_exactly
returns-in-Done-clause-refused_exactly g c = λ bytes r told refused no_read no_write.
    absurd (served_not_refused (g.S.Source.left c.args.source.now) (g.S.Source.left c.serve_source.new.source) (g.O.Sink.taken c.args.out.now) (g.O.Sink.taken c.serve_source.new.out)
    bytes r (c.in-Done.ensures.done refl) told refused)

pub returns-in-Stopped-clause-refused : goal.returns-in-Stopped-clause-refused
returns-in-Stopped-clause-refused g c = λ is.
    let told = c.complain.ensures.refused is in
    let r = c.in-Stopped.refusal in
    let under = refused_under (g.S.Source.left c.args.source.now) (g.S.Source.left c.serve_source.new.source) (g.O.Sink.taken c.args.out.now) (g.O.Sink.taken c.serve_source.new.out)
    r (c.in-Stopped.ensures.stopped r refl) in
    (told.0, subst (λ (q : AnyRefusal). IsRefusedUnder commands.Serve (g.S.Source.left c.args.source.now) q) (same_refusal r told.0 told.1) under, told.2)

pub returns-in-Stopped-clause-complete : goal.returns-in-Stopped-clause-complete
returns-in-Stopped-clause-complete g c = λ can no_read no_write.
    let r = c.in-Stopped.refusal in
    absurd (stopped_not_doable (g.S.Source.left c.args.source.now) (g.S.Source.left c.serve_source.new.source) (g.O.Sink.taken c.args.out.now) (g.O.Sink.taken c.serve_source.new.out)
    r (c.in-Stopped.ensures.stopped r refl) can)
