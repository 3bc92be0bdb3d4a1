use Rattle.std.proofs.lemmas.Result.{on_ok_weaker}
use Rattle.homeo_process.proofs.Served.{shows}
use Rattle.homeo_process.proofs.serving.serve_snapshot.Goals as goal

pub returns : goal.returns
returns c =
    on_ok_weaker c.reply.result
    (shows c.args.voice.now c.args.desk.now c.in_ok-state.state c.args.head.now.from c.args.head.now.number c.args.out.now.items c.reply.new.out.items c.in_ok-state.ensures.state c.in_ok-state.ensures.can_begin)
    c.reply.ensures
