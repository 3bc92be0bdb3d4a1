use Rattle.std.proofs.Common.{OnOk, sym, subst}
use Rattle.std.proofs.lemmas.Result.{on_ok_weaker}
use Rattle.homeo_lines.specs.LineView.{plain_message}
use Rattle.homeo_lines.specs.declared.line.Message.{Message}
use Rattle.homeo_process.specs.inner.Voices.{IsServed}
use Rattle.homeo_process.proofs.Served.{fails}
use Rattle.homeo_process.proofs.serving.serve.Goals as goal

pub returns-in-Tick : goal.returns-in-Tick
returns-in-Tick c =
    let v = c.args.voice.now in
    let desk = c.args.desk.now in
    let head = c.args.head in
    let r = c.serve_tick.result in
    subst (λ (m : Message). OnOk r (IsServed v desk (plain_message m) head.from head.number desk c.args.out.now.items c.serve_tick.new.out.items)) (sym c.in-Tick.is)
    (on_ok_weaker r (λ served. served head.from head.number) c.serve_tick.ensures)

pub returns-in-Init : goal.returns-in-Init
returns-in-Init c =
    let v = c.args.voice.now in
    let desk = c.args.desk.now in
    let head = c.args.head in
    let r = c.fail-in-Init.result in
    subst (λ (m : Message). OnOk r (IsServed v desk (plain_message m) head.from head.number desk c.args.out.now.items c.fail-in-Init.new.out.items)) (sym c.in-Init.is)
    (on_ok_weaker r (fails v desk head.from head.number c.malformed.result.code c.args.out.now.items c.fail-in-Init.new.out.items c.malformed.ensures.code) c.fail-in-Init.ensures)
