use Rattle.std.proofs.Common.{ap, option_map}
use Rattle.std.proofs.lemmas.Result.{on_ok_weaker}
use Rattle.homeo_lines.specs.LineView.{plain_state}
use Rattle.homeo_process.specs.Driven.{voice_of}
use Rattle.homeo_process.proofs.Begun.{no_names, no_state, is_nothing}
use Rattle.homeo_process.proofs.shell.Shell.init.Goals as goal

pub returns-in-Err : goal.returns-in-Err
returns-in-Err c =
    let init = c.args.init in
    let head = c.args.head.now in
    on_ok_weaker c.fail.result
    (λ said. no_names c.args.self.now c.self.inside.voice (ap voice_of c.self.view_is) init.node init.nodes.items c.as_slice.result.now c.as_slice.ensures.value (option_map plain_state init.state)
    head.from head.number c.in-Err.wrong.code c.in-Err.ensures.wrong c.args.out.now.items c.fail.new.out.items said c.in-Err.ensures.none)
    c.fail.ensures

pub returns-in_default : goal.returns-in_default
returns-in_default c =
    let init = c.args.init in
    let head = c.args.head.now in
    on_ok_weaker c.fail-in_default.result
    (λ said. no_state c.args.self.now c.self.inside.voice (ap voice_of c.self.view_is) init.node init.nodes.items c.as_slice.result.now c.as_slice.ensures.value (option_map plain_state init.state)
    head.from head.number c.malformed-wrong.result.code c.malformed-wrong.ensures.code c.args.out.now.items c.fail-in_default.new.out.items said c.in-Ok.site c.in-Ok.ensures.site
    (λ has. is_nothing c.in_ok-desk.field-0 c.in_default.not-Some (c.in_ok-desk.ensures.has has)))
    c.fail-in_default.ensures
