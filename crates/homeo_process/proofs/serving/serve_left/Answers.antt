use Rattle.std.proofs.Common.{Some, is_some, not, sym, ap, ◌∙◌}
use Rattle.std.proofs.lemmas.Result.{on_ok_weaker}
use Rattle.homeo_nodes.specs.Nodes.{of_past}
use Rattle.homeo_live.specs.LiveView.{plain_past}
use Rattle.homeo_process.specs.inner.Voices.{IsTold}
use Rattle.homeo_process.proofs.Served.{appends_as, takes}
use Rattle.homeo_process.proofs.serving.serve_left.Goals as goal

pub returns : goal.returns
returns c =
    let v = c.args.voice.now in
    let from = c.args.head.now.from in
    let number = c.args.head.now.number in
    let outputs = c.receive_left.new.outputs.items in
    on_ok_weaker c.tell.result
    (appends_as (IsTold v outputs from number) _ c.args.out.now.items c.tell.new.out.items (λ written told.
    takes v c.args.desk.now c.receive_left.new.self (of_past (Some (plain_past c.args.past))) c.new-outputs.result.items outputs from number written _
    (ap is_some (sym c.site_of.ensures) ∙ c.is_none.ensures ∙ ap not c.if-is_none.false)
    (ap (λ l. l.items) c.new-outputs.ensures) c.in_ok-fits.ensures.moves told))
    c.tell.ensures
