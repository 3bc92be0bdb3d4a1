use Rattle.std.proofs.Common.{◌≡◌, ap, sym, subst, ◌∙◌}
use Rattle.std.proofs.lemmas.Result.{on_ok_weaker}
use Rattle.homeo_syntax.specs.SourceView.{plain_workload}
use Rattle.homeo_syntax.specs.declared.workload.Workload.{Workload}
use Rattle.homeo_lines.specs.LineView.{plain_line}
use Rattle.homeo_lines.specs.Read.{IsReadAs}
use Rattle.homeo_process.specs.Driven.{Driven}
use Rattle.homeo_process.proofs.Taken.{took}
use Rattle.homeo_process.proofs.shell.Shell.take.Goals as goal

pub returns : goal.returns
returns c =
    let self = c.args.self.now in
    let bytes = c.args.bytes.now in
    let same : c.catalogue.result.now ≡ self.work = c.catalogue.ensures ∙ ap (λ (x : Driven). x.work) c.self.view_is in
    on_ok_weaker c.heed.result
    (took self c.heed.new.self bytes (plain_line c.in_ok-line.line) c.requires
    (λ y read. c.in_ok-line.ensures.json y (subst (λ (w : Workload). IsReadAs (plain_workload w) bytes y) (sym same) read)) c.in_ok-line.ensures.no_json c.args.out.now.items c.heed.new.out.items)
    c.heed.ensures
