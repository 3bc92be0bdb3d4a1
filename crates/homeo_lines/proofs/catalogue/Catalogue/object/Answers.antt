-- The name that is got, where it is a text.
use Rattle.std.proofs.Common.{◌≡◌, ap, ◌∙◌}
use Rattle.homeo_syntax.specs.SourceView.{plain_workload}
use Rattle.homeo_print.specs.Names.{object_names, name_at}
use Rattle.homeo_lines.specs.Written.{key_of}
use Rattle.homeo_lines.proofs.Names.{key_is, no_key}
use Rattle.homeo_lines.proofs.catalogue.Catalogue.object.Goals as goal

pub returns-in-Ok : goal.returns-in-Ok
returns-in-Ok c =
    let is : c.get.result.now ≡ name_at (object_names (plain_workload c.args.self.now)) c.args.object =
    c.get.ensures ∙ ap (λ ns. name_at ns c.args.object) c.self.invariant ∙ ap (λ w. name_at (object_names (plain_workload w)) c.args.object) c.self.view_is in
    c.in-Ok.ensures.cases.0 ∙ key_is c.get.result.now c.in-Ok.ensures.cases.1 ∙ ap key_of is

pub returns-in-Err : goal.returns-in-Err
returns-in-Err c =
    let is : c.get.result.now ≡ name_at (object_names (plain_workload c.args.self.now)) c.args.object =
    c.get.ensures ∙ ap (λ ns. name_at ns c.args.object) c.self.invariant ∙ ap (λ w. name_at (object_names (plain_workload w)) c.args.object) c.self.view_is in
    no_key c.get.result.now c.in-Err.ensures.cases.0 ∙ ap key_of is
