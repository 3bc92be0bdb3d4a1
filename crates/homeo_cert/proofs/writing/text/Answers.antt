use Rattle.std.proofs.Common.{ap, ◌∙◌}
use Rattle.homeo_syntax.specs.SourceView.{plain_workload}
use Rattle.homeo_plan.specs.PlanView.{plain_config}
use Rattle.serde_json.specs.Written.{has_float, compact_text}
use Rattle.serde_json.proofs.FreeTexts.{text_of_value}
use Rattle.homeo_certificate.specs.Certified.{certificate_of}
use Rattle.homeo_cert.specs.inner.Sections.{sections}
use Rattle.homeo_cert.proofs.NoFloats.{no_floats}
use Rattle.homeo_cert.proofs.SectionsAre.{sections_are}
use Rattle.homeo_cert.proofs.writing.text.Goals as goal

pub returns-in-Ok : goal.returns-in-Ok
returns-in-Ok c =
    let w = plain_workload c.args.c.now in
    let p = c.args.p.now in
    let sent = c.in-Ok.ensures.events in
    let are = sections_are w p c.requires in
    text_of_value (sections w p) sent.0 c.in-Ok.text.items sent.1 sent.2 (ap has_float are ∙ no_floats (certificate_of w p.base.items (plain_config p.config)))
    ∙ ap compact_text are
