-- The L forms are those that were found.
use Rattle.std.proofs.Common.{List, map, sym, subst}
use Rattle.homeo_syntax.specs.LowView.{plain_lcommand}
use Rattle.homeo_syntax.specs.SourceView.{plain_workload}
use Rattle.homeo_syntax.specs.declared.low.LCommand.{LCommand}
use Rattle.homeo_meaning.specs.Forms.{AreForms}
use Rattle.homeo_build.proofs.compile.calls_found.Goals as goal

pub returns-clause-forms : goal.returns-clause-forms
returns-clause-forms c =
    let w = plain_workload c.args.w.now in
    let found = c.in_ok-forms.ensures in
    subst (AreForms w (map plain_lcommand c.in_ok-forms.forms.forms.items)) (sym found.places)
    (subst (λ (l : List LCommand). AreForms w (map plain_lcommand l) c.args.findings.places.items) (sym found.forms) c.requires.findings.forms)
