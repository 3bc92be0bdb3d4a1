use Rattle.std.proofs.Common.{◌≡◌, ap, ◌∙◌}
use Rattle.homeo_process.specs.Driven.{Driven}
use Rattle.homeo_process.proofs.Begun.{begins_at, has_desk}
use Rattle.homeo_process.proofs.shell.Shell.begun.Goals as goal

pub returns-else-state-site-clause-begins : goal.returns-else-state-site-clause-begins
returns-else-state-site-clause-begins c =
    let made = c.in_ok-compiled.compiled.value in
    let same : made ≡ c.args.self.now.work = c.in_ok-compiled.ensures ∙ c.catalogue.ensures ∙ ap (λ (x : Driven). x.work) c.self.view_is in
    begins_at c.args.self.now.work made c.args.site c.args.state c.in-Some.state same c.in-Some.is c.if-state-site.false c.begin_at.result c.begin_at.ensures.state

pub returns-else-state-site-clause-has : goal.returns-else-state-site-clause-has
returns-else-state-site-clause-has c =
    let made = c.in_ok-compiled.compiled.value in
    let same : made ≡ c.args.self.now.work = c.in_ok-compiled.ensures ∙ c.catalogue.ensures ∙ ap (λ (x : Driven). x.work) c.self.view_is in
    has_desk c.args.self.now.work made c.args.site c.args.state c.in-Some.state same c.in-Some.is _ c.begin_at.ensures.reached
