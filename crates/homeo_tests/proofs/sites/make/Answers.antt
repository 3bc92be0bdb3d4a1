-- The change is the call's, and a commit keeps the site's number.
use Rattle.std.proofs.Common.{subst}
use Rattle.std.proofs.lemmas.Result.{IfOk-at_ok}
use Rattle.homeo_syntax.specs.SourceView.{plain_workload}
use Rattle.homeo_site.specs.Attempts.{IsOutcome}
use Rattle.homeo_tests.proofs.SiteSteps.{call_stays, change_stays, number_stays}
use Rattle.homeo_tests.proofs.sites.make.Goals as goal

pub commit-requires-clause-call : goal.commit-requires-clause-call
commit-requires-clause-call g c =
    call_stays c.args.site.now c.attempt.new.self c.args.call c.in-Keeps.change _ c.attempt.ensures.state
    (subst (IsOutcome (plain_workload c.args.site.now.work) c.args.site.now.state c.args.call) c.in-Keeps.is
    (IfOk-at_ok _ c.expect-outcome.ensures c.attempt.ensures.outcome)) c.requires

pub commit-requires-clause-change : goal.commit-requires-clause-change
commit-requires-clause-change g c =
    change_stays c.args.site.now c.attempt.new.self c.args.call c.in-Keeps.change _ c.attempt.ensures.state
    (subst (IsOutcome (plain_workload c.args.site.now.work) c.args.site.now.state c.args.call) c.in-Keeps.is
    (IfOk-at_ok _ c.expect-outcome.ensures c.attempt.ensures.outcome))

pub returns-in-Keeps-clause-number : goal.returns-in-Keeps-clause-number
returns-in-Keeps-clause-number g c =
    number_stays c.args.site.now c.attempt.new.self c.commit.new.self c.in-Keeps.change.call _ _ c.attempt.ensures.state c.commit.ensures
