-- What the residual needs stays, with the commands that are left.
use Rattle.std.proofs.Common.{◌≡◌, map, drop}
use Rattle.homeo_syntax.specs.LowView.{low_commands, plain_lcommand}
use Rattle.homeo_meaning.specs.Small.{IsSmall}
use Rattle.homeo_plan.specs.FormSizes.{CanFollow}
use Rattle.homeo_plan.specs.Needs.{IsStraight}
use Rattle.homeo_plan.specs.Limit.{form_limit}
use Rattle.homeo_atoms.specs.inner.Following.{needs_of}
use Rattle.homeo_form.specs.Standing.{forms_of}
use Rattle.homeo_atoms.proofs.following.Following.follow_all.Given as goal

abbrev pub invariant-loop-command : goal.invariant-loop-command
invariant-loop-command l =
    let rest = low_commands (map plain_lcommand (drop l.command-index l.commands)) in
    record {
      straight : IsStraight rest;
      small : CanFollow (IsSmall form_limit) (forms_of l.self.standing) rest;
      needs : needs_of l.self rest ≡ needs_of l.initial.self (low_commands (map plain_lcommand l.commands));
    }
