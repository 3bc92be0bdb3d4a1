-- What following a command leaves.
use Rattle.std.specs.Prelude.{◌≡◌, List, []}
use Rattle.homeo_syntax.specs.Low.{Command, Commands}
use Rattle.homeo_meaning.specs.LowMeaning.{DeltaAt}
use Rattle.homeo_plan.specs.declared.forms.Delta.{Delta}
use Rattle.homeo_plan.specs.Linear.{Forms, add_deltas}
use Rattle.homeo_form.specs.Standing.{forms_of}
use Rattle.homeo_certificate.specs.declared.fault.Fault.{Fault}
use Rattle.homeo_certificate.specs.Followed.{Rules, not_frozen, remote_deltas, forms_after, forms_after_all, written, all_written}
use Rattle.homeo_verify.specs.declared.following.Following.{Following}
use Rattle.homeo_verify.specs.inner.RulesView.{plain_rules}

abbrev pub rules_in : Following → Rules
rules_in s = plain_rules s.rules

abbrev pub forms_in : Following → Forms
forms_in s = forms_of s.standing

abbrev pub written_in : Following → List Delta
written_in s = add_deltas s.written.items []

-- the rules stay, and forms and written deltas are those after the command
pub record Follows (c : Command) (before after : Following) : Type 0 where
  pub rules : rules_in after ≡ rules_in before
  pub forms : forms_in after ≡ forms_after c (forms_in before)
  pub written : written_in after ≡ written c (forms_in before) (written_in before)

-- the same of commands one after another
pub record FollowsAll (cs : Commands) (before after : Following) : Type 0 where
  pub rules : rules_in after ≡ rules_in before
  pub forms : forms_in after ≡ forms_after_all cs (forms_in before)
  pub written : written_in after ≡ all_written cs (forms_in before) (written_in before)

-- a delta that was written depends on deltas of other sites that aren't frozen
abbrev pub written_faults : Following → Delta → List Fault
written_faults s d = not_frozen (rules_in s) (remote_deltas (rules_in s) (forms_in s (DeltaAt d.object d.site)))
