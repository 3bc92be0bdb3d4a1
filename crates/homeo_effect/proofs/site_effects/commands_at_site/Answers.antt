-- What the commands of a site are, and that they do what the residual does.
use Rattle.std.proofs.Common.{length, true, ◌≡◌, All, map, sym, ap, ◌∙◌, subst}
use Rattle.std.proofs.lemmas.List.{length-map}
use Rattle.homeo_syntax.specs.LowView.{low_commands, plain_lcommand}
use Rattle.homeo_meaning.specs.LowMeaning.{whole, exec_all}
use Rattle.homeo_meaning.specs.Serial.{values_of}
use Rattle.homeo_plan.specs.Joined.{alone}
use Rattle.homeo_plan.specs.Needs.{IsStraight}
use Rattle.homeo_plan.specs.PlanView.{plain_residual}
use Rattle.homeo_split.specs.CanExec.{run_limit, can_exec_all}
use Rattle.homeo_effect.specs.Localized.{local_command}
use Rattle.homeo_effect.specs.OwnCommands.{are_own}
use Rattle.homeo_effect.specs.Touched.{written}
use Rattle.homeo_effect.specs.inner.Alone.{CommandFits}
use Rattle.homeo_effect.proofs.Equations.{localized_commands}
use Rattle.homeo_effect.proofs.LocalRuns.{alone_is_alone, whole_is_alone, same_runs, can_too, each_fits, straight_too, same_written}
use Rattle.homeo_effect.proofs.OwnParts.{own_commands}
use Rattle.homeo_effect.proofs.site_effects.commands_at_site.Goals as goal

pub local_commands-requires : goal.local_commands-requires
local_commands-requires c =
    let b = values_of c.args.base.now.items in
    let site = c.args.residual.now.site in
    let h =
    each_fits b site c.args.residual.now.commands.items (whole b) c.requires.straight c.requires.own (whole_is_alone b site) c.requires.small in
    subst (λ cs. All (λ d. CommandFits (values_of c.as_slice.result.now) site (plain_lcommand d)) cs) (sym c.as_slice-commands.ensures)
    (subst (λ items. All (λ d. CommandFits (values_of items) site (plain_lcommand d)) c.args.residual.now.commands.items) (sym c.as_slice.ensures) h)

commands_are : goal.returns-clause-commands
commands_are c =
    let b = values_of c.args.base.now.items in
    let site = c.args.residual.now.site in
    ap low_commands
    (c.in_ok-local.ensures
    ∙ (λ k. map (local_command (values_of (c.as_slice.ensures k)) site) (map plain_lcommand (c.as_slice-commands.ensures k))))
    ∙ sym (localized_commands b site (map plain_lcommand c.args.residual.now.commands.items))

pub returns-clause-commands : goal.returns-clause-commands
returns-clause-commands c = commands_are c

pub returns-clause-means : goal.returns-clause-means
returns-clause-means c x =
    let b = values_of c.args.base.now.items in
    let site = c.args.residual.now.site in
    ap (λ cs. exec_all cs (alone b site x)) (commands_are c)
    ∙ same_runs b site (plain_residual c.args.residual.now) (alone b site x) c.requires.straight c.requires.own (alone_is_alone b site x)

pub returns-clause-can_run : goal.returns-clause-can_run
returns-clause-can_run c x h =
    let b = values_of c.args.base.now.items in
    let site = c.args.residual.now.site in
    ap (λ cs. can_exec_all run_limit cs (alone b site x)) (commands_are c)
    ∙ can_too b site run_limit (plain_residual c.args.residual.now) (alone b site x) c.requires.straight c.requires.own (alone_is_alone b site x) h

pub returns-clause-straight : goal.returns-clause-straight
returns-clause-straight c =
    subst IsStraight (sym (commands_are c))
    (straight_too (values_of c.args.base.now.items) c.args.residual.now.site (plain_residual c.args.residual.now) c.requires.straight)

pub returns-clause-written : goal.returns-clause-written
returns-clause-written c =
    ap written (commands_are c) ∙ same_written (values_of c.args.base.now.items) c.args.residual.now.site (plain_residual c.args.residual.now)

pub returns-clause-own : goal.returns-clause-own
returns-clause-own c =
    subst (λ cs. are_own c.args.residual.now.site cs ≡ true) (sym (commands_are c))
    (own_commands (values_of c.args.base.now.items) c.args.residual.now.site (plain_residual c.args.residual.now) c.requires.straight c.requires.own)

pub returns-clause-count : goal.returns-clause-count
returns-clause-count c =
    let site = c.args.residual.now.site in
    let given = c.as_slice-commands.result.now in
    sym (length-map c.in_ok-local.local.items plain_lcommand) ∙ ap length c.in_ok-local.ensures
    ∙ length-map (map plain_lcommand given) (local_command (values_of c.as_slice.result.now) site)
    ∙ length-map given plain_lcommand ∙ ap length c.as_slice-commands.ensures
