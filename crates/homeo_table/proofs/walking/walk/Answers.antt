-- Each command is followed in front of those that are left.
use Rattle.std.proofs.Common.{◌∷◌, refl, sym, ap, ◌∙◌}
use Rattle.std.proofs.lemmas.List.{nil_from_length}
use Rattle.std.proofs.lemmas.Result.{IfOk-weaker}
use Rattle.homeo_syntax.specs.LowView.{plain_lcommand}
use Rattle.homeo_meaning.specs.LowMeaning.{holds, exec_all}
use Rattle.homeo_plan.specs.Table.{Row}
use Rattle.homeo_plan.proofs.Tables.{row_at_walk, walk_holds, walk_residual}
use Rattle.homeo_split.specs.States.{state_of}
use Rattle.homeo_substitution.specs.Bindings.{bound}
use Rattle.homeo_table.specs.inner.Makings.{completed}
use Rattle.homeo_table.specs.inner.Walks.{to_come}
use Rattle.homeo_table.proofs.NoTemps.{no_temps}
use Rattle.homeo_table.proofs.WalkSteps.{pushed, goes-first, first-walk, last-walk}
use Rattle.homeo_table.proofs.walking.walk.Goals as goal

pub loop-c-init : goal.loop-c-init
loop-c-init c =
    let k = plain_lcommand c.args.c.now in
    let s = state_of c.args.base.now in
    let start = goes-first (completed c.new-row.result) (bound c.new-row.result.bindings) k _ s c.new-row.ensures.row c.new-row.ensures.bound
    (pushed c.new-left.result.items c.push.new.self.items _ k c.in_ok-push.ensures.items refl
    ∙ ap (λ cs. k ∷ to_come cs) c.new-left.ensures.items) c.requires in
    record { can = start.can; row = start.row ∙ first-walk k s }

pub returns-clause-walked : goal.returns-clause-walked
returns-clause-walked c =
    IfOk-weaker c.row.result _ _
    (λ r is. last-walk (completed c.loop-c.row) (bound c.loop-c.row.bindings) c.loop-c.left.items (state_of c.args.base.now) _ _
    (nil_from_length c.loop-c.left.items (sym c.loop-c.left.ok.0 ∙ c.in_default.ensures.cases.0)) is c.loop-c.invariant.row)
    c.row.ensures

pub returns-clause-row : goal.returns-clause-row
returns-clause-row c =
    IfOk-weaker c.row.result _ _ (λ r is. is ∙ sym (row_at_walk (plain_lcommand c.args.c.now) (state_of c.args.base.now) (no_temps c.args.base.now))) (returns-clause-walked c)

pub returns-clause-holds : goal.returns-clause-holds
returns-clause-holds c =
    IfOk-weaker c.row.result _ _
    (λ r is. ap (λ (r : Row). holds r.formula (state_of c.args.base.now)) is
    ∙ walk_holds (plain_lcommand c.args.c.now) (state_of c.args.base.now) (no_temps c.args.base.now))
    (returns-clause-walked c)

pub returns-clause-means : goal.returns-clause-means
returns-clause-means c =
    IfOk-weaker c.row.result _ _
    (λ r is. ap (λ (r : Row). exec_all r.residual (state_of c.args.base.now)) is
    ∙ walk_residual (plain_lcommand c.args.c.now) (state_of c.args.base.now))
    (returns-clause-walked c)
