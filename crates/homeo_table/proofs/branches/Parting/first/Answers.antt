-- The command alone is left.
use Rattle.std.proofs.Common.{◌∷◌, [], ◌++◌, map, refl, ap, ◌∙◌}
use Rattle.homeo_syntax.specs.LowView.{plain_lcommand}
use Rattle.homeo_table.specs.inner.Partings.{rows_from}
use Rattle.homeo_table.proofs.Following.{pushed-left}
use Rattle.homeo_table.proofs.Parted.{first-rows}
use Rattle.homeo_table.proofs.branches.Parting.first.Goals as goal

pub returns-clause-rows : goal.returns-clause-rows
unfolding rows_from
returns-clause-rows c = λ ts cs.
    first-rows ts cs c.start.result _ (plain_lcommand c.args.c.now) c.start.ensures.tests c.start.ensures.commands c.start.ensures.bound
    (pushed-left c.new-left.result.items c.push.new.self.items _ _ c.in_ok-push.ensures.items refl
    ∙ ap (λ cs. map (λ c. plain_lcommand c.now) cs ++ plain_lcommand c.args.c.now ∷ []) c.new-left.ensures.items)
