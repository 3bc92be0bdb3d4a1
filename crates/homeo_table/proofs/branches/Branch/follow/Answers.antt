-- The command that is popped was in front of those that are left.
use Rattle.std.proofs.Common.{◌∷◌, [], ◌++◌, map, refl, sym, ap, ◌∙◌}
use Rattle.std.proofs.lemmas.List.{nil_from_length}
use Rattle.homeo_syntax.specs.LowView.{plain_lcommand}
use Rattle.homeo_plan.specs.Table.{last_row}
use Rattle.homeo_table.specs.inner.Branches.{left_of, rows_of, rows_behind}
use Rattle.homeo_table.specs.inner.Makings.{completed}
use Rattle.homeo_table.proofs.Following.{less-next, rows-next, rows-end, pushed-left}
use Rattle.homeo_table.proofs.branches.Branch.follow.Goals as goal

pub loop-c-smaller : goal.loop-c-smaller
unfolding left_of
loop-c-smaller c =
    less-next (map (λ c. plain_lcommand c.now) c.pop.new.self.items) _ (left_of c.loop-c.self) (plain_lcommand c.in-Some.c.now)
    (pushed-left c.pop.new.self.items c.loop-c.self.left.items c.in-Some.c _ c.in-Some.ensures.items refl) c.in_ok-step.ensures.less

pub loop-c-preserved : goal.loop-c-preserved
unfolding left_of rows_of
loop-c-preserved c = record {
  nested = c.in_ok-step.ensures.nested;
  rows =
      c.in_ok-step.ensures.rows
      ∙ ap (λ rows. rows ++ rows_behind c.loop-c.self.row c.loop-c.partings.items)
      (rows-next (completed c.loop-c.self.row) _ _ (plain_lcommand c.in-Some.c.now) (last_row ∷ [])
      (pushed-left c.pop.new.self.items c.loop-c.self.left.items c.in-Some.c _ c.in-Some.ensures.items refl))
      ∙ c.loop-c.invariant.rows;
}

pub returns-clause-rows : goal.returns-clause-rows
unfolding left_of rows_of
returns-clause-rows c =
    rows-end (completed c.loop-c.self.row) (left_of c.loop-c.self) (rows_behind c.loop-c.self.row c.loop-c.partings.items)
    (ap (map (λ c. plain_lcommand c.now)) (nil_from_length c.loop-c.self.left.items (sym c.loop-c.self.left.ok.0 ∙ c.in_default.ensures.cases.0)))
    ∙ c.loop-c.invariant.rows
