-- A clause with a slack that is enough is there, or this one's is less.
use Rattle.std.proofs.Common.{rules, ◌≡◌, Some, cond, is_eq, to_z, of_z, ap, ap₂, sym, ◌∙◌}
use Rattle.std.specs.BTreeMap.{get_by}
use Rattle.std.specs.Int.{w128}
use Rattle.std.proofs.lemmas.Int.{to_z-of_z}
use Rattle.homeo_plan.specs.PlanView.{plain_clause}
use Rattle.homeo_verify.specs.inner.Slacks.{is_within}
use Rattle.homeo_verify.proofs.SlackSteps.{keys_cmp, put_enough, put_less}
use Rattle.homeo_verify.proofs.table.put.Goals as goal

pub returns-then-is_within : goal.returns-then-is_within
returns-then-is_within c = λ q s.
    let m = c.args.least.now in
    let slack = c.args.clause.now.slack in
    let kept : to_z w128 (of_z w128 slack) ≡ slack = to_z-of_z w128 slack (search rules) in
    put_enough m c.in_ok-key.key.items q.items s (plain_clause c.args.clause.now) (c.in_ok-key.ensures ∙ c.as_slice.ensures)
    (ap₂ (is_within m) (sym c.as_slice-2.ensures.value) (sym kept) ∙ sym c.is_within.ensures ∙ c.if-is_within.true)

pub returns : goal.returns
returns c = λ q s.
    let m = c.args.least.now in
    let key = c.in_ok-key.key.items in
    let slack = c.args.clause.now.slack in
    let kept : to_z w128 (of_z w128 slack) ≡ slack = to_z-of_z w128 slack (search rules) in
    put_less m key q.items s (plain_clause c.args.clause.now) (c.in_ok-key.ensures ∙ c.as_slice.ensures) c.insert.new.self
    (c.in_ok-insert.ensures.updates.0 q ∙ ap (λ z. cond (is_eq (keys_cmp key q.items)) (Some z) (get_by (λ k. keys_cmp q.items k.items) m)) kept)
    (ap₂ (is_within m) (sym c.as_slice-2.ensures.value) (sym kept) ∙ sym c.is_within.ensures ∙ c.if-is_within.false)
