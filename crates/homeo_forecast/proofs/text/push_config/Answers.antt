use Rattle.std.proofs.Common.{◌<◌, ◌∙◌, ◌++◌, ℤ, List, map, take, length, get_or, append_assoc, sym, ap, subst}
use Rattle.homeo_syntax.specs.Listed.{Listed}
use Rattle.homeo_forecast.specs.Text.{bounds_line, bounds_lines}
use Rattle.homeo_forecast.proofs.TextSteps.{bounds_more}
use Rattle.homeo_forecast.proofs.text.push_config.Goals as goal

pub loop-clause-preserved : goal.loop-clause-preserved
loop-clause-preserved c =
    let i = c.loop-clause.clause in
    let all : List (Listed ℤ) = c.args.config.now.bounds.items in
    let bounds = c.bounds-item.result in
    let within : i < length all = subst (λ (l : List (Listed ℤ)). i < length l) c.as_slice-bounds-items.ensures c.loop-clause-test.true in
    c.in_ok-push_clause.ensures
    ∙ ap (λ l. c.loop-clause.out.items ++ bounds_line i l) c.as_slice.ensures
    ∙ ap (λ l. l ++ bounds_line i bounds.items) c.loop-clause.invariant
    ∙ append_assoc c.args.out.now.items (bounds_lines (map (λ (b : Listed ℤ). b.items) (take i all))) (bounds_line i bounds.items)
    ∙ ap (λ l. c.args.out.now.items ++ l)
    (sym (bounds_more all i bounds within (c.bounds-item.is ∙ ap (λ l. get_or l i bounds) c.as_slice-bounds-items.ensures)))
