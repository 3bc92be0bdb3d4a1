use Rattle.std.proofs.Common.{◌+◌, [], ◌∷◌, ◌++◌, sym, ap, ◌∙◌, subst}
use Rattle.std.specs.List.{list_any}
use Rattle.std.specs.Str.{bytes_eq}
use Rattle.serde_json.specs.View.{view}
use Rattle.homeo_lines.proofs.Distinct.{AreDistinct, distinct_again, distinct_more}
use Rattle.homeo_lines.proofs.members.texts.Goals as goal

pub returns-then-is_among : goal.returns-then-is_among
returns-then-is_among c =
    let t = c.in-Some.text.now in
    distinct_again view c.args.items.now c.loop-item.item-index c.item-item.result c.loop-item.texts.items c.loop-item-test.true c.item-item.is c.loop-item.invariant t
    (sym c.in-Some.ensures)
    (ap (list_any (λ other. bytes_eq other t)) (sym c.as_slice.ensures.value) ∙ sym c.is_among.ensures ∙ c.if-is_among.true)

pub loop-item-preserved : goal.loop-item-preserved
loop-item-preserved c =
    let t = c.in-Some.text.now in
    let xs = c.loop-item.texts.items in
    subst (AreDistinct view c.args.items.now (c.loop-item.item-index + 1)) (sym (c.in_ok-push.ensures.items ∙ ap (λ s. xs ++ s ∷ []) c.in_ok-of.ensures))
    (distinct_more view c.args.items.now c.loop-item.item-index c.item-item.result xs c.loop-item-test.true c.item-item.is c.loop-item.invariant t
    (sym c.in-Some.ensures)
    (ap (list_any (λ other. bytes_eq other t)) (sym c.as_slice.ensures.value) ∙ sym c.is_among.ensures ∙ c.if-is_among.false))
