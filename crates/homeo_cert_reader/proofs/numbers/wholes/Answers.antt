use Rattle.std.proofs.Common.{rules, ◌+◌, [], ◌∷◌, ◌++◌, map, Some, None, sym, ap, ◌∙◌, subst, refl}
use Rattle.serde_json.specs.View.{view}
use Rattle.homeo_meaning.proofs.Numbers.{kept_is}
use Rattle.homeo_certificate.specs.Json.{whole_data}
use Rattle.homeo_certificate.specs.Shape.{IsWord}
use Rattle.homeo_cert_reader.proofs.ReadLists.{Front, front_none, front_more, front_all, none_if, list_read}
use Rattle.homeo_cert_reader.proofs.numbers.wholes.Goals as goal

pub loop-item-init : goal.loop-item-init
loop-item-init c =
    subst (Front IsWord whole_data view c.in-Some.items.now 0) (sym c.in_ok-numbers.ensures.items) (front_none IsWord whole_data view c.in-Some.items.now)

pub returns-in-None : goal.returns-in-None
returns-in-None c =
    list_read IsWord whole_data (map view c.in-Some.items.now) (view c.args.value.now) None c.in-Some.ensures
    (none_if IsWord whole_data view c.in-Some.items.now c.loop-item.item-index c.item-item.result c.loop-item-test.true
    (λ x p e. c.in-None.ensures x p (e ∙ ap view (sym c.item-item.is))))

pub loop-item-preserved : goal.loop-item-preserved
loop-item-preserved c =
    let n = c.loop-item.item-index in
    let vs = c.in-Some.items.now in
    let m = c.in-Some-whole.n in
    let kept = kept_is m m (search rules) refl in
    subst (Front IsWord whole_data view vs (n + 1))
    (ap (λ x. c.loop-item.numbers.items ++ x ∷ []) (sym kept) ∙ sym c.in_ok-push-in-Some-whole.ensures.items)
    (front_more IsWord whole_data view vs n c.loop-item.numbers.items m c.item-item.result c.loop-item-test.true
    c.loop-item.invariant c.in-Some-whole.ensures.0 (c.in-Some-whole.ensures.1 ∙ ap view c.item-item.is))

pub returns : goal.returns
returns c =
    list_read IsWord whole_data (map view c.in-Some.items.now) (view c.args.value.now) (Some c.loop-item.numbers.items) c.in-Some.ensures
    (front_all IsWord whole_data view c.in-Some.items.now c.loop-item.item-index c.loop-item.numbers.items c.loop-item-test.false c.loop-item.invariant)
