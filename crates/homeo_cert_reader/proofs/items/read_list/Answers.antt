use Rattle.std.proofs.Common.{take, [], ◌∷◌, ◌++◌, None, Ok, sym, ap, ◌∙◌, subst}
use Rattle.std.specs.Fn.{FnReturnsAt}
use Rattle.std.specs.List.{FoldsTo}
use Rattle.std.proofs.lemmas.Fn.{says_at, FoldsTo-push}
use Rattle.std.proofs.lemmas.List.{take_more}
use Rattle.homeo_cert_reader.specs.inner.Reading.{Pushed}
use Rattle.homeo_cert_reader.proofs.ReadLists.{same_list}
use Rattle.homeo_cert_reader.proofs.items.read_list.Goals as goal

pub returns-in-None : goal.returns-in-None
returns-in-None g c = λ ds e.
    let items = c.in-Some.items.now in
    let gave = says_at g.R.Fn c.in_ok-x.ensures (ap Ok c.in-None.is) in (
      items,
      same_list _ ds (c.in-Some.ensures ∙ sym e),
      record {
        place = c.loop-item.item-index;
        within = c.loop-item-test.true;
        value = c.item-item.result;
        gave = subst (λ v. FnReturnsAt g.R.Fn c.args.read v (Ok None)) c.item-item.is gave;
      },
    )

pub loop-item-preserved : goal.loop-item-preserved
loop-item-preserved g c =
    let items = c.in-Some.items.now in
    let i = c.loop-item.item-index in
    let x = c.item-item.result in
    let R = Pushed (λ v o. FnReturnsAt g.R.Fn c.args.read v (Ok o)) in
    let more = take_more items i x c.loop-item-test.true ∙ ap (λ v. take i items ++ v ∷ []) (sym c.item-item.is) in
    subst (λ vs. FoldsTo R [] vs c.push.new.self.items) (sym more)
    (FoldsTo-push R [] (take i items) c.loop-item.all.items x c.push.new.self.items c.loop-item.invariant
    (record { item = c.in-Some-2.x; gave = says_at g.R.Fn c.in_ok-x.ensures (ap Ok c.in-Some-2.is); is = c.in_ok-push-in-Some-2.ensures.items }))
