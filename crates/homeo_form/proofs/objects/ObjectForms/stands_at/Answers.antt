-- The object at the place, if one stands there.
use Rattle.std.proofs.Common.{is_some, ap, sym, ◌∙◌, arith}
use Rattle.homeo_form.proofs.ObjectPlaces.{there_is, there_none, some_there}
use Rattle.homeo_form.proofs.objects.ObjectForms.stands_at.Goals as goal

pub returns-then-place-len : goal.returns-then-place-len
returns-then-place-len c =
    let x = c.args.object in
    sym (ap is_some (there_is x c.args.place c.args.self.now.forms.items c.index.result.now (omega (arith, c.if-place-len.true)) c.index.ensures)
    ∙ some_there _ _)

pub returns-else-place-len : goal.returns-else-place-len
returns-else-place-len c =
    sym (ap is_some (there_none c.args.object c.args.place c.args.self.now.forms.items (λ h. omega (arith, h, c.if-place-len.false))))
