-- What each form keeps.
use Rattle.homeo_form.proofs.FormParts.{order_is}
use Rattle.homeo_form.proofs.form.Form.in_order.Goals as goal

pub returns : goal.returns
returns c = order_is c.args.self.now _ c.self.inside.terms.items c.self.inside.mixed.items c.self.view_is c.self.invariant
