-- One term.
use Rattle.homeo_form.proofs.FormParts.{one_in_order, delta_is}
use Rattle.homeo_form.proofs.form.Form.delta.Goals as goal

pub invariant_of-result : goal.invariant_of-result
invariant_of-result c =
    one_in_order c.args.delta c.push.new.self.items c.new-terms.result.items c.new.result.items c.new-terms.ensures.items c.in_ok-push.ensures.items
    c.new.ensures.items

pub returns : goal.returns
returns c =
    delta_is c.args.delta c.push.new.self.items c.new-terms.result.items c.new.result.items c.new-terms.ensures.items c.in_ok-push.ensures.items
    c.new.ensures.items
