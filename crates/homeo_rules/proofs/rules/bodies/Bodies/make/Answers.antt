-- The L form that is made, and its measure, stand behind the others.
use Rattle.std.proofs.Common.{◌∙◌, sym, ap, subst, map}
use Rattle.homeo_syntax.specs.LowView.{plain_lcommand}
use Rattle.homeo_desugar.specs.SchemaFits.{SchemaFits}
use Rattle.homeo_rules.specs.inner.Bodies.{call_body}
use Rattle.homeo_rules.specs.inner.Sizes.{workload_of}
use Rattle.homeo_rules.proofs.BodiesMeasured.{keys_put, stored_place, more_forms, more_measures}
use Rattle.homeo_rules.proofs.Measured.{formed, measured}
use Rattle.homeo_rules.proofs.rules.bodies.Bodies.make.Goals as goal

pub form_call-requires : goal.form_call-requires
form_call-requires c = subst SchemaFits (sym (c.declared.ensures ∙ c.requires.set_up.layout)) c.requires.set_up.fits

pub returns-clause-measure : goal.returns-clause-measure
returns-clause-measure c =
    let m = c.args.measuring.now in
    let is = c.in_ok-form.ensures ∙ formed m c.args.t.now c.args.body c.requires.set_up c.requires.transaction c.declared.result.now.schema c.as_slice.result.now c.declared.ensures c.as_slice.ensures.value in
    measured m c.args.t.now c.args.body c.requires.set_up c.requires.transaction (plain_lcommand c.in_ok-form.form) c.in_ok-measure.measure is c.in_ok-measure.ensures

pub returns-clause-bodies : goal.returns-clause-bodies
returns-clause-bodies c =
    let m = c.args.measuring.now in
    let w = workload_of m in
    let old = c.args.self.now in
    let body = c.args.body in
    let bs = map call_body old.bodies.keys in
    let more = map call_body c.insert_full.new.self.keys in
    let put = keys_put body old.bodies.keys c.insert_full.new.self.keys c.in_ok-place.ensures.keys in
    let is = c.in_ok-form.ensures ∙ formed m c.args.t.now body c.requires.set_up c.requires.transaction c.declared.result.now.schema c.as_slice.result.now c.declared.ensures c.as_slice.ensures.value in
    record {
      forms = more_forms w bs more (call_body body) c.requires.new put old.forms.items c.push.new.self.items c.in_ok-form.form (ap (λ l. l.items) c.in_ok-push.ensures.ok) is c.requires.bodies.forms;
      measures = more_measures w bs more (call_body body) c.requires.new put old.measures.items c.push-2.new.self.items c.in_ok-measure.measure c.in_ok-push-2.ensures.items (returns-clause-measure c) c.requires.bodies.measures;
    }

pub returns-clause-put : goal.returns-clause-put
returns-clause-put c =
    let stored = c.in_ok-place.ensures.stored in
    (keys_put c.args.body c.args.self.now.bodies.keys c.insert_full.new.self.keys c.in_ok-place.ensures.keys, stored_place c.insert_full.new.self.keys c.in_ok-place.place c.args.body stored.0 stored.1 stored.2)
