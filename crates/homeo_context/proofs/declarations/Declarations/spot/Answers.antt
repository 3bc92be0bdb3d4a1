use Rattle.std.proofs.Common.{rules, map, ap, sym, ◌∙◌}
use Rattle.homeo_meaning.specs.Key.{definitions}
use Rattle.homeo_meaning.specs.Schema.{declared_object}
use Rattle.homeo_meaning.proofs.Numbers.{kept_is}
use Rattle.homeo_context.proofs.Spots.{object_some, object_none}
use Rattle.homeo_context.proofs.declarations.Declarations.spot.Goals as goal

pub returns-in-Some-clause-lo : goal.returns-in-Some-clause-lo
unfolding definitions
returns-in-Some-clause-lo c =
    let os = ap (map declared_object) c.deref.ensures.value ∙ ap (λ d. d.schema.objects) c.self.view_is in
    let kept = object_some c.deref.result.now c.args.self.now.schema.objects c.args.name c.object-place.result c.in-Some.object.now os c.object-place.ensures c.in-Some.ensures.lookup.3.0 (c.in-Some.ensures.lookup.3.1 _) in
    kept_is c.in-Some.object.now.lo.value _ (search rules) (sym kept.lo)

pub returns-in-None-clause-lo : goal.returns-in-None-clause-lo
returns-in-None-clause-lo c =
    let os = ap (map declared_object) c.deref.ensures.value ∙ ap (λ d. d.schema.objects) c.self.view_is in
    sym (object_none c.deref.result.now c.args.self.now.schema.objects c.args.name c.object-place.result os c.object-place.ensures c.in-None.ensures.lookup.3).lo

pub returns-in-Some-clause-hi : goal.returns-in-Some-clause-hi
unfolding definitions
returns-in-Some-clause-hi c =
    let os = ap (map declared_object) c.deref.ensures.value ∙ ap (λ d. d.schema.objects) c.self.view_is in
    let kept = object_some c.deref.result.now c.args.self.now.schema.objects c.args.name c.object-place.result c.in-Some.object.now os c.object-place.ensures c.in-Some.ensures.lookup.3.0 (c.in-Some.ensures.lookup.3.1 _) in
    kept_is c.in-Some.object.now.hi.value _ (search rules) (sym kept.hi)

pub returns-in-None-clause-hi : goal.returns-in-None-clause-hi
returns-in-None-clause-hi c =
    let os = ap (map declared_object) c.deref.ensures.value ∙ ap (λ d. d.schema.objects) c.self.view_is in
    sym (object_none c.deref.result.now c.args.self.now.schema.objects c.args.name c.object-place.result os c.object-place.ensures c.in-None.ensures.lookup.3).hi
