-- A name that is there is an object.
use Rattle.std.proofs.Common.{◌≡◌, ◌<◌, nat_lt, true, length, sym, ap, subst, ◌∙◌, arith, w64}
use Rattle.std.proofs.lemmas.Bool.Decides.{nat_tests}
use Rattle.std.proofs.lemmas.Int.{to_z-of_z}
use Rattle.std.proofs.lemmas.Result.{on_ok_weaker}
use Rattle.homeo_meaning.specs.Key.{definitions as meaning_definitions}
use Rattle.homeo_meaning.specs.LowMeaning.{BaseAt, location_of, put}
use Rattle.homeo_split.specs.Key.{definitions as split_definitions}
use Rattle.homeo_split.specs.Shape.{has_place}
use Rattle.homeo_split.proofs.States.{has_base}
use Rattle.homeo_local.specs.OwnValues.{own_shape}
use Rattle.homeo_local.specs.inner.Leads.{stays}
use Rattle.homeo_local.specs.inner.Own.{plain_own}
use Rattle.homeo_local.proofs.own.OwnStore.write.Goals as goal

pub set_object-requires : goal.set_object-requires
unfolding split_definitions
set_object-requires c =
    let h = own_shape (length c.args.self.now.deltas.items) in
    has_base h c.in-Whole.object (subst (λ x. has_place h x ≡ true) c.in-Whole.is c.requires)

pub set_object-requires-in-Base : goal.set_object-requires-in-Base
set_object-requires-in-Base c =
    let h = own_shape (length c.args.self.now.deltas.items) in
    has_base h c.in-Base.object (subst (λ x. has_place h x ≡ true) c.in-Base.is c.requires)

pub returns-in-Whole-clause-set : goal.returns-in-Whole-clause-set
unfolding meaning_definitions
returns-in-Whole-clause-set c =
    let s = plain_own c.args.self.now in
    let x = c.in-Whole.object in
    on_ok_weaker c.set_object.result (λ e. e ∙ ap (put s (BaseAt x)) (to_z-of_z w64 c.args.v c.ranges.v) ∙ ap (λ x. put s (location_of x) c.args.v) (sym c.in-Whole.is)) c.set_object.ensures.set

pub returns-in-Base-clause-set : goal.returns-in-Base-clause-set
unfolding meaning_definitions
returns-in-Base-clause-set c =
    let s = plain_own c.args.self.now in
    let x = c.in-Base.object in
    on_ok_weaker c.set_object-in-Base.result (λ e. e ∙ ap (put s (BaseAt x)) (to_z-of_z w64 c.args.v c.ranges.v) ∙ ap (λ x. put s (location_of x) c.args.v) (sym c.in-Base.is)) c.set_object-in-Base.ensures.set

pub returns-in-Delta-clause-set : goal.returns-in-Delta-clause-set
unfolding split_definitions
returns-in-Delta-clause-set c =
    let has : nat_lt c.in-Delta.object 0 ≡ true = subst (λ x. has_place (own_shape (length c.args.self.now.deltas.items)) x ≡ true) c.in-Delta.is c.requires in
    let below : c.in-Delta.object < 0 = grind (arith, nat_tests) in
    absurd (omega arith)

pub returns-in-Delta-clause-leads : goal.returns-in-Delta-clause-leads
returns-in-Delta-clause-leads c = stays c.args.self.now
