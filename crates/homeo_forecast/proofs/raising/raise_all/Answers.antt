-- One more object, and all of them.
use Rattle.std.proofs.Common.{◌≡◌, ◌⊎◌, ◌+◌, ◌<◌, ℕ, [], true, length, get_or, inl, inr, ap, ◌∙◌, ⊎_elim, arith}
use Rattle.homeo_outline.specs.Numbers.{has, clauses_on}
use Rattle.homeo_outline.specs.ObjectPlan.{template_in}
use Rattle.homeo_outline.specs.Outlined.{Outlined}
use Rattle.homeo_site.specs.StandsOn.{StandsOnOne}
use Rattle.homeo_site.proofs.OnObjects.{clause_numbers, clause_on, object_before}
use Rattle.homeo_forecast.proofs.RoomLists.{no_raise, still_can, more_raised, fewer_raised}
use Rattle.homeo_forecast.proofs.raising.raise_all.Goals as goal

pub loop-object-init : goal.loop-object-init
loop-object-init c = λ vs. no_raise c.args.plan.now c.args.site c.args.deltas.now vs c.args.rooms.now _ (λ n h. omega (arith, h.below))

pub raise_clauses-requires-clause-numbers : goal.raise_clauses-requires-clause-numbers
raise_clauses-requires-clause-numbers c =
    clause_numbers c.args.plan.now (get_or c.args.written.now c.loop-object.object-index 0) _ c.clauses_on.result.now [] c.deref.ensures c.clauses_on.ensures

pub raise_clauses-requires-clause-can : goal.raise_clauses-requires-clause-can
raise_clauses-requires-clause-can c =
    still_can c.args.plan.now c.args.site c.args.deltas.now c.args.rooms.now c.loop-object.rooms _ c.loop-object.invariant c.requires

pub loop-object-preserved : goal.loop-object-preserved
loop-object-preserved c = λ vs.
    let p = c.args.plan.now in
    let ws = c.args.written.now in
    let i = c.loop-object.object-index in
    let split : (n : ℕ) → n < length (template_in p).clauses → StandsOnOne p ws (i + 1) n → StandsOnOne p ws i n ⊎ (has n c.clauses_on.result.now ≡ true) =
    λ n lt s. ⊎_elim (λ before. inl before)
    (λ on. inr (c.clauses_on.ensures n ∙ ap (λ (o : Outlined). has n (clauses_on (get_or ws i 0) o.terms)) c.deref.ensures ∙ clause_on p n (get_or ws i 0) lt on))
    (object_before p ws i n s) in
    more_raised p c.args.site c.args.deltas.now vs c.args.rooms.now c.loop-object.rooms c.raise_clauses.new.rooms
    (StandsOnOne p ws i) (λ n. has n c.clauses_on.result.now ≡ true) (StandsOnOne p ws (i + 1)) split (c.loop-object.invariant vs) (c.raise_clauses.ensures vs)

pub returns : goal.returns
returns c = λ vs.
    fewer_raised c.args.plan.now c.args.site c.args.deltas.now vs c.args.rooms.now c.loop-object.rooms
    (StandsOnOne c.args.plan.now c.args.written.now c.loop-object.object-index) (StandsOnOne c.args.plan.now c.args.written.now (length c.args.written.now))
    (λ n s. record { place = s.place; below = omega (arith, s.below, c.loop-object-test.false); on = s.on }) (c.loop-object.invariant vs)
