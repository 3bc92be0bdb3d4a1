use Rattle.std.proofs.Common.{◌≡◌, ◌-◌, length, get_or, ap, sym, ◌∙◌, arith, rules}
use Rattle.homeo_meaning.specs.Key.{definitions}
use Rattle.homeo_context.proofs.Tables.{no_names, table_step, table_whole}
use Rattle.homeo_context.proofs.declarations.Places.of.Goals as goal

pub loop-place-init : goal.loop-place-init
loop-place-init c =
    let e : c.len-absent.result ≡ length c.args.names.items = search rules in
    record { within = omega arith; slots = λ n. no_names c.args.names.items c.new-places.result.items c.len-absent.result n c.new-places.ensures.items (omega arith) }

pub loop-place-preserved : goal.loop-place-preserved
loop-place-preserved c =
    let h = c.loop-place-test.true in
    let i = c.index in
    let within = c.loop-place.invariant.within in
    record {
      within = omega arith;
      slots = table_step c.args.names.items (c.loop-place.place - 1) c.loop-place.place c.index.result.now (λ n. get_or c.loop-place.places.items n c.len-absent.result) (λ n. get_or c.put.new.items.items n c.len-absent.result) (omega arith) (omega arith) (search rules) c.loop-place.invariant.slots c.in_ok-put.ensures;
    }

pub invariant_of-result : goal.invariant_of-result
unfolding definitions
invariant_of-result c =
    let e : c.len-absent.result ≡ length c.args.names.items = search rules in
    λ n. ap (get_or c.loop-place.places.items n) (sym e) ∙ c.loop-place.invariant.slots n ∙ table_whole c.args.names.items c.loop-place.place n c.loop-place-test.false
