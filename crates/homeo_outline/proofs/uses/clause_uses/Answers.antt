-- One more clause.
use Rattle.std.proofs.Common.{◌≡◌, ◌+◌, ◌∷◌, [], ◌==◌, map, take, length, refl, sym, ap, subst, ◌∙◌, ◌&&◌, arith}
use Rattle.std.specs.Prelude.{◌||◌}
use Rattle.std.proofs.lemmas.List.{map-append, length-map}
use Rattle.homeo_lemmas.proofs.Lists.{length_take}
use Rattle.homeo_outline.specs.Numbers.{has, names_object}
use Rattle.homeo_outline.specs.inner.Uses.{at_object, KeepsClauses}
use Rattle.homeo_outline.proofs.Noting.{item_kept, next_is}
use Rattle.homeo_outline.proofs.uses.clause_uses.Goals as goal

pub loop-terms-init : goal.loop-terms-init
loop-terms-init c = record { number = refl; keeps = λ x n. ap (λ us. has n (at_object x (map (λ v. v.items) us))) c.new-uses.ensures.items }

pub loop-terms-preserved : goal.loop-terms-preserved
loop-terms-preserved c =
    let ls = c.args.clauses.now in
    let k = c.loop-terms.terms-index in
    let l = c.terms-item.result in
    let before = map (λ v. v.items) c.loop-terms.uses.items in
    let after = map (λ v. v.items) c.note_terms.new.uses.items in
    let number = c.loop-terms.number in
    let so_far = map (λ t. t.items) (take k ls) in
    let next = sym (map-append (λ t. t.items) (take k ls) (l ∷ [])) ∙ ap (map (λ t. t.items)) (next_is ls k l _ c.loop-terms-test.true c.terms-item.is) in
    let counted : number ≡ 0 + length so_far = omega (arith, c.loop-terms.invariant.number, length_take ls k c.loop-terms-test.true, length-map (take k ls) (λ t. t.items)) in
    record {
      number = ap (λ m. m + 1) c.loop-terms.invariant.number;
      keeps =
          subst (λ tss. KeepsClauses tss after) next
          (item_kept names_object 0 so_far l.items number before after counted c.loop-terms.invariant.keeps
          (λ x n. c.in_ok-note_terms.ensures x n ∙ ap (λ ts. has n (at_object x before) || (names_object x ts && (n == number))) c.as_slice.ensures));
    }
