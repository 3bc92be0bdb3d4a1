-- One object more.
use Rattle.std.proofs.Common.{◌≡◌, ◌+◌, ℕ, List, [], ◌∷◌, map, length, true, Global, sym, ap, ◌∙◌, subst, length-append}
use Rattle.std.specs.Prelude.{Vec}
use Rattle.std.proofs.lemmas.List.{length-map, map-append}
use Rattle.homeo_outline.specs.Leaders.{Lead}
use Rattle.homeo_outline.specs.Numbers.{has, clauses_on}
use Rattle.homeo_outline.proofs.Leading.{lead_none, lead_more}
use Rattle.homeo_outline.proofs.leaders.Leaders.of.Goals as goal

pub loop-object-init : goal.loop-object-init
loop-object-init c =
    let none = c.in_ok-numbers.ensures.items in (
      ap length none,
      subst (λ (ls : List (Vec ℕ Global)). Lead c.args.outline.now.terms c.args.slacks.now (map (λ v. v.items) ls)) (sym none)
          (lead_none c.args.outline.now.terms c.args.slacks.now),
    )

pub loop-object-preserved : goal.loop-object-preserved
loop-object-preserved c =
    let tss = c.args.outline.now.terms in
    let ss = c.args.slacks.now in
    let items : Vec ℕ Global → List ℕ = λ v. v.items in
    let old = c.loop-object.numbers.items in
    let v = c.in_ok-leaders_on.field-0 in
    let so_far = c.loop-object.invariant in
    let more = c.in_ok-push.ensures.items in
    let counted : length (map items old) ≡ c.loop-object.object = length-map old items ∙ so_far.0 in (
      ap length more ∙ length-append old (v ∷ []) ∙ ap (λ n. n + 1) so_far.0,
      subst (Lead tss ss) (sym (ap (map items) more ∙ map-append items old (v ∷ [])))
          (lead_more tss ss (map items old) v.items so_far.1
          (λ n some is. c.in_ok-leaders_on.ensures n some (subst (λ m. has n (clauses_on m tss) ≡ true) counted is))),
    )

pub returns : goal.returns
returns c = c.loop-object.invariant.1
