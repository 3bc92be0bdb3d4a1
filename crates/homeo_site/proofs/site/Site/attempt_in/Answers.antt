-- What the room has is the call's local step on the site's state.
use Rattle.std.proofs.Common.{◌≡◌, ℕ, false, List, ℤ, refl, sym, ap, ◌∙◌}
use Rattle.homeo_syntax.specs.Listed.{Listed}
use Rattle.homeo_meaning.specs.Serial.{values_of}
use Rattle.homeo_outline.specs.Numbers.{has}
use Rattle.homeo_site.specs.Key.{definitions}
use Rattle.homeo_site.proofs.SiteAttempts.{after_step, found_here, copies_fit, change_is}
use Rattle.homeo_site.proofs.site.Site.attempt_in.Goals as goal

-- what isn't among the objects that were written stays, in lists by other names
others_stay :
    (written lent : List ℕ) (left deltas before : List ℤ) → lent ≡ written → left ≡ deltas →
    ((n : ℕ) → has n written ≡ false → values_of deltas n ≡ values_of before n) → (n : ℕ) → has n lent ≡ false → values_of left n ≡ values_of before n
others_stay written lent left deltas before same are h n none =
    ap (λ l. values_of l n) are ∙ h n (sym (ap (has n) same) ∙ none)

pub failure-failure-requires : goal.failure-failure-requires
failure-failure-requires c =
    after_step c.self.inside.own c.self.inside.deltas c.self.inside.segment c.args.self.now c.self.view_is _ refl c.args.call c.self.invariant c.requires.call c.as_slice.result.now c.as_slice-2.result.now
    (c.as_slice-2.ensures.value ∙ c.into_vec-deltas.ensures ∙ c.requires.room.deltas)
    (others_stay c.args.room.written.items c.as_slice.result.now c.as_slice-2.result.now c.args.room.deltas.items c.args.self.now.state.deltas
    c.as_slice.ensures (c.as_slice-2.ensures.value ∙ c.into_vec-deltas.ensures) c.requires.room.written)

pub copy_to_all-prints-requires : goal.copy_to_all-prints-requires
copy_to_all-prints-requires c =
    copies_fit c.args.self.now c.args.call c.args.room.prints.items c.args.answers.now.items c.requires.room.prints c.requires.answers

pub returns-in-Some-clause-outcome : goal.returns-in-Some-clause-outcome
unfolding definitions
returns-in-Some-clause-outcome c =
    sym
    (found_here c.self.inside.own c.self.inside.deltas c.self.inside.segment c.args.self.now c.self.view_is _ refl c.args.call c.self.invariant c.requires.call c.as_slice.result.now
    c.as_slice-2.result.now (c.as_slice-2.ensures.value ∙ c.into_vec-deltas.ensures ∙ c.requires.room.deltas)
    (others_stay c.args.room.written.items c.as_slice.result.now c.as_slice-2.result.now c.args.room.deltas.items c.args.self.now.state.deltas
    c.as_slice.ensures (c.as_slice-2.ensures.value ∙ c.into_vec-deltas.ensures) c.requires.room.written)
    c.failure-failure.result c.failure-failure.ensures)
    ∙ c.in-Some.is

pub returns-in-Some-clause-answers : goal.returns-in-Some-clause-answers
unfolding definitions
returns-in-Some-clause-answers c k d lt = (c.requires.answers k d lt).empty

pub returns-in-None-clause-outcome : goal.returns-in-None-clause-outcome
unfolding definitions
returns-in-None-clause-outcome c =
    change_is _ _ c.args.call _
    (sym
    (found_here c.self.inside.own c.self.inside.deltas c.self.inside.segment c.args.self.now c.self.view_is _ refl c.args.call c.self.invariant c.requires.call c.as_slice.result.now
    c.as_slice-2.result.now (c.as_slice-2.ensures.value ∙ c.into_vec-deltas.ensures ∙ c.requires.room.deltas)
    (others_stay c.args.room.written.items c.as_slice.result.now c.as_slice-2.result.now c.args.room.deltas.items c.args.self.now.state.deltas
    c.as_slice.ensures (c.as_slice-2.ensures.value ∙ c.into_vec-deltas.ensures) c.requires.room.written)
    c.failure-failure.result c.failure-failure.ensures)
    ∙ c.in-None.is)
    refl (ap (λ (l : Listed ℤ). l.items) c.from_vec.ensures ∙ c.into_vec-deltas.ensures ∙ c.requires.room.deltas) (c.copy_to_all-prints.ensures.prints ∙ c.requires.room.prints)
    (others_stay c.args.room.written.items _ _ c.args.room.deltas.items c.args.self.now.state.deltas refl
    (ap (λ (l : Listed ℤ). l.items) c.from_vec.ensures ∙ c.into_vec-deltas.ensures) c.requires.room.written)

pub returns-in-None-clause-answers : goal.returns-in-None-clause-answers
unfolding definitions
returns-in-None-clause-answers c k d lt = c.copy_to_all-prints.ensures.copied k d lt ∙ sym c.copy_to_all-prints.ensures.prints
