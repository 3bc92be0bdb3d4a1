-- Atoms that hold of what objects gained.
use Rattle.homeo_plan.specs.Key.{definitions as plan_definitions}
use Rattle.homeo_follow.specs.Key.{definitions}
use Rattle.std.proofs.Common.{◌≡◌, ℕ, ◌+◌, ◌<◌, ◌≤◌, true, List, [], ◌∷◌, ◌++◌, map, length, take, get_or, ℤ, pos, ◌+ℤ◌, ◌≤ℤ◌, sym, ap, ◌∙◌, subst, arith}
use Rattle.std.specs.List.{list_all}
use Rattle.std.specs.Ordering.{int_eq}
use Rattle.std.proofs.lemmas.Bool.{and_parts}
use Rattle.std.proofs.lemmas.Int.{ints}
use Rattle.std.proofs.lemmas.List.{take_more, take_all, map-append}
use Rattle.homeo_plan.specs.Each.{Each}
use Rattle.homeo_plan.specs.Holding.{AtomHolds}
use Rattle.homeo_plan.specs.Linear.{Linear, IsZeroAt}
use Rattle.homeo_plan.specs.PlanView.{plain_atom}
use Rattle.homeo_plan.specs.declared.forms.Atom.{Atom}
use Rattle.homeo_plan.specs.declared.forms.Delta.{Delta}
use Rattle.homeo_plan.proofs.Atoms.{append_each}
use Rattle.homeo_follow.specs.Follow.{own_state}
use Rattle.homeo_follow.specs.Rebased.{rebased_form}
use Rattle.homeo_follow.proofs.Steadying.{gained_is}
use Rattle.homeo_outline.specs.inner.Holding.{IsRebasedAtom, AreRebasedAtoms}

module _ (g : ℕ → ℤ) where
  zeros : (ds : List Delta) → list_all (λ d. int_eq (g d.object) (pos 0)) ds ≡ true → Each (IsZeroAt (own_state g)) ds
  unfolding plan_definitions definitions
  zeros [] h = tt
  zeros (d ∷ ds) h =
      let both = and_parts (int_eq (g d.object) (pos 0)) (list_all (λ d. int_eq (g d.object) (pos 0)) ds) h in
      let here : g d.object ≡ pos 0 = grind (arith, ints, both.0) in
      (here, zeros ds both.1)

  pub atom_holds :
      (a : Linear) (n : ℤ) → list_all (λ d. int_eq (g d.object) (pos 0)) a.mixed ≡ true → n ≡ (rebased_form g a).constant → n ≤ℤ pos 0 →
      AtomHolds (own_state g) a
  unfolding plan_definitions definitions
  atom_holds a n none is below =
      record { mixed = zeros a.mixed none; below = subst (λ z. z ≤ℤ pos 0) (is ∙ ap (λ z. a.constant +ℤ z) (gained_is g a.terms)) below }

  -- the atoms before number i
  abbrev pub AreSoFar : List Atom → ℕ → List Atom → Type 0
  AreSoFar old i made = AreRebasedAtoms g (map plain_atom (take i old)) (map plain_atom made)

  pub none_so_far : (old made : List Atom) → made ≡ [] → AreSoFar old 0 made
  unfolding plan_definitions
  none_so_far old made is = record { rebased = ap (map plain_atom) is; hold = tt }

  pub more_so_far :
      (old made more : List Atom) (i : ℕ) (x a : Atom) → i < length old → x ≡ get_or old i x → more ≡ made ++ a ∷ [] →
      IsRebasedAtom g (plain_atom x) a → AreSoFar old i made → AreSoFar old (i + 1) more
  unfolding plan_definitions
  more_so_far old made more i x a within is pushed here so_far =
      let next : map plain_atom (take (i + 1) old) ≡ map plain_atom (take i old) ++ plain_atom x ∷ [] =
      ap (map plain_atom) (take_more old i x within) ∙ map-append plain_atom (take i old) (get_or old i x ∷ [])
      ∙ ap (λ z. map plain_atom (take i old) ++ plain_atom z ∷ []) (sym is) in
      subst (λ l. AreRebasedAtoms g l (map plain_atom more)) (sym next) (
      record {
        rebased =
            ap (map plain_atom) pushed ∙ map-append plain_atom made (a ∷ [])
            ∙ (λ j. so_far.rebased j ++ here.rebased j ∷ [])
            ∙ sym (map-append (rebased_form g) (map plain_atom (take i old)) (plain_atom x ∷ []));
        hold = append_each (AtomHolds (own_state g)) (map plain_atom (take i old)) (plain_atom x ∷ []) so_far.hold (here.holds, tt);
      })

  pub all_so_far :
      (old made : List Atom) (i : ℕ) → length old ≤ i → AreSoFar old i made → AreRebasedAtoms g (map plain_atom old) (map plain_atom made)
  all_so_far old made i past so_far =
      subst (λ l. AreRebasedAtoms g (map plain_atom l) (map plain_atom made)) (take_all i old past) so_far
