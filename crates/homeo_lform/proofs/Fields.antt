-- Lifting a field of the slot that an index names.
use Rattle.std.proofs.Common.{◌≡◌, ℕ, Bool, true, false, cond, ◌&&◌, List, [], ◌∷◌, ℤ, pos, Option, Some, None, refl, ap₂, ◌∙◌}
use Rattle.std.specs.Ordering.{int_eq}
use Rattle.homeo_syntax.specs.declared.low.Temp.TheVariants as temp
use Rattle.homeo_syntax.specs.Low as L
use Rattle.homeo_meaning.specs.Key.{definitions}
use Rattle.homeo_meaning.specs.LowMeaning as M
use Rattle.homeo_meaning.specs.Context.{Spot, Slot, cell, slot_at}
use Rattle.homeo_meaning.specs.Meaning.{State, field_or_zero}
use Rattle.homeo_meaning.specs.LForm.{plain, read_chain, read_slot, indexed, fresh}
use Rattle.homeo_lform.proofs.Lifts.{seen, quiet, Lifts, alike_self, stored_lifts}

-- the chain of tests finds the slot
chain_reads : (f : Spot) (e : L.Expr) (t : ℕ) (all : List Slot) (s : M.State) → M.exec (read_chain f e t all) s ≡ quiet (M.put s (M.TempAt (temp.Fresh t)) (field_or_zero (seen s) f (slot_at (M.value e s) all)))
unfolding definitions
chain_reads f e t [] s = refl
chain_reads f e t (slot ∷ more) s = go (int_eq (M.value e s) (pos slot.number)) (chain_reads f e t more s)
  where
    go : (b : Bool)
        → M.exec (read_chain f e t more) s ≡ quiet (M.put s (M.TempAt (temp.Fresh t)) (field_or_zero (seen s) f (slot_at (M.value e s) more)))
        → cond (b && true) (quiet (M.put s (M.TempAt (temp.Fresh t)) (s (M.BaseAt (cell slot f))))) (M.exec (read_chain f e t more) s) ≡ quiet (M.put s (M.TempAt (temp.Fresh t)) (field_or_zero (seen s) f (cond b (Some slot) (slot_at (M.value e s) more))))
    go true ih = refl
    go false ih = ih

slot_read : (f : Spot) (o : Option Slot) (u : M.State) → M.value (read_slot f o) u ≡ field_or_zero (seen u) f o
unfolding definitions
slot_read f (Some slot) u = refl
slot_read f None u = refl

literal_lifts : (all : List Slot) (f : Spot) (v : State → ℤ) (n : ℕ) (s : M.State) (before : L.Commands) (k : ℤ) (next : ℕ) → Lifts n s (record { before = before; phrase = L.Literal k; next = next }) M.value v → Lifts n s (plain (read_slot f (slot_at k all)) next) M.value (λ t. field_or_zero t f (slot_at (v t) all))
unfolding definitions
literal_lifts all f v n s before k next h =
    record {
      after = s;
      runs = refl;
      grows = h.grows;
      alike = alike_self n s;
      means = λ u a. slot_read f (slot_at k all) u ∙ ap₂ (λ t i. field_or_zero t f (slot_at i all)) a.sees (h.means h.after (alike_self next h.after));
    }

pub indexed_lifts : (all : List Slot) (f : Spot) (v : State → ℤ) (n : ℕ) (s : M.State) (before : L.Commands) (e : L.Expr) (next : ℕ) → Lifts n s (record { before = before; phrase = e; next = next }) M.value v → Lifts n s (indexed all f (record { before = before; phrase = e; next = next })) M.value (λ t. field_or_zero t f (slot_at (v t) all))
unfolding definitions
indexed_lifts all f v n s before (L.Literal k) next h = literal_lifts all f v n s before k next h
indexed_lifts all f v n s before e next h =
    stored_lifts M.value v M.value (λ t. field_or_zero t f (slot_at (v t) all)) n s (record { before = before; phrase = e; next = next })
    (read_chain f e next all) (fresh next) (λ z. z) (field_or_zero (seen h.after) f (slot_at (M.value e h.after) all)) h
    (chain_reads f e next all h.after) (λ u. refl)
    (ap₂ (λ t i. field_or_zero t f (slot_at i all)) h.alike.sees (h.means h.after (alike_self next h.after)))
