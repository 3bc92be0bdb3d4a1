-- Past the objects nothing but 0 is written.
use Rattle.std.proofs.Common.{◌≡◌, ℕ, ◌+◌, ◌≤◌, true, ℤ, pos, List, [], ◌∷◌, map, length, Some, All, sym, subst, arith}
use Rattle.std.proofs.lemmas.Int.{ints}
use Rattle.std.proofs.lemmas.Bool.{and_parts}
use Rattle.std.proofs.lemmas.List.Elements.{All-nil, All-cons}
use Rattle.homeo_syntax.specs.Source.{FieldValue}
use Rattle.homeo_eval.specs.declared.inserts.Setting as code
use Rattle.homeo_meaning.specs.Key.{definitions}
use Rattle.homeo_meaning.specs.Schema.{Schema}
use Rattle.homeo_meaning.specs.Bounds.{Bounds, all_bounds, IsIn}
use Rattle.homeo_meaning.specs.Context.{Spot, Slot, Context, cell, slots, fields, first_where}
use Rattle.homeo_meaning.specs.Meaning.{State, settings, is_within, are_within, is_free}
use Rattle.homeo_lform.specs.RowsFit.{Admits}
use Rattle.homeo_eval.specs.inner.States.{IsZeroPast}
use Rattle.homeo_eval.specs.inner.Settings.{plain_setting}
use Rattle.homeo_lform.proofs.ObjectBounds.{Each, ForSome, each_first, SlotFits, all_at, slots_fit}
use Rattle.homeo_lform.proofs.Stays.{past_end, values_admitted}

pub value_past : (w : Schema) (n : ℕ) (v : ℤ) → length (all_bounds w) ≤ n → IsIn (all_at w n) v → v ≡ pos 0
unfolding definitions
value_past w n v h k =
    let at : IsIn (record { lo = pos 0; hi = pos 0 }) v = subst (λ (b : Bounds). IsIn b v) (past_end (all_bounds w) n h) k in omega (arith, ints, at.0, at.1)

pub admits_zero : (w : Schema) (count n : ℕ) (b : Spot) → count ≡ length (all_bounds w) → Admits (all_at w n) b → IsZeroPast count b n
unfolding definitions
admits_zero w count n b e h past v within = value_past w n v (subst (λ m. m ≤ n) e past) (h v within)

pub used_there : (w : Schema) (count n : ℕ) → count ≡ length (all_bounds w) → IsIn (all_at w n) (pos 1) → count ≤ n → pos 1 ≡ pos 0
unfolding definitions
used_there w count n e h past = value_past w n (pos 1) (subst (λ m. m ≤ n) e past) h

-- ---- the settings of an insert
admitted_zero : (w : Schema) (count : ℕ) (slot : Slot) (all : List code.Setting) → count ≡ length (all_bounds w) → Each (λ f. Admits (all_at w (cell slot f.field)) f.field) (map plain_setting all) → are_within (map plain_setting all) ≡ true → All (λ (f : code.Setting). count ≤ slot.used + 1 + f.field.place → f.value ≡ pos 0) all
unfolding definitions
admitted_zero w count slot [] e h k = All-nil (λ (f : code.Setting). count ≤ slot.used + 1 + f.field.place → f.value ≡ pos 0)
admitted_zero w count slot (f ∷ all) e h k =
    let both = and_parts (is_within (plain_setting f).field (plain_setting f).value) (are_within (map plain_setting all)) k in
    All-cons (λ (f : code.Setting). count ≤ slot.used + 1 + f.field.place → f.value ≡ pos 0) f all (λ past. value_past w (cell slot (plain_setting f).field) f.value (subst (λ m. m ≤ cell slot (plain_setting f).field) e past) (h.0 f.value both.0)) (admitted_zero w count slot all e h.1 both.1)

-- the slot that is filled is one of the relation's
pub free_fits : (x : Context) (q : ℕ) (s : State) (slot : Slot) → first_where (is_free s) (slots x q) ≡ Some slot → SlotFits (all_at x.schema) (fields x q) slot
free_fits x q s slot e = subst (ForSome (SlotFits (all_at x.schema) (fields x q))) e (each_first (SlotFits (all_at x.schema) (fields x q)) (is_free s) (slots x q) (slots_fit x q))

pub settings_zero : (x : Context) (q : ℕ) (s : State) (slot : Slot) (fs : List FieldValue) (count : ℕ) (all : List code.Setting) → count ≡ length (all_bounds x.schema) → SlotFits (all_at x.schema) (fields x q) slot → map plain_setting all ≡ settings x (fields x q) fs s → are_within (map plain_setting all) ≡ true → All (λ (f : code.Setting). count ≤ slot.used + 1 + f.field.place → f.value ≡ pos 0) all
unfolding definitions
settings_zero x q s slot fs count all e fit same k =
    admitted_zero x.schema count slot all e (subst (Each (λ f. Admits (all_at x.schema (cell slot f.field)) f.field)) (sym same) (values_admitted x.schema (fields x q) slot fit x fs s)) k
