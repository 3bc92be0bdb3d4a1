-- Inserts, setting by setting.
use Rattle.std.proofs.Common.{◌≡◌, ℕ, suc, ◌+◌, ◌<◌, ◌≤◌, Bool, true, false, cond, ◌&&◌, ℤ, pos, List, [], ◌∷◌, ◌++◌, map, drop, get_or, length, Some, None, refl, sym, ap, ◌∙◌, append_assoc, append-nil, add-one}
use Rattle.std.proofs.Math.Seq.{drop-cons}
use Rattle.std.proofs.lemmas.Bool.{and_parts}
use Rattle.std.proofs.lemmas.List.{map-append}
use Rattle.homeo_lemmas.proofs.Lists.{map_drop_past}
use Rattle.homeo_syntax.specs.Key.{definitions as syntax_definitions}
use Rattle.homeo_syntax.specs.SourceView.{plain_field, plain_expr}
use Rattle.homeo_syntax.specs.Source as s
use Rattle.homeo_syntax.specs.declared.command.FieldValue.{FieldValue}
use Rattle.homeo_eval.specs.declared.inserts.Setting as code
use Rattle.homeo_meaning.specs.Key.{definitions}
use Rattle.homeo_meaning.specs.Schema.{Declared}
use Rattle.homeo_meaning.specs.Context.{Slot, Context, spot, cell, first_where}
use Rattle.homeo_meaning.specs.Meaning.{State, Setting, value, settings, is_free, is_within, are_within, set_fields, set_object, set_temp, fill, insert}
use Rattle.homeo_eval.specs.inner.CanRun.{expr_fits, values_fit}
use Rattle.homeo_context.specs.Slots.{plain_spot}
use Rattle.homeo_eval.specs.inner.Settings.{plain_setting}
use Rattle.homeo_meaning.proofs.Steps.{drop_next}

abbrev rest_of : List code.Setting → ℕ → List Setting
rest_of xs i = map plain_setting (drop i xs)

rest_next : (xs : List code.Setting) (i : ℕ) (none : code.Setting) → i < length xs → rest_of xs i ≡ plain_setting (get_or xs i none) ∷ rest_of xs (i + 1)
rest_next xs i none h =
    let front : drop i xs ≡ get_or xs i none ∷ drop (i + 1) xs = rw add-one (drop-cons xs i none h) in
    ap (map plain_setting) front

-- ---- whether all are within bounds
within_more : (f : Setting) (fs : List Setting) → are_within (f ∷ fs) ≡ is_within f.field f.value && are_within fs
unfolding definitions
within_more f fs = refl

within_next : (xs : List code.Setting) (i : ℕ) (none : code.Setting) (v : ℤ) (r : Bool) → i < length xs → v ≡ (get_or xs i none).value → r ≡ is_within (plain_spot (get_or xs i none).field) v → are_within (rest_of xs i) ≡ r && are_within (rest_of xs (i + 1))
unfolding definitions
within_next xs i none v r h e p =
    ap are_within (rest_next xs i none h) ∙ within_more (plain_setting (get_or xs i none)) (rest_of xs (i + 1))
    ∙ ap (λ b. b && are_within (rest_of xs (i + 1))) (sym (p ∙ ap (is_within (plain_spot (get_or xs i none).field)) e))

pub refuses : (xs : List code.Setting) (i : ℕ) (none : code.Setting) (v : ℤ) (r : Bool) → i < length xs → v ≡ (get_or xs i none).value → r ≡ is_within (plain_spot (get_or xs i none).field) v → r ≡ false → are_within (map plain_setting (drop i xs)) ≡ false
refuses xs i none v r h e p q = within_next xs i none v r h e p ∙ ap (λ b. b && are_within (rest_of xs (i + 1))) q

pub admits : (xs : List code.Setting) (i : ℕ) (none : code.Setting) (v : ℤ) (r : Bool) → i < length xs → v ≡ (get_or xs i none).value → r ≡ is_within (plain_spot (get_or xs i none).field) v → r ≡ true → are_within (map plain_setting (drop (i + 1) xs)) ≡ are_within (map plain_setting (drop i xs))
admits xs i none v r h e p q = sym (within_next xs i none v r h e p ∙ ap (λ b. b && are_within (rest_of xs (i + 1))) q)

pub admits_all : (xs : List code.Setting) (i : ℕ) → length xs ≤ i → are_within (map plain_setting (drop i xs)) ≡ true
unfolding definitions
admits_all xs i h = ap are_within (map_drop_past plain_setting xs i h)

-- ---- the fields that are left to be set
fields_more : (slot : Slot) (f : Setting) (fs : List Setting) (s : State) → set_fields slot (f ∷ fs) s ≡ set_fields slot fs (set_object s (cell slot f.field) f.value)
unfolding definitions
fields_more slot f fs s = refl

pub field_set : (slot : Slot) (xs : List code.Setting) (i : ℕ) (none : code.Setting) (s u : State) (v : ℤ) → i < length xs → v ≡ (get_or xs i none).value → u ≡ set_object s (slot.used + 1 + (get_or xs i none).field.place) v → set_fields slot (map plain_setting (drop (i + 1) xs)) u ≡ set_fields slot (map plain_setting (drop i xs)) s
unfolding definitions
field_set slot xs i none s u v h e p =
    ap (set_fields slot (rest_of xs (i + 1))) (p ∙ ap (set_object s (slot.used + 1 + (get_or xs i none).field.place)) e)
    ∙ sym (ap (λ l. set_fields slot l s) (rest_next xs i none h) ∙ fields_more slot (plain_setting (get_or xs i none)) (rest_of xs (i + 1)) s)

pub fields_set : (slot : Slot) (xs : List code.Setting) (i : ℕ) (s : State) → length xs ≤ i → set_fields slot (map plain_setting (drop i xs)) s ≡ s
unfolding definitions
fields_set slot xs i s h = ap (λ l. set_fields slot l s) (map_drop_past plain_setting xs i h)

-- ---- the values that are left to be computed
values_more : (b : ℕ) (x : Context) (f : s.FieldValue) (fs : List s.FieldValue) (u : State) → values_fit b x (f ∷ fs) u ≡ expr_fits b x f.value u && values_fit b x fs u
unfolding definitions
values_more b x f fs u = refl

settings_more : (x : Context) (ds : List Declared) (f : s.FieldValue) (fs : List s.FieldValue) (u : State) → settings x ds (f ∷ fs) u ≡ record { field = spot ds f.field.name; value = value x f.value u } ∷ settings x ds fs u
unfolding definitions
settings_more x ds f fs u = refl

pub record ValueStep (b : ℕ) (x : Context) (u : State) (xs : List FieldValue) (i : ℕ) (f : FieldValue) : Type 0 where
  pub fits : expr_fits b x (plain_expr f.value) u ≡ true
  pub rest : values_fit b x (map plain_field (drop (i + 1) xs)) u ≡ true

pub value_step : (b : ℕ) (x : Context) (u : State) (xs : List FieldValue) (i : ℕ) (f : FieldValue) → i < length xs → f ≡ get_or xs i f → values_fit b x (map plain_field (drop i xs)) u ≡ true → ValueStep b x u xs i f
unfolding syntax_definitions
value_step b x u xs i f h p fits =
    let k = and_parts _ _ (sym (ap (λ l. values_fit b x l u) (drop_next plain_field xs i f h p) ∙ values_more b x (plain_field f) (map plain_field (drop (i + 1) xs)) u) ∙ fits) in
    record { fits = k.0; rest = k.1 }

pub setting_more : (x : Context) (ds : List Declared) (u : State) (xs : List FieldValue) (i : ℕ) (f : FieldValue) (all items : List code.Setting) (n : code.Setting) (whole : List Setting) → i < length xs → f ≡ get_or xs i f → items ≡ all ++ n ∷ [] → plain_spot n.field ≡ spot ds f.field.name → n.value ≡ value x (plain_expr f.value) u → map plain_setting all ++ settings x ds (map plain_field (drop i xs)) u ≡ whole → map plain_setting items ++ settings x ds (map plain_field (drop (i + 1) xs)) u ≡ whole
unfolding definitions syntax_definitions
setting_more x ds u xs i f all items n whole h p added at v left =
    let rest : List Setting = settings x ds (map plain_field (drop (i + 1) xs)) u in
    let is : plain_setting n ≡ record { field = spot ds f.field.name; value = value x (plain_expr f.value) u } = λ j. record { field = at j; value = v j } in
    let next : settings x ds (map plain_field (drop i xs)) u ≡ record { field = spot ds f.field.name; value = value x (plain_expr f.value) u } ∷ rest = ap (λ l. settings x ds l u) (drop_next plain_field xs i f h p) ∙ settings_more x ds (plain_field f) (map plain_field (drop (i + 1) xs)) u in
    ap (λ l. map plain_setting l ++ rest) added ∙ ap (λ l. l ++ rest) (map-append plain_setting all (n ∷ []))
    ∙ append_assoc (map plain_setting all) (plain_setting n ∷ []) rest
    ∙ ap (λ m. map plain_setting all ++ m ∷ rest) is
    ∙ ap (λ l. map plain_setting all ++ l) (sym next) ∙ left

pub settings_all : (x : Context) (ds : List Declared) (u : State) (xs : List FieldValue) (i : ℕ) (all : List Setting) → length xs ≤ i → all ≡ all ++ settings x ds (map plain_field (drop i xs)) u
unfolding definitions
settings_all x ds u xs i all h = sym (ap (λ l. all ++ settings x ds l u) (map_drop_past plain_field xs i h) ∙ append-nil all)

-- ---- the insert
pub insert_refused : (all : List Slot) (fs gs : List Setting) (t : ℕ) (s : State) → gs ≡ fs → are_within gs ≡ false → set_temp s t (pos 0) ≡ insert all fs t s
unfolding definitions
insert_refused all fs gs t s e h = sym (ap (λ b. cond b (fill fs t s (first_where (is_free s) all)) (set_temp s t (pos 0))) (ap are_within (sym e) ∙ h))

pub insert_full : (all : List Slot) (fs gs : List Setting) (t : ℕ) (s : State) → gs ≡ fs → are_within gs ≡ true → first_where (is_free s) all ≡ None → set_temp s t (pos 0) ≡ insert all fs t s
unfolding definitions
insert_full all fs gs t s e h n =
    sym (ap (λ b. cond b (fill fs t s (first_where (is_free s) all)) (set_temp s t (pos 0))) (ap are_within (sym e) ∙ h) ∙ ap (fill fs t s) n)

pub insert_filled : (all : List Slot) (fs gs : List Setting) (t : ℕ) (s : State) (slot : Slot) → gs ≡ fs → are_within gs ≡ true → first_where (is_free s) all ≡ Some slot → set_temp (set_object (set_fields slot gs s) slot.used (pos 1)) t (pos (suc slot.number)) ≡ insert all fs t s
unfolding definitions
insert_filled all fs gs t s slot e h n =
    ap (λ l. set_temp (set_object (set_fields slot l s) slot.used (pos 1)) t (pos (suc slot.number))) e
    ∙ sym (ap (λ b. cond b (fill fs t s (first_where (is_free s) all)) (set_temp s t (pos 0))) (ap are_within (sym e) ∙ h) ∙ ap (fill fs t s) n)
