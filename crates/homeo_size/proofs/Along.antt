-- The definitions along the code's lists, as equations, which code rewrites by.
use Rattle.std.proofs.Common.{◌≡◌, ℕ, zero, suc, ◌+◌, ◌<◌, List, [], ◌∷◌, map, drop, get_or, length, refl, sym, ap, ◌∙◌, arith}
use Rattle.std.proofs.lemmas.List.{drop_more}
use Rattle.homeo_lemmas.proofs.Lists.{drop_past, length_map, map_drop_past}
use Rattle.homeo_syntax.specs.Key.{definitions as syntax_definitions}
use Rattle.homeo_syntax.specs.SourceView.{plain_expr, plain_field}
use Rattle.homeo_syntax.specs.declared.command.FieldValue.{FieldValue}
use Rattle.homeo_meaning.specs.Key.{definitions as meaning_definitions}
use Rattle.homeo_meaning.specs.Schema.{Declared, declared_range}
use Rattle.homeo_meaning.specs.Context.{slots_from}
use Rattle.homeo_context.specs.Slots.{slots_of}
use Rattle.homeo_context.specs.declared.slots.Slots.{Slots}
use Rattle.homeo_context.proofs.SlotLists.{left_all, left_none}
use Rattle.homeo_size.specs.inner.Key.{definitions}
use Rattle.homeo_size.specs.inner.Store.{Store, raise_entry, raised}
use Rattle.homeo_size.specs.declared.extents.Kept.{Kept}

pub map_next : {A B : Type 0} (f : A → B) (xs : List A) (i : ℕ) (d : A) → i < length xs → map f (drop i xs) ≡ f (get_or xs i d) ∷ map f (drop (i + 1) xs)
map_next f xs i d h = ap (map f) (drop_more xs i d h)

pub ruleset items = (drop_more, drop_past, map_next, map_drop_past)

-- ---- slots: as many as are counted
slots_counted : (k first : ℕ) (ds : List Declared) (n : ℕ) → length (slots_from k first ds n) ≡ n
unfolding meaning_definitions
slots_counted k first ds zero = refl
slots_counted k first ds (suc n) = ap suc (slots_counted (suc k) (first + (1 + length ds)) ds n)

pub length_slots : (t : Slots) → length (slots_of t) ≡ t.count
length_slots t = slots_counted 0 t.first (map declared_range t.fields.now) t.count

pub no_slots : (t : Slots) → t.count ≡ 0 → slots_of t ≡ []
no_slots t h = sym (left_all t) ∙ left_none t 0 (omega arith)

pub ruleset lengths = (length_map, length_slots, no_slots)

-- ---- values
pub plain_value : (f : FieldValue) → (plain_field f).value ≡ plain_expr f.value
unfolding syntax_definitions
plain_value f = refl

-- ---- changes
pub raised_end : (z : Store) → raised [] z ≡ z
unfolding definitions
raised_end z = refl

pub raised_more : (k : Kept) (ks : List Kept) (z : Store) → raised (k ∷ ks) z ≡ raised ks (raise_entry z k.entry k.extent)
unfolding definitions
raised_more k ks z = refl

pub ruleset changes = (items, raised_end, raised_more)
