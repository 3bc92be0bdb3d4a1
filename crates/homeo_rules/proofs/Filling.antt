-- The rules of an insert, one after another.
use Rattle.std.proofs.Common.{◌≡◌, ℕ, ◌==◌, ◌||◌, List, [], ◌∷◌, ◌++◌, map, length, Option, refl, sym, ap, ◌∙◌}
use Rattle.std.specs.List.{list_any, flat_map}
use Rattle.std.proofs.lemmas.List.{length-map}
use Rattle.homeo_syntax.specs.declared.phrase.Ident.{Ident}
use Rattle.homeo_syntax.specs.declared.command.FieldValue.{FieldValue}
use Rattle.homeo_meaning.specs.Key.{definitions as meaning_definitions}
use Rattle.homeo_meaning.specs.Bindings.{Scope}
use Rattle.homeo_meaning.specs.ListRules.{when, fault, each_from, each, is_in, duplicate}
use Rattle.homeo_meaning.specs.NameRules.{field_of, fills_all, fills_fields}
use Rattle.homeo_rules.specs.inner.Deciding.{keep_all}
use Rattle.homeo_meaning.specs.declared.rules.Fault.{Fault}
use Rattle.homeo_meaning.specs.declared.rules.Item.{Item}
use Rattle.homeo_meaning.specs.declared.rules.Phase.TheVariants.{Duplicate}
use Rattle.homeo_rules.specs.inner.Key.{definitions}
use Rattle.homeo_rules.specs.inner.Listwise.{along_all, along_each}
use Rattle.homeo_rules.specs.inner.Plain.{named_fields}
use Rattle.homeo_rules.specs.inner.Relations.{named_twice, value_field}
use Rattle.homeo_rules.proofs.Steps.{keep_all-append}
use Rattle.homeo_rules.proofs.Listing.{all-mapped}

-- ---- a name that an earlier item has
module _ {A : Type 0} (name : A → Ident) where
  abbrev twice : List A → A → List Fault
  twice before x = when (list_any (λ b. (name b).name == (name x).name) before) (fault Duplicate (name x))

  there-is : (before : List A) (n : ℕ) → is_in n (map (λ (y : Ident). y.name) (map name before)) ≡ list_any (λ b. (name b).name == n) before
  unfolding meaning_definitions
  there-is [] n = refl
  there-is (b ∷ before) n = ap (λ c. ((name b).name == n) || c) (there-is before n)

  more : (before : List A) (x : A) → map name (before ++ x ∷ []) ≡ map name before ++ name x ∷ []
  more [] x = refl
  more (b ∷ before) x = ap (λ l. name b ∷ l) (more before x)

  pub twice-along : (before : List A) (best : Option Fault) (xs : List A) → along_each twice before best xs ≡ keep_all best (each_from duplicate (map name before) (map name xs))
  unfolding meaning_definitions
  twice-along before best [] = refl
  twice-along before best (x ∷ xs) =
      twice-along (before ++ x ∷ []) (keep_all best (twice before x)) xs
      ∙ ap (λ l. keep_all (keep_all best (twice before x)) (each_from duplicate l (map name xs))) (more before x)
      ∙ ap (λ b. keep_all (keep_all best (when b (fault Duplicate (name x)))) (each_from duplicate (map name before ++ name x ∷ []) (map name xs))) (sym (there-is before (name x).name))
      ∙ sym (keep_all-append best (duplicate (map name before) (name x)) (each_from duplicate (map name before ++ name x ∷ []) (map name xs)))

pub insert-along : (s : Scope) (g : Option Item) (q : Ident) (fs : List FieldValue) (best : Option Fault) → keep_all best (fills_fields s g q (named_fields fs)) ≡ keep_all (along_all (value_field s g) (along_each named_twice [] best fs) fs) (fills_all s g q (length fs))
unfolding definitions meaning_definitions
insert-along s g q fs best =
    let names : List Ident = map (λ (f : FieldValue). f.field) fs in
    let a : List Fault = each duplicate names in
    let b : List Fault = flat_map (field_of s g) names in
    keep_all-append best (a ++ b) (fills_all s g q (length names))
    ∙ ap (λ n. keep_all (keep_all best (a ++ b)) (fills_all s g q n)) (length-map fs (λ (f : FieldValue). f.field))
    ∙ ap (λ o. keep_all o (fills_all s g q (length fs))) (
    keep_all-append best a b
    ∙ all-mapped (λ (f : FieldValue). f.field) (field_of s g) (keep_all best a) fs
    ∙ ap (λ o. along_all (value_field s g) o fs) (sym (twice-along (λ (f : FieldValue). f.field) [] best fs)))

pub ruleset filling = (insert-along)
