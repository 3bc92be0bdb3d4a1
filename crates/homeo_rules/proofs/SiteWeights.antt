-- The rules of weights, as the code checks them.
use Rattle.std.proofs.Common.{◌≡◌, Bool, true, false, not, List, [], ◌∷◌, ◌++◌, length, get_or, ◌==◌, ℤ, pos, Option, refl, sym, ap, ◌∙◌, arith}
use Rattle.std.specs.List.{list_all, flat_map}
use Rattle.std.specs.Ordering.{int_eq}
use Rattle.homeo_syntax.specs.declared.phrase.Number.{Number}
use Rattle.homeo_meaning.specs.Key.{definitions as meaning_definitions}
use Rattle.homeo_meaning.specs.ListRules.{when, number_fault}
use Rattle.homeo_meaning.specs.NumberRules.{too_heavy, is_weightless, weight_list_faults, site_weight_faults}
use Rattle.homeo_meaning.specs.declared.rules.Fault.{Fault}
use Rattle.homeo_meaning.specs.declared.rules.Phase.TheVariants.{Arity, Bounds}
use Rattle.homeo_rules.specs.inner.Deciding.{keep, keep_all}
use Rattle.homeo_rules.specs.inner.Listwise.{along_all}
use Rattle.homeo_rules.proofs.Steps.{keep_all-append}
use Rattle.homeo_rules.proofs.Listing.{all-along}

pub no_list : (best : Option Fault) (sites : Number) (ns : List Number) → length ns ≡ 0 → best ≡ keep_all best (weight_list_faults sites ns)
unfolding meaning_definitions
no_list best sites [] e = refl
no_list best sites (n ∷ ns) e = absurd (omega (arith, e))

abbrev none : Number
none = record { value = pos 0; offset = 0 }

-- what is kept of the number of weights
abbrev pub counted : Option Fault → Number → List Number → ℤ → Option Fault
counted best sites ns count = keep_all best (when (not (int_eq count sites.value)) (number_fault Arity (get_or ns 0 none)))

some_list : (best : Option Fault) (sites : Number) (ns : List Number) (b : Bool) → false ≡ (length ns == 0) → list_all is_weightless ns ≡ b →
    keep_all best (weight_list_faults sites ns) ≡ keep_all (counted best sites ns (pos (length ns))) (when b (number_fault Bounds (get_or ns 0 none)))
unfolding meaning_definitions
some_list best sites [] b ne e = let no : ⊥ = cc in absurd no
some_list best sites (n ∷ ns) b ne e =
    ap (λ (x : Bool). keep_all best (when (not (int_eq (pos (length (n ∷ ns))) sites.value)) (number_fault Arity n) ++ when x (number_fault Bounds n))) e
    ∙ keep_all-append best (when (not (int_eq (pos (length (n ∷ ns))) sites.value)) (number_fault Arity n)) (when b (number_fault Bounds n))

pub weightless : (best one : Option Fault) (sites : Number) (ns : List Number) → false ≡ (length ns == 0) → one ≡ counted best sites ns (pos (length ns)) →
    true ≡ list_all is_weightless ns → keep one (record { phase = Bounds; offset = (get_or ns 0 none).offset }) ≡ keep_all best (weight_list_faults sites ns)
unfolding meaning_definitions
weightless best one sites ns ne e all =
    ap (λ (o : Option Fault). keep o (record { phase = Bounds; offset = (get_or ns 0 none).offset })) e ∙ sym (some_list best sites ns true ne (sym all))

pub weighted : (best one : Option Fault) (sites : Number) (ns : List Number) → false ≡ (length ns == 0) → one ≡ counted best sites ns (pos (length ns)) →
    false ≡ list_all is_weightless ns → one ≡ keep_all best (weight_list_faults sites ns)
unfolding meaning_definitions
weighted best one sites ns ne e all = e ∙ sym (some_list best sites ns false ne (sym all))

pub all_weights : (best one : Option Fault) (sites : Number) (ns : List Number) → one ≡ keep_all best (weight_list_faults sites ns) →
    along_all too_heavy one ns ≡ keep_all best (site_weight_faults sites ns)
unfolding meaning_definitions
all_weights best one sites ns e =
    ap (λ (o : Option Fault). along_all too_heavy o ns) e
    ∙ sym (all-along too_heavy (keep_all best (weight_list_faults sites ns)) ns)
    ∙ sym (keep_all-append best (weight_list_faults sites ns) (flat_map too_heavy ns))
