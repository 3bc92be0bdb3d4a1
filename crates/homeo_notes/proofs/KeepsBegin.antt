-- A board begins with its rule.
use Rattle.std.proofs.Common.{◌≡◌, ℕ, zero, suc, ◌<◌, [], ◌∷◌, Some, None, refl, sym, ◌∙◌, subst, arith, replicate}
use mathlib.Core.Option.{some, some-ne-none, some-injective}
use native.Mathlib.Decide.{dec_lt}
use Rattle.std.proofs.lemmas.List.{get_or_past, get_or-replicate, length-replicate}
use Rattle.std.specs.declared.option.Option.{Option}
use lib.ListN.{get_elem?}
use Rattle.atomic_table.specs.Table.{opening}
use Rattle.homeo_notes.specs.declared.rule.View.{View}
use Rattle.homeo_notes.specs.Lines.{Entries}
use Rattle.homeo_notes.specs.Boards.{newcomer}
use Rattle.homeo_notes.specs.inner.Rule.{view_owns, Fits, Kept}
use Rattle.homeo_notes.proofs.Prefixes.{prefix_nil}

pub begins : (lines : ℕ) → Kept lines (opening (replicate lines 0) [] (newcomer lines))
begins lines = record {
  lists = λ _. [];
  owner = λ _. 0;
  count = length-replicate lines 0;
  words = λ i l. get_or-replicate lines i 0 0 l;
  views = first_fits;
  owned = λ i l. (newcomer lines, refl, get_or-replicate lines i (Some []) None l);
}
  where
    own_case : (i : ℕ) (xs : Entries) (d : Dec (i < lines)) → view_owns (newcomer lines) i xs → xs ≡ []
    own_case i xs (yes l) h = let e : Some [] ≡ Some xs = sym (get_or-replicate lines i (Some []) None l) ∙ h in cc (e)
    own_case i xs (no n) h = let empties : Option Entries = Some [] in let e : None ≡ Some xs = sym (get_or_past (replicate lines (Some [])) i None (omega (arith, length-replicate lines empties))) ∙ h in absurd (cc (e))

    first_fits : (by : ℕ) (v : View) → get_elem? (newcomer lines ∷ []) by ≡ some v → Fits (λ _. []) (λ _. 0) by v
    first_fits zero v e = subst (Fits (λ _. []) (λ _. 0) 0) (some-injective _ _ e) (record { owns = λ i xs h. (refl, own_case i xs (dec_lt i lines) h); seen = λ i. prefix_nil []; told = λ i. prefix_nil [] })
    first_fits (suc by) v e = absurd (some-ne-none v (sym e))
