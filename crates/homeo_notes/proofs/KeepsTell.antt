-- A note that is split off and joined keeps the rule of the board; what it tells begins each line.
use Rattle.std.proofs.Common.{◌≡◌, ◌≢◌, ℕ, [], ◌∷◌, length, set, get_or, Some, None, refl, sym, ap, ◌∙◌, subst, ⊎_elim}
use mathlib.Core.Option.{some}
use mathlib.Core.List.{IsPrefix}
use Rattle.std.specs.declared.option.Option.{Option}
use lib.ListN.{get_elem?}
use Rattle.atomic_table.specs.Table.{Splits, Joins}
use Rattle.atomic_table.proofs.Lists.{at_set, set_again, at_longer}
use Rattle.homeo_notes.specs.declared.rule.View.{View}
use Rattle.homeo_notes.specs.Lines.{Entries, longer, longest, or_empty, all_or_empty}
use Rattle.homeo_notes.specs.inner.Rule.{view_owns, Fits, Kept}
use Rattle.homeo_notes.specs.inner.Steps.{noted, told_by, spent}
use Rattle.homeo_notes.proofs.Lists.{at_snoc_or_last, get_or-longest, get_or-all_or_empty}
use Rattle.homeo_notes.proofs.Prefixes.{prefix_self, prefix_nil, longer_prefixes}
use Rattle.homeo_notes.proofs.Views.{fits_set, owned_set, fits_nothing}
use Rattle.homeo_notes.proofs.KeepsLoad.{longest_prefixes}

-- what is owned is all of the line's list
own_prefix : (lists : ℕ → Entries) (owner : ℕ → ℕ) (by : ℕ) (v : View) (i : ℕ) → Fits lists owner by v → IsPrefix (get_or (all_or_empty v.owned) i []) (lists i)
own_prefix lists owner by v i fit = subst (λ xs. IsPrefix xs (lists i)) (sym (get_or-all_or_empty v.owned i)) (own_case (get_or v.owned i None) refl)
  where
    own_case : (o : Option Entries) → get_or v.owned i None ≡ o → IsPrefix (or_empty o) (lists i)
    own_case None e = prefix_nil (lists i)
    own_case (Some xs) e = subst (IsPrefix xs) (fit.owns i xs e).1 (prefix_self xs)

-- a note is split off
pub notes : (lines by : ℕ) (v : View) → Splits (Kept lines) by v v (noted v)
notes lines by v s k at =
    let same : set s.views by v ≡ s.views = set_again s.views by v at in
    let fit = k.views by v at in
    record {
      lists = k.lists;
      owner = k.owner;
      count = k.count;
      words = k.words;
      views = λ j u e. ⊎_elim
          (λ (was : get_elem? (set s.views by v) j ≡ some u). k.views j u (subst (λ l. get_elem? l j ≡ some u) same was))
          (λ (last : (noted v ≡ u) × (j ≡ length (set s.views by v))). subst (Fits k.lists k.owner j) last.0 (fits_nothing k.lists k.owner j (noted v) refl (λ i. (longest_prefixes k.lists v.seen (all_or_empty v.owned) i (fit.seen i) (own_prefix k.lists k.owner by v i fit)).0) (λ i. prefix_nil (k.lists i))))
          (at_snoc_or_last (set s.views by v) (noted v) u j e);
      owned = λ i l. let o = k.owned i l in (o.0, at_longer (set s.views by v) (noted v ∷ []) (k.owner i) o.0 (subst (λ vs. get_elem? vs (k.owner i) ≡ some o.0) (sym same) o.1), o.2);
    }

-- the note w is joined to the view v
pub joins : (lines by other : ℕ) (v w : View) → w.owned ≡ [] → Joins (Kept lines) by v other w (told_by v w) spent
joins lines by other v w empty s k at apart there =
    let both = told_by v w in
    let before : get_elem? s.views other ≡ some w = ⊎_elim (λ (t : (other ≡ by) × (both ≡ w)). absurd (apart t.0)) (λ (t : (other ≢ by) × (get_elem? s.views other ≡ some w)). t.1) (at_set s.views by other both w there) in
    let fit = k.views by v at in
    let note = k.views other w before in
    record {
      lists = k.lists;
      owner = k.owner;
      count = k.count;
      words = k.words;
      views = fits_set k.lists k.owner (set s.views by both) other spent
          (λ j u _ e. fits_set k.lists k.owner s.views by both (λ i y _ e'. k.views i y e') (record { owns = fit.owns; seen = fit.seen; told = note.seen }) j u e)
          (fits_nothing k.lists k.owner other spent refl (λ i. prefix_nil (k.lists i)) (λ i. prefix_nil (k.lists i)));
      owned = λ i l. owned_set k.lists k.lists k.owner (set s.views by both) other w spent i there
          (owned_set k.lists k.lists k.owner s.views by v both i at (k.owned i l) (λ o. o) (λ _. refl))
          (λ o. let no : None ≡ Some (k.lists i) = sym (ap (λ os. get_or os i None) empty) ∙ o in absurd (cc (no)))
          (λ _. refl);
    }

-- the longest of what is seen and what is owned, where a look has shown that the one begins the other
pub known_prefixes : (v : View) (i : ℕ) → ((i : ℕ) (xs : Entries) → view_owns v i xs → IsPrefix (get_or v.seen i []) xs)
    → IsPrefix (get_or v.seen i []) (get_or (longest v.seen (all_or_empty v.owned)) i []) × IsPrefix (or_empty (get_or v.owned i None)) (get_or (longest v.seen (all_or_empty v.owned)) i [])
known_prefixes v i look = rw (get_or-longest v.seen (all_or_empty v.owned) i, get_or-all_or_empty v.owned i) (by_case (get_or v.owned i None) refl)
  where
    by_case : (o : Option Entries) → get_or v.owned i None ≡ o → IsPrefix (get_or v.seen i []) (longer (get_or v.seen i []) (or_empty o)) × IsPrefix (or_empty o) (longer (get_or v.seen i []) (or_empty o))
    by_case None e = let l = longer_prefixes (get_or v.seen i []) [] (get_or v.seen i []) (prefix_self (get_or v.seen i [])) (prefix_nil (get_or v.seen i [])) in (l.1, l.2)
    by_case (Some xs) e = let l = longer_prefixes (get_or v.seen i []) xs xs (look i xs e) (prefix_self xs) in (l.1, l.2)
