-- Splitting off the marked lines keeps the rule of the board.
use Rattle.std.proofs.Common.{◌≡◌, ◌≢◌, ℕ, ◌+◌, ◌<◌, ◌≤◌, Bool, true, false, not, cond, [], ◌∷◌, ◌++◌, length, set, get_or, Some, None, refl, sym, ap, ◌∙◌, subst, ⊎_elim, arith}
use mathlib.Core.Option.{some}
use Rattle.std.proofs.lemmas.Bool.Decides.{nat_tests}
use Rattle.std.proofs.lemmas.Bool.{not-true}
use lib.ListN.{get_elem?}
use Rattle.atomic_table.specs.Table.{Splits}
use Rattle.atomic_table.proofs.Lists.{at_longer, at_last}
use Rattle.homeo_notes.specs.declared.rule.View.{View}
use Rattle.homeo_notes.specs.Lines.{IsOwner, or_empty, is_within}
use Rattle.homeo_notes.specs.Boards.{held}
use Rattle.homeo_notes.specs.inner.Rule.{view_owns, Fits, Owned, Kept}
use Rattle.homeo_notes.specs.inner.Steps.{marked, stays, dealt}
use Rattle.homeo_notes.proofs.Lists.{get_or-pick, at_snoc_or_last, cond_some}
use Rattle.homeo_notes.proofs.Prefixes.{prefix_nil}
use Rattle.homeo_notes.proofs.Views.{fits_set, owned_set}

-- the lines that are dealt have the new seat for their owner
abbrev moved : (ℕ → Bool) → (ℕ → ℕ) → ℕ → ℕ → ℕ
moved p owner new i = cond (p i) new (owner i)

-- the marked lines, which the view owns, are split off
pub deals : (lines by : ℕ) (v : View) → ((i : ℕ) → is_within v.first v.end i ≡ true → view_owns v i (or_empty (get_or v.owned i None))) → Splits (Kept lines) by v (stays v) (dealt v)
deals lines by v all s k at =
    let p : ℕ → Bool = is_within v.first v.end in
    let fit = k.views by v at in
    let views = set s.views by (stays v) in
    let new = length views in
    record {
      lists = k.lists;
      owner = moved p k.owner new;
      count = k.count;
      words = k.words;
      views = λ j u e. ⊎_elim
          (λ (was : get_elem? views j ≡ some u). fits_set k.lists (moved p k.owner new) s.views by (stays v)
          (λ i y apart there. others i y apart (k.views i y there))
          (record {
            owns = λ i xs h. let both = cond_some (not (p i)) (get_or v.owned i None) xs (sym (get_or-pick None (λ n. not (p n)) 0 v.owned i ∙ zero_plus (λ n. cond (not (p n)) (get_or v.owned i None) None) i) ∙ h) in
                let is = fit.owns i xs both.1 in
                (ap (λ b. cond b new (k.owner i)) (not-true (p i) both.0) ∙ is.0, is.1);
            seen = fit.seen;
            told = fit.told;
          }) j u was)
          (λ (last : (dealt v ≡ u) × (j ≡ new)). subst (Fits k.lists (moved p k.owner new) j) last.0
          (record {
            owns = λ i xs h. let both = cond_some (p i) (get_or v.owned i None) xs (sym (get_or-pick None p 0 v.owned i ∙ zero_plus (λ n. cond (p n) (get_or v.owned i None) None) i) ∙ h) in
                (ap (λ b. cond b new (k.owner i)) both.0 ∙ sym last.1, (fit.owns i xs both.1).1);
            seen = fit.seen;
            told = λ i. prefix_nil (k.lists i);
          }))
          (at_snoc_or_last views (dealt v) u j e);
      owned = λ i l. case i (p i) refl (k.owned i l);
    }
  where
    zero_plus : {A : Type 0} (f : ℕ → A) (i : ℕ) → f (0 + i) ≡ f i
    zero_plus f i = let e : 0 + i ≡ i = omega arith in ap f e

    others : (j : ℕ) (u : View) → j ≢ by → Fits k.lists k.owner j u → Fits k.lists (moved (is_within v.first v.end) k.owner (length (set s.views by (stays v)))) j u
    others j u apart was = record {
      owns = λ i xs h. let is = was.owns i xs h in (other_line i (is_within v.first v.end i) refl is.0, is.1);
      seen = was.seen;
      told = was.told;
    }
      where
        other_line : (i : ℕ) (b : Bool) → is_within v.first v.end i ≡ b → k.owner i ≡ j → moved (is_within v.first v.end) k.owner (length (set s.views by (stays v))) i ≡ j
        other_line i true e o = absurd (apart (sym o ∙ ((k.views by v at).owns i (or_empty (get_or v.owned i None)) (all i e)).0))
        other_line i false e o = ap (λ b. cond b (length (set s.views by (stays v))) (k.owner i)) e ∙ o

    case : (i : ℕ) (b : Bool) → is_within v.first v.end i ≡ b → Owned s.views k.lists k.owner i → Owned (set s.views by (stays v) ++ dealt v ∷ []) k.lists (moved (is_within v.first v.end) k.owner (length (set s.views by (stays v)))) i
    case i true e o = (
      dealt v,
      subst (λ n. get_elem? (set s.views by (stays v) ++ dealt v ∷ []) n ≡ some (dealt v)) (sym (ap (λ b. cond b (length (set s.views by (stays v))) (k.owner i)) e)) (at_last (set s.views by (stays v)) (dealt v) (length (set s.views by (stays v))) refl),
      get_or-pick None (is_within v.first v.end) 0 v.owned i ∙ zero_plus (λ n. cond (is_within v.first v.end n) (get_or v.owned i None) None) i ∙ ap (λ b. cond b (get_or v.owned i None) None) e
          ∙ all i e ∙ ap Some ((k.views by v at).owns i (or_empty (get_or v.owned i None)) (all i e)).1,
    )
    case i false e o =
        let was = owned_set k.lists k.lists k.owner s.views by v (stays v) i at o
        (λ h. get_or-pick None (λ n. not (is_within v.first v.end n)) 0 v.owned i ∙ zero_plus (λ n. cond (not (is_within v.first v.end n)) (get_or v.owned i None) None) i ∙ ap (λ b. cond (not b) (get_or v.owned i None) None) e ∙ h)
        (λ _. refl) in
        (was.0, at_longer (set s.views by (stays v)) (dealt v ∷ []) _ was.0 (ap (λ n. get_elem? (set s.views by (stays v)) n) (ap (λ b. cond b (length (set s.views by (stays v))) (k.owner i)) e) ∙ was.1), was.2)

pub within_range : (first end i : ℕ) → is_within first end i ≡ true → (first ≤ i) × (i < end)
within_range first end i e = (grind (arith, nat_tests), grind (arith, nat_tests))

-- the same, where the view has been marked
pub deals_marked : (lines by first end : ℕ) (v w : View) → w ≡ marked first end v → ((i : ℕ) → first ≤ i → i < end → IsOwner (held v) i) → Splits (Kept lines) by w (stays w) (dealt w)
deals_marked lines by first end v w is all = subst (λ (u : View). Splits (Kept lines) by u (stays u) (dealt u)) (sym is)
    (deals lines by (marked first end v) (λ i e. let r = within_range first end i e in all i r.0 r.1))
