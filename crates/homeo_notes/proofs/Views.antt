-- Every view fits, and every line is owned, after one view has changed.
use Rattle.std.proofs.Common.{◌≡◌, ◌≢◌, ℕ, List, [], set, get_or, Some, None, sym, ap, ◌∙◌, subst, ⊎_elim}
use mathlib.Core.Option.{some, some-injective}
use mathlib.Core.List.{IsPrefix}
use mathlib.Core.Logic.{dite}
use native.Mathlib.Decide.{ℕ_discrete}
use lib.ListN.{get_elem?}
use Rattle.atomic_table.proofs.Lists.{at_set, set_else}
use Rattle.homeo_notes.specs.declared.rule.View.{View}
use Rattle.homeo_notes.specs.Lines.{Entries}
use Rattle.homeo_notes.specs.inner.Rule.{view_owns, Fits, Owned}
use Rattle.homeo_notes.proofs.Lists.{set_there}

-- every view fits after one has changed
pub fits_set : (lists : ℕ → Entries) (owner : ℕ → ℕ) (views : List View) (by : ℕ) (w : View) → ((j : ℕ) (u : View) → j ≢ by → get_elem? views j ≡ some u → Fits lists owner j u) → Fits lists owner by w → (j : ℕ) (u : View) → get_elem? (set views by w) j ≡ some u → Fits lists owner j u
fits_set lists owner views by w others mine j u e =
    ⊎_elim
    (λ (x : (j ≡ by) × (w ≡ u)). subst (λ (y : ℕ × View). Fits lists owner y.0 y.1) (λ i. (sym x.0 i, x.1 i)) mine)
    (λ (x : (j ≢ by) × (get_elem? views j ≡ some u)). others j u x.0 x.1)
    (at_set views by j w u e)

-- a line is owned after a view has changed
pub owned_set : (lists lists' : ℕ → Entries) (owner : ℕ → ℕ) (views : List View) (by : ℕ) (v w : View) (i : ℕ) → get_elem? views by ≡ some v → Owned views lists owner i → (view_owns v i (lists i) → view_owns w i (lists' i)) → (owner i ≢ by → lists' i ≡ lists i) → Owned (set views by w) lists' owner i
owned_set lists lists' owner views by v w i at own mine same =
    dite (ℕ_discrete (owner i) by)
    (λ e. let u_is : own.0 ≡ v = some-injective _ _ (sym own.1 ∙ (ap (λ k. get_elem? views k) e ∙ at)) in
    (w, subst (λ k. get_elem? (set views by w) k ≡ some w) (sym e) (set_there views by v w at), mine (subst (λ (u : View). view_owns u i (lists i)) u_is own.2)))
    (λ ne. (own.0, set_else views by (owner i) w ne ∙ own.1, own.2 ∙ ap Some (sym (same ne))))

-- a view that owns nothing
pub fits_nothing : (lists : ℕ → Entries) (owner : ℕ → ℕ) (j : ℕ) (u : View) → u.owned ≡ [] → ((i : ℕ) → IsPrefix (get_or u.seen i []) (lists i)) → ((i : ℕ) → IsPrefix (get_or u.told i []) (lists i)) → Fits lists owner j u
fits_nothing lists owner j u empty seen told = record {
  owns = λ i xs h. let no : None ≡ Some xs = sym (ap (λ os. get_or os i None) empty) ∙ h in absurd (cc (no));
  seen = seen;
  told = told;
}
