-- Sites that begin a round.
use Rattle.homeo_site.specs.Key.{definitions as site_definitions}
use Rattle.homeo_nodes.specs.Key.{definitions}
use Rattle.std.proofs.Common.{inl, inr, ◌≡◌, ℕ, zero, suc, List, [], ◌∷◌, ◌++◌, length, replicate, ℤ, Some, refl, sym, ap, subst, ◌∙◌, arith, slice_index_or}
use Rattle.std.specs.Prelude.{slice_get, ◌⊎◌}
use Rattle.std.proofs.lemmas.List.{length-map}
use Rattle.std.proofs.lemmas.Option.{slice_get_within}
use mathlib.Core.Logic.{⊎_elim}
use Rattle.homeo_lemmas.proofs.Places.{get_map, one_placed, same_list, get_replicate}
use Rattle.homeo_syntax.specs.SourceView.{plain_workload}
use Rattle.homeo_syntax.specs.declared.workload.Workload.{Workload}
use Rattle.homeo_meaning.specs.Bounds.{IsWithin}
use Rattle.homeo_meaning.specs.Schema.{schema_of}
use Rattle.homeo_plan.specs.Planned.{sites_of}
use Rattle.homeo_history.proofs.Lists.{get_index, get_some}
use Rattle.homeo_site.specs.BareView.{BareValue}
use Rattle.homeo_site.specs.SiteState.{begun}
use Rattle.homeo_nodes.specs.Brief.{zeros, brief_at, site_at}
use Rattle.homeo_nodes.proofs.Places.{length_replicate}
use Rattle.homeo_carry.specs.declared.carrying.Rounds.{Rounds}
use Rattle.homeo_carry.specs.inner.Carrying.{deltas_in, brief_of, AreBegun, IsOf}

push_cases : {X : Type 0} (xs : List X) (x y : X) (i : ℕ) → slice_get (xs ++ x ∷ []) i ≡ Some y → (slice_get xs i ≡ Some y) ⊎ ((i ≡ length xs) × (x ≡ y))
push_cases [] x y zero e = let same : x ≡ y = cc in inr (refl, same)
push_cases [] x y (suc i) e = absurd (cc)
push_cases (z ∷ xs) x y zero e = inl e
push_cases (z ∷ xs) x y (suc i) e = ⊎_elim (λ h. inl h) (λ h. inr (ap suc h.0, h.1)) (push_cases xs x y i e)

-- one more site
pub begun_push : (work : Workload) (round : ℕ) (base : List ℤ) (sites next : List BareValue) (s : BareValue) (i : ℕ) → AreBegun work round base sites → length sites ≡ i → next ≡ sites ++ s ∷ [] → s ≡ record { work = work; state = begun i round base } → AreBegun work round base next
begun_push work round base sites next s i all long push is k x e =
    ⊎_elim (λ h. all k x h) (λ h. sym h.1 ∙ is ∙ ap (λ n. record { work = work; state = begun n round base }) (sym long ∙ sym h.0)) (push_cases sites s x k (subst (λ xs. slice_get xs k ≡ Some x) push e))

-- ---- all of them
abbrev delta_of : BareValue → List ℤ
delta_of s = s.state.deltas

begun_deltas : (i round : ℕ) (base : List ℤ) → (begun i round base).deltas ≡ zeros base
unfolding site_definitions
begun_deltas i round base = refl

begun_is : (i round : ℕ) (base ds : List ℤ) → ds ≡ (begun i round base).deltas → begun i round base ≡ record { number = i; round = round; base = base; deltas = ds; segment = [] }
unfolding site_definitions
begun_is i round base ds e = ap (λ d. record { number = i; round = round; base = base; deltas = d; segment = [] }) (sym e)

zero_deltas : (work : Workload) (round : ℕ) (base : List ℤ) (sites : List BareValue) (count : ℕ) → AreBegun work round base sites → length sites ≡ count → deltas_in sites ≡ replicate count (zeros base)
zero_deltas work round base sites count all long =
    same_list (deltas_in sites) (replicate count (zeros base)) (length-map sites delta_of ∙ long ∙ sym (length_replicate count (zeros base))) (λ i d z e f. let lt = slice_get_within (deltas_in sites) i d e in
    let s = get_some sites i (let g = length-map sites delta_of in omega (arith, lt, g)) in
    one_placed (deltas_in sites) i d s.0.state.deltas e (get_map delta_of sites i s.0 s.1) ∙ ap delta_of (all i s.0 s.1) ∙ begun_deltas i round base ∙ get_replicate count i (zeros base) z f)

module _ (work : Workload) (x : Rounds) (within : IsWithin (schema_of (plain_workload work)) x.base.items) (count : length x.sites.items ≡ sites_of (plain_workload work)) (all : AreBegun work x.round x.base.items x.sites.items) where
  pub brief_begins : brief_of x ≡ brief_at (plain_workload work) x.round x.base.items
  unfolding definitions
  brief_begins =
      ap (λ ds. record { round = x.round; base = x.base.items; deltas = ds }) (zero_deltas work x.round x.base.items x.sites.items (sites_of (plain_workload work)) all count)

  site_is : (i : ℕ) (s : BareValue) → slice_get x.sites.items i ≡ Some s → s ≡ record { work = work; state = site_at (brief_of x) i }
  site_is i s e =
      let is = all i s e in
      let ds : slice_index_or (deltas_in x.sites.items) i [] ≡ s.state.deltas = get_index (deltas_in x.sites.items) i s.state.deltas [] (get_map delta_of x.sites.items i s e) in
      is ∙ ap (λ y. record { work = work; state = y }) (begun_is i x.round x.base.items (slice_index_or (deltas_in x.sites.items) i []) (ds ∙ ap delta_of is))

  pub begins_of : IsOf work x
  begins_of = record { count = count; within = within; sites = site_is }
