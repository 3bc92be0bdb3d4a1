-- Of a joint table one choice holds, and the numbers of rows pick its choices.
use Rattle.homeo_meaning.specs.Key.{definitions as meaning_definitions}
use Rattle.homeo_plan.specs.Key.{definitions}
use Rattle.std.proofs.Common.{◌≡◌, ℕ, suc, ◌+◌, Bool, true, false, cond, ◌&&◌, List, [], ◌∷◌, ◌++◌, map, filter, refl, ap, ap₂, ◌∙◌, arith}
use Rattle.std.specs.Prelude.{slice_index_or}
use Rattle.std.proofs.lemmas.List.{map-append}
use Rattle.std.proofs.lemmas.List.Elements.{filter-append}
use Rattle.homeo_meaning.specs.LowMeaning.{State, holds}
use Rattle.homeo_plan.specs.Table.{Row, last_row, holds_at}
use Rattle.homeo_plan.specs.Joint.{with_each, joint_table, joint_formula, joint_row_at, picks_from, joint_picks, picked, HasOneRow}
use Rattle.homeo_plan.specs.Each.{Each}
use Rattle.homeo_plan.proofs.Tables.{holds_both, filter_map, filter_none}

-- ---- the choice that holds
abbrev choice_holds : State → List Row → Bool
choice_holds s choice = holds (joint_formula choice) s

abbrev pick_first : Row → List Row → List Row
pick_first r choice = r ∷ choice

filter_pick :
    (s : State) (r : Row) (choices : List (List Row)) (v : Bool) → holds r.formula s ≡ v →
    filter (choice_holds s) (map (pick_first r) choices) ≡ cond v (map (pick_first r) (filter (choice_holds s) choices)) []
unfolding definitions meaning_definitions
filter_pick s r choices true e =
    filter_map (pick_first r) (choice_holds s) (choice_holds s)
    (λ c. holds_both r.formula (joint_formula c) s ∙ ap (λ v. v && holds (joint_formula c) s) e) choices
filter_pick s r choices false e =
    filter_map (pick_first r) (choice_holds s) (λ c. false)
    (λ c. holds_both r.formula (joint_formula c) s ∙ ap (λ v. v && holds (joint_formula c) s) e) choices
    ∙ ap (map (pick_first r)) (filter_none (λ c. false) (λ c. refl) choices)

filter_each :
    (s : State) (rs : List Row) (choices : List (List Row)) →
    filter (choice_holds s) (with_each rs choices) ≡ with_each (filter (holds_at s) rs) (filter (choice_holds s) choices)
unfolding definitions meaning_definitions
filter_each s [] choices = refl
filter_each s (r ∷ rs) choices =
    filter-append (choice_holds s) (map (pick_first r) choices) (with_each rs choices)
    ∙ ap₂ ◌++◌ (filter_pick s r choices (holds r.formula s) refl) (filter_each s rs choices)
    ∙ go (holds r.formula s)
  where
    go :
        (v : Bool) →
        (cond v (map (pick_first r) (filter (choice_holds s) choices)) [] ++ with_each (filter (holds_at s) rs) (filter (choice_holds s) choices)) ≡
        with_each (cond v (r ∷ filter (holds_at s) rs) (filter (holds_at s) rs)) (filter (choice_holds s) choices)
    go true = refl
    go false = refl

pub joint_law :
    (ts : List (List Row)) (s : State) → Each (HasOneRow s) ts →
    filter (λ choice. holds (joint_formula choice) s) (joint_table ts) ≡ joint_row_at ts s ∷ []
unfolding definitions meaning_definitions
joint_law [] s h = refl
joint_law (t ∷ ts) s h = filter_each s t (joint_table ts) ∙ ap₂ with_each h.0 (joint_law ts s h.1)

-- ---- the numbers of rows
pick_row :
    (t : List Row) (ts : List (List Row)) (n : ℕ) (r : Row) → slice_index_or t n last_row ≡ r → (choices : List (List ℕ)) →
    map (picked (t ∷ ts)) (map (λ ns. n ∷ ns) choices) ≡ map (pick_first r) (map (picked ts) choices)
unfolding definitions
pick_row t ts n r e [] = refl
pick_row t ts n r e (ns ∷ choices) = ap₂ ◌∷◌ (ap (λ q. q ∷ picked ts ns) e) (pick_row t ts n r e choices)

pick_rows :
    (t : List Row) (ts : List (List Row)) (n : ℕ) (rs : List Row) →
    ((i : ℕ) → slice_index_or t (n + i) last_row ≡ slice_index_or rs i last_row) → (choices : List (List ℕ)) →
    map (picked (t ∷ ts)) (picks_from n rs choices) ≡ with_each rs (map (picked ts) choices)
unfolding definitions
pick_rows t ts n [] h choices = refl
pick_rows t ts n (r ∷ rs) h choices =
    map-append (picked (t ∷ ts)) (map (λ ns. n ∷ ns) choices) (picks_from (n + 1) rs choices)
    ∙ ap₂ ◌++◌ (pick_row t ts n r (here ∙ h 0) choices) (pick_rows t ts (n + 1) rs (λ i. next i ∙ h (suc i)) choices)
  where
    here : slice_index_or t n last_row ≡ slice_index_or t (n + 0) last_row
    here = let e : n ≡ n + 0 = omega arith in ap (λ m. slice_index_or t m last_row) e

    next : (i : ℕ) → slice_index_or t ((n + 1) + i) last_row ≡ slice_index_or t (n + suc i) last_row
    next i = let e : (n + 1) + i ≡ n + suc i = omega arith in ap (λ m. slice_index_or t m last_row) e

pub picks_law : (ts : List (List Row)) → map (picked ts) (joint_picks ts) ≡ joint_table ts
unfolding definitions
picks_law [] = refl
picks_law (t ∷ ts) = pick_rows t ts 0 t start (joint_picks ts) ∙ ap (with_each t) (picks_law ts)
  where
    start : (i : ℕ) → slice_index_or t (0 + i) last_row ≡ slice_index_or t i last_row
    start i = let e : 0 + i ≡ i = omega arith in ap (λ m. slice_index_or t m last_row) e
