-- The counts of tables' rows, and how many joint rows there are.
use Rattle.std.proofs.Common.{◌≡◌, ℕ, ◌<◌, ◌≤◌, List, [], ◌∷◌, map, length, refl, sym, ap, ap₂, ◌∙◌, subst, Global, arith}
use Rattle.std.specs.Prelude.{slice_index_or, Vec, vec_len}
use Rattle.std.specs.List.{All}
use Rattle.std.proofs.lemmas.List.{get_or-map, length-map}
use Rattle.std.proofs.lemmas.List.Elements.{All-map}
use Rattle.homeo_plan.specs.Joint.{joint_picks}
use Rattle.homeo_plan.specs.PlanView.{plain_row}
use Rattle.homeo_plan.specs.declared.rows.Row.{Row}
use Rattle.homeo_joint.specs.Counts.{product_of}
use Rattle.homeo_joint.proofs.Blocks.{length_joint}
use Rattle.homeo_whole_tables.specs.Tables.{plain_table, row_counts}

pub count-at :
    {A : Type 0} (ts : List (Vec Row A)) (i d : ℕ) (t : Vec Row A) → i < length ts → t ≡ slice_index_or ts i t →
    slice_index_or (row_counts ts) i d ≡ vec_len t
count-at ts i d t h is = get_or-map vec_len ts i t d h ∙ ap vec_len (sym is)

pub row-counts-at :
    {A : Type 0} (ts : List (Vec Row A)) (i : ℕ) (t : Vec Row A) (n : ℕ) → i < length ts → t ≡ slice_index_or ts i t → n ≡ vec_len t →
    n ≡ slice_index_or (row_counts ts) i n
row-counts-at ts i t n h is len = len ∙ sym (count-at ts i n t h is)

pub counts_exist : {A : Type 0} (ts : List (Vec Row A)) (i : ℕ) → i < length ts → i < length (row_counts ts)
counts_exist ts i h = subst (λ n. i < n) (sym (length-map ts vec_len)) h

pub counts_positive : {A : Type 0} (ts : List (Vec Row A)) → All (λ t. 1 ≤ vec_len t) ts → All (λ n. 1 ≤ n) (row_counts ts)
counts_positive ts h = All-map (λ n. 1 ≤ n) vec_len ts h

-- ---- joint rows
pub counts-plain : (ts : List (Vec Row Global)) → row_counts ts ≡ map length (map plain_table ts)
counts-plain [] = refl
counts-plain (t ∷ ts) = ap₂ ◌∷◌ (t.ok.0 ∙ sym (length-map t.items plain_row)) (counts-plain ts)

-- how many joint rows there are
pub joint_count : (ts : List (Vec Row Global)) → length (joint_picks (map plain_table ts)) ≡ product_of (row_counts ts)
joint_count ts = length_joint (map plain_table ts) ∙ ap product_of (sym (counts-plain ts))

pub rows_within :
    (ts : List (Vec Row Global)) (size limit : ℕ) → size ≡ product_of (row_counts ts) → size ≤ limit →
    length (joint_picks (map plain_table ts)) ≤ limit
rows_within ts size limit e within = let count = joint_count ts in omega (arith, count, e, within)
