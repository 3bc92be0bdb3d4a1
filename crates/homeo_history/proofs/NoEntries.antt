-- Rounds whose segments have no entries.
use Rattle.std.proofs.Common.{◌≡◌, ℕ, zero, suc, List, [], ◌∷◌, map, length, drop, replicate, cond, eqb, refl, ap}
use Rattle.std.specs.Prelude.{sum}
use Rattle.std.proofs.Common.{Bool, true, false}
use Rattle.homeo_syntax.specs.Source as s
use Rattle.homeo_meaning.specs.Key.{definitions as meaning_definitions}
use Rattle.homeo_history.specs.Key.{definitions}
use Rattle.homeo_history.specs.History.{Entry, Round}
use Rattle.homeo_history.specs.Merge.{segment_of, put_at, merge, merged}
use Rattle.homeo_history.specs.Legal.{HasMerges}

pub no_segment : (k site : ℕ) → segment_of (replicate k []) site ≡ []
unfolding definitions
no_segment zero site = refl
no_segment (suc k) zero = refl
no_segment (suc k) (suc site) = no_segment k site

put_none : (b : Bool) (v w : List Entry) → v ≡ [] → w ≡ [] → cond b (drop 1 v) w ≡ []
put_none true v w e f = ap (drop 1) e
put_none false v w e f = f

pub merge_none : (segments : ℕ → List Entry) → ((site : ℕ) → segments site ≡ []) → (choice : List ℕ) → merge segments choice ≡ []
unfolding definitions
merge_none segments none [] = refl
merge_none segments none (site ∷ choice) =
    let rest : merge (put_at segments site (drop 1 (segments site))) choice ≡ [] =
    merge_none (put_at segments site (drop 1 (segments site))) (λ i. put_none (eqb site i) (segments site) (segments i) (none site) (none i)) choice in
    rw rest (rw (none site) refl)

pub merged_none : (k : ℕ) (choice : List ℕ) → merged (replicate k []) choice ≡ []
unfolding definitions
merged_none k choice = merge_none (segment_of (replicate k [])) (no_segment k) choice

pub sum_none : (k : ℕ) → sum (map (length {A = Entry}) (replicate k [])) ≡ 0
sum_none zero = refl
sum_none (suc k) = sum_none k

-- where no segment has an entry, the merges leave the base
pub has_merges : (w : s.Workload) (r : Round) (k : ℕ) → r.segments ≡ replicate k [] → HasMerges w r r.base
unfolding definitions meaning_definitions
has_merges w r k e = record {
  prints = λ choice fits. rw e (rw (merged_none k choice) refl);
  database = λ choice fits. rw e (rw (merged_none k choice) refl);
}
