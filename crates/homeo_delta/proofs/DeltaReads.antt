-- The reads of an object's deltas, plain and negated, one site after another.
use Rattle.std.proofs.Common.{◌≡◌, ◌≢◌, ℕ, zero, suc, ◌+◌, ◌==◌, Bool, true, false, cond, not, filter, append-nil, ap₂, List, [], ◌∷◌, ◌++◌, map, refl, sym, ap, ◌∙◌, add-one, arith}
use Rattle.std.proofs.lemmas.List.{map-append}
use Rattle.std.specs.List.{range_with_len}
use Rattle.std.proofs.lemmas.Bool.Decides.{nat_tests}
use Rattle.std.proofs.lemmas.List.Elements.{filter-append}
use Rattle.std.proofs.lemmas.List.FromFn.{map-range_with_len_more}
use Rattle.homeo_syntax.specs.Key.{definitions as syntax_definitions}
use Rattle.homeo_syntax.specs.LowView.{low_exprs, plain_lexpr}
use Rattle.homeo_syntax.specs.Low as l
use Rattle.homeo_syntax.specs.declared.low.SplitName.TheVariants.{Whole, Base, Delta}
use Rattle.homeo_syntax.specs.declared.low.LExpr.{LExpr, Read}
use Rattle.homeo_syntax.proofs.LowViews.{low_Sum, low_Read, low_Write}
use Rattle.homeo_plan.specs.Key.{definitions}
use Rattle.homeo_plan.specs.Split.{delta_reads, shift_read, other_deltas, shift_write}

-- ---- reads
abbrev pub delta_at : ℕ → ℕ → l.Expr
delta_at x m = l.Read (Delta x m)

delta_reads_are : (x j n : ℕ) → delta_reads x j n ≡ low_exprs (map (delta_at x) (range_with_len j n))
unfolding definitions syntax_definitions
delta_reads_are x j zero = refl
delta_reads_are x j (suc n) =
    ap (l.MoreExpr (delta_at x j)) (delta_reads_are x (suc j) n ∙ ap (λ i. low_exprs (map (delta_at x) (range_with_len i n))) (sym (add-one j)))

pub read_Whole : (k x : ℕ) → shift_read k (Whole x) ≡ l.Sum (low_exprs (l.Read (Base x) ∷ map (delta_at x) (range_with_len 0 k)))
unfolding definitions syntax_definitions
read_Whole k x = ap (λ es. l.Sum (l.MoreExpr (l.Read (Base x)) es)) (delta_reads_are x 0 k)

pub read_Base : (k x : ℕ) → shift_read k (Base x) ≡ l.Read (Base x)
unfolding definitions
read_Base k x = refl

pub read_Delta : (k x j : ℕ) → shift_read k (Delta x j) ≡ l.Read (Delta x j)
unfolding definitions
read_Delta k x j = refl

pub ruleset reads = (low_Sum, low_Read, read_Whole, read_Base, read_Delta)

-- one more site
pub pushed_read :
    (old new : List LExpr) (x j : ℕ) → new ≡ old ++ Read (Delta x j) ∷ [] →
    map plain_lexpr old ≡ l.Read (Base x) ∷ map (delta_at x) (range_with_len 0 j) →
    map plain_lexpr new ≡ l.Read (Base x) ∷ map (delta_at x) (range_with_len 0 (j + 1))
pushed_read old new x j e h =
    ap (map plain_lexpr) e ∙ map-append plain_lexpr old (Read (Delta x j) ∷ [])
    ∙ ap₂ (λ es d. es ++ d ∷ []) h (low_Read (Delta x j))
    ∙ ap (λ es. l.Read (Base x) ∷ es) (sym (map-range_with_len_more (delta_at x) 0 j j (omega arith)))

-- ---- the negated reads of the other sites' deltas
abbrev pub minus_delta : ℕ → ℕ → l.Expr
minus_delta x m = l.Neg (delta_at x m)

abbrev pub others : ℕ → ℕ → ℕ → List ℕ
others i j n = filter (λ m. not (i == m)) (range_with_len j n)

others_are : (i x j n : ℕ) → other_deltas i x j n ≡ low_exprs (map (minus_delta x) (others i j n))
unfolding definitions syntax_definitions
others_are i x j zero = refl
others_are i x j (suc n) = go (i == j) (others_are i x (suc j) n ∙ ap (λ m. low_exprs (map (minus_delta x) (others i m n))) (sym (add-one j)))
  where
    go :
        (v : Bool) → other_deltas i x (suc j) n ≡ low_exprs (map (minus_delta x) (others i (j + 1) n)) →
        cond v (other_deltas i x (suc j) n) (l.MoreExpr (minus_delta x j) (other_deltas i x (suc j) n)) ≡
        low_exprs (map (minus_delta x) (cond (not v) (j ∷ others i (j + 1) n) (others i (j + 1) n)))
    go true h = h
    go false h = ap (l.MoreExpr (minus_delta x j)) h

pub write_Whole :
    (k i x : ℕ) (e : l.Expr) → shift_write k i (Whole x) e ≡
    l.Write (Delta x i) (l.Sum (low_exprs (e ∷ l.Neg (l.Read (Base x)) ∷ map (minus_delta x) (others i 0 k))))
unfolding definitions syntax_definitions
write_Whole k i x e = ap (λ es. l.Write (Delta x i) (l.Sum (l.MoreExpr e (l.MoreExpr (l.Neg (l.Read (Base x))) es)))) (others_are i x 0 k)

pub write_Base : (k i x : ℕ) (e : l.Expr) → shift_write k i (Base x) e ≡ l.Write (Base x) e
unfolding definitions
write_Base k i x e = refl

pub write_Delta : (k i x j : ℕ) (e : l.Expr) → shift_write k i (Delta x j) e ≡ l.Write (Delta x j) e
unfolding definitions
write_Delta k i x j e = refl

pub ruleset writes = (low_Sum, low_Write, write_Whole, write_Base, write_Delta)

map_same : (ns : List ℕ) → map (λ m. m) ns ≡ ns
map_same [] = refl
map_same (n ∷ ns) = ap (λ t. n ∷ t) (map_same ns)

range_more : (j : ℕ) → range_with_len 0 (j + 1) ≡ range_with_len 0 j ++ j ∷ []
range_more j = sym (map_same _) ∙ map-range_with_len_more (λ m. m) 0 j j (omega arith) ∙ ap (λ ns. ns ++ j ∷ []) (map_same _)

others_more : (i j : ℕ) (v : Bool) → (i == j) ≡ v → others i 0 (j + 1) ≡ others i 0 j ++ cond v [] (j ∷ [])
others_more i j v q =
    ap (filter (λ m. not (i == m))) (range_more j) ∙ filter-append (λ m. not (i == m)) (range_with_len 0 j) (j ∷ [])
    ∙ ap (λ (b : Bool). others i 0 j ++ cond (not b) (j ∷ []) []) q ∙ last v
  where
    last : (b : Bool) → others i 0 j ++ cond (not b) (j ∷ []) [] ≡ others i 0 j ++ cond b [] (j ∷ [])
    last true = refl
    last false = refl

-- one more site, with or without its read
module _ (x i j : ℕ) (a b : l.Expr) where
  pub skipped_other :
      (terms : List LExpr) → i ≡ j → map plain_lexpr terms ≡ a ∷ b ∷ map (minus_delta x) (others i 0 j) →
      map plain_lexpr terms ≡ a ∷ b ∷ map (minus_delta x) (others i 0 (j + 1))
  skipped_other terms e h =
      let q : (i == j) ≡ true = grind (arith, nat_tests) in
      h ∙ ap (λ ns. a ∷ b ∷ map (minus_delta x) ns) (sym (others_more i j true q ∙ append-nil _))

  pub pushed_other :
      (old new : List LExpr) → i ≢ j → map plain_lexpr new ≡ map plain_lexpr old ++ minus_delta x j ∷ [] →
      map plain_lexpr old ≡ a ∷ b ∷ map (minus_delta x) (others i 0 j) →
      map plain_lexpr new ≡ a ∷ b ∷ map (minus_delta x) (others i 0 (j + 1))
  pushed_other old new ne e h =
      let q : (i == j) ≡ false = grind (arith, nat_tests) in
      e ∙ ap (λ es. es ++ minus_delta x j ∷ []) h
      ∙ ap (λ es. a ∷ b ∷ es) (sym (map-append (minus_delta x) (others i 0 j) (j ∷ [])))
      ∙ ap (λ ns. a ∷ b ∷ map (minus_delta x) ns) (sym (others_more i j false q))
