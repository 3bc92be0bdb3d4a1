-- The lines of clauses and freezes, with one more.
use Rattle.std.proofs.Common.{◌≡◌, ℕ, ◌+◌, ◌<◌, List, [], ◌∷◌, ◌++◌, length, take, get_or, append_assoc, append-nil, zero-add, refl, sym, ap, ◌∙◌, arith}
use Rattle.std.specs.Prelude.{ℤ}
use Rattle.std.specs.List.{flat_map, enumerate_from, zip}
use Rattle.std.proofs.lemmas.List.{take_more, length-take-le}
use Rattle.std.proofs.lemmas.Slice.Zip.{length-zip}
use Rattle.homeo_syntax.specs.Source as s
use Rattle.homeo_syntax.specs.declared.low.SplitName.TheVariants as name
use Rattle.homeo_plan.specs.Config.{Config}
use Rattle.homeo_plan.specs.declared.forms.Delta.{Delta}
use Rattle.homeo_plan.specs.Template.{Clause}
use Rattle.homeo_print.specs.Key.{definitions}
use Rattle.homeo_print.specs.Tables.{split_name_text}
use Rattle.homeo_print.specs.Treaties.{delta_text, clause_text, clauses_text, freeze_text, freezes_text}
use Rattle.homeo_print.proofs.OneMore.{numbered_push}

pub delta_is : (w : s.Workload) (d : Delta) → delta_text w d ≡ split_name_text w (name.Delta d.object d.site)
unfolding definitions
delta_is w d = refl

-- ---- clauses
zip_push : {X Y : Type 0} (xs : List X) (ys : List Y) (x : X) (y : Y) → length xs ≡ length ys → zip (xs ++ x ∷ []) (ys ++ y ∷ []) ≡ zip xs ys ++ (x, y) ∷ []
zip_push [] [] x y same = refl
zip_push [] (b ∷ ys) x y same = absurd (omega (arith, same))
zip_push (a ∷ xs) [] x y same = absurd (omega (arith, same))
zip_push (a ∷ xs) (b ∷ ys) x y same = ap (λ l. (a, b) ∷ l) (zip_push xs ys x y (omega (arith, same)))

length_pairs : {X Y : Type 0} (xs : List X) (ys : List Y) → length xs ≡ length ys → length (zip xs ys) ≡ length xs
length_pairs xs ys same = omega (arith, same, length-zip xs ys)

pub clauses_push : (w : s.Workload) (cs : List Clause) (bounds : Config) (c : Clause) (b : List ℤ) → length bounds ≡ length cs
    → clauses_text w (cs ++ c ∷ []) (bounds ++ b ∷ []) ≡ clauses_text w cs bounds ++ clause_text w (length cs) c b
unfolding definitions
clauses_push w cs bounds c b same =
    ap (λ l. flat_map (λ (p : ℕ × (Clause × List ℤ)). clause_text w p.0 p.1.0 p.1.1) (enumerate_from 0 l)) (zip_push cs bounds c b (sym same))
    ∙ numbered_push (λ n p. clause_text w n p.0 p.1) 0 (length cs) (zip cs bounds) (c, b) (length_pairs cs bounds (sym same))
    ∙ ap (λ k. clauses_text w cs bounds ++ clause_text w k c b) (zero-add (length cs))

-- ---- freezes
pub no_freezes : (w : s.Workload) (n : ℕ) → freezes_text w n [] ≡ []
unfolding definitions
no_freezes w n = refl

pub freezes_more : (w : s.Workload) (n : ℕ) (ds : List Delta) (i : ℕ) (d : Delta) → i < length ds → freezes_text w n (take (i + 1) ds) ≡ freezes_text w n (take i ds) ++ freeze_text w (n + i) (get_or ds i d)
unfolding definitions
freezes_more w n ds i d within =
    ap (freezes_text w n) (take_more ds i d within) ∙ numbered_push (freeze_text w) n i (take i ds) (get_or ds i d) (length-take-le i ds (omega arith))

pub ruleset treaty_steps = (append_assoc, append-nil, delta_is, no_freezes, freezes_more)
