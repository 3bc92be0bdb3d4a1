-- The lines of objects, one after another.
use Rattle.std.proofs.Common.{◌≡◌, ℕ, zero, suc, ◌+◌, ◌<◌, List, [], ◌∷◌, ◌++◌, length, take, get_or, append_assoc, append-nil, refl, sym, ap, ◌∙◌, arith}
use Rattle.std.specs.Prelude.{ℤ}
use Rattle.homeo_print.specs.Key.{definitions as print_definitions}
use Rattle.homeo_print.specs.Names.{name_at}
use Rattle.homeo_report.specs.Key.{definitions}
use Rattle.homeo_report.specs.Report.{object_line, object_lines}

pub no_lines : (names : List (List ℕ)) → object_lines names [] ≡ []
unfolding definitions
no_lines [] = refl
no_lines (n ∷ names) = refl

-- the line of one object more
pub lines_more : (names : List (List ℕ)) (values : List ℤ) (i : ℕ) (d : ℤ) → i < length values → length values ≡ length names
    → object_lines names (take (i + 1) values) ≡ object_lines names (take i values) ++ object_line (name_at names i) (get_or values i d)
unfolding definitions print_definitions
lines_more [] [] i d within same = absurd (omega arith)
lines_more [] (v ∷ values) i d within same = absurd (omega arith)
lines_more (n ∷ names) [] i d within same = absurd (omega arith)
lines_more (n ∷ names) (v ∷ values) zero d within same = ap (λ l. object_line n v ++ l) (no_lines names) ∙ append-nil (object_line n v)
lines_more (n ∷ names) (v ∷ values) (suc i) d within same =
    let next : suc i + 1 ≡ suc (i + 1) = omega arith in
    ap (λ k. object_lines (n ∷ names) (take k (v ∷ values))) next
    ∙ ap (λ l. object_line n v ++ l) (lines_more names values i d (omega arith) (omega arith))
    ∙ sym (append_assoc (object_line n v) (object_lines names (take i values)) (object_line (name_at names i) (get_or values i d)))

pub ruleset object_steps = (append_assoc, append-nil, no_lines, lines_more)
