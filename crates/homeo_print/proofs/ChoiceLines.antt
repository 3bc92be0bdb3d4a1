-- The lines of choices.
use Rattle.std.proofs.Common.{◌≡◌, ℕ, ◌+◌, ◌<◌, ◌≤◌, false, true, cond, List, [], ◌∷◌, ◌++◌, length, map, take, get_or, append_assoc, append-nil, refl, sym, ap, ◌∙◌, arith}
use Rattle.std.specs.Prelude.{ℤ, pos, nat_lt, codes}
use Rattle.std.specs.Fmt.{signed_decimal}
use Rattle.std.specs.List.{flat_map}
use Rattle.std.proofs.lemmas.Bool.Decides.{nat_tests}
use Rattle.std.proofs.lemmas.List.{length-map}
use Rattle.std.proofs.lemmas.List.Folds.{flat_map-map}
use Rattle.homeo_plan.specs.declared.rows.JointRow.{JointRow}
use Rattle.homeo_print.specs.Key.{definitions}
use Rattle.homeo_print.specs.Names.{newline, heading}
use Rattle.homeo_print.specs.Tables.{most_choices, pick_line, choices_text}
use Rattle.homeo_print.specs.inner.Choices.{pick_text, picks_text}
use Rattle.homeo_print.proofs.Listed.{flat_more}

pub no_picks : picks_text [] ≡ []
unfolding definitions
no_picks = refl

-- the lines of choices, with one more
pub picks_more : (rows : List JointRow) (i : ℕ) (r : JointRow) → i < length rows → r ≡ get_or rows i r
    → picks_text (map (λ r. r.picks.items) (take (i + 1) rows)) ≡ picks_text (map (λ r. r.picks.items) (take i rows)) ++ pick_text r.picks.items
unfolding definitions
picks_more rows i r within is =
    flat_map-map pick_text (λ (r : JointRow). r.picks.items) (take (i + 1) rows)
    ∙ flat_more (λ (r : JointRow). pick_text r.picks.items) rows i r within is
    ∙ ap (λ l. l ++ pick_text r.picks.items) (sym (flat_map-map pick_text (λ (r : JointRow). r.picks.items) (take i rows)))

pub ruleset choice_steps = (append_assoc, append-nil, no_picks, picks_more)

-- numbers that the code has as signed ones are the picks
same_pick : (picks : List ℕ) → pick_text (map pos picks) ≡ pick_line picks
unfolding definitions
same_pick picks = ap (λ l. codes "pick" ++ l ++ newline) (flat_map-map (λ (n : ℤ). codes " " ++ signed_decimal n) pos picks)

same_picks : (choices : List (List ℕ)) → picks_text (map (map pos) choices) ≡ flat_map pick_line choices
unfolding definitions
same_picks [] = refl
same_picks (picks ∷ choices) =
    ap (λ l. l ++ picks_text (map (map pos) choices)) (same_pick picks) ∙ ap (λ l. pick_line picks ++ l) (same_picks choices)

within_most : (n : ℕ) → n ≤ most_choices → nat_lt most_choices n ≡ false
within_most n h = grind (arith, nat_tests)

beyond_most : (n : ℕ) → most_choices < n → nat_lt most_choices n ≡ true
beyond_most n h = grind (arith, nat_tests)

-- as many choices as rows, and their lines
pub few_choices : (rows : List JointRow) (choices : List (List ℕ)) → length rows ≤ most_choices → map (λ r. r.picks.items) rows ≡ map (map pos) choices
    → choices_text choices ≡ heading (codes "joint ") (length rows) ++ picks_text (map (λ r. r.picks.items) rows)
unfolding definitions
few_choices rows choices few is =
    let count : length choices ≡ length rows =
    sym (length-map choices (map pos)) ∙ ap length (sym is) ∙ length-map rows (λ (r : JointRow). r.picks.items) in
    let lines : flat_map pick_line choices ≡ picks_text (map (λ r. r.picks.items) rows) = sym (same_picks choices) ∙ ap picks_text (sym is) in
    ap (λ b. cond b (codes "joint too many\n") (heading (codes "joint ") (length choices) ++ flat_map pick_line choices)) (within_most (length choices) (omega (arith, count)))
    ∙ ap (λ n. heading (codes "joint ") n ++ flat_map pick_line choices) count
    ∙ ap (λ l. heading (codes "joint ") (length rows) ++ l) lines

pub many_choices : (choices : List (List ℕ)) → most_choices < length choices → choices_text choices ≡ codes "joint too many\n"
unfolding definitions
many_choices choices many =
    ap (λ b. cond b (codes "joint too many\n") (heading (codes "joint ") (length choices) ++ flat_map pick_line choices)) (beyond_most (length choices) many)
