-- What saves objects and sets them again, one object after another.
use Rattle.std.proofs.Common.{◌≡◌, ℕ, suc, ◌+◌, ◌<◌, ◌≤◌, List, [], ◌∷◌, ◌++◌, drop, get_or, map, length, pos, refl, sym, ap, ◌∙◌, add-one}
use Rattle.std.proofs.Math.Seq.{drop-cons}
use Rattle.std.proofs.lemmas.List.{drop_all}
use Rattle.homeo_syntax.specs.Low as L
use Rattle.homeo_syntax.specs.LowView.{low_commands, plain_lcommand}
use Rattle.homeo_syntax.specs.declared.low.Temp.TheVariants as temp
use Rattle.homeo_syntax.specs.declared.low.SplitName.TheVariants as split
use Rattle.homeo_syntax.specs.declared.low.LCommand.{LCommand}
use Rattle.homeo_meaning.specs.Key.{definitions as meaning_definitions}
use Rattle.homeo_meaning.specs.LForm.{both, one, read, fresh, equal, one_test, set_flag, saves, restores, undo, undoing}
use Rattle.homeo_desugar.proofs.Makings.{both_none, both_both, made_push}

next_at : (xs : List ℕ) (i x : ℕ) → i < length xs → x ≡ get_or xs i 0 → drop i xs ≡ x ∷ drop (i + 1) xs
next_at xs i x h is = rw add-one (drop-cons xs i 0 h) ∙ ap (λ k. k ∷ drop (i + 1) xs) (sym is)

saves_more : (n : ℕ) (xs : List ℕ) (more : L.Commands) → both (saves n xs L.NoCommand) more ≡ saves n xs more
unfolding meaning_definitions
saves_more n [] more = refl
saves_more n (x ∷ xs) more = ap (L.MoreCommand (L.Assign (temp.Fresh n) (read x))) (saves_more (suc n) xs more)

-- one object more
pub saved_step : (last now : ℕ) (xs : List ℕ) (i x : ℕ) (before after : List LCommand) (c : LCommand) (whole : L.Commands) → i < length xs → x ≡ get_or xs i 0 → now ≡ suc last → plain_lcommand c ≡ L.Assign (temp.Fresh now) (read x) → after ≡ before ++ c ∷ [] →
    both (low_commands (map plain_lcommand before)) (saves (suc last) (drop i xs) L.NoCommand) ≡ whole → both (low_commands (map plain_lcommand after)) (saves (suc now) (drop (i + 1) xs) L.NoCommand) ≡ whole
unfolding meaning_definitions
saved_step last now xs i x before after c whole h is n made_one pushed left =
    let so_far : L.Commands = low_commands (map plain_lcommand before) in
    let others : L.Commands = saves (suc now) (drop (i + 1) xs) L.NoCommand in
    ap (λ l. both (low_commands (map plain_lcommand l)) others) pushed
    ∙ ap (λ u. both u others) (made_push before c)
    ∙ both_both so_far (one (plain_lcommand c)) others
    ∙ ap (λ d. both so_far (L.MoreCommand d others)) made_one
    ∙ ap (λ k. both so_far (saves k (x ∷ drop (i + 1) xs) L.NoCommand)) n
    ∙ sym (ap (λ l. both so_far (saves (suc last) l L.NoCommand)) (next_at xs i x h is))
    ∙ left

pub restored_step : (last now : ℕ) (xs : List ℕ) (i x : ℕ) (before after : List LCommand) (c : LCommand) (whole : L.Commands) → i < length xs → x ≡ get_or xs i 0 → now ≡ suc last → plain_lcommand c ≡ L.Write (split.Whole x) (fresh now) → after ≡ before ++ c ∷ [] →
    both (low_commands (map plain_lcommand before)) (restores (suc last) (drop i xs)) ≡ whole → both (low_commands (map plain_lcommand after)) (restores (suc now) (drop (i + 1) xs)) ≡ whole
unfolding meaning_definitions
restored_step last now xs i x before after c whole h is n made_one pushed left =
    let so_far : L.Commands = low_commands (map plain_lcommand before) in
    let others : L.Commands = restores (suc now) (drop (i + 1) xs) in
    ap (λ l. both (low_commands (map plain_lcommand l)) others) pushed
    ∙ ap (λ u. both u others) (made_push before c)
    ∙ both_both so_far (one (plain_lcommand c)) others
    ∙ ap (λ d. both so_far (L.MoreCommand d others)) made_one
    ∙ ap (λ k. both so_far (restores k (x ∷ drop (i + 1) xs))) n
    ∙ sym (ap (λ l. both so_far (restores (suc last) l)) (next_at xs i x h is))
    ∙ left

-- none is left
pub saved_end : (last : ℕ) (xs : List ℕ) (i : ℕ) (here whole : L.Commands) → length xs ≤ i → both here (saves (suc last) (drop i xs) L.NoCommand) ≡ whole → here ≡ whole
unfolding meaning_definitions
saved_end last xs i here whole h left = sym (both_none here) ∙ ap (λ l. both here (saves (suc last) l L.NoCommand)) (sym (drop_all i xs h)) ∙ left

pub restored_end : (last : ℕ) (xs : List ℕ) (i : ℕ) (here whole : L.Commands) → length xs ≤ i → both here (restores (suc last) (drop i xs)) ≡ whole → here ≡ whole
unfolding meaning_definitions
restored_end last xs i here whole h left = sym (both_none here) ∙ ap (λ l. both here (restores (suc last) l)) (sym (drop_all i xs h)) ∙ left

pub undo_made : (xs : List ℕ) (test : L.Cond) (set_all none r : L.Command) (set : L.Commands) → test ≡ one_test (equal (fresh 0) (pos 1)) → set_all ≡ L.Seq set → set ≡ restores 1 xs → none ≡ L.Skip → r ≡ L.If test set_all none → r ≡ undo xs
unfolding meaning_definitions
undo_made xs test set_all none r set e f g h is = is ∙ (λ i. L.If (e i) ((f ∙ ap L.Seq g) i) (h i))

pub undoing_made : (xs : List ℕ) (body : L.Commands) (first second third : List LCommand) (c d : LCommand) → low_commands (map plain_lcommand first) ≡ L.MoreCommand (set_flag (pos 0)) (saves 1 xs L.NoCommand) → second ≡ first ++ c ∷ [] → plain_lcommand c ≡ L.Seq body → third ≡ second ++ d ∷ [] → plain_lcommand d ≡ undo xs →
    L.Seq (low_commands (map plain_lcommand third)) ≡ undoing xs body
unfolding meaning_definitions
undoing_made xs body first second third c d start p is q undone =
    let saved : L.Commands = saves 1 xs L.NoCommand in
    ap L.Seq (
    ap (λ l. low_commands (map plain_lcommand l)) q
    ∙ made_push second d
    ∙ ap (λ l. both (low_commands (map plain_lcommand l)) (one (plain_lcommand d))) p
    ∙ ap (λ u. both u (one (plain_lcommand d))) (made_push first c)
    ∙ (λ i. both (both (start i) (one (is i))) (one (undone i)))
    ∙ ap (L.MoreCommand (set_flag (pos 0))) (both_both saved (one (L.Seq body)) (one (undo xs)) ∙ saves_more 1 xs (L.MoreCommand (L.Seq body) (one (undo xs))))
    )
