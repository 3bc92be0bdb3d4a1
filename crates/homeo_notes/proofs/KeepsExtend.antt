-- A step that appends an entry keeps the rule of the board.
use Rattle.std.proofs.Common.{◌≡◌, ◌≢◌, ℕ, ◌+◌, ◌<◌, ◌%◌, ◌^◌, cond, eqb, [], ◌∷◌, ◌++◌, length, set, get_or, Some, None, refl, sym, ap, ◌∙◌, subst, arith, length-append, length-set, eq-eqb, ne_eqb, get_or-set_same, get_or-set_other, slice_index}
use mathlib.Core.Option.{none}
use mathlib.Core.List.{IsPrefix}
use mathlib.Core.Logic.{dite}
use native.Mathlib.Decide.{ℕ_discrete}
use Rattle.atomic_table.specs.Table.{Me, step, Allows, keeps}
use Rattle.homeo_notes.specs.declared.rule.View.{View}
use Rattle.homeo_notes.specs.Lines.{Entry, Entries, put, or_empty}
use Rattle.homeo_notes.specs.inner.Rule.{view_owns, Fits, Kept}
use Rattle.homeo_notes.specs.inner.Steps.{Adds}
use Rattle.homeo_notes.proofs.Lists.{get_or-put_same, get_or-put_other}
use Rattle.homeo_notes.proofs.Prefixes.{prefix_self, prefix_trans, prefix_push}
use Rattle.homeo_notes.proofs.Views.{fits_set, owned_set}

-- the lists by line, with xs at the line
abbrev grown : (ℕ → Entries) → ℕ → Entries → ℕ → Entries
grown lists line xs i = cond (eqb i line) xs (lists i)

grown-same : (lists : ℕ → Entries) (line : ℕ) (xs : Entries) (i : ℕ) → i ≡ line → grown lists line xs i ≡ xs
grown-same lists line xs i e = ap (λ b. cond b xs (lists i)) (eq-eqb i line e)

grown-other : (lists : ℕ → Entries) (line : ℕ) (xs : Entries) (i : ℕ) → i ≢ line → grown lists line xs i ≡ lists i
grown-other lists line xs i ne = ap (λ b. cond b xs (lists i)) (ne_eqb i line ne)

-- the view with the entry e at the end of the line's list
abbrev extended : View → ℕ → Entry → View
extended v line e = record v { owned = put None v.owned line (Some (or_empty (get_or v.owned line None) ++ e ∷ [])) }

-- the view that extends fits the longer list
fits_mine : (lists : ℕ → Entries) (owner : ℕ → ℕ) (by : ℕ) (v : View) (line : ℕ) (e : Entry) (xs : Entries) → Fits lists owner by v → view_owns v line xs
    → Fits (grown lists line (xs ++ e ∷ [])) owner by (extended v line e)
fits_mine lists owner by v line e xs fit own = record {
  owns = λ i ys h. dite (ℕ_discrete i line)
      (λ is. let there : Some (or_empty (get_or v.owned line None) ++ e ∷ []) ≡ Some ys = sym (get_or-put_same None v.owned line _) ∙ (ap (λ k. get_or (extended v line e).owned k None) (sym is) ∙ h) in
      let this : xs ++ e ∷ [] ≡ ys = cc (there, own) in
      (ap owner is ∙ (fit.owns line xs own).0, sym this ∙ sym (grown-same lists line (xs ++ e ∷ []) i is)))
      (λ ne. let was = fit.owns i ys (sym (get_or-put_other None v.owned line i (Some (or_empty (get_or v.owned line None) ++ e ∷ [])) ne) ∙ h) in (was.0, was.1 ∙ sym (grown-other lists line (xs ++ e ∷ []) i ne)));
  seen = λ i. prefix_grown lists line e xs i (get_or v.seen i []) (fit.owns line xs own).1 (fit.seen i);
  told = λ i. prefix_grown lists line e xs i (get_or v.told i []) (fit.owns line xs own).1 (fit.told i);
}
  where
    prefix_grown : (lists : ℕ → Entries) (line : ℕ) (e : Entry) (xs : Entries) (i : ℕ) (ys : Entries) → xs ≡ lists line → IsPrefix ys (lists i) → IsPrefix ys (grown lists line (xs ++ e ∷ []) i)
    prefix_grown lists line e xs i ys is p = dite (ℕ_discrete i line)
        (λ here. subst (IsPrefix ys) (sym (grown-same lists line (xs ++ e ∷ []) i here)) (prefix_push ys xs (e ∷ []) (subst (IsPrefix ys) (ap lists here ∙ sym is) p)))
        (λ ne. subst (IsPrefix ys) (sym (grown-other lists line (xs ++ e ∷ []) i ne)) p)

small_mod : (n : ℕ) → n < 2 ^ 63 → (n + 1) % 2 ^ 64 ≡ n + 1
small_mod n h = omega arith

-- an entry is appended to a line that the seat owns, and its word rises by 1
pub adds : (lines slots by line : ℕ) (me : Me ℕ View) (e : Entry) (xs : Entries) → line < lines → view_owns me.0 line xs → length xs < 2 ^ 63
    → Allows (Kept lines) slots by me line (λ n. (n + 1) % 2 ^ 64) (Adds e (step slots line 1 0 none) me)
adds lines slots by line me e xs in_range own room s k homes at fits =
    let mine = (k.views by me.0 at) in
    let is = mine.owns line xs own in
    let lists' : ℕ → Entries = grown k.lists line (xs ++ e ∷ []) in
    let before : slice_index s.words line ≡ length xs = k.words line in_range ∙ sym (ap length is.1) in
    let w = extended me.0 line e in (
      w,
      keeps,
      tt,
      record {
        lists = lists';
        owner = k.owner;
        count = length-set s.words line ((slice_index s.words line + 1) % 2 ^ 64) ∙ k.count;
        words = λ i l. dite (ℕ_discrete i line)
            (λ here. let lt : line < length s.words = omega (arith, k.count) in
            ap (λ j. slice_index (set s.words line ((slice_index s.words line + 1) % 2 ^ 64)) j) here
            ∙ get_or-set_same s.words line ((slice_index s.words line + 1) % 2 ^ 64) 0 lt
            ∙ ap (λ n. (n + 1) % 2 ^ 64) before ∙ small_mod (length xs) room
            ∙ sym (ap length (grown-same k.lists line (xs ++ e ∷ []) i here) ∙ length-append xs (e ∷ [])))
            (λ ne. get_or-set_other s.words line i ((slice_index s.words line + 1) % 2 ^ 64) 0 ne ∙ k.words i l ∙ ap length (sym (grown-other k.lists line (xs ++ e ∷ []) i ne)));
        views = fits_set lists' k.owner s.views by w
            (λ j u apart there. fits_other k.lists k.owner j u line (xs ++ e ∷ []) (k.views j u there) (λ same. apart (sym same ∙ is.0)) (prefix_push (k.lists line) xs (e ∷ []) (subst (IsPrefix (k.lists line)) (sym is.1) (prefix_self (k.lists line)))))
            (fits_mine k.lists k.owner by me.0 line e xs mine own);
        owned = λ i l. owned_set k.lists lists' k.owner s.views by me.0 w i at (k.owned i l)
            (λ o. dite (ℕ_discrete i line)
            (λ here. ap (λ j. get_or w.owned j None) here ∙ get_or-put_same None me.0.owned line (Some (or_empty (get_or me.0.owned line None) ++ e ∷ [])) ∙ ap Some (ap (λ ys. or_empty ys ++ e ∷ []) own ∙ sym (grown-same k.lists line (xs ++ e ∷ []) i here)))
            (λ ne. get_or-put_other None me.0.owned line i (Some (or_empty (get_or me.0.owned line None) ++ e ∷ [])) ne ∙ o ∙ ap Some (sym (grown-other k.lists line (xs ++ e ∷ []) i ne))))
            (λ apart. grown-other k.lists line (xs ++ e ∷ []) i (λ here. apart (ap k.owner here ∙ is.0)));
      },
      (refl, refl),
    )
  where
    -- a view that doesn't own the line fits the longer list
    fits_other : (lists : ℕ → Entries) (owner : ℕ → ℕ) (j : ℕ) (u : View) (line : ℕ) (ys : Entries) → Fits lists owner j u → (owner line ≢ j) → IsPrefix (lists line) ys → Fits (grown lists line ys) owner j u
    fits_other lists owner j u line ys fit apart more = record {
      owns = λ i zs h. let was = fit.owns i zs h in (was.0, was.1 ∙ sym (grown-other lists line ys i (λ here. apart (ap owner (sym here) ∙ was.0))));
      seen = λ i. further lists line ys i (get_or u.seen i []) more (fit.seen i);
      told = λ i. further lists line ys i (get_or u.told i []) more (fit.told i);
    }
      where
        further : (lists : ℕ → Entries) (line : ℕ) (ys : Entries) (i : ℕ) (zs : Entries) → IsPrefix (lists line) ys → IsPrefix zs (lists i) → IsPrefix zs (grown lists line ys i)
        further lists line ys i zs more p = dite (ℕ_discrete i line)
            (λ here. subst (IsPrefix zs) (sym (grown-same lists line ys i here)) (prefix_trans zs (lists line) ys (subst (λ k. IsPrefix zs (lists k)) here p) more))
            (λ ne. subst (IsPrefix zs) (sym (grown-other lists line ys i ne)) p)
