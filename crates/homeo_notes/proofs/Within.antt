-- Whoever owns a line owns one of the board's lines.
use Rattle.std.proofs.Common.{◌≡◌, ℕ, ◌+◌, ◌<◌, ◌++◌, ◌∷◌, Bool, [], Some, None, replicate, sym, ap, ◌∙◌, subst, arith}
use Rattle.std.specs.declared.option.Option.{Option}
use Rattle.std.proofs.lemmas.List.{get_or_past, length-replicate}
use mathlib.Core.Logic.{dite}
use native.Mathlib.Decide.{ℕ_discrete, dec_lt}
use lib.ListN.{get_or}
use Rattle.homeo_notes.specs.declared.rule.View.{View}
use Rattle.homeo_notes.specs.Boards.{held}
use Rattle.homeo_notes.specs.Lines.{Held, Entry, Entries, list_at, IsOwner, IsWithin, put, pick, owned_at, with_list, owner_of_all}
use Rattle.homeo_notes.proofs.Lists.{get_or-put_other, get_or-pick, cond_some}

pub within_list : (n : ℕ) (h : Held) (line : ℕ) (xs : Entries) → IsWithin n h → IsOwner h line → IsWithin n (with_list h line xs)
within_list n h line xs is owner i ys e = dite (ℕ_discrete i line)
    (λ same. subst (λ k. k < n) (sym same) (is line _ owner))
    (λ ne. is i ys (sym (get_or-put_other None h.owned line i (Some xs) ne) ∙ e))

pub within_pick : (n : ℕ) (h : Held) (p : ℕ → Bool) → IsWithin n h → IsWithin n record { owned = pick None p 0 h.owned; seen = h.seen }
within_pick n h p is i ys e =
    let zero_plus : 0 + i ≡ i = omega arith in
    is i ys (cond_some (p (0 + i)) (owned_at h i) ys (sym (get_or-pick None p 0 h.owned i) ∙ e)).1

pub within_all : (n : ℕ) → IsWithin n (owner_of_all n)
within_all n i ys e = by_test (dec_lt i n)
  where
    by_test : Dec (i < n) → i < n
    by_test (yes l) = l
    by_test (no u) = let empties : Option Entries = Some [] in
        let none : None ≡ Some ys = sym (get_or_past (replicate n empties) i None (omega (arith, length-replicate n empties))) ∙ e in absurd (cc (none))

pub within_same : (n : ℕ) (h k : Held) → k.owned ≡ h.owned → IsWithin n h → IsWithin n k
within_same n h k same is i ys e = is i ys (sym (ap (λ os. get_or os i None) same) ∙ e)

-- where an entry was appended to the list of a line that the holder owns
pub within_added : (n : ℕ) (v w : View) (line : ℕ) (e : Entry) → w ≡ record v { owned = put None v.owned line (Some (list_at (held v) line ++ e ∷ [])) } → IsOwner (held v) line → IsWithin n (held v) → IsWithin n (held w)
within_added n v w line e is owner within = subst (λ (u : View). IsWithin n (held u)) (sym is) (within_list n (held v) line (list_at (held v) line ++ e ∷ []) within owner)
