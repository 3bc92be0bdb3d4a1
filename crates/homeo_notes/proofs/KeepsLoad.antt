-- Steps that load a word, and look, mark or take in, keep the rule of the board.
use Rattle.std.proofs.Common.{◌≡◌, ℕ, List, [], length, set, get_or, None, refl, sym, ap, ◌∙◌, subst, slice_index}
use mathlib.Core.Option.{none}
use mathlib.Core.List.{IsPrefix}
use Rattle.std.proofs.lemmas.List.{set-get_or}
use Rattle.atomic_table.specs.Table.{Me, step, Allows, keeps}
use Rattle.homeo_notes.specs.declared.rule.View.{View}
use Rattle.homeo_notes.specs.Lines.{Entries, longest}
use Rattle.homeo_notes.specs.inner.Rule.{Fits, Kept}
use Rattle.homeo_notes.specs.inner.Steps.{Looks, Learns, Marks}
use Rattle.homeo_notes.proofs.Lists.{get_or-longest}
use Rattle.homeo_notes.proofs.Prefixes.{prefix_nil, longer_prefixes}
use Rattle.homeo_notes.proofs.Views.{fits_set, owned_set}

-- a step that changes no word, and leaves what its seat owns
load_keeps : (lines slots by word : ℕ) (me : Me ℕ View) (w : View) (then : ℕ → Me ℕ View → Type 0) → w.owned ≡ me.0.owned
    → ((lists : ℕ → Entries) (owner : ℕ → ℕ) → Fits lists owner by me.0 → Fits lists owner by w × ((n : ℕ) → then n (w, me.1)))
    → Allows (Kept lines) slots by me word (λ n. n) then
load_keeps lines slots by word me w then same more s k homes at fits =
    let mine = more k.lists k.owner (k.views by me.0 at) in
    let words : set s.words word (slice_index s.words word) ≡ s.words = set-get_or s.words word 0 in (
      w,
      keeps,
      tt,
      record {
        lists = k.lists;
        owner = k.owner;
        count = ap length words ∙ k.count;
        words = λ i l. ap (λ ws. slice_index ws i) words ∙ k.words i l;
        views = fits_set k.lists k.owner s.views by w (λ j u apart there. k.views j u there) mine.0;
        owned = λ i l. owned_set k.lists k.lists k.owner s.views by me.0 w i at (k.owned i l) (λ o. ap (λ os. get_or os i None) same ∙ o) (λ apart. refl);
      },
      mine.1 (slice_index s.words word),
    )

-- a look
pub looks : (lines slots by line : ℕ) (me : Me ℕ View) → Allows (Kept lines) slots by me line (λ n. n) (Looks (step slots line 0 0 none) me)
looks lines slots by line me = load_keeps lines slots by line me me.0 (Looks (step slots line 0 0 none) me) refl
    (λ lists owner fit. (fit, λ n. (refl, λ i xs own. subst (IsPrefix (get_or me.0.seen i [])) (sym (fit.owns i xs own).1) (fit.seen i))))

-- a mark on the lines that are dealt next
pub marks : (lines slots by first end : ℕ) (me : Me ℕ View) → Allows (Kept lines) slots by me 0 (λ n. n) (Marks first end (step slots 0 0 0 none) me)
marks lines slots by first end me = load_keeps lines slots by 0 me (record me.0 { first = first; end = end }) (Marks first end (step slots 0 0 0 none) me) refl
    (λ lists owner fit. (record { owns = fit.owns; seen = fit.seen; told = fit.told }, λ n. (refl, refl)))

-- of two lists by line of which each is a prefix of the line's list, the longest
pub longest_prefixes : (lists : ℕ → Entries) (xs ys : List Entries) (i : ℕ) → IsPrefix (get_or xs i []) (lists i) → IsPrefix (get_or ys i []) (lists i)
    → IsPrefix (get_or (longest xs ys) i []) (lists i) × IsPrefix (get_or xs i []) (get_or (longest xs ys) i []) × IsPrefix (get_or ys i []) (get_or (longest xs ys) i [])
longest_prefixes lists xs ys i p q = rw (get_or-longest xs ys i) (longer_prefixes (get_or xs i []) (get_or ys i []) (lists i) p q)

-- what was told is taken in
pub learns : (lines slots by : ℕ) (me : Me ℕ View) → Allows (Kept lines) slots by me 0 (λ n. n) (Learns (step slots 0 0 0 none) me)
learns lines slots by me = load_keeps lines slots by 0 me (record me.0 { seen = longest me.0.seen me.0.told; told = [] }) (Learns (step slots 0 0 0 none) me) refl
    (λ lists owner fit.
    let both = λ (i : ℕ). longest_prefixes lists me.0.seen me.0.told i (fit.seen i) (fit.told i) in (
      record { owns = fit.owns; seen = λ i. (both i).0; told = λ i. prefix_nil (lists i) },
      λ n. (refl, refl, (λ i. (both i).1), (λ i. (both i).2)),
    ))
