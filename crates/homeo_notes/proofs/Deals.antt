-- Who owns a line after lines were dealt.
use Rattle.std.proofs.Common.{◌≡◌, ℕ, ◌+◌, ◌<◌, ◌≤◌, true, false, not, cond, None, ap, ◌∙◌, arith}
use lib.ListN.{get_or}
use Rattle.std.proofs.lemmas.Bool.Decides.{nat_tests}
use Rattle.homeo_notes.specs.Lines.{Held, owned_at, is_within, only_lines, without_lines}
use Rattle.homeo_notes.proofs.Lists.{get_or-pick}

within : (first end i : ℕ) → first ≤ i → i < end → is_within first end (0 + i) ≡ true
within first end i l h = grind (arith, nat_tests)

above : (first end i : ℕ) → end ≤ i → is_within first end (0 + i) ≡ false
above first end i l = grind (arith, nat_tests)

below : (first end i : ℕ) → i < first → is_within first end (0 + i) ≡ false
below first end i l = grind (arith, nat_tests)

pub owned_only : (first end i : ℕ) (h : Held) → first ≤ i → i < end → owned_at (only_lines first end h) i ≡ owned_at h i
owned_only first end i h l u = get_or-pick None (is_within first end) 0 h.owned i ∙ ap (λ b. cond b (get_or h.owned i None) None) (within first end i l u)

pub owned_above : (first end i : ℕ) (h : Held) → end ≤ i → owned_at (without_lines first end h) i ≡ owned_at h i
owned_above first end i h l = get_or-pick None (λ n. not (is_within first end n)) 0 h.owned i ∙ ap (λ b. cond (not b) (get_or h.owned i None) None) (above first end i l)

pub owned_below : (first end i : ℕ) (h : Held) → i < first → owned_at (without_lines first end h) i ≡ owned_at h i
owned_below first end i h l = get_or-pick None (λ n. not (is_within first end n)) 0 h.owned i ∙ ap (λ b. cond (not b) (get_or h.owned i None) None) (below first end i l)
