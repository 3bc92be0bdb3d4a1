-- The answer to a closing call, at its client's site and at the others, over plain data.
use Rattle.homeo_assembly.specs.Key.{definitions}
use Rattle.std.proofs.Common.{◌≡◌, ℕ, List, [], ◌∷◌, ◌++◌, map, refl, sym, ap, subst, ◌∙◌}
use Rattle.std.proofs.lemmas.List.{append-nil}
use Rattle.homeo_notes.specs.Lines.{Held, Entry, HasSeen, list_at, seen_at}
use Rattle.homeo_notes.proofs.Prefixes.{prefix_self, prefix_trans}
use Rattle.homeo_syntax.specs.Source as s
use Rattle.homeo_history.specs.Answers.{Answer, answers_to}
use Rattle.homeo_history.specs.Legal.{IsClientAt}
use Rattle.homeo_core.proofs.OneAnswer.{not_to}
use Rattle.homeo_assembly.specs.Written.{written, read}
use Rattle.homeo_cluster.specs.inner.Cells.{HoldsAt, answers_at}
use Rattle.homeo_cluster.specs.Places.{asked_line, kept_line, done_line, shut_line, at_line}
use Rattle.homeo_cluster.specs.inner.Grows.{Grew}
use Rattle.homeo_cluster.specs.inner.Moves.{KeepsEach, KeepsOthers, ArePairs}
use Rattle.homeo_cluster.specs.inner.Renewed.{IsGiven}
use Rattle.homeo_cluster.proofs.Apart.{AreApart, apart}
use Rattle.homeo_cluster.proofs.Gives.{gives, agrees}
use Rattle.homeo_cluster.proofs.Grows.{grew_list_other}
use Rattle.homeo_cluster.proofs.Locals.{holds_more}
use Rattle.homeo_cluster.proofs.Moving.{others_kept, pairs_more}
use Rattle.homeo_cluster.proofs.Renewals.{holds_shut}

-- ---- the book's holder, in steps
pub same_others : (w : s.Workload) (site : ℕ) (b : Held) → KeepsEach w b → KeepsOthers w site b b
same_others w site b is = record { book = is; bases = refl; others = λ c away. refl; seen = λ i. prefix_self (seen_at b i) }

pub others_then : (w : s.Workload) (site : ℕ) (a b c : Held) → KeepsOthers w site a b → KeepsOthers w site b c → KeepsOthers w site a c
others_then w site a b c p q = record {
  book = q.book;
  bases = q.bases ∙ p.bases;
  others = λ client away. q.others client away ∙ p.others client away;
  seen = λ i. prefix_trans (seen_at a i) (seen_at b i) (seen_at c i) (p.seen i) (q.seen i);
}

module _ (w : s.Workload) (site : ℕ) (a : Answer) where
  -- at the client's site both pairs of lists got it
  pub given_here : (h0 h1 h b0 b : Held) → IsClientAt w site a.client → HoldsAt w site h0 → ArePairs w site h0 b0 → KeepsEach w b0
      → Grew h0 h1 (done_line w a.client) (written a) → HasSeen h1 (asked_line a.client) (list_at h1 (done_line w a.client))
      → Grew h1 h (shut_line w a.client) (written a) → HasSeen h (kept_line w a.client) (list_at h (shut_line w a.client))
      → Grew b0 b (kept_line w a.client) (written a) → HasSeen b (shut_line w a.client) (list_at b (kept_line w a.client))
      → IsGiven w site a h0 b0 h b
  unfolding definitions
  given_here h0 h1 h b0 b own holds pairs book g1 seen1 g2 seen2 f seen =
      let lines : AreApart w site = apart w site in
      let e : Entry = written a in
      let c : ℕ = a.client in
      let first : HoldsAt w site h1 = holds_more w site c h0 h1 e holds own g1 seen1 in record {
        done = λ d at.
            agrees w site h1 h (done_line w) (shut_line w c) e (λ k here. lines.mixed k c here own) g2 d at
            ∙ gives w site h0 h1 (done_line w) a lines.done own g1 d at;
        shut = λ d at.
            gives w site h1 h (shut_line w) a lines.shut own g2 d at
            ∙ ap (λ xs. xs ++ answers_to d (a ∷ [])) (agrees w site h0 h1 (shut_line w) (done_line w c) e (λ k here q. lines.mixed c k own here (sym q)) g1 d at);
        at =
            grew_list_other h1 h (shut_line w c) (at_line w site) e g2 (lines.at_shut c own)
            ∙ grew_list_other h0 h1 (done_line w c) (at_line w site) e g1 (lines.at_done c own);
        holds = holds_shut w site c h1 h e first own g2 seen2;
        pairs = pairs_more w site c h1 h b0 b e (λ d at. ap (map (read d)) (grew_list_other h0 h1 (done_line w c) (shut_line w d) e g1 (λ q. lines.mixed c d own at (sym q))) ∙ pairs d at) own g2 f;
        keeps = others_kept w site c b0 b0 b e (same_others w site b0 book) own f seen;
      }

  -- at another site nothing came
  pub given_elsewhere : (h b : Held) → (IsClientAt w site a.client → ⊥) → HoldsAt w site h → ArePairs w site h b → KeepsEach w b
      → IsGiven w site a h b h b
  unfolding definitions
  given_elsewhere h b away holds pairs book = record {
    done = λ d at. nothing d at (answers_at h d (done_line w d));
    shut = λ d at. nothing d at (answers_at h d (shut_line w d));
    at = refl;
    holds = holds;
    pairs = pairs;
    keeps = same_others w site b book;
  }
    where
      nothing : (d : ℕ) → IsClientAt w site d → (given : List Answer) → given ≡ given ++ answers_to d (a ∷ [])
      nothing d at given = sym (append-nil given) ∙ ap (λ xs. given ++ xs) (sym (not_to d a (λ same. away (subst (IsClientAt w site) (sym same) at))))
