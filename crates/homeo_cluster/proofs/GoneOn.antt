-- Sites that go on to the next round, one after another, over plain data.
use Rattle.std.proofs.Common.{◌≡◌, ◌⊎◌, ℕ, zero, suc, ◌+◌, ◌<◌, ◌≤◌, List, [], ◌∷◌, map, length, slice_set, Some, refl, sym, ap, subst, ◌∙◌, arith, inl, inr, ⊎_elim}
use Rattle.std.specs.Prelude.{ℤ, slice_get}
use Rattle.homeo_lemmas.proofs.Places.{one_placed}
use Rattle.homeo_notes.specs.Lines.{Held, HasSeen, list_at, seen_at}
use Rattle.homeo_notes.proofs.Prefixes.{prefix_trans}
use Rattle.homeo_syntax.specs.Source as s
use Rattle.homeo_history.specs.Answers.{Answer}
use Rattle.homeo_history.specs.Legal.{IsClientAt}
use Rattle.homeo_history.proofs.ClientAnswers.{one_site}
use Rattle.homeo_history.proofs.Lists.{get_set_same, get_set_other, length_set}
use Rattle.homeo_assembly.specs.Written.{read}
use Rattle.homeo_cluster.specs.inner.Cells.{CellValue}
use Rattle.homeo_cluster.specs.Places.{at_line, bases_line}
use Rattle.homeo_cluster.specs.inner.Moves.{KeepsEach, KeepsOthers}
use Rattle.homeo_cluster.specs.inner.Renewed.{CanAsk, WasAsked, IsAsked, IsRenewed}
use Rattle.homeo_cluster.specs.inner.Rows.{IsReady, CanRenew, HasGoneOn, HaveGoneOn}

-- seen before, seen now
seen_on : (b b' : Held) (at line : ℕ) → list_at b' line ≡ list_at b line → ((i : ℕ) → HasSeen b' i (seen_at b i)) → HasSeen b at (list_at b line) → HasSeen b' at (list_at b' line)
seen_on b b' at line same grows seen =
    subst (HasSeen b' at) (sym same) (prefix_trans (list_at b line) (seen_at b at) (seen_at b' at) seen (grows at))

last_or : (i j : ℕ) → j < i + 1 → (j < i) ⊎ (j ≡ i)
last_or zero zero lt = inr refl
last_or zero (suc j) lt = absurd (omega (arith, lt))
last_or (suc i) zero lt = inl (omega arith)
last_or (suc i) (suc j) lt = ⊎_elim (λ l. inl (omega (arith, l))) (λ e. inr (ap suc e)) (last_or i j (omega (arith, lt)))

-- none so far
pub gone_none : (w : s.Workload) (next : List ℤ) (a : Answer) (before : List CellValue) (b p : Held) → KeepsEach w b → HaveGoneOn w next a 0 before before b b p p
gone_none w next a before b p book = record {
  count = refl;
  done = λ i c c' lt. absurd (omega (arith, lt));
  same = λ i c le e. e;
  book = book;
  bases = refl;
  kept = λ site client le at. refl;
  asked = λ site at lt. absurd (omega (arith, lt));
  unasked = λ site at le. refl;
}

module _ (w : s.Workload) (next : List ℤ) (a : Answer) (i : ℕ) (before now : List CellValue) (b0 b p0 p : Held)
    (so_far : HaveGoneOn w next a i before now b0 b p0 p) where
  some_of : (xs : List CellValue) (j : ℕ) → j < length xs → (x : CellValue) × (slice_get xs j ≡ Some x)
  some_of [] j lt = absurd (omega (arith, lt))
  some_of (x ∷ xs) zero lt = (x, refl)
  some_of (x ∷ xs) (suc j) lt = some_of xs j (omega (arith, lt))

  -- the site whose turn it is
  pub before_is : (c : CellValue) → i < length before → slice_get now i ≡ Some c → slice_get before i ≡ Some c
  before_is c lt here =
      let x = some_of before i lt in
      let same : x.0 ≡ c = one_placed now i x.0 c (so_far.same i x.0 (omega arith) x.1) here in
      subst (λ v. slice_get before i ≡ Some v) same x.1

  pub ready_now : (c : CellValue) → CanRenew w next b0 before → slice_get now i ≡ Some c → i < length before → IsReady w next b i c
  ready_now c ready here lt =
      let r = ready i c (before_is c lt here) in record {
        pairs = λ client at. r.pairs client at ∙ sym (ap (map (read client)) (so_far.kept i client (omega arith) at));
        short = r.short;
        ahead = so_far.bases ∙ r.ahead;
        few = r.few;
      }

  pub asker_now : IsClientAt w i a.client → CanAsk w a p0 → CanAsk w a p
  asker_now at can = subst (CanAsk w a) (sym (so_far.unasked i at (omega arith))) can

  -- it goes on
  pub gone_more : (c c' : CellValue) (b' p' : Held) → slice_get now i ≡ Some c → i < length before → c.site.state.number ≡ i → IsRenewed w next a c c' b b'
      → IsAsked w i a p p' → HaveGoneOn w next a (i + 1) before (slice_set now i c') b0 b' p0 p'
  gone_more c c' b' p' here lt number is asked =
      let keeps : KeepsOthers w i b b' = subst (λ n. KeepsOthers w n b b') number is.keeps in record {
        count = length_set now i c' ∙ so_far.count;
        done = λ j d d' less was new. ⊎_elim
            (λ earlier. old_one j d d' earlier was (still j c' d' (λ e. absurd (omega (arith, earlier, e))) new) keeps)
            (λ last. this_one j d d' last was new)
            (last_or i j less);
        same = λ j d le was. get_set_other now i j c' (λ e. absurd (omega (arith, le, e))) ∙ so_far.same j d (omega (arith, le)) was;
        book = keeps.book;
        bases = keeps.bases ∙ so_far.bases;
        kept = λ site client le at.
            keeps.others client (λ own. let same : i ≡ site = one_site w client i site own at in absurd (omega (arith, le, same)))
            ∙ so_far.kept site client (omega (arith, le)) at;
        asked = λ site at less. ⊎_elim
            (λ earlier. subst (WasAsked w a p0) (sym (not_here site at earlier)) (so_far.asked site at earlier))
            (λ last. asked_here site at last)
            (last_or i site less);
        unasked = λ site at le. later site at le ∙ so_far.unasked site at (omega (arith, le));
      }
    where
      still : (j : ℕ) (c' d' : CellValue) → (j ≡ i → ⊥) → slice_get (slice_set now i c') j ≡ Some d' → slice_get now j ≡ Some d'
      still j c' d' other e = sym (get_set_other now i j c' other) ∙ e

      old_one : (j : ℕ) (d d' : CellValue) → j < i → slice_get before j ≡ Some d → slice_get now j ≡ Some d' → KeepsOthers w i b b' → HasGoneOn w next a j d d' b'
      old_one j d d' earlier was now_is keeps =
          let o = so_far.done j d d' earlier was now_is in record {
            state = o.state;
            lists = o.lists;
            pairs = λ client at. o.pairs client at ∙ sym (ap (map (read client)) (keeps.others client (λ own. let same : i ≡ j = one_site w client i j own at in absurd (omega (arith, earlier, same)))));
            told = seen_on b b' (at_line w j) (bases_line w) keeps.bases keeps.seen o.told;
          }

      this_one : (j : ℕ) (d d' : CellValue) → j ≡ i → slice_get before j ≡ Some d → slice_get (slice_set now i c') j ≡ Some d' → HasGoneOn w next a j d d' b'
      this_one j d d' last was new =
          let there : slice_get now i ≡ Some d = ap (slice_get now) (sym last) ∙ so_far.same j d (omega (arith, last)) was in
          let same : c ≡ d = one_placed now i c d here there in
          let same' : c' ≡ d' = one_placed (slice_set now i c') i c' d' (get_set_same now i c c' here) (ap (slice_get (slice_set now i c')) (sym last) ∙ new) in
          subst (λ v. HasGoneOn w next a j v d' b') same
          (subst (λ v. HasGoneOn w next a j c v b') same'
          (subst (λ n. HasGoneOn w next a n c c' b') (number ∙ sym last)
          (record { state = is.state; lists = is.lists; pairs = is.pairs; told = is.told })))

      not_here : (site : ℕ) → IsClientAt w site a.client → site < i → p' ≡ p
      not_here site at earlier = ⊎_elim (λ own. let same : i ≡ site = one_site w a.client i site own.0 at in absurd (omega (arith, earlier, same))) (λ away. away.1) asked

      asked_here : (site : ℕ) → IsClientAt w site a.client → site ≡ i → WasAsked w a p0 p'
      asked_here site at last = ⊎_elim
          (λ own. subst (λ h. WasAsked w a h p') (so_far.unasked site at (omega (arith, last))) own.1)
          (λ away. absurd (away.0 (subst (λ n. IsClientAt w n a.client) last at)))
          asked

      later : (site : ℕ) → IsClientAt w site a.client → i + 1 ≤ site → p' ≡ p
      later site at le = ⊎_elim (λ own. let same : i ≡ site = one_site w a.client i site own.0 at in absurd (omega (arith, le, same))) (λ away. away.1) asked
