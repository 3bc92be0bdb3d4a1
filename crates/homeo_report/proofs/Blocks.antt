-- The lines of rounds: which entries stand where is told by them.
use Rattle.std.proofs.Common.{◌≡◌, ℕ, ◌+◌, Bool, true, false, List, [], ◌∷◌, ◌++◌, length, Option, Some, None, append_assoc, refl, sym, ap, ◌∙◌, subst, arith}
use Rattle.std.specs.List.{list_all}
use Rattle.homeo_lemmas.proofs.Lists.{cons_head, cons_tail, not_nil}
use Rattle.homeo_report.proofs.Splits.{not_both, Stops, cut_same}

-- what stands in a round's lines: those of the entries of each site, and the closing lines, a heading and an entry
pub record Block : Type 0 where
  pub segments : List (List (List ℕ))
  pub closing : Option (List ℕ × List ℕ)

abbrev pub segments_lines : (ℕ → List ℕ) → ℕ → List (List (List ℕ)) → List (List ℕ)
segments_lines site i [] = []
segments_lines site i (s ∷ segments) = site i ∷ (s ++ segments_lines site (i + 1) segments)

abbrev pub closing_lines : Option (List ℕ × List ℕ) → List (List ℕ)
closing_lines None = []
closing_lines (Some c) = c.0 ∷ c.1 ∷ []

-- the lines of rounds, numbered from n on, with these headings of rounds and sites
abbrev pub blocks_lines : (ℕ → List ℕ) → (ℕ → List ℕ) → ℕ → List Block → List (List ℕ)
blocks_lines round site n [] = []
blocks_lines round site n (b ∷ blocks) = round n ∷ (segments_lines site 0 b.segments ++ (closing_lines b.closing ++ blocks_lines round site (n + 1) blocks))

abbrev pub AreEntries : (List ℕ → Bool) → List (List (List ℕ)) → Type 0
AreEntries is_entry [] = Unit {0}
AreEntries is_entry (s ∷ segments) = (list_all is_entry s ≡ true) × AreEntries is_entry segments

abbrev pub IsClosing : (List ℕ → Bool) → (List ℕ → Bool) → Option (List ℕ × List ℕ) → Type 0
IsClosing is_entry is_close None = Unit {0}
IsClosing is_entry is_close (Some c) = (is_close c.0 ≡ true) × (is_entry c.0 ≡ false)

-- of k sites
pub record IsBlock (is_entry is_close : List ℕ → Bool) (k : ℕ) (b : Block) : Type 0 where
  pub sites : length b.segments ≡ k
  pub entries : AreEntries is_entry b.segments
  pub closing : IsClosing is_entry is_close b.closing

abbrev pub AreBlocks : (List ℕ → Bool) → (List ℕ → Bool) → ℕ → List Block → Type 0
AreBlocks is_entry is_close k [] = Unit {0}
AreBlocks is_entry is_close k (b ∷ blocks) = IsBlock is_entry is_close k b × AreBlocks is_entry is_close k blocks

-- Headings of rounds and sites, a test that entries alone pass, and one that closing headings pass and those of rounds do not.
module _ (round site : ℕ → List ℕ) (is_entry is_close : List ℕ → Bool)
    (no_entry_round : (n : ℕ) → is_entry (round n) ≡ false) (no_entry_site : (n : ℕ) → is_entry (site n) ≡ false)
    (no_close_round : (n : ℕ) → is_close (round n) ≡ false) where
  stops_segments : (i : ℕ) (segments : List (List (List ℕ))) (r : List (List ℕ)) → Stops is_entry r → Stops is_entry (segments_lines site i segments ++ r)
  stops_segments i [] r t = t
  stops_segments i (s ∷ segments) r t = no_entry_site i

  stops_closing : (c : Option (List ℕ × List ℕ)) (r : List (List ℕ)) → IsClosing is_entry is_close c → Stops is_entry r → Stops is_entry (closing_lines c ++ r)
  stops_closing None r c t = t
  stops_closing (Some c) r is t = is.1

  stops_blocks : (n : ℕ) (blocks : List Block) → Stops is_entry (blocks_lines round site n blocks)
  stops_blocks n [] = tt
  stops_blocks n (b ∷ blocks) = no_entry_round n

  not_close : (n : ℕ) (blocks : List Block) → Stops is_close (blocks_lines round site n blocks)
  not_close n [] = tt
  not_close n (b ∷ blocks) = no_close_round n

  segments_same : (i : ℕ) (ss ts : List (List (List ℕ))) (r u : List (List ℕ)) → length ss ≡ length ts → AreEntries is_entry ss → AreEntries is_entry ts → Stops is_entry r → Stops is_entry u → segments_lines site i ss ++ r ≡ segments_lines site i ts ++ u → (ss ≡ ts) × (r ≡ u)
  segments_same i [] [] r u l es et sr su e = (refl, e)
  segments_same i [] (t ∷ ts) r u l es et sr su e = absurd (omega arith)
  segments_same i (s ∷ ss) [] r u l es et sr su e = absurd (omega arith)
  segments_same i (s ∷ ss) (t ∷ ts) r u l es et sr su e =
      let left : List (List ℕ) = segments_lines site (i + 1) ss ++ r in
      let right : List (List ℕ) = segments_lines site (i + 1) ts ++ u in
      let e1 : site i ∷ (s ++ left) ≡ site i ∷ (t ++ right) = ap (λ l. site i ∷ l) (sym (append_assoc s (segments_lines site (i + 1) ss) r)) ∙ e ∙ ap (λ l. site i ∷ l) (append_assoc t (segments_lines site (i + 1) ts) u) in
      let here = cut_same is_entry s t left right es.0 et.0 (stops_segments (i + 1) ss r sr) (stops_segments (i + 1) ts u su) (cons_tail (site i) (site i) (s ++ left) (t ++ right) e1) in
      let rest = segments_same (i + 1) ss ts r u (omega (arith, l)) es.1 et.1 sr su here.1 in
      ((λ j. here.0 j ∷ rest.0 j), rest.1)

  closing_same : (c d : Option (List ℕ × List ℕ)) (r u : List (List ℕ)) → IsClosing is_entry is_close c → IsClosing is_entry is_close d → Stops is_close r → Stops is_close u → closing_lines c ++ r ≡ closing_lines d ++ u → (c ≡ d) × (r ≡ u)
  closing_same None None r u ic id sr su e = (refl, e)
  closing_same None (Some d) r u ic id sr su e = absurd (not_both (is_close d.0) id.0 (subst (Stops is_close) e sr))
  closing_same (Some c) None r u ic id sr su e = absurd (not_both (is_close c.0) ic.0 (subst (Stops is_close) (sym e) su))
  closing_same (Some c) (Some d) r u ic id sr su e =
      let first : c.0 ≡ d.0 = cons_head c.0 d.0 (c.1 ∷ r) (d.1 ∷ u) e in
      let more : c.1 ∷ r ≡ d.1 ∷ u = cons_tail c.0 d.0 (c.1 ∷ r) (d.1 ∷ u) e in
      let second : c.1 ≡ d.1 = cons_head c.1 d.1 r u more in
      ((λ j. Some (first j, second j)), cons_tail c.1 d.1 r u more)

  -- equal lines are those of equal blocks
  pub blocks_same : (k n : ℕ) (bs cs : List Block) → AreBlocks is_entry is_close k bs → AreBlocks is_entry is_close k cs → blocks_lines round site n bs ≡ blocks_lines round site n cs → bs ≡ cs
  blocks_same k n [] [] ib ic e = refl
  blocks_same k n [] (c ∷ cs) ib ic e = absurd (not_nil _ _ (sym e))
  blocks_same k n (b ∷ bs) [] ib ic e = absurd (not_nil _ _ e)
  blocks_same k n (b ∷ bs) (c ∷ cs) ib ic e =
      let br : List (List ℕ) = blocks_lines round site (n + 1) bs in
      let cr : List (List ℕ) = blocks_lines round site (n + 1) cs in
      let e1 = cons_tail (round n) (round n) (segments_lines site 0 b.segments ++ (closing_lines b.closing ++ br)) (segments_lines site 0 c.segments ++ (closing_lines c.closing ++ cr)) e in
      let segments = segments_same 0 b.segments c.segments (closing_lines b.closing ++ br) (closing_lines c.closing ++ cr) (ib.0.sites ∙ sym ic.0.sites) ib.0.entries ic.0.entries (stops_closing b.closing br ib.0.closing (stops_blocks (n + 1) bs)) (stops_closing c.closing cr ic.0.closing (stops_blocks (n + 1) cs)) e1 in
      let closing = closing_same b.closing c.closing br cr ib.0.closing ic.0.closing (not_close (n + 1) bs) (not_close (n + 1) cs) segments.1 in
      let rest : bs ≡ cs = blocks_same k (n + 1) bs cs ib.1 ic.1 closing.1 in
      λ j. record { segments = segments.0 j; closing = closing.0 j } ∷ rest j
