-- Legal rounds with one list of calls and one shape are equal.
use Rattle.std.proofs.Common.{◌≡◌, ℕ, Bool, List, [], ◌∷◌, ◌++◌, map, length, flat_map, Option, Some, None, is_some, ℤ, append_assoc, refl, sym, ap, ap₂, ◌∙◌, true≢false}
use Rattle.std.specs.Prelude.{All, IfSome, option_map}
use Rattle.std.specs.Option.{option_to_list}
use Rattle.std.proofs.lemmas.List.{map-append}
use Rattle.std.proofs.lemmas.List.Elements.{All-head, All-tail}
use Rattle.std.proofs.lemmas.Option.{same_Some}
use Rattle.homeo_lemmas.proofs.Lists.{cons_head, cons_tail, not_nil}
use Rattle.homeo_syntax.specs.Source as s
use Rattle.homeo_meaning.specs.declared.call.CallId.{CallId}
use Rattle.homeo_meaning.specs.Serial.{Outcome, call_outcome}
use Rattle.homeo_history.specs.Key.{definitions}
use Rattle.homeo_history.specs.History.{Entry, Closing, Round}
use Rattle.homeo_plan.specs.declared.treaty.Broken.{Broken}
use Rattle.homeo_plan.specs.Local.{no_deltas}
use Rattle.homeo_history.specs.Merge.{segment_of}
use Rattle.homeo_history.specs.Replayed.{deltas_after, end_of, finding_at, IsReplayed}
use Rattle.homeo_history.specs.Legal.{site_of, IsCallAt, IsAtSites, entries_of, calls_of, ClosesWith, base_or, AreSerial}
use Rattle.homeo_history.proofs.Choices.{flat}
use Rattle.homeo_history.proofs.Runs.{cut_lengths, sizes, flat_length, call_list, calls_length, run_same}

-- ---- closing calls
abbrev pub closing_calls : Option Closing → List CallId
closing_calls c = call_list (option_to_list (option_map (λ (c : Closing). c.entry) c))

closing_length : (c d : Option Closing) → is_some c ≡ is_some d → length (closing_calls c) ≡ length (closing_calls d)
closing_length None None e = refl
closing_length None (Some d) e = absurd (true≢false (sym e))
closing_length (Some c) None e = absurd (true≢false e)
closing_length (Some c) (Some d) e = refl

abbrev IsAtSite : s.Workload → Option Closing → Type 0
IsAtSite w c = IfSome c (λ c. IsCallAt w c.site c.entry.call)

-- what fails of a site's treaty after a call that the site makes at the end of these segments
abbrev found : s.Workload → List ℤ → List (List Entry) → ℕ → CallId → Option Broken
found w base segments site call =
    finding_at w base site (deltas_after w base call (end_of w base (segment_of segments site) no_deltas))

abbrev IsFound : s.Workload → List ℤ → List (List Entry) → Option Closing → Type 0
IsFound w base segments c = IfSome c (λ c. found w base segments c.site c.entry.call ≡ Some c.broken)

is_found : (w : s.Workload) (r : Round) → IsReplayed w r → IsFound w r.base r.segments r.closing
unfolding definitions
is_found w r h = h.closing

closing_same :
    (w : s.Workload) (base base' : List ℤ) (segs segs' : List (List Entry)) (a b next other : List ℤ) (c d : Option Closing) →
    base ≡ base' → segs ≡ segs' → a ≡ b → ClosesWith w a c next → ClosesWith w b d other → IsAtSite w c → IsAtSite w d →
    IsFound w base segs c → IsFound w base' segs' d → is_some c ≡ is_some d → closing_calls c ≡ closing_calls d →
    (c ≡ d) × (next ≡ other)
unfolding definitions
closing_same w base base' segs segs' a b next other None None eb es e m n p q f g i calls = (refl, m ∙ e ∙ sym n)
closing_same w base base' segs segs' a b next other None (Some d) eb es e m n p q f g i calls = absurd (true≢false (sym i))
closing_same w base base' segs segs' a b next other (Some c) None eb es e m n p q f g i calls = absurd (true≢false i)
closing_same w base base' segs segs' a b next other (Some c) (Some d) eb es e m n p q f g i calls =
    let call : c.entry.call ≡ d.entry.call = cons_head c.entry.call d.entry.call [] [] calls in
    let left : Outcome = record { prints = c.entry.prints; database = next } in
    let right : Outcome = record { prints = d.entry.prints; database = other } in
    let outcome : left ≡ right = sym m ∙ ap₂ (call_outcome w) call e ∙ n in
    let site : c.site ≡ d.site = same_Some c.site d.site (sym p.at_site ∙ ap (site_of w) call ∙ q.at_site) in
    let prints : c.entry.prints ≡ d.entry.prints = ap (λ (o : Outcome). o.prints) outcome in
    let one : found w base segs c.site c.entry.call ≡ found w base' segs' d.site d.entry.call = λ j. found w (eb j) (es j) (site j) (call j) in
    let broken : c.broken ≡ d.broken = same_Some c.broken d.broken (sym f ∙ one ∙ g) in (
      (λ j. Some (record { site = site j; entry = record { call = call j; prints = prints j }; broken = broken j })),
      ap (λ (o : Outcome). o.database) outcome,
    )

-- ---- shapes
-- how many calls each site made by itself, and whether the round is closed
pub record Shape : Type 0 where
  pub sizes : List ℕ
  pub closed : Bool

abbrev pub shape : Round → Shape
shape r = record { sizes = sizes r.segments; closed = is_some r.closing }

-- ---- rounds
calls_more : (r : Round) (rounds : List Round) → calls_of (r ∷ rounds) ≡ call_list (flat r.segments) ++ (closing_calls r.closing ++ calls_of rounds)
unfolding definitions
calls_more r rounds =
    let last : List Entry = option_to_list (option_map (λ (c : Closing). c.entry) r.closing) in
    map-append (λ (e : Entry). e.call) (flat r.segments ++ last) (flat_map entries_of rounds)
    ∙ ap (λ l. l ++ calls_of rounds) (map-append (λ (e : Entry). e.call) (flat r.segments) last)
    ∙ append_assoc (call_list (flat r.segments)) (closing_calls r.closing) (calls_of rounds)

-- rounds that are equal and leave one database
pub record SameRounds (rs ks : List Round) (d e : List ℤ) : Type 0 where
  pub rounds : rs ≡ ks
  pub last : d ≡ e

pub rounds_same : (w : s.Workload) (last other : List ℤ) (rs ks : List Round) → map shape rs ≡ map shape ks → calls_of rs ≡ calls_of ks → base_or rs last ≡ base_or ks other → All (IsAtSites w) rs → All (IsAtSites w) ks → AreSerial w rs last → AreSerial w ks other →
    All (IsReplayed w) rs → All (IsReplayed w) ks → SameRounds rs ks last other
unfolding definitions
rounds_same w last other [] [] shapes calls base p q m n f g = record { rounds = refl; last = base }
rounds_same w last other [] (k ∷ ks) shapes calls base p q m n f g = absurd (not_nil _ _ (sym shapes))
rounds_same w last other (r ∷ rs) [] shapes calls base p q m n f g = absurd (not_nil _ _ shapes)
rounds_same w last other (r ∷ rs) (k ∷ ks) shapes calls base p q m n f g =
    let here : shape r ≡ shape k = cons_head (shape r) (shape k) (map shape rs) (map shape ks) shapes in
    let lengths : sizes r.segments ≡ sizes k.segments = ap (λ (t : Shape). t.sizes) here in
    let closed : is_some r.closing ≡ is_some k.closing = ap (λ (t : Shape). t.closed) here in
    let more : List CallId = closing_calls r.closing ++ calls_of rs in
    let others : List CallId = closing_calls k.closing ++ calls_of ks in
    let all : call_list (flat r.segments) ++ more ≡ call_list (flat k.segments) ++ others = sym (calls_more r rs) ∙ calls ∙ calls_more k ks in
    let cut = cut_lengths (call_list (flat r.segments)) (call_list (flat k.segments)) more others (calls_length (flat r.segments) (flat k.segments) (flat_length r.segments k.segments lengths)) all in
    let end = cut_lengths (closing_calls r.closing) (closing_calls k.closing) (calls_of rs) (calls_of ks) (closing_length r.closing k.closing closed) cut.1 in
    let run = run_same w r k m.0.after n.0.after m.0.merges n.0.merges base lengths cut.0 in
    let closing = closing_same w r.base k.base r.segments k.segments m.0.after n.0.after (base_or rs last) (base_or ks other) r.closing k.closing base run.segments run.after m.0.closes n.0.closes (All-head (IsAtSites w) r rs p).closing (All-head (IsAtSites w) k ks q).closing (is_found w r (All-head (IsReplayed w) r rs f)) (is_found w k (All-head (IsReplayed w) k ks g)) closed end.0 in
    let rest = rounds_same w last other rs ks (cons_tail (shape r) (shape k) (map shape rs) (map shape ks) shapes) end.1 closing.1 (All-tail (IsAtSites w) r rs p) (All-tail (IsAtSites w) k ks q) m.1 n.1 (All-tail (IsReplayed w) r rs f) (All-tail (IsReplayed w) k ks g) in
    record {
      rounds = λ i. record { base = base i; segments = run.segments i; closing = closing.0 i } ∷ rest.rounds i;
      last = rest.last;
    }
