-- The text of a stream, with some bytes more.
use Rattle.std.proofs.Common.{◌≡◌, ◌∙◌, ◌<◌, ◌≤◌, ℕ, true, false, List, [], ◌∷◌, ◌++◌, length, Option, None, Some, is_some, Result, OnOk, refl, sym, ap, subst, arith, append_assoc, append-nil, length-append, true≢false, inl, inr}
use Rattle.std.proofs.lemmas.Result.{on_ok_weaker}
use Rattle.homeo_syntax.specs.SourceView.{plain_workload}
use Rattle.homeo_syntax.specs.declared.workload.Refusal.{Refusal}
use Rattle.homeo_syntax.specs.declared.workload.Workload.{Workload}
use Rattle.homeo_meaning.specs.Key.{definitions}
use Rattle.homeo_meaning.specs.Verdict.{Accepts, IsRefused, text_limit}
use Rattle.homeo_meaning.specs.declared.call.Purpose.TheVariants.{Run}
use Rattle.homeo_frames.specs.Frames.{IsFrame, IsOpen}
use Rattle.homeo_frames.proofs.Cutting.{nothing_open}
use Rattle.homeo_process.specs.Driven.{Driven}
use Rattle.homeo_process.specs.Runs.{Gives}
use Rattle.homeo_process.specs.Streams.{HasText, IsSoFar, IsWhole, IsStopped, EndRefuses}
use Rattle.homeo_process.specs.inner.Feeds.{IsFirst, IsInText, IsBehindText, IsKept}
use Rattle.homeo_process.specs.inner.Lines.{LinesValue, no_lines, IsAlong, Gains}
use Rattle.homeo_process.proofs.Lining.{no_run}

pub same_some : (r q : Refusal) → Some r ≡ Some q → r ≡ q
same_some r q e = cc

pub nothing_kept : IsInText [] []
nothing_kept = record { is = refl; goes_on = nothing_open; short = omega arith }

-- ---- texts
pub too_long : (text : List ℕ) (told r : Refusal) → text_limit < length text → told ≡ record { code = 2; offset = text_limit } → told ≡ r → IsRefused text Run r
unfolding definitions
too_long text told r long is same = inl (record {
  long = long;
  code = ap (λ (x : Refusal). x.code) (sym same ∙ is);
  offset = ap (λ (x : Refusal). x.offset) (sym same ∙ is);
})

-- a byte that is too many
pub full_stops : (bytes text : List ℕ) (b : ℕ) (told r : Refusal) → IsInText bytes text → text_limit ≤ length text →
    told ≡ record { code = 2; offset = text_limit } → told ≡ r → IsStopped (bytes ++ b ∷ []) r
full_stops bytes text b told r h full is same = record {
  text = bytes ++ b ∷ [];
  behind = [];
  are = sym (append-nil (bytes ++ b ∷ []));
  is_text = inr (record { before = bytes; byte = b; are = refl; goes_on = h.goes_on; full = (let short = h.short in omega (arith, ap length h.is)) });
  refused = too_long (bytes ++ b ∷ []) told r (omega (arith, length-append bytes (b ∷ []), ap length h.is)) is same;
}

-- the text ends, and is refused
pub frame_stops : (bytes text : List ℕ) (b : ℕ) (r : Refusal) → IsInText bytes text → (IsOpen text → IsFrame (text ++ b ∷ [])) →
    IsRefused (text ++ b ∷ []) Run r → IsStopped (bytes ++ b ∷ []) r
frame_stops bytes text b r h ends refused = record {
  text = bytes ++ b ∷ [];
  behind = [];
  are = sym (append-nil (bytes ++ b ∷ []));
  is_text = inl (subst (λ t. IsFrame (t ++ b ∷ [])) h.is (ends (subst IsOpen (sym h.is) h.goes_on)));
  refused = subst (λ t. IsRefused (t ++ b ∷ []) Run r) h.is refused;
}

-- it goes on
pub text_more : (bytes text : List ℕ) (b : ℕ) → IsInText bytes text → length text < text_limit → (IsOpen text → IsOpen (text ++ b ∷ [])) →
    IsInText (bytes ++ b ∷ []) (text ++ b ∷ [])
text_more bytes text b h short goes_on = record {
  is = ap (λ t. t ++ b ∷ []) h.is;
  goes_on = subst (λ t. IsOpen (t ++ b ∷ [])) h.is (goes_on (subst IsOpen (sym h.is) h.goes_on));
  short = omega (arith, length-append bytes (b ∷ []), ap length h.is);
}

-- it ends, and is accepted
pub text_ends : (bytes text : List ℕ) (b : ℕ) (d : Driven) → IsInText bytes text → (IsOpen text → IsFrame (text ++ b ∷ [])) → IsFirst (text ++ b ∷ []) d →
    IsBehindText (bytes ++ b ∷ []) [] (no_lines d)
text_ends bytes text b d h ends first = record {
  text = bytes ++ b ∷ [];
  behind = [];
  are = sym (append-nil (bytes ++ b ∷ []));
  ended = subst (λ t. IsFrame (t ++ b ∷ [])) h.is (ends (subst IsOpen (sym h.is) h.goes_on));
  work = d.work;
  accepted = subst (λ t. Accepts (t ++ b ∷ []) Run (plain_workload d.work)) h.is first.accepted;
  along = no_run d.work d first.first;
}

-- more stands behind it
pub behind_more : {T E : Type 0} (r : Result T E) (bytes given piece old new : List ℕ) (l after : LinesValue) → IsBehindText bytes given l →
    ((work : Workload) (behind so_far : List ℕ) → IsAlong work behind so_far l → OnOk r (Gains old new (λ more. IsAlong work (behind ++ piece) (so_far ++ more) after))) →
    OnOk r (Gains old new (λ more. IsBehindText (bytes ++ piece) (given ++ more) after))
behind_more r bytes given piece old new l after h takes =
    let behind : (more : List ℕ) → IsAlong h.work (h.behind ++ piece) (given ++ more) after → IsBehindText (bytes ++ piece) (given ++ more) after = λ more along. record {
      text = h.text;
      behind = h.behind ++ piece;
      are = ap (λ x. x ++ piece) h.are ∙ append_assoc h.text h.behind piece;
      ended = h.ended;
      work = h.work;
      accepted = h.accepted;
      along = along;
    } in
    on_ok_weaker r (λ (more, are, along). (more, are, behind more along)) (takes h.work h.behind given h.along)

pub stopped_more : (bytes more : List ℕ) (r : Refusal) → IsStopped bytes r → IsStopped (bytes ++ more) r
stopped_more bytes more r h = record {
  text = h.text;
  behind = h.behind ++ more;
  are = ap (λ x. x ++ more) h.are ∙ append_assoc h.text h.behind more;
  is_text = h.is_text;
  refused = h.refused;
}

-- ---- what is kept, by whether the lines have begun
pub kept_in_text : (bytes given text : List ℕ) (lines : Option LinesValue) → is_some lines ≡ false → IsInText bytes text → given ≡ [] → IsKept bytes given text lines
kept_in_text bytes given text None e h none = (h, none)
kept_in_text bytes given text (Some l) e h none = absurd (true≢false e)

pub in_text : (bytes given text : List ℕ) (lines : Option LinesValue) → is_some lines ≡ false → IsKept bytes given text lines → IsInText bytes text × (given ≡ [])
in_text bytes given text None e h = h
in_text bytes given text (Some l) e h = absurd (true≢false e)

has_text : (bytes given : List ℕ) (l : LinesValue) → IsBehindText bytes given l → HasText bytes
has_text bytes given l h = record { text = h.text; behind = h.behind; are = h.are; ended = h.ended; accepted = (plain_workload h.work, h.accepted) }

pub behind_text : (bytes given text : List ℕ) (lines : Option LinesValue) → is_some lines ≡ true → IsKept bytes given text lines → HasText bytes
behind_text bytes given text None e h = absurd (true≢false (sym e))
behind_text bytes given text (Some l) e h = has_text bytes given l h

pub so_far : (bytes given text : List ℕ) (lines : Option LinesValue) → IsKept bytes given text lines → IsSoFar bytes
so_far bytes given text None (h, none) = inl h.goes_on
so_far bytes given text (Some l) h = inr (has_text bytes given l h)

-- what was given is what the bytes give
pub gives : (bytes given text : List ℕ) (lines : Option LinesValue) → IsKept bytes given text lines → Gives bytes given
gives bytes given text None (h, none) = inl (h.goes_on, none)
gives bytes given text (Some l) h = inr (record {
  text = h.text;
  behind = h.behind;
  are = h.are;
  ended = h.ended;
  work = h.work;
  accepted = h.accepted;
  lines = h.along.lines;
  rest = h.along.rest;
  are_lines = h.along.are_lines;
  node = l.node;
  run = h.along.run;
})

pub whole_text : (bytes text : List ℕ) (d : Driven) → IsInText bytes text → IsFirst text d → IsWhole bytes
whole_text bytes text d h first = inl (h.goes_on, (plain_workload d.work, subst (λ t. Accepts t Run (plain_workload d.work)) h.is first.accepted))

pub end_refuses : (bytes text : List ℕ) (r : Refusal) → IsInText bytes text → IsRefused text Run r → EndRefuses bytes r
end_refuses bytes text r h refused = record { goes_on = h.goes_on; refused = subst (λ t. IsRefused t Run r) h.is refused }
