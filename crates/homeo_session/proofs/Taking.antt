-- A stream with one byte more.
use Rattle.std.proofs.Common.{◌≡◌, ◌∙◌, ◌+◌, ◌<◌, ◌≤◌, ℕ, List, [], ◌∷◌, ◌++◌, length, Option, Some, None, refl, sym, ap, subst, append-nil, arith, length-append, inl, inr}
use Rattle.homeo_frames.specs.Frames.{IsFrame, IsOpen, IsCut}
use Rattle.homeo_session.specs.Batches.{HeadValue, TakesHead, AnswersBatch, IsAnswered}
use Rattle.homeo_session.specs.inner.Heads.{EndsBy}
use Rattle.homeo_session.specs.Streams.{frame_limit, stream_limit, AreAnswered, AreShort, State, begun, IsAfter, IsServed}
use Rattle.homeo_frames.proofs.Cutting.{cuts_on, cut_none, cut_one, nothing_open}
use Rattle.homeo_session.proofs.Streaming.{row_join, row_head, short_append}

pub nothing_taken : IsAfter [] [] begun
nothing_taken = record { frames = []; cut = cut_none [] nothing_open; answered = (refl, refl); short = tt; rest_short = omega arith; counted = refl; within = omega arith }

more_within : (bytes : List ℕ) (b n : ℕ) → n ≡ length bytes → n < stream_limit → length (bytes ++ b ∷ []) ≤ stream_limit
more_within bytes b n e h = omega (arith, length-append bytes (b ∷ []))

pub after_open :
    (bytes out : List ℕ) (s : State) (b : ℕ) → IsAfter bytes out s → length s.rest < frame_limit → s.count < stream_limit →
    IsOpen (s.rest ++ b ∷ []) → IsAfter (bytes ++ b ∷ []) out (record { head = s.head; rest = s.rest ++ b ∷ []; count = s.count + 1 })
after_open bytes out s b h short within o = record {
  frames = h.frames;
  cut = subst (λ fs. IsCut (bytes ++ b ∷ []) fs (s.rest ++ b ∷ [])) (append-nil h.frames) (cuts_on bytes (b ∷ []) h.frames [] s.rest (s.rest ++ b ∷ []) h.cut (cut_none (s.rest ++ b ∷ []) o));
  answered = h.answered;
  short = h.short;
  rest_short = omega (arith, length-append s.rest (b ∷ []));
  counted = let count = h.counted in omega (arith, length-append bytes (b ∷ []));
  within = more_within bytes b s.count h.counted within;
}

pub after_frame :
    (bytes out answer : List ℕ) (s : State) (t : Option HeadValue) (b : ℕ) → IsAfter bytes out s → length s.rest < frame_limit → s.count < stream_limit →
    IsFrame (s.rest ++ b ∷ []) → IsAnswered s.head (s.rest ++ b ∷ []) answer t →
    IsAfter (bytes ++ b ∷ []) (out ++ answer) (record { head = t; rest = []; count = s.count + 1 })
after_frame bytes out answer s t b h short within frame answered = record {
  frames = h.frames ++ (s.rest ++ b ∷ []) ∷ [];
  cut = cuts_on bytes (b ∷ []) h.frames ((s.rest ++ b ∷ []) ∷ []) s.rest [] h.cut (cut_one (s.rest ++ b ∷ []) frame);
  answered = row_join None h.frames ((s.rest ++ b ∷ []) ∷ []) out answer s.head t h.answered
      (answer, [], t, sym (append-nil answer), answered, (refl, refl));
  short = short_append h.frames ((s.rest ++ b ∷ []) ∷ []) h.short (omega (arith, length-append s.rest (b ∷ [])), tt);
  rest_short = omega arith;
  counted = let count = h.counted in omega (arith, length-append bytes (b ∷ []));
  within = more_within bytes b s.count h.counted within;
}

-- ---- the end
-- where a head is there, a frame has ended
no_head : (head : Option HeadValue) (there : HeadValue) → head ≡ Some there → head ≡ None → ⊥
no_head head there e f = let a = e in let b = f in cc

pub served_ended : (bytes out : List ℕ) (s : State) (head : HeadValue) → IsAfter bytes out s → s.rest ≡ [] → s.head ≡ Some head → IsServed bytes out
served_ended bytes out s head h none there = go h.frames h.cut h.answered h.short
  where
    cut_at : (fs : List (List ℕ)) → IsCut bytes fs s.rest → IsCut bytes fs []
    cut_at fs c = subst (λ r. IsCut bytes fs r) none c

    go : (fs : List (List ℕ)) → IsCut bytes fs s.rest → AreAnswered None fs out s.head → AreShort fs → IsServed bytes out
    go [] c (e, same) short = absurd (no_head s.head head there same)
    go (f ∷ fs) c row short = record {
      frames = f ∷ fs;
      rest = [];
      cut = cut_at (f ∷ fs) c;
      last = s.head;
      answered = row;
      short = short;
      within = h.within;
    }

served_last :
    (bytes out answer : List ℕ) (s : State) (t : Option HeadValue) → IsAfter bytes out s → (s.rest ≡ [] → s.head ≡ None) →
    IsAnswered s.head s.rest answer t → IsServed bytes (out ++ answer)
served_last bytes out answer s t h some answered = go h.frames s.rest refl h.cut h.answered h.short h.rest_short answered
  where
    go :
        (fs : List (List ℕ)) (rest : List ℕ) → s.rest ≡ rest → IsCut bytes fs rest → AreAnswered None fs out s.head → AreShort fs →
        length rest ≤ frame_limit → IsAnswered s.head rest answer t → IsServed bytes (out ++ answer)
    go [] rest e c row short rest_short answered = record {
      frames = [];
      rest = rest;
      cut = c;
      last = t;
      answered = row_join None [] (rest ∷ []) out answer s.head t row (answer, [], t, sym (append-nil answer), answered, (refl, refl));
      short = (rest_short, tt);
      within = h.within;
    }
    go (f ∷ fs) [] e c row short rest_short answered =
        let there = row_head None f fs out s.head row in
        absurd (no_head s.head there.0 there.1 (some e))
    go (f ∷ fs) (b ∷ rest) e c row short rest_short answered = record {
      frames = f ∷ fs;
      rest = b ∷ rest;
      cut = c;
      last = t;
      answered = row_join None (f ∷ fs) ((b ∷ rest) ∷ []) out answer s.head t row (answer, [], t, sym (append-nil answer), answered, (refl, refl));
      short = short_append (f ∷ fs) ((b ∷ rest) ∷ []) short (rest_short, tt);
      within = h.within;
    }

pub served_at_end : (bytes out answer : List ℕ) (s : State) → IsAfter bytes out s → EndsBy s.head s.rest answer → IsServed bytes (out ++ answer)
served_at_end bytes out answer s h (inl (none, nothing, there, is)) =
    subst (IsServed bytes) (sym (ap (λ l. out ++ l) nothing ∙ append-nil out)) (served_ended bytes out s there h none is)
served_at_end bytes out answer s h (inr (some, next, answered)) = served_last bytes out answer s next h some answered

-- a head that is refused was preceded by no answer
pub none_before : (bytes out : List ℕ) (s : State) → IsAfter bytes out s → s.head ≡ None → out ≡ []
none_before bytes out s h none = go h.frames h.answered
  where
    go : (fs : List (List ℕ)) → AreAnswered None fs out s.head → out ≡ []
    go [] (e, same) = e
    go (f ∷ fs) row = let there = row_head None f fs out s.head row in absurd (no_head s.head there.0 there.1 none)

-- ---- what the end adds
pub ended : (head : Option HeadValue) (there : HeadValue) (rest : List ℕ) → head ≡ Some there → rest ≡ [] → EndsBy head rest []
ended head there rest is none = inl (none, refl, there, is)

pub last_batch :
    (head : Option HeadValue) (there next : HeadValue) (rest answer : List ℕ) → head ≡ Some there → (rest ≡ [] → ⊥) → AnswersBatch there rest answer next → EndsBy head rest answer
last_batch head there next rest answer is some answers =
    inr (λ none. absurd (some none), Some next, subst (λ (h : Option HeadValue). IsAnswered h rest answer (Some next)) (sym is) (next, answers, refl))

pub last_head : (head : Option HeadValue) (taken : HeadValue) (rest : List ℕ) → head ≡ None → TakesHead rest taken → EndsBy head rest []
last_head head taken rest is takes =
    inr (λ none. is, Some taken, subst (λ (h : Option HeadValue). IsAnswered h rest [] (Some taken)) (sym is) (refl, taken, takes, refl))
