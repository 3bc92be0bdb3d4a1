use Rattle.std.proofs.Common.{◌≡◌, ◌∙◌, ◌<◌, ◌-◌, ◌+◌, ℕ, suc, false, List, [], ◌∷◌, ◌++◌, length, take, drop, get_or, Option, None, Some, is_some, refl, sym, ap, subst, arith, append_assoc, append-nil, true≢false}
use Rattle.std.proofs.lemmas.List.{take_more, take_all, take-append-drop, length-drop}
use Rattle.std.proofs.Math.Seq.{drop-cons}
use Rattle.homeo_syntax.specs.declared.workload.Refusal.{Refusal}
use Rattle.homeo_process.specs.Streams.{IsStopped}
use Rattle.homeo_process.specs.inner.Feeds.{FeedValue, IsAfter}
use Rattle.homeo_process.specs.inner.Lines.{Gains}
use Rattle.homeo_process.proofs.Feeding.{stopped_more, in_text}
use Rattle.homeo_process.proofs.feed.Feed.take.Goals as goal

is_none : (o : Option Refusal) → is_some o ≡ false → o ≡ None
is_none None e = refl
is_none (Some r) e = absurd (true≢false e)

-- bytes, a part of a piece, and the rest of it
whole_there : (bytes xs : List ℕ) (i : ℕ) → (bytes ++ take i xs) ++ take (length xs - i) (drop i xs) ≡ bytes ++ xs
whole_there bytes xs i =
    append_assoc bytes (take i xs) (take (length xs - i) (drop i xs)) ∙ ap (λ l. bytes ++ (take i xs ++ l)) (take_all (length xs - i) (drop i xs) (omega (arith, length-drop i xs)))
    ∙ ap (λ l. bytes ++ l) (take-append-drop i xs)

one_there : (bytes xs : List ℕ) (i : ℕ) → i < length xs → (bytes ++ take i xs) ++ get_or xs i 0 ∷ [] ≡ bytes ++ take (i + 1) xs
one_there bytes xs i lt = append_assoc bytes (take i xs) (get_or xs i 0 ∷ []) ∙ ap (λ l. bytes ++ l) (sym (take_more xs i 0 lt))

rest_there : (bytes xs : List ℕ) (i : ℕ) → i < length xs → ((bytes ++ take i xs) ++ get_or xs i 0 ∷ []) ++ drop (suc i) xs ≡ bytes ++ xs
rest_there bytes xs i lt =
    append_assoc (bytes ++ take i xs) (get_or xs i 0 ∷ []) (drop (suc i) xs) ∙ ap (λ l. (bytes ++ take i xs) ++ l) (sym (drop-cons xs i 0 lt))
    ∙ append_assoc bytes (take i xs) (drop i xs) ∙ ap (λ l. bytes ++ l) (take-append-drop i xs)

gains_there : (bytes more given old now new : List ℕ) (f : FeedValue) → bytes ≡ more → now ≡ old →
    Gains now new (λ gained. IsAfter bytes (given ++ gained) f) → Gains old new (λ gained. IsAfter more (given ++ gained) f)
gains_there bytes more given old now new f same e (gained, are, after) =
    (gained, are ∙ ap (λ l. l ++ gained) e, subst (λ b. IsAfter b (given ++ gained) f) same after)

pub returns-then-begun-clause-goes_on : goal.returns-then-begun-clause-goes_on
returns-then-begun-clause-goes_on c = λ bytes given h none.
    let i = c.loop-at.at in
    let xs = c.args.piece.now in
    gains_there _ _ given _ _ _ c.take_lines.new.self (whole_there bytes xs i) c.loop-at.invariant.answers
    (c.in_ok-take_lines.ensures.gives (bytes ++ take i xs) given (c.loop-at.invariant.after bytes given h))

pub returns-then-is_some-clause-stops : goal.returns-then-is_some-clause-stops
returns-then-is_some-clause-stops c = λ bytes given r h is.
    let i = c.loop-at.at in
    let xs = c.args.piece.now in
    let now = in_text (bytes ++ take i xs) given c.loop-at.self.text c.loop-at.self.lines (sym c.if-begun.ensures) (c.loop-at.invariant.after bytes given h) in
    subst (λ l. IsStopped l r) (rest_there bytes xs i c.loop-at-test.true)
    (stopped_more ((bytes ++ take i xs) ++ get_or xs i 0 ∷ []) (drop (suc i) xs) r (c.in_ok-stop.ensures.stops (bytes ++ take i xs) r now.0 is))

pub loop-at-preserved : goal.loop-at-preserved
loop-at-preserved c = record {
  after = λ bytes given h.
      let i = c.loop-at.at in
      let xs = c.args.piece.now in
      let now = in_text (bytes ++ take i xs) given c.loop-at.self.text c.loop-at.self.lines (sym c.if-begun.ensures) (c.loop-at.invariant.after bytes given h) in
      let next = c.in_ok-stop.ensures.goes_on (bytes ++ take i xs) now.0 (is_none c.in_ok-stop.stop (sym c.is_some.ensures ∙ c.if-is_some.false)) in
      subst (λ l. IsAfter l given c.take_text.new.self) (one_there bytes xs i c.loop-at-test.true)
      (subst (λ g. IsAfter ((bytes ++ take i xs) ++ get_or xs i 0 ∷ []) g c.take_text.new.self) (sym now.1) next);
  answers = c.loop-at.invariant.answers;
  first = λ e. c.loop-at.invariant.first (sym c.if-begun.ensures);
}

pub returns-clause-goes_on : goal.returns-clause-goes_on
returns-clause-goes_on c = λ bytes given h none.
    let all = subst (λ l. IsAfter (bytes ++ l) given c.loop-at.self) (take_all c.loop-at.at c.args.piece.now c.loop-at-test.false) (c.loop-at.invariant.after bytes given h) in
    ([], c.loop-at.invariant.answers ∙ sym (append-nil _), subst (λ g. IsAfter (bytes ++ c.args.piece.now) g c.loop-at.self) (sym (append-nil given)) all)
