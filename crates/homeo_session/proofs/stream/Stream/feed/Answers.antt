use Rattle.std.proofs.Common.{◌≡◌, ◌∙◌, ◌+◌, ◌<◌, ◌≤◌, ℕ, zero, suc, false, List, [], ◌∷◌, ◌++◌, length, take, drop, get_or, Option, None, Some, is_some, refl, sym, ap, subst, arith, append_assoc, true≢false}
use Rattle.homeo_syntax.specs.declared.workload.Refusal.{Refusal}
use Rattle.homeo_session.specs.Streams.{IsAfter, IsStopped}
use Rattle.homeo_session.proofs.stream.Stream.feed.Goals as goal

is_none : (o : Option Refusal) → is_some o ≡ false → o ≡ None
is_none None e = refl
is_none (Some r) e = absurd (true≢false e)

take_next : (xs : List ℕ) (i : ℕ) → i < length xs → take (i + 1) xs ≡ take i xs ++ get_or xs i 0 ∷ []
take_next [] i lt = absurd (omega arith)
take_next (x ∷ xs) zero lt = refl
take_next (x ∷ xs) (suc i) lt =
    let same : suc i + 1 ≡ suc (i + 1) = omega arith in
    ap (λ n. take n (x ∷ xs)) same ∙ ap (λ l. x ∷ l) (take_next xs i (omega arith))

take_all : (xs : List ℕ) (n : ℕ) → length xs ≤ n → take n xs ≡ xs
take_all [] zero h = refl
take_all [] (suc n) h = refl
take_all (x ∷ xs) zero h = absurd (omega arith)
take_all (x ∷ xs) (suc n) h = ap (λ l. x ∷ l) (take_all xs n (omega arith))

cut_there : (xs : List ℕ) (i : ℕ) → i < length xs → xs ≡ take i xs ++ get_or xs i 0 ∷ drop (suc i) xs
cut_there [] i lt = absurd (omega arith)
cut_there (x ∷ xs) zero lt = refl
cut_there (x ∷ xs) (suc i) lt = ap (λ l. x ∷ l) (cut_there xs i (omega arith))

pub returns-then-is_some-clause-stops : goal.returns-then-is_some-clause-stops
returns-then-is_some-clause-stops c = λ bytes out r h is.
    let i = c.loop-byte.byte-index in
    let xs = c.args.piece.now in
    let now = c.loop-byte.invariant bytes out h in
    let stop = c.in_ok-stop.ensures.stops (bytes ++ take i xs) (out ++ c.loop-byte.answers.items) r now is in
    let answers : c.loop-byte.answers.items ≡ c.from_vec.result.items = sym stop.0 ∙ sym (ap (λ x. x.items) c.from_vec.ensures) in
    subst (λ l. IsStopped (bytes ++ xs) (out ++ l) r) answers (record {
      before = bytes ++ take i xs;
      byte = get_or xs i 0;
      after = drop (suc i) xs;
      are = ap (λ l. bytes ++ l) (cut_there xs i c.loop-byte-test.true) ∙ sym (append_assoc bytes (take i xs) (get_or xs i 0 ∷ drop (suc i) xs));
      state = c.loop-byte.self;
      goes_on = now;
      decides = stop.1;
    })

pub loop-byte-preserved : goal.loop-byte-preserved
loop-byte-preserved c = λ bytes out h.
    let i = c.loop-byte.byte-index in
    let xs = c.args.piece.now in
    let now = c.loop-byte.invariant bytes out h in
    let next = c.in_ok-stop.ensures.goes_on (bytes ++ take i xs) (out ++ c.loop-byte.answers.items) now (is_none c.in_ok-stop.stop (sym c.is_some.ensures ∙ c.if-is_some.false)) in
    let there : (bytes ++ take i xs) ++ get_or xs i 0 ∷ [] ≡ bytes ++ take (i + 1) xs =
    append_assoc bytes (take i xs) (get_or xs i 0 ∷ []) ∙ ap (λ l. bytes ++ l) (sym (take_next xs i c.loop-byte-test.true)) in
    let answers : (out ++ c.loop-byte.answers.items) ++ next.0 ≡ out ++ c.take.new.answers.items =
    append_assoc out c.loop-byte.answers.items next.0 ∙ ap (λ l. out ++ l) (sym next.1) in
    subst (λ l. IsAfter l (out ++ c.take.new.answers.items) c.take.new.self) there
    (subst (λ l. IsAfter ((bytes ++ take i xs) ++ get_or xs i 0 ∷ []) l c.take.new.self) answers next.2)

pub returns-clause-goes_on : goal.returns-clause-goes_on
returns-clause-goes_on c = λ bytes out h none.
    let now = c.loop-byte.invariant bytes out h in
    let whole : take c.loop-byte.byte-index c.args.piece.now ≡ c.args.piece.now = take_all c.args.piece.now c.loop-byte.byte-index c.loop-byte-test.false in
    let answers : c.loop-byte.answers.items ≡ c.from_vec-2.result.items = sym (ap (λ x. x.items) c.from_vec-2.ensures) in
    subst (λ l. IsAfter (bytes ++ l) (out ++ c.from_vec-2.result.items) c.loop-byte.self) whole
    (subst (λ l. IsAfter (bytes ++ take c.loop-byte.byte-index c.args.piece.now) (out ++ l) c.loop-byte.self) answers now)
