use Rattle.std.proofs.Common.{rules, ◌≡◌, ◌∙◌, ◌++◌, [], take, Some, refl, ap, subst, arith, inl, inr}
use Rattle.std.specs.Io.KnownBytes.{Appends}
use Rattle.std.proofs.KnownBytes.{Consumes-trans, Consumes-nil, Consumes-kept, Appends-nil, Appends-trans}
use Rattle.homeo_syntax.specs.declared.workload.Refusal.{Refusal}
use Rattle.homeo_process.specs.declared.process.Ending.{Ending}
use Rattle.homeo_process.specs.declared.process.Ending.TheVariants as e
use Rattle.homeo_lemmas.proofs.Readers.{end_gave}
use Rattle.homeo_process.proofs.Reading.{after_so_far, whole_early, piece_early, wrote_all, wrote_early, wrote_some, wrote_at_end}
use Rattle.homeo_process.proofs.process.serve.Goals as goal

same_stop : (r q : Refusal) → ◌≡◌ {A = Ending} (e.Refused r) (e.Refused q) → Some r ≡ Some q
same_stop r q same = cc

pub loop-piece-init : goal.loop-piece-init
loop-piece-init g c = record {
  bytes = [];
  given = [];
  after = c.new-feed.ensures;
  none = c.new-answers.ensures.items;
  gave = Consumes-nil _;
  took = Appends-nil _;
  quiet = λ first. refl;
  faults = omega arith;
}

pub returns-in-Err-clause-read_fault : goal.returns-in-Err-clause-read_fault
returns-in-Err-clause-read_fault g c = λ is.
    let i = c.loop-piece.invariant in
    (i.bytes, Consumes-kept _ _ _ _ i.gave c.in-Err.ensures.bytes, after_so_far i.bytes i.given c.loop-piece.feed i.after)

pub returns-then-count-eq0-clause-done : goal.returns-then-count-eq0-clause-done
returns-then-count-eq0-clause-done g c = λ is.
    let i = c.loop-piece.invariant in (
      i.bytes,
      record { gave = end_gave _ _ _ _ _ _ i.gave c.in-Ok.ensures.bytes.0 c.if-count-eq0.true; at_end = c.in-Ok.ensures.bytes.1 c.if-count-eq0.true (search rules) },
      c.close.ensures.done i.bytes i.given i.after is,
    )

pub returns-then-count-eq0-clause-refused : goal.returns-then-count-eq0-clause-refused
returns-then-count-eq0-clause-refused g c = λ r is.
    let i = c.loop-piece.invariant in (
      i.bytes,
      end_gave _ _ _ _ _ _ i.gave c.in-Ok.ensures.bytes.0 c.if-count-eq0.true,
      inr (c.in-Ok.ensures.bytes.1 c.if-count-eq0.true (search rules), c.close.ensures.refused i.bytes i.given r i.after is),
    )

pub returns-then-count-eq0-clause-refused_early : goal.returns-then-count-eq0-clause-refused_early
returns-then-count-eq0-clause-refused_early g c = λ r is.
    let i = c.loop-piece.invariant in
    (i.bytes, end_gave _ _ _ _ _ _ i.gave c.in-Ok.ensures.bytes.0 c.if-count-eq0.true, whole_early i.bytes i.given _ i.after)

pub returns-then-count-eq0-clause-untouched : goal.returns-then-count-eq0-clause-untouched
returns-then-count-eq0-clause-untouched g c = λ r is. c.loop-piece.invariant.quiet (c.close.ensures.refused_first r is)

pub returns-then-count-eq0-clause-memory : goal.returns-then-count-eq0-clause-memory
returns-then-count-eq0-clause-memory g c = λ is.
    let i = c.loop-piece.invariant in
    (i.bytes, end_gave _ _ _ _ _ _ i.gave c.in-Ok.ensures.bytes.0 c.if-count-eq0.true, whole_early i.bytes i.given _ i.after)

pub returns-then-count-eq0-clause-read_fault : goal.returns-then-count-eq0-clause-read_fault
returns-then-count-eq0-clause-read_fault g c = λ is. absurd (c.close.ensures.no_fault.0 is)

pub returns-then-count-eq0-clause-write_fault : goal.returns-then-count-eq0-clause-write_fault
returns-then-count-eq0-clause-write_fault g c = λ is. absurd (c.close.ensures.no_fault.1 is)

pub returns-then-count-eq0-clause-write_rose : goal.returns-then-count-eq0-clause-write_rose
returns-then-count-eq0-clause-write_rose g c = λ is. absurd (c.close.ensures.no_fault.1 is)

pub returns-in-Err-take-clause-memory : goal.returns-in-Err-take-clause-memory
returns-in-Err-take-clause-memory g c = λ is.
    let i = c.loop-piece.invariant in (
      i.bytes ++ take c.in-Ok.count c.read.new.buf,
      Consumes-trans _ _ _ _ _ i.gave c.in-Ok.ensures.bytes.0,
      piece_early i.bytes i.given (take c.in-Ok.count c.read.new.buf) _ i.after (let b = c.in-Ok.ensures.bound in omega (arith, c.read.auto.buf)),
    )

pub returns-in-Some-clause-refused : goal.returns-in-Some-clause-refused
returns-in-Some-clause-refused g c = λ r is.
    let i = c.loop-piece.invariant in (
      i.bytes ++ take c.in-Ok.count c.read.new.buf,
      Consumes-trans _ _ _ _ _ i.gave c.in-Ok.ensures.bytes.0,
      inl (c.in-Ok-take.ensures.stops i.bytes i.given r i.after (c.in-Some.is ∙ same_stop c.in-Some.refusal r is)),
    )

pub returns-in-Some-clause-refused_early : goal.returns-in-Some-clause-refused_early
returns-in-Some-clause-refused_early g c = λ r is.
    let i = c.loop-piece.invariant in (
      i.bytes ++ take c.in-Ok.count c.read.new.buf,
      Consumes-trans _ _ _ _ _ i.gave c.in-Ok.ensures.bytes.0,
      piece_early i.bytes i.given (take c.in-Ok.count c.read.new.buf) _ i.after (let b = c.in-Ok.ensures.bound in omega (arith, c.read.auto.buf)),
    )

pub returns-in-Some-clause-untouched : goal.returns-in-Some-clause-untouched
returns-in-Some-clause-untouched g c = λ r is. c.loop-piece.invariant.quiet (c.in-Ok-take.ensures.stops_first c.in-Some.refusal c.in-Some.is)

pub returns-in-Err-write_all-clause-write_fault : goal.returns-in-Err-write_all-clause-write_fault
returns-in-Err-write_all-clause-write_fault g c = λ is.
    let i = c.loop-piece.invariant in (
      i.bytes ++ take c.in-Ok.count c.read.new.buf,
      Consumes-trans _ _ _ _ _ i.gave c.in-Ok.ensures.bytes.0,
      after_so_far (i.bytes ++ take c.in-Ok.count c.read.new.buf) _ _ (c.in-Ok-take.ensures.goes_on i.bytes i.given i.after c.in_default.is).2,
    )

pub loop-piece-preserved : goal.loop-piece-preserved
loop-piece-preserved g c =
    let i = c.loop-piece.invariant in
    let slice : c.as_slice.result.now ≡ c.take.new.answers.items = c.as_slice.ensures.value in
    let gained = c.in-Ok-take.ensures.goes_on i.bytes i.given i.after c.in_default.is in
    record {
      bytes = i.bytes ++ take c.in-Ok.count c.read.new.buf;
      given = i.given ++ gained.0;
      after = gained.2;
      none = c.clear.ensures.items;
      gave = Consumes-trans _ _ _ _ _ i.gave c.in-Ok.ensures.bytes.0;
      took = Appends-trans _ _ _ _ _ i.took (subst (Appends _ _) (slice ∙ gained.1 ∙ ap (λ l. l ++ gained.0) i.none) c.in_default-write_all.ensures.all);
      quiet = λ first. c.in_default-write_all.ensures.none (slice ∙ c.in-Ok-take.ensures.quiet first ∙ i.none) ∙ i.quiet (c.in-Ok-take.ensures.first first);
      faults = omega (arith, i.faults, c.write_all.ensures.counted);
    }

pub returns-clause-read_fault : goal.returns-clause-read_fault
returns-clause-read_fault g c = λ is.
    let i = c.loop-piece.invariant in
    (i.bytes, i.gave, after_so_far i.bytes i.given _ i.after)

-- ---- what was written
pub returns-in-Err-clause-wrote : goal.returns-in-Err-clause-wrote
returns-in-Err-clause-wrote g c =
    let i = c.loop-piece.invariant in
    wrote_all _ _ _ _ i.bytes i.given _ i.after (Consumes-kept _ _ _ _ i.gave c.in-Err.ensures.bytes) i.took

pub returns-then-count-eq0-clause-wrote : goal.returns-then-count-eq0-clause-wrote
returns-then-count-eq0-clause-wrote g c =
    let i = c.loop-piece.invariant in
    wrote_at_end c.close.result _ _ _ _ i.bytes i.given _ i.after (end_gave _ _ _ _ _ _ i.gave c.in-Ok.ensures.bytes.0 c.if-count-eq0.true) i.took c.close.ensures.no_fault

pub returns-in-Err-take-clause-wrote : goal.returns-in-Err-take-clause-wrote
returns-in-Err-take-clause-wrote g c =
    let i = c.loop-piece.invariant in
    wrote_early _ _ _ _ i.bytes i.given _ _ i.after (Consumes-trans _ _ _ _ _ i.gave c.in-Ok.ensures.bytes.0)
    (let b = c.in-Ok.ensures.bound in omega (arith, c.read.auto.buf)) i.took

pub returns-in-Some-clause-wrote : goal.returns-in-Some-clause-wrote
returns-in-Some-clause-wrote g c =
    let i = c.loop-piece.invariant in
    wrote_early _ _ _ _ i.bytes i.given _ _ i.after (Consumes-trans _ _ _ _ _ i.gave c.in-Ok.ensures.bytes.0)
    (let b = c.in-Ok.ensures.bound in omega (arith, c.read.auto.buf)) i.took

pub returns-in-Err-write_all-clause-wrote : goal.returns-in-Err-write_all-clause-wrote
returns-in-Err-write_all-clause-wrote g c =
    let i = c.loop-piece.invariant in
    let slice : c.as_slice.result.now ≡ c.take.new.answers.items = c.as_slice.ensures.value in
    let gained = c.in-Ok-take.ensures.goes_on i.bytes i.given i.after c.in_default.is in
    wrote_some _ _ _ _ _ _ i.given gained.0 _ _ gained.2 (Consumes-trans _ _ _ _ _ i.gave c.in-Ok.ensures.bytes.0) i.took
    (slice ∙ gained.1 ∙ ap (λ l. l ++ gained.0) i.none) c.in-Err-write_all.ensures.prefix

pub returns-clause-wrote : goal.returns-clause-wrote
returns-clause-wrote g c =
    let i = c.loop-piece.invariant in
    wrote_all _ _ _ _ i.bytes i.given _ i.after i.gave i.took
