use Rattle.std.proofs.Common.{rules, ◌≡◌, ◌∙◌, ◌++◌, ℕ, List, [], take, Option, Some, is_some, sym, ap, subst, arith, inl, inr}
use Rattle.std.proofs.KnownBytes.{Appends-trans, Appends-nil, Consumes-trans, Consumes-nil}
use Rattle.homeo_lemmas.proofs.Readers.{end_gave}
use Rattle.homeo_io.specs.Moved.{TookExactly, TookPrefix}
use Rattle.homeo_syntax.specs.declared.workload.Refusal.{Refusal}
use Rattle.homeo_commands.specs.declared.serve.Ending.{Ending}
use Rattle.homeo_commands.specs.declared.serve.Ending.TheVariants as e
use Rattle.homeo_commands.proofs.Served.{whole_early, piece_early, falls, stop_late, owed, begins_early, read_piece}
use Rattle.homeo_commands.proofs.serve.serve_source.Goals as goal

same_stop : (r q : Refusal) → ◌≡◌ {A = Ending} (e.Stopped r) (e.Stopped q) → Some r ≡ Some q
same_stop r q same = cc

pub returns-in_default-clause-memory : goal.returns-in_default-clause-memory
returns-in_default-clause-memory g c = λ is. ([], [], Consumes-nil _, begins_early, Appends-nil _)

pub returns-then-count-eq0-clause-done : goal.returns-then-count-eq0-clause-done
returns-then-count-eq0-clause-done g c = λ is.
    let i = c.loop-count.invariant in
    let d = c.serve_end.ensures.done i.bytes i.sent i.goes_on is in (
      i.bytes,
      i.sent ++ d.0,
      record { gave = end_gave _ _ _ _ _ _ i.gave c.in-Ok-read.ensures.bytes.0 c.if-count-eq0.true; at_end = c.in-Ok-read.ensures.bytes.1 c.if-count-eq0.true (search rules) },
      d.1,
      Appends-trans _ _ _ _ _ i.took d.2,
    )

pub returns-then-count-eq0-clause-stopped : goal.returns-then-count-eq0-clause-stopped
returns-then-count-eq0-clause-stopped g c = λ r is.
    let i = c.loop-count.invariant in
    let d = c.serve_end.ensures.stopped i.bytes i.sent r i.goes_on is in (
      i.bytes,
      i.sent,
      end_gave _ _ _ _ _ _ i.gave c.in-Ok-read.ensures.bytes.0 c.if-count-eq0.true,
      inr (c.in-Ok-read.ensures.bytes.1 c.if-count-eq0.true (search rules), d.0, d.1),
      subst (λ x. TookExactly (g.O.Sink.taken c.args.out.now) (g.O.Sink.taken x) i.sent) (sym d.2) i.took,
    )

pub returns-then-count-eq0-clause-stopped_early : goal.returns-then-count-eq0-clause-stopped_early
returns-then-count-eq0-clause-stopped_early g c = λ r is.
    let i = c.loop-count.invariant in
    let d = c.serve_end.ensures.stopped i.bytes i.sent r i.goes_on is in (
      i.bytes,
      i.sent,
      end_gave _ _ _ _ _ _ i.gave c.in-Ok-read.ensures.bytes.0 c.if-count-eq0.true,
      whole_early i.bytes i.sent _ i.goes_on,
      subst (λ x. TookExactly (g.O.Sink.taken c.args.out.now) (g.O.Sink.taken x) i.sent) (sym d.2) i.took,
    )

pub returns-then-count-eq0-clause-write_fault : goal.returns-then-count-eq0-clause-write_fault
returns-then-count-eq0-clause-write_fault g c = λ is.
    let i = c.loop-count.invariant in
    let d = c.serve_end.ensures.write_fault i.bytes i.sent i.goes_on is in (
      i.bytes,
      i.sent,
      d.0,
      d.2.0,
      end_gave _ _ _ _ _ _ i.gave c.in-Ok-read.ensures.bytes.0 c.if-count-eq0.true,
      whole_early i.bytes i.sent _ i.goes_on,
      inr (c.in-Ok-read.ensures.bytes.1 c.if-count-eq0.true (search rules), d.1),
      d.2.1,
      Appends-trans _ _ _ _ _ i.took d.2.2,
    )

pub returns-in-Err-feed-clause-memory : goal.returns-in-Err-feed-clause-memory
returns-in-Err-feed-clause-memory g c = λ is.
    let i = c.loop-count.invariant in (
      i.bytes ++ take c.in-Ok-read.count c.read.new.buf,
      i.sent,
      Consumes-trans _ _ _ _ _ i.gave c.in-Ok-read.ensures.bytes.0,
      piece_early i.bytes (take c.in-Ok-read.count c.read.new.buf) i.sent _ i.goes_on (let b = c.in-Ok-read.ensures.bound in omega (arith, c.read.auto.buf)),
      i.took,
    )

pub returns-in-Err-write_all-clause-write_fault : goal.returns-in-Err-write_all-clause-write_fault
returns-in-Err-write_all-clause-write_fault g c = λ is.
    let i = c.loop-count.invariant in
    let piece : List ℕ = take c.in-Ok-read.count c.read.new.buf in
    let answers : List ℕ = c.in-Ok-feed.fed.answers.items in
    let slice : c.as_slice.result.now ≡ answers = c.as_slice.ensures in
    let p = subst (λ l. TookPrefix (g.O.Sink.taken c.loop-count.out) (g.O.Sink.taken c.write_all.new.sink) l) slice c.in-Err-write_all.ensures.prefix in (
      i.bytes ++ piece,
      i.sent,
      answers,
      p.0,
      Consumes-trans _ _ _ _ _ i.gave c.in-Ok-read.ensures.bytes.0,
      piece_early i.bytes piece i.sent c.loop-count.session.state i.goes_on (let b = c.in-Ok-read.ensures.bound in omega (arith, c.read.auto.buf)),
      inl (owed i.bytes i.sent piece (i.sent ++ answers) c.loop-count.session.state c.feed.new.self.state c.in-Ok-feed.fed.stop i.goes_on (let b = c.in-Ok-read.ensures.bound in omega (arith, c.read.auto.buf))
          (c.in-Ok-feed.ensures.goes_on i.bytes i.sent i.goes_on) (λ r. c.in-Ok-feed.ensures.stops i.bytes i.sent r i.goes_on)),
      p.1,
      Appends-trans _ _ _ _ _ i.took p.2,
    )

pub returns-in-Some-clause-stopped : goal.returns-in-Some-clause-stopped
returns-in-Some-clause-stopped g c = λ r is.
    let i = c.loop-count.invariant in
    let stop = c.in-Ok-feed.ensures.stops i.bytes i.sent r i.goes_on (c.in-Some.is ∙ same_stop c.in-Some.stop r is) in
    let slice : c.as_slice.result.now ≡ c.in-Ok-feed.fed.answers.items = c.as_slice.ensures in
    let all = subst (λ l. TookExactly (g.O.Sink.taken c.loop-count.out) (g.O.Sink.taken c.write_all.new.sink) l) slice c.in_default-write_all.ensures.all in (
      i.bytes ++ take c.in-Ok-read.count c.read.new.buf,
      i.sent ++ c.in-Ok-feed.fed.answers.items,
      Consumes-trans _ _ _ _ _ i.gave c.in-Ok-read.ensures.bytes.0,
      inl stop,
      Appends-trans _ _ _ _ _ i.took all,
    )

pub returns-in-Some-clause-stopped_early : goal.returns-in-Some-clause-stopped_early
returns-in-Some-clause-stopped_early g c = λ r is.
    let i = c.loop-count.invariant in
    let piece : List ℕ = take c.in-Ok-read.count c.read.new.buf in
    let stop = c.in-Ok-feed.ensures.stops i.bytes i.sent r i.goes_on (c.in-Some.is ∙ same_stop c.in-Some.stop r is) in
    let slice : c.as_slice.result.now ≡ c.in-Ok-feed.fed.answers.items = c.as_slice.ensures in
    let all = subst (λ l. TookExactly (g.O.Sink.taken c.loop-count.out) (g.O.Sink.taken c.write_all.new.sink) l) slice c.in_default-write_all.ensures.all in (
      i.bytes ++ piece,
      i.sent ++ c.in-Ok-feed.fed.answers.items,
      Consumes-trans _ _ _ _ _ i.gave c.in-Ok-read.ensures.bytes.0,
      stop_late i.bytes i.sent piece (i.sent ++ c.in-Ok-feed.fed.answers.items) c.loop-count.session.state r i.goes_on
          (let b = c.in-Ok-read.ensures.bound in omega (arith, c.read.auto.buf)) stop,
      Appends-trans _ _ _ _ _ i.took all,
    )

pub loop-count-smaller : goal.loop-count-smaller
loop-count-smaller g c =
    let i = c.loop-count.invariant in
    let goes_on = c.in-Ok-feed.ensures.goes_on i.bytes i.sent i.goes_on c.in_default-stop.is in
    falls i.bytes i.sent (take c.in-Ok-read.count c.read.new.buf) _ c.loop-count.session.state c.feed.new.self.state i.goes_on goes_on (let b = c.in-Ok-read.ensures.bound in let f = c.if-count-eq0.false in omega arith)

pub loop-count-preserved : goal.loop-count-preserved
loop-count-preserved g c =
    let i = c.loop-count.invariant in
    let slice : c.as_slice.result.now ≡ c.in-Ok-feed.fed.answers.items = c.as_slice.ensures in
    let lasts = c.in-Ok-feed.ensures.lasts in
    let all = c.in_default-write_all.ensures.all in
    record {
      bytes = i.bytes ++ take c.in-Ok-read.count c.read.new.buf;
      sent = i.sent ++ c.in-Ok-feed.fed.answers.items;
      goes_on = c.in-Ok-feed.ensures.goes_on i.bytes i.sent i.goes_on c.in_default-stop.is;
      usable = lasts ∙ ap (λ (o : Option Refusal). is_some o) c.in_default-stop.is;
      gave = Consumes-trans _ _ _ _ _ i.gave c.in-Ok-read.ensures.bytes.0;
      took = Appends-trans _ _ _ _ _ i.took (subst (λ l. TookExactly (g.O.Sink.taken c.loop-count.out) (g.O.Sink.taken c.write_all.new.sink) l) slice all);
      read_faults = omega (arith, i.read_faults, c.read.ensures.counted);
      write_faults = omega (arith, i.write_faults, c.write_all.ensures.counted);
    }

pub returns-in-Err-feed-clause-gave : goal.returns-in-Err-feed-clause-gave
returns-in-Err-feed-clause-gave g c =
    let i = c.loop-count.invariant in
    read_piece _ _ _ i.bytes (take c.in-Ok-read.count c.read.new.buf) i.sent c.loop-count.session.state i.goes_on i.gave c.in-Ok-read.ensures.bytes.0
    (let b = c.in-Ok-read.ensures.bound in omega (arith, c.read.auto.buf))

pub returns-in-Err-write_all-clause-gave : goal.returns-in-Err-write_all-clause-gave
returns-in-Err-write_all-clause-gave g c =
    let i = c.loop-count.invariant in
    read_piece _ _ _ i.bytes (take c.in-Ok-read.count c.read.new.buf) i.sent c.loop-count.session.state i.goes_on i.gave c.in-Ok-read.ensures.bytes.0
    (let b = c.in-Ok-read.ensures.bound in omega (arith, c.read.auto.buf))

pub returns-in-Some-clause-gave : goal.returns-in-Some-clause-gave
returns-in-Some-clause-gave g c =
    let i = c.loop-count.invariant in
    read_piece _ _ _ i.bytes (take c.in-Ok-read.count c.read.new.buf) i.sent c.loop-count.session.state i.goes_on i.gave c.in-Ok-read.ensures.bytes.0
    (let b = c.in-Ok-read.ensures.bound in omega (arith, c.read.auto.buf))
