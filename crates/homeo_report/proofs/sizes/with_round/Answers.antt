-- A round's entries are those of its segments, and then that of its closing call.
use Rattle.std.proofs.Common.{length, ap, arith}
use Rattle.std.specs.List.{flat_map}
use Rattle.std.proofs.lemmas.List.{length_push}
use Rattle.homeo_history.specs.HistoryView.{plain_entry, plain_segment}
use Rattle.homeo_report.specs.Summary.{prints_in}
use Rattle.homeo_report.proofs.Totals.{open_entries, closed_entries, closed_prints}
use Rattle.homeo_report.proofs.sizes.with_round.Goals as goal

pub returns-in_ok-with_entry-in-Some-clause-calls : goal.returns-in_ok-with_entry-in-Some-clause-calls
returns-in_ok-with_entry-in-Some-clause-calls c =
    let r = c.args.round.now in
    let closing = c.in-Some.closing in
    omega (
      arith,
      c.in_ok-with_entry-in-Some.ensures.calls,
      c.in_ok-all.ensures.calls,
      ap (λ l. length (flat_map plain_segment l)) c.as_slice.ensures,
      ap length (closed_entries r closing c.in-Some.is),
      length_push (flat_map plain_segment r.segments.items) (plain_entry closing.entry),
    )

pub returns-in_ok-with_entry-in-Some-clause-prints : goal.returns-in_ok-with_entry-in-Some-clause-prints
returns-in_ok-with_entry-in-Some-clause-prints c =
    omega (
      arith,
      c.in_ok-with_entry-in-Some.ensures.prints,
      c.in_ok-all.ensures.prints,
      ap (λ l. length (prints_in (flat_map plain_segment l))) c.as_slice.ensures,
      closed_prints c.args.round.now c.in-Some.closing c.in-Some.is,
    )

pub returns-in-None-clause-calls : goal.returns-in-None-clause-calls
returns-in-None-clause-calls c =
    omega (
      arith,
      c.in_ok-all.ensures.calls,
      ap (λ l. length (flat_map plain_segment l)) c.as_slice.ensures,
      ap length (open_entries c.args.round.now c.in-None.is),
    )

pub returns-in-None-clause-prints : goal.returns-in-None-clause-prints
returns-in-None-clause-prints c =
    omega (
      arith,
      c.in_ok-all.ensures.prints,
      ap (λ l. length (prints_in (flat_map plain_segment l))) c.as_slice.ensures,
      ap (λ es. length (prints_in es)) (open_entries c.args.round.now c.in-None.is),
    )
