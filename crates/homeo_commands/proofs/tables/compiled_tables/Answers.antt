use Rattle.std.proofs.Common.{◌++◌, length, map, sym, ap, ◌∙◌, arith}
use Rattle.std.proofs.lemmas.List.{length-map}
use Rattle.homeo_syntax.specs.SourceView.{plain_workload}
use Rattle.homeo_meaning.specs.Ground.{grounds}
use Rattle.homeo_print.specs.Key.{definitions as print_definitions}
use Rattle.homeo_print.specs.Tables.{call_table, joint_text}
use Rattle.homeo_commands.specs.inner.Key.{definitions}
use Rattle.homeo_commands.specs.inner.Tabulated.{calls_text}
use Rattle.homeo_commands.proofs.Tabulating.{tables_are_few, grounds_few}
use Rattle.homeo_commands.proofs.tables.compiled_tables.Goals as goal

pub push_calls-requires : goal.push_calls-requires
push_calls-requires c = record {
  few = tables_are_few (plain_workload c.args.c.now) c.requires;
}

pub push_joint-requires-clause-few : goal.push_joint-requires-clause-few
push_joint-requires-clause-few c =
    let w = plain_workload c.args.c.now in
    omega (
      arith,
      ap length c.as_slice.ensures.value,
      ap length c.in_ok-counts.ensures.counts,
      length-map (map (call_table w) (grounds w)) length,
      length-map (grounds w) (call_table w),
      grounds_few w c.requires,
    )

pub returns : goal.returns
unfolding definitions print_definitions
returns c =
    let w = plain_workload c.args.c.now in
    let tables = map (call_table w) (grounds w) in
    c.in_ok-push_joint.ensures tables (c.in_ok-counts.ensures.counts ∙ sym c.as_slice.ensures.value)
    ∙ ap (λ l. l ++ joint_text tables) (c.in_ok-counts.ensures.text ∙ ap (λ l. l ++ calls_text w (grounds w)) c.new-out.ensures.items)
