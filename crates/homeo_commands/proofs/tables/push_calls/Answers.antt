use Rattle.std.proofs.Common.{◌≡◌, ℕ, ◌≤◌, ◌<◌, ◌^◌, [], ◌++◌, ◌∷◌, ◌∙◌, All, map, take, length, sym, ap, ap₂, subst, append-nil, append_assoc}
use Rattle.std.proofs.lemmas.List.Elements.{All-nil, All-push}
use Rattle.homeo_syntax.specs.LowView.{plain_lcommand}
use Rattle.homeo_syntax.specs.SourceView.{plain_workload}
use Rattle.homeo_meaning.specs.Ground.{plain_ground}
use Rattle.homeo_plan.specs.Planned.{sites_of, planned_call}
use Rattle.homeo_plan.specs.Table.{table}
use Rattle.homeo_plan.specs.Template.{shifted}
use Rattle.homeo_plan.proofs.RowCounts.{length_table}
use Rattle.homeo_build.proofs.GroundCalls.{command_is, call_below}
use Rattle.homeo_print.specs.Key.{definitions as print_definitions}
use Rattle.homeo_print.specs.Tables.{call_table, rows_text, table_heading, table_text}
use Rattle.homeo_commands.specs.inner.Key.{definitions}
use Rattle.homeo_commands.specs.inner.Tabulated.{HasFewRows, calls_text}
use Rattle.homeo_commands.proofs.Tabulating.{few_here, rows_counted, small_here, texts_more, counts_more}
use Rattle.homeo_commands.proofs.tables.push_calls.Goals as goal

abbrev IsSome : ℕ → Type 0
IsSome n = 1 ≤ n

abbrev IsCounted : ℕ → Type 0
IsCounted n = n < 2 ^ 32

pub loop-number-init : goal.loop-number-init
unfolding definitions
loop-number-init c =
    let none = c.new-counts.ensures.items in
    record {
      text = sym (append-nil c.args.out.now.items);
      counts = sym none;
      some = subst (All IsSome) (sym none) (All-nil IsSome);
      counted = subst (All IsCounted) (sym none) (All-nil IsCounted);
    }

pub command-requires : goal.command-requires
command-requires c = call_below (plain_workload c.args.c.now) c.calls-calls.result.now c.loop-number.number c.calls-calls.ensures c.loop-number-test.true

pub row_count-rows-requires : goal.row_count-rows-requires
row_count-rows-requires c =
    let w = plain_workload c.args.c.now in
    let calls = c.calls-calls.result.now in
    let k = c.loop-number.number in
    let call = c.index-calls-number.result in
    let l = plain_lcommand c.in_ok-command.command in
    let within = c.loop-number-test.true in
    let is = c.index-calls-number.is in
    small_here w calls k call l c.calls-calls.ensures within is (command_is w calls k call l c.calls-calls.ensures within is c.in_ok-command.ensures) c.requires.few

pub push_rows-requires-clause-few : goal.push_rows-requires-clause-few
push_rows-requires-clause-few c =
    let w = plain_workload c.args.c.now in
    let calls = c.calls-calls.result.now in
    let k = c.loop-number.number in
    let call = c.index-calls-number.result in
    let l = plain_lcommand c.in_ok-command.command in
    let within = c.loop-number-test.true in
    let is = c.index-calls-number.is in
    small_here w calls k call l c.calls-calls.ensures within is (command_is w calls k call l c.calls-calls.ensures within is c.in_ok-command.ensures) c.requires.few

pub loop-number-preserved : goal.loop-number-preserved
unfolding print_definitions
loop-number-preserved c =
    let w = plain_workload c.args.c.now in
    let calls = c.calls-calls.result.now in
    let k = c.loop-number.number in
    let call = c.index-calls-number.result in
    let g = plain_ground call in
    let l = plain_lcommand c.in_ok-command.command in
    let within = c.loop-number-test.true in
    let is = c.index-calls-number.is in
    let inv = c.loop-number.invariant in
    let more = c.in_ok-push.ensures.items in
    let grounds_are = c.calls-calls.ensures in
    let command : l ≡ shifted (sites_of w) (planned_call w g) = command_is w calls k call l grounds_are within is c.in_ok-command.ensures in
    let made : table l ≡ call_table w g = ap table command in
    let few : HasFewRows w g = few_here w calls k call within is (subst (All (HasFewRows w)) (sym grounds_are) c.requires.few) in
    let counted = rows_counted w g l c.row_count-rows.result few command c.row_count-rows.ensures in
    let count : c.row_count-rows.result ≡ length (call_table w g) = c.row_count-rows.ensures ∙ sym (length_table l) ∙ ap length made in
    let before = calls_text w (map plain_ground (take k calls)) in
    let workload = c.workload-w.ensures.value ∙ c.workload.ensures in
    let heading = c.in_ok-print_table_heading.ensures.text ∙ ap₂ (λ v n. c.loop-number.out.items ++ table_heading (plain_workload v) k g n) workload count in
    let printed = c.in_ok-push_rows.ensures ∙ ap₂ (λ l t. l ++ t) heading (ap₂ (λ v t. rows_text (plain_workload v) t) workload made)
    ∙ append_assoc c.loop-number.out.items (table_heading w k g (length (call_table w g))) (rows_text w (call_table w g)) in
    record {
      text =
          printed ∙ ap (λ l. l ++ table_text w k g (call_table w g)) inv.text ∙ append_assoc c.args.out.now.items before (table_text w k g (call_table w g))
          ∙ ap (λ l. c.args.out.now.items ++ l) (sym (texts_more w calls k call within is));
      counts = counts_more w calls k call within is ∙ ap₂ (λ l n. l ++ n ∷ []) inv.counts (sym count) ∙ sym more;
      some = subst (All IsSome) (sym more) (All-push IsSome c.loop-number.counts.items c.row_count-rows.result inv.some counted.0);
      counted = subst (All IsCounted) (sym more) (All-push IsCounted c.loop-number.counts.items c.row_count-rows.result inv.counted counted.1);
    }
