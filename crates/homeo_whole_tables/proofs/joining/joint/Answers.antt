-- The error of the size is passed on, and the choices are those of the counted rows.
use Rattle.std.proofs.Common.{◌≡◌, ◌<◌, ◌≤◌, ◌^◌, Err, map, sym, ap, ◌∙◌, pos, subst, IsErrAnd, ◌↔◌, length, vec_len}
use Rattle.std.specs.Prelude.{IfOk}
use Rattle.std.specs.List.{All}
use Rattle.std.proofs.lemmas.List.{length-map}
use Rattle.std.proofs.lemmas.List.Elements.{All-map}
use Rattle.std.proofs.lemmas.Result.{IfOk-weaker}
use Rattle.homeo_plan.specs.declared.rows.JointRow.{JointRow}
use Rattle.homeo_plan.specs.Joint.{joint_picks}
use Rattle.homeo_joint.specs.Counts.{row_limit, product_of, ArePicks, IsFirstOver}
use Rattle.homeo_joint.specs.TooMany.{IsTooMany}
use Rattle.homeo_joint.proofs.Errors.{passed_on, one_error, over_err, none_over, out_of_memory}
use Rattle.homeo_whole_tables.specs.Tables.{plain_table}
use Rattle.homeo_whole_tables.proofs.CountedTables.{counts_positive, counts-plain, joint_count, rows_within}
use Rattle.homeo_whole_tables.proofs.joining.joint.Goals as goal

pub joint_of_counts-requires : goal.joint_of_counts-requires
joint_of_counts-requires c =
    let ts = c.args.tables.now in
    let is = c.as_slice.ensures.value ∙ c.in_ok-counts.ensures in
    record {
      few = subst (λ n. n < 2 ^ 32) (sym (ap length is ∙ length-map ts vec_len)) c.requires.few;
      some = subst (All (λ n. 1 ≤ n)) (sym is) (counts_positive ts c.requires.some);
      counted = subst (All (λ n. n < 2 ^ 32)) (sym is) (All-map (λ n. n < 2 ^ 32) vec_len ts c.requires.counted);
    }

pub returns-in_err-_size-clause-first : goal.returns-in_err-_size-clause-first
returns-in_err-_size-clause-first c = λ t p e.
    let passed = passed_on c.from_residual.result _ c.from_residual.ensures.1 in
    c.in_err-_size.ensures.first t p (ap Err (one_error c.from_residual.result _ _ passed e))

pub returns-in_err-_size-clause-over : goal.returns-in_err-_size-clause-over
returns-in_err-_size-clause-over c = (
  λ h.
      subst (λ n. row_limit < n) (sym (joint_count c.args.tables.now))
      (over_err _ _ (counts_positive c.args.tables.now c.requires.some) c.from_residual.result h (returns-in_err-_size-clause-first c)),
  λ h. subst (λ r. IsErrAnd r IsTooMany) (sym (passed_on c.from_residual.result _ c.from_residual.ensures.1)) c.in_err-_size.ensures.error,
)

pub returns-in_err-counts-clause-over : goal.returns-in_err-counts-clause-over
returns-in_err-counts-clause-over c =
    let few = rows_within c.args.tables.now _ 1024 c.in_ok-_size.ensures.size c.in_ok-_size.ensures.within in
    none_over _ _ few (out_of_memory c.from_residual-in_err-counts.result c.from_residual-in_err-counts.ensures.1)

pub returns-clause-picks : goal.returns-clause-picks
returns-clause-picks c =
    let ts = c.args.tables.now in
    let is = c.as_slice.ensures.value ∙ c.in_ok-counts.ensures in
    IfOk-weaker c.joint_of_counts.result
    (λ rows. ArePicks c.as_slice.result.now (map (λ (r : JointRow). r.picks.items) rows.items))
    (λ rows. map (λ (r : JointRow). r.picks.items) rows.items ≡ map (map pos) (joint_picks (map plain_table ts)))
    (λ rows picks. picks (map plain_table ts) (sym (is ∙ counts-plain ts))) c.joint_of_counts.ensures.picks

pub returns-clause-count : goal.returns-clause-count
returns-clause-count c =
    let is = c.as_slice.ensures.value ∙ c.in_ok-counts.ensures in
    subst (λ n. IfOk c.joint_of_counts.result (λ rows. vec_len rows ≡ n)) (ap product_of is) c.joint_of_counts.ensures.count

pub returns-clause-over : goal.returns-clause-over
returns-clause-over c =
    let is = c.as_slice.ensures.value ∙ c.in_ok-counts.ensures in
    subst (λ n. IsErrAnd c.joint_of_counts.result IsTooMany ↔ (row_limit < n)) (ap product_of is ∙ sym (joint_count c.args.tables.now))
    c.joint_of_counts.ensures.over

pub returns-clause-first : goal.returns-clause-first
returns-clause-first c = λ t p e.
    let is = c.as_slice.ensures.value ∙ c.in_ok-counts.ensures in
    subst (λ ns. IsFirstOver row_limit ns t p) is (c.joint_of_counts.ensures.first t p e)
