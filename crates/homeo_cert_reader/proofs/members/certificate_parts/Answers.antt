-- The members that are left, two by two.
use Rattle.std.proofs.Common.{◌≡◌, Some, ap, ◌∙◌}
use Rattle.serde_json.specs.Data.{object}
use Rattle.serde_json.specs.View.{view, members_view}
use Rattle.homeo_cert_reader.proofs.ReadLists.{is_none, object_is, same_members, same_rest}
use Rattle.homeo_cert_reader.proofs.members.certificate_parts.Goals as goal

pub returns-in_err-calls : goal.returns-in_err-calls
returns-in_err-calls c =
    let whole : object (members_view c.iter-members.result) ≡ view c.args.value.now =
    object_is (view c.args.value.now) (members_view c.iter-members.result) (ap (λ es. Some (members_view es)) c.iter-members.ensures.rest ∙ c.in_ok-as_object.ensures) in
    is_none _ _ _ c.from_residual-in_err-calls.ensures
    (λ b s g l f k v e.
    let all = same_members _ _ _ e whole in
    c.in_err-calls.ensures _ _ _ (same_rest _ _ _ _ _ _ _ _ _ all c.in_ok-base.ensures))

pub returns-in_err-freezes : goal.returns-in_err-freezes
returns-in_err-freezes c =
    let whole : object (members_view c.iter-members.result) ≡ view c.args.value.now =
    object_is (view c.args.value.now) (members_view c.iter-members.result) (ap (λ es. Some (members_view es)) c.iter-members.ensures.rest ∙ c.in_ok-as_object.ensures) in
    is_none _ _ _ c.from_residual-in_err-freezes.ensures
    (λ b s g l f k v e.
    let all = same_members _ _ _ e whole in
    let fewer = same_rest _ _ _ _ _ _ _ _ _ all c.in_ok-base.ensures in
    c.in_err-freezes.ensures _ _ _ (same_rest _ _ _ _ _ _ _ _ _ fewer c.in_ok-calls.ensures))

pub returns-in_err-version : goal.returns-in_err-version
returns-in_err-version c =
    let whole : object (members_view c.iter-members.result) ≡ view c.args.value.now =
    object_is (view c.args.value.now) (members_view c.iter-members.result) (ap (λ es. Some (members_view es)) c.iter-members.ensures.rest ∙ c.in_ok-as_object.ensures) in
    is_none _ _ _ c.from_residual-in_err-version.ensures
    (λ b s g l f k v e.
    let all = same_members _ _ _ e whole in
    let fewer = same_rest _ _ _ _ _ _ _ _ _ all c.in_ok-base.ensures in
    let last = same_rest _ _ _ _ _ _ _ _ _ fewer c.in_ok-calls.ensures in
    c.in_err-version.ensures _ _ (same_rest _ _ _ _ _ _ _ _ _ last c.in_ok-freezes.ensures))
