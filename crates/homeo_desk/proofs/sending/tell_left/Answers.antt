use Rattle.std.proofs.Common.{refl, rules, ◌≡◌, ap, subst, ◌∙◌}
use Rattle.std.specs.Prelude.{Some}
use Rattle.homeo_nodes.specs.Nodes.{of_past}
use Rattle.homeo_live.specs.LiveView.{plain_past}
use Rattle.homeo_desk.specs.declared.output.Output.TheVariants as o
use Rattle.homeo_desk.specs.Outputs.{AreIn}
use Rattle.homeo_desk.proofs.Giving.{in_itself, gives_nothing, gives_put}
use Rattle.homeo_desk.proofs.sending.tell_left.Goals as goal

pub returns-in_default : goal.returns-in_default
returns-in_default c = gives_nothing _ _

pub returns-then-past-round : goal.returns-then-past-round
returns-then-past-round c = gives_nothing _ _

pub returns : goal.returns
returns c =
    let kept : Some (plain_past c.in-Some.past.now) ≡ c.args.node.now.node.past = search rules in
    let same : of_past (Some (plain_past c.in_ok-copy.field-0)) ≡ of_past c.args.node.now.node.past = ap (λ q. of_past (Some q)) c.in_ok-copy.ensures ∙ ap of_past kept in
    gives_put _ _ _ _ (o.Left c.args.to c.in_ok-copy.field-0) (ap (λ l. l.items) c.in_ok-push.ensures.ok)
    (subst (AreIn (of_past (Some (plain_past c.in_ok-copy.field-0)))) same (in_itself (of_past (Some (plain_past c.in_ok-copy.field-0))))) refl
