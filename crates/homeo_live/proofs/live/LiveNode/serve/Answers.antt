use Rattle.homeo_live.specs.Key.{definitions}
use Rattle.std.proofs.Common.{refl, sym, ap, subst, ◌∙◌, arith}
use Rattle.std.specs.Prelude.{IfOk}
use Rattle.std.proofs.lemmas.Bool.Decides.{nat_tests}
use Rattle.std.proofs.lemmas.List.{nil_from_length}
use Rattle.homeo_syntax.specs.SourceView.{plain_workload}
use Rattle.homeo_nodes.specs.Nodes as n
use Rattle.homeo_live.specs.LiveView.{LiveValue, IsReaction}
use Rattle.homeo_live.proofs.LiveViews.{served_running, served_held, served_none, idle_is}
use Rattle.homeo_live.proofs.live.LiveNode.serve.Goals as goal

pub returns-then-is_empty-clause-reaction : goal.returns-then-is_empty-clause-reaction
unfolding definitions
returns-then-is_empty-clause-reaction c =
    let w = plain_workload c.args.self.now.work in
    let y = c.args.self.now.node in
    let none = nil_from_length c.self.inside.queue.items (grind (arith, nat_tests, c.if-is_empty.ensures, c.self.inside.queue.ok.0)) in
    idle_is (n.served w _) y c.args.packets.now.items c.args.packets.now.items _ n.Held (served_none w y (ap (λ (v : LiveValue). v.node.queue) (sym c.self.view_is) ∙ none)) refl refl

pub returns-in-Running-clause-reaction : goal.returns-in-Running-clause-reaction
returns-in-Running-clause-reaction c =
    subst (λ r. IfOk c.attempt.result (IsReaction r c.attempt.new.self.node c.args.packets.now.items c.attempt.new.packets.items)) (sym (served_running (plain_workload c.args.self.now.work) c.args.self.now.node (ap (λ (v : LiveValue). v.node.mode) (sym c.self.view_is) ∙ c.in-Running.is))) c.attempt.ensures.reaction

pub returns-in_default : goal.returns-in_default
unfolding definitions
returns-in_default c =
    let w = plain_workload c.args.self.now.work in
    let y = c.args.self.now.node in
    record {
      reaction = idle_is (n.served w _) y c.args.packets.now.items c.args.packets.now.items _ n.Held (served_held w y (λ e. c.in_default.not-Running (ap (λ (v : LiveValue). v.node.mode) c.self.view_is ∙ e))) refl refl;
      work = refl;
      unchanged = tt;
      unsent = tt;
    }
