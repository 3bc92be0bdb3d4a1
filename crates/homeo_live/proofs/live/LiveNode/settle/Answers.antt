use Rattle.homeo_live.specs.Key.{definitions}
use Rattle.std.proofs.Common.{map, refl, sym, ap, subst, ◌∙◌}
use Rattle.std.specs.Prelude.{is_some}
use Rattle.homeo_syntax.specs.SourceView.{plain_workload}
use Rattle.homeo_nodes.specs.declared.breach.Mode.TheVariants.{Stopped}
use Rattle.homeo_nodes.specs.Nodes.{all_of}
use Rattle.homeo_nodes.specs.Small.{small}
use Rattle.homeo_live.specs.LiveView.{plain_state, LiveValue}
use Rattle.homeo_live.specs.inner.Standing.{node_of, CanSettle}
use Rattle.homeo_live.proofs.LiveClosings.{placed_small, settled_waits, told_waits, settled_free}
use Rattle.homeo_live.proofs.live.LiveNode.settle.Goals as goal

pub returns-else-all_kept-clause-node : goal.returns-else-all_kept-clause-node
unfolding definitions
returns-else-all_kept-clause-node c =
    let w = plain_workload c.args.self.now.work in
    let y = c.args.self.now.node in
    let i = c.self.inside in
    let none = ap (λ xs. is_some (all_of (map plain_state xs))) (sym c.as_slice.ensures.value) ∙ sym c.all_kept.ensures ∙ c.if-all_kept.false in
    ap (λ m. node_of i.site.state m i.decided c.args.states.items i.past i.queue.items) (sym c.in-Stopped.is)
    ∙ placed_small y i.site.state i.mode c.args.mode i.decided i.states.items c.args.states.items i.past i.queue.items (ap (λ (v : LiveValue). v.node) c.self.view_is)
    ∙ ap small (sym (settled_waits w y c.args.mode (map plain_state c.args.states.items) c.in-Stopped.u c.in-Stopped.is none))

pub returns-else-all_kept-clause-came_to : goal.returns-else-all_kept-clause-came_to
unfolding definitions
returns-else-all_kept-clause-came_to c =
    let none = ap (λ xs. is_some (all_of (map plain_state xs))) (sym c.as_slice.ensures.value) ∙ sym c.all_kept.ensures ∙ c.if-all_kept.false in
    sym (told_waits (plain_workload c.args.self.now.work) c.args.self.now.node c.args.mode (map plain_state c.args.states.items) c.in-Stopped.u c.in-Stopped.is none)

pub returns-then-all_kept-clause-closes : goal.returns-then-all_kept-clause-closes
returns-then-all_kept-clause-closes c can lt =
    let w = plain_workload c.args.self.now.work in
    let y = c.args.self.now.node in
    let stopped = subst (λ m. CanSettle w y m (map plain_state c.args.states.items)) c.in-Stopped.is can in
    c.go_on.ensures.closes (subst (λ l. CanSettle w y (Stopped c.in-Stopped.u) (map plain_state l)) (sym c.as_slice-then-all_kept.ensures.value) stopped) lt

pub returns-in_default : goal.returns-in_default
unfolding definitions
returns-in_default c =
    let w = plain_workload c.args.self.now.work in
    let y = c.args.self.now.node in
    let i = c.self-in_default.inside in
    let free = settled_free w y c.args.mode (map plain_state c.args.states.items) c.in_default.not-Stopped in
    record {
      node = placed_small y i.site.state i.mode c.args.mode i.decided i.states.items c.args.states.items i.past i.queue.items (ap (λ (v : LiveValue). v.node) c.self-in_default.view_is) ∙ ap small (sym free.0);
      came_to = sym free.1;
      closes = λ can lt. refl;
      left = λ e. absurd (cc);
      unchanged = tt;
      work = ap (λ (v : LiveValue). v.work) c.self-in_default.view_is;
    }
