-- The state after the commit is that after the call's local step.
use Rattle.std.proofs.Common.{◌<◌, refl, ap, ◌∙◌, arith}
use Rattle.homeo_syntax.specs.Listed.{Listed}
use Rattle.homeo_history.specs.declared.history.Entry.{Entry}
use Rattle.homeo_site.specs.SiteView.{SiteValue}
use Rattle.homeo_site.proofs.SiteAttempts.{count_here, on_ok, commit_holds, commit_value}
use Rattle.homeo_site.proofs.site.Site.commit.Goals as goal

pub go_on-requires-clause-count : goal.go_on-requires-clause-count
go_on-requires-clause-count c =
    count_here c.self.inside.own c.self.inside.deltas c.self.inside.segment c.args.self.now c.self.view_is c.self.inside.deltas
    (ap (λ (v : SiteValue). v.state.deltas) c.self.view_is) c.args.change.call c.self.invariant c.args.change.deltas.items
    c.requires.change.deltas

pub invariant_of-self : goal.invariant_of-self
invariant_of-self c =
    let spare = ap (λ (v : SiteValue). v.spare) c.self.view_is in
    let some : 0 < c.self.inside.segment.entries.spare = omega (arith, spare, c.requires.spare) in
    let pushed = on_ok c.push.result (c.push.ensures.succeeds some) c.push.ensures.ok in
    commit_holds c.self.inside.own c.self.inside.deltas c.self.inside.segment c.args.self.now c.self.view_is c.args.change.call
    _ _ _ refl c.requires.change.prints (c.go_on.ensures ∙ c.requires.change.deltas) (ap (λ (l : Listed Entry). l.items) pushed)
    c.self.invariant c.requires.call c.requires.change.keeps

pub returns : goal.returns
returns c =
    let spare = ap (λ (v : SiteValue). v.spare) c.self.view_is in
    let some : 0 < c.self.inside.segment.entries.spare = omega (arith, spare, c.requires.spare) in
    let pushed = on_ok c.push.result (c.push.ensures.succeeds some) c.push.ensures.ok in
    commit_value c.self.inside.own c.self.inside.deltas c.self.inside.segment c.args.self.now c.self.view_is c.args.change.call
    _ _ _ refl c.requires.change.prints (c.go_on.ensures ∙ c.requires.change.deltas) (ap (λ (l : Listed Entry). l.items) pushed)
    (ap (λ (l : Listed Entry). l.spare) pushed)
