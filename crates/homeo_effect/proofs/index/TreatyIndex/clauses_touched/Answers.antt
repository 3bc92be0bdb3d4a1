-- The numbers that are found are those of the clauses that are touched; at no site of the plan there are none.
use Rattle.std.proofs.Common.{map, ap, ◌∙◌, arith}
use Rattle.homeo_syntax.specs.LowView.{low_commands, plain_lcommand}
use Rattle.homeo_outline.specs.declared.plan.ObjectPlan.{ObjectPlan}
use Rattle.homeo_effect.proofs.Touching.{index_clauses, index_no_clauses}
use Rattle.homeo_effect.proofs.index.TreatyIndex.clauses_touched.Goals as goal

pub returns-then-self-sites : goal.returns-then-self-sites
returns-then-self-sites c =
    ap (λ l. l.items) c.new.ensures
    ∙ index_no_clauses c.self.inside.site c.self.inside.plan.value c.args.self.now c.self.view_is c.deref-outline.result.now
    (c.deref-outline.ensures ∙ ap (λ (p : ObjectPlan). p.outline.value) c.deref.ensures) (low_commands (map plain_lcommand c.args.commands.now)) c.requires
    (omega (arith, c.if-self-sites.true, c.sites.ensures))

pub returns : goal.returns
returns c =
    ap (λ l. l.items) c.from_vec.ensures
    ∙ index_clauses c.self.inside.site c.self.inside.plan.value c.args.self.now c.self.view_is c.deref-outline.result.now
    (c.deref-outline.ensures ∙ ap (λ (p : ObjectPlan). p.outline.value) c.deref.ensures) (low_commands (map plain_lcommand c.args.commands.now)) c.requires
    (omega (arith, c.if-self-sites.false, c.sites.ensures)) c.in_ok-numbers.numbers.items c.in_ok-numbers.ensures.rising c.in_ok-numbers.ensures.all
