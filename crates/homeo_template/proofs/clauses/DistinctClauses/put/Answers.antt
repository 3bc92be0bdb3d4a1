-- A form without terms gives no clause, and a key that is there gives no new one.
use Rattle.std.proofs.Common.{◌==◌, length, map, ap, ◌∙◌, sym}
use Rattle.homeo_plan.specs.PlanView.{plain_linear}
use Rattle.homeo_template.specs.inner.Keys.{clause_at, clauses_in}
use Rattle.homeo_template.proofs.Keys.{after, key_put, no_clause, one_clause}
use Rattle.homeo_template.proofs.clauses.DistinctClauses.put.Goals as goal

pub returns-then-is_empty : goal.returns-then-is_empty
returns-then-is_empty c =
    no_clause (clauses_in c.args.self.now) (plain_linear c.args.form.now)
    (ap (λ l. length l == 0) (sym c.as_slice.ensures) ∙ sym c.is_empty.ensures ∙ c.if-is_empty.true)

pub returns : goal.returns
returns c =
    let cs = clauses_in c.args.self.now in
    ap (map clause_at) c.in_ok-_is_new.ensures.keys ∙ key_put c.args.self.now.keys.keys c.key_of.result
    ∙ ap (λ k. after k cs) c.key_of.ensures
    ∙ one_clause cs (plain_linear c.args.form.now) (ap (λ l. length l == 0) (sym c.as_slice.ensures) ∙ sym c.is_empty.ensures ∙ c.if-is_empty.false)
