-- It counts, and is the last one or stands before the next.
use Rattle.std.proofs.Common.{sym, ◌∙◌, arith}
use Rattle.homeo_form.proofs.Adding.{leads_at}
use Rattle.homeo_form.proofs.terms.leads.Goals as goal

pub returns-then-place-terms : goal.returns-then-place-terms
returns-then-place-terms c h o =
    leads_at c.args.terms.now c.args.place _ c.requires c.if-counts.ensures (λ k. absurd (omega (arith, k, c.if-place-terms.true))) o

pub returns-else-place-terms : goal.returns-else-place-terms
returns-else-place-terms c h o =
    leads_at c.args.terms.now c.args.place _ c.requires c.if-counts.ensures (λ k. sym h ∙ c.is_before.ensures) o
