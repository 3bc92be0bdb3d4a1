-- It is the last one, or stands before the next.
use Rattle.std.proofs.Common.{sym, ◌∙◌, arith}
use Rattle.homeo_plan.specs.Linear.{delta_of}
use Rattle.homeo_form.proofs.DeltasInOrder.{leads_at}
use Rattle.homeo_form.proofs.deltas.leads.Goals as goal

pub returns-then-place-deltas : goal.returns-then-place-deltas
returns-then-place-deltas c h o =
    leads_at c.args.deltas.now c.args.place (delta_of 0 0) c.requires (λ k. absurd (omega (arith, k, c.if-place-deltas.true))) o

pub returns-else-place-deltas : goal.returns-else-place-deltas
returns-else-place-deltas c h o = leads_at c.args.deltas.now c.args.place _ c.requires (λ k. sym h ∙ c.is_before.ensures) o
