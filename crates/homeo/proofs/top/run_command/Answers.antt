use Rattle.std.proofs.Common.{◌≡◌, ◌⊎◌, Err, ap, refl, inr}
use Rattle.homeo_syntax.specs.declared.workload.Refusal.{Refusal as AnyRefusal}
use Rattle.homeo.specs.declared.status.Status.{Status as AnyStatus}
use Rattle.homeo.specs.declared.status.Status.TheVariants as Status
use Rattle.homeo_commands.specs.declared.stop.Stop.TheVariants.{the_data, Usage, Refused, Memory, ReadFault}
use Rattle.homeo_commands.proofs.Decided.{made_not_refused, doable_not_refused}
use Rattle.homeo.proofs.top.run_command.Goals as goal

pub returns-in-Ok-write_all-clause-refused_exactly :
    goal.returns-in-Ok-write_all-clause-refused_exactly
returns-in-Ok-write_all-clause-refused_exactly g c = λ bytes r told refused no_fault. absurd (made_not_refused _ _ _ _ bytes r c.in-Ok.ensures.made told refused)

pub returns-in-Ok-clause-refused_exactly : goal.returns-in-Ok-clause-refused_exactly
returns-in-Ok-clause-refused_exactly g c = λ bytes r told refused no_fault. absurd (made_not_refused _ _ _ _ bytes r c.in-Ok.ensures.made told refused)

-- a stop that is none of the others is for want of memory
only_memory : (stop : the_data) (result : AnyStatus) → (stop ≡ Usage → ⊥) → ((r : AnyRefusal) → stop ≡ Refused r → ⊥) → (stop ≡ ReadFault → ⊥)
    → (stop ≡ Memory → result ≡ Status.Memory) → (result ≡ Status.Done) ⊎ (result ≡ Status.Memory)
only_memory Usage result usage refused fault memory = absurd (usage refl)
only_memory (Refused r) result usage refused fault memory = absurd (refused r refl)
only_memory Memory result usage refused fault memory = inr (memory refl)
only_memory ReadFault result usage refused fault memory = absurd (fault refl)

pub returns-clause-complete : goal.returns-clause-complete
returns-clause-complete g c = λ can no_read no_write.
    only_memory c.in-Err.stop c.complain.result
    (λ is. c.in-Err.ensures.no_usage (ap Err is))
    (λ r is. doable_not_refused _ _ r can (c.in-Err.ensures.refused r (ap Err is)))
    (λ is. no_read (c.complain.ensures.fault.0 is))
    c.complain.ensures.memory
