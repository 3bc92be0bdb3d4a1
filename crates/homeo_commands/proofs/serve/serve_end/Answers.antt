use Rattle.std.proofs.Common.{◌≡◌, ◌∙◌, refl, Some}
use Rattle.homeo_syntax.specs.declared.workload.Refusal.{Refusal}
use Rattle.homeo_commands.specs.declared.serve.Ending.{Ending}
use Rattle.homeo_commands.specs.declared.serve.Ending.TheVariants as e
use Rattle.homeo_commands.proofs.serve.serve_end.Goals as goal

same_stop : (r q : Refusal) → ◌≡◌ {A = Ending} (e.Stopped r) (e.Stopped q) → Some r ≡ Some q
same_stop r q same = cc

pub returns-in-Some-clause-stopped : goal.returns-in-Some-clause-stopped
returns-in-Some-clause-stopped g c = λ bytes sent r h is.
    let stop = c.in-Ok.ensures.stops bytes sent r h (c.in-Some.is ∙ same_stop c.in-Some.stop r is) in
    (stop.0, stop.2, refl)
