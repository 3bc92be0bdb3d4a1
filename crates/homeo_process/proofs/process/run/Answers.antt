use Rattle.std.proofs.Common.{◌≡◌, ◌⊎◌, ℕ, List, [], refl, sym, subst, inl, inr}
use Rattle.std.specs.declared.option.Option.{Option}
use Rattle.std.specs.Io.KnownBytes.{Appends}
use Rattle.std.proofs.KnownBytes.{Appends-nil}
use Rattle.homeo_syntax.specs.declared.workload.Refusal.{Refusal}
use Rattle.homeo_process.specs.Serving.{ReadRefused, ReadEarly, Reads, WroteEarly, Writes}
use Rattle.homeo_process.specs.declared.status.Status.{Status}
use Rattle.homeo_process.specs.declared.status.Status.TheVariants as status
use Rattle.homeo_process.proofs.process.run.Goals as goal

reads : (left left' : Option (List ℕ)) (r : Refusal) (s : Status) → (s ≡ status.Refused) ⊎ (s ≡ status.Memory) → ReadRefused r left left' → ReadEarly left left' → Reads s left left'
reads left left' r s (inl e) refused early = subst (λ (x : Status). Reads x left left') (sym e) (r, refused)
reads left left' r s (inr e) refused early = subst (λ (x : Status). Reads x left left') (sym e) early

-- nothing is written of a text that is refused
writes : (left left' taken taken' : Option (List ℕ)) (s : Status) → (s ≡ status.Refused) ⊎ (s ≡ status.Memory) → Appends taken taken' [] → WroteEarly left left' taken taken' →
    Writes s left left' taken taken'
writes left left' taken taken' s (inl e) none early = subst (λ (x : Status). Writes x left left' taken taken') (sym e) none
writes left left' taken taken' s (inr e) none early = subst (λ (x : Status). Writes x left left' taken taken') (sym e) early

memory : (s : Status) → (s ≡ status.Refused) ⊎ (s ≡ status.Memory) → (s ≡ status.Refused → ⊥) → s ≡ status.Memory
memory s (inl e) other = absurd (other e)
memory s (inr e) other = e

no_fault : (s : Status) → (s ≡ status.Refused) ⊎ (s ≡ status.Memory) → s ≡ status.WriteFault → ⊥
no_fault s (inl e) is = cc
no_fault s (inr e) is = cc

pub returns-in-Done-clause-complaint : goal.returns-in-Done-clause-complaint
returns-in-Done-clause-complaint g c = λ other. inl (Appends-nil _)

pub returns-in-Refused-clause-reads : goal.returns-in-Refused-clause-reads
returns-in-Refused-clause-reads g c =
    reads _ _ c.in-Refused.refusal c.refuse.result c.refuse.ensures.status (c.in-Refused.ensures.refused c.in-Refused.refusal refl) (c.in-Refused.ensures.refused_early c.in-Refused.refusal refl)

pub returns-in-Refused-clause-writes : goal.returns-in-Refused-clause-writes
returns-in-Refused-clause-writes g c =
    let taken = g.O.Sink.taken in
    let none : Appends (taken c.args.out.now) (taken c.serve.new.out) [] =
    subst (λ (o : _). Appends (taken c.args.out.now) (taken o) []) (sym (c.in-Refused.ensures.untouched c.in-Refused.refusal refl)) (Appends-nil _) in
    writes _ _ _ _ c.refuse.result c.refuse.ensures.status none c.in-Refused.ensures.wrote

pub returns-in-Refused-clause-untouched : goal.returns-in-Refused-clause-untouched
returns-in-Refused-clause-untouched g c = λ is. c.in-Refused.ensures.untouched c.in-Refused.refusal refl

pub returns-in-Refused-clause-refused : goal.returns-in-Refused-clause-refused
returns-in-Refused-clause-refused g c = λ is. (c.in-Refused.refusal, c.in-Refused.ensures.refused c.in-Refused.refusal refl, c.refuse.ensures.refused is)

pub returns-in-Refused-clause-complaint : goal.returns-in-Refused-clause-complaint
returns-in-Refused-clause-complaint g c = λ other. c.refuse.ensures.memory (memory c.refuse.result c.refuse.ensures.status other)

pub returns-in-Refused-clause-write_fault : goal.returns-in-Refused-clause-write_fault
returns-in-Refused-clause-write_fault g c = λ is. absurd (no_fault c.refuse.result c.refuse.ensures.status is)
