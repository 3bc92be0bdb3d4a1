-- A text is not both accepted and refused, and what the reader or a rule refuses is refused.
use Rattle.std.proofs.Common.{◌≡◌, ◌≤◌, ℕ, List, [], length, subst, arith, inl, inr}
use Rattle.homeo_syntax.specs.declared.workload.Refusal.{Refusal}
use Rattle.homeo_syntax.specs.Source as s
use Rattle.homeo_syntax.specs.Reads.{Reads, IsUnread}
use Rattle.homeo_reader.proofs.Unread.{one_reading, unread}
use Rattle.homeo_meaning.specs.declared.call.Purpose.{Purpose}
use Rattle.homeo_meaning.specs.declared.rules.Fault.{Fault}
use Rattle.homeo_meaning.specs.Faults.{faults, IsFaultIn, IsRefusedBy}
use Rattle.homeo_meaning.specs.Key.{definitions as meaning_definitions}
use Rattle.homeo_meaning.specs.Verdict.{Accepts, IsRefused, text_limit}
use Rattle.homeo_accept.specs.Laws.{NotBoth}

-- no fault is in an empty list
none_there : (all : List Fault) (f : Fault) → all ≡ [] → IsFaultIn f all → ⊥
none_there all f none there = subst (IsFaultIn f) none there

pub accepted_not_refused : NotBoth
unfolding meaning_definitions
accepted_not_refused text purpose w r a (inl long) = omega (arith, a.short, long.long)
accepted_not_refused text purpose w r a (inr (short, inl fault)) = unread text r w fault a.reads
accepted_not_refused text purpose w r a (inr (short, inr broken)) =
    let same : w ≡ broken.workload = one_reading text w broken.workload a.reads broken.reads in
    none_there (faults purpose broken.workload) broken.refused.fault (subst (λ v. faults purpose v ≡ []) same a.sound) broken.refused.decides.there

-- a text is accepted as one workload
pub one_accepted : (text : List ℕ) (p q : Purpose) (v w : s.Workload) → Accepts text p v → Accepts text q w → v ≡ w
one_accepted text p q v w a b = one_reading text v w a.reads b.reads

-- what the reader refuses is refused
pub refuses_unread : (text : List ℕ) (purpose : Purpose) (r : Refusal) → length text ≤ text_limit → IsUnread text r → IsRefused text purpose r
unfolding meaning_definitions
refuses_unread text purpose r short unread = inr (short, inl unread)

-- what breaks a rule is refused
pub refuses_broken : (text : List ℕ) (purpose : Purpose) (w : s.Workload) (r : Refusal) → length text ≤ text_limit → Reads text w → IsRefusedBy purpose w r → IsRefused text purpose r
unfolding meaning_definitions
refuses_broken text purpose w r short reads by = inr (short, inr (record { workload = w; reads = reads; refused = by }))
