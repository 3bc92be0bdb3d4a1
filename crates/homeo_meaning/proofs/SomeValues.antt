-- A value that is there is no other value, and not absent.
use Rattle.std.proofs.Common.{◌≡◌, false, true, Some, None, ap}
use Rattle.std.proofs.lemmas.Bool.{false≢true}

pub none_some : {X : Type 0} {x : X} → None ≡ Some x → ⊥
none_some e = absurd (false≢true (ap (λ o. elim o [ None ↦ false | Some z ↦ true ]) e))
