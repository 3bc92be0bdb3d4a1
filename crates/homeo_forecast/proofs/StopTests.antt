-- Whether something stops.
use Rattle.std.proofs.Common.{◌≡◌, true, Option, Some, None, is_some}

pub some_is_not : {X : Type 0} (o : Option X) → is_some o ≡ true → o ≡ None → ⊥
some_is_not None e none = cc
some_is_not (Some x) e none = cc
