-- What a list holds that was made of a vector.
use Rattle.std.proofs.Common.{◌≡◌, List, ap, ◌∙◌}
use Rattle.homeo_syntax.specs.Listed.{Listed}

pub listed : {A : Type 0} (l : Listed A) (items held : List A) → l ≡ record { items = items; spare = 0 } → items ≡ held → l.items ≡ held
listed l items held h e = ap (λ l. l.items) h ∙ e
