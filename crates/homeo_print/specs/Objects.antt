-- What a name of the code stands for.
use Rattle.std.specs.Prelude.{ℕ, List, Vec}

abbrev pub bytes_of : {A : Type 0} → Vec ℕ A → List ℕ
bytes_of text = text.items
