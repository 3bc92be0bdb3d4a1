-- What a reader gives.
use Rattle.std.proofs.Common.{◌≡◌, ℕ, List, [], ◌++◌, take, Option, append-nil, ap, subst, ◌∙◌}
use Rattle.std.specs.Io.KnownBytes.{Consumes}
use Rattle.std.proofs.KnownBytes.{Consumes-trans}

-- a read of nothing takes nothing more
pub end_gave : (a b c : Option (List ℕ)) (bytes ys : List ℕ) (n : ℕ) → Consumes a b bytes → Consumes b c (take n ys) → n ≡ 0 → Consumes a c bytes
end_gave a b c bytes ys n gave none e =
    let nothing : take n ys ≡ [] = ap (λ k. take k ys) e in
    subst (Consumes a c) (ap (λ l. bytes ++ l) nothing ∙ append-nil bytes) (Consumes-trans a b c bytes (take n ys) gave none)
