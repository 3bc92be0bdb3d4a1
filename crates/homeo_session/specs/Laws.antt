-- The laws of what is answered to a stream.
use Rattle.std.specs.Prelude.{◌≡◌, ℕ, List, ◌∷◌, ◌++◌}
use Rattle.homeo_syntax.specs.declared.workload.Refusal.{Refusal}
use Rattle.homeo_session.specs.Streams.{State, IsAfter, Decides, IsServed, Stops}

-- bytes that stop no session have one answer, and leave one state
abbrev pub OneAfter : Type 0
OneAfter =
    (bytes out out' : List ℕ) (s t : State) → IsAfter bytes out s → IsAfter bytes out' t → (out ≡ out') × (s ≡ t)

-- behind a byte that stops a session none goes on
abbrev pub StopsThere : Type 0
StopsThere =
    (bytes more out out' : List ℕ) (byte : ℕ) (s t : State) (r : Refusal) → IsAfter bytes out s → Decides s byte r →
    IsAfter (bytes ++ byte ∷ more) out' t → ⊥

-- a whole stream is answered in one way
abbrev pub OneServed : Type 0
OneServed = (bytes out out' : List ℕ) → IsServed bytes out → IsServed bytes out' → out ≡ out'

-- or stopped in one way
abbrev pub OneStop : Type 0
OneStop = (bytes out out' : List ℕ) (r q : Refusal) → Stops bytes out r → Stops bytes out' q → (out ≡ out') × (r ≡ q)

-- and not both
abbrev pub NotBoth : Type 0
NotBoth = (bytes out out' : List ℕ) (r : Refusal) → IsServed bytes out → Stops bytes out' r → ⊥
