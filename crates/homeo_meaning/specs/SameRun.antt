-- That an L form does what a program does.
use Rattle.std.specs.Prelude.{◌≡◌, ℕ, ℤ, Some, map, slice_get}
use Rattle.homeo_syntax.specs.Source as s
use Rattle.homeo_syntax.specs.Low as L
use Rattle.homeo_meaning.specs.Key.{definitions}
use Rattle.homeo_meaning.specs.Schema.{schema_of}
use Rattle.homeo_meaning.specs.Ground.{Ground}
use Rattle.homeo_meaning.specs.LowMeaning as low
use Rattle.homeo_meaning.specs.Meaning as program

-- both runs print the same, and leave each object with the same value
pub record IsSameRun (form : low.Run) (run : program.Run) : Type 0 where
  pub prints : form.prints ≡ run.prints
  pub database : (n : ℕ) → form.state (low.BaseAt n) ≡ run.state.database n

-- From every database, the command prints what the ground call prints and leaves each object as it does.
abbrev pub MeansCall : s.Workload → Ground → L.Command → Type 0
unfolding definitions
MeansCall w g c =
    (t : s.Transaction) (database : ℕ → ℤ) → slice_get w.transactions g.transaction ≡ Some t →
    IsSameRun (low.exec c (low.whole database)) (program.run (schema_of w) (map (λ p. p.name.name) t.params) g.args t.body database)
