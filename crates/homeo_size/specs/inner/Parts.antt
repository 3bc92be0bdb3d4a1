-- The extents of phrases and the measures of commands by those of their parts, each number told up to its cap.
use Rattle.std.specs.Prelude.{ℕ, ◌+◌, ◌*◌, max, Bool, ◌&&◌, nat_le, ℤ}
use Rattle.homeo_meaning.specs.LowWeights.{number_weight}
use Rattle.homeo_size.specs.inner.Key.{definitions}
use Rattle.homeo_size.specs.inner.Numbers.{cap, weight_cap}
use Rattle.homeo_size.specs.declared.extent.Extent.{Extent}
use Rattle.homeo_size.specs.declared.measures.Measure.{Measure}

abbrev pub literal : ℤ → Extent
unfolding definitions
literal n = record { size = 1; depth = 1; weight = weight_cap (number_weight n) }

-- a temporary that nothing is assigned to
abbrev pub single : Extent
single = record { size = 1; depth = 1; weight = 1 }

-- the test that always passes
abbrev pub truth : Extent
truth = record { size = 1; depth = 1; weight = 0 }

-- what a sum, a list of tests or a product begins with
abbrev pub nothing : Extent
nothing = record { size = 0; depth = 0; weight = 0 }

abbrev pub no_factor : Extent
no_factor = record { size = 0; depth = 0; weight = 1 }

-- one next to the other: as tests, as terms, as factors
abbrev pub beside : Extent → Extent → Extent
unfolding definitions
beside a b = record { size = cap (a.size + b.size); depth = max a.depth b.depth; weight = max a.weight b.weight }

abbrev pub plus : Extent → Extent → Extent
unfolding definitions
plus a b = record { size = cap (a.size + b.size); depth = max a.depth b.depth; weight = weight_cap (a.weight + b.weight) }

abbrev pub times : Extent → Extent → Extent
unfolding definitions
times a b = record { size = cap (a.size + b.size); depth = max a.depth b.depth; weight = weight_cap (a.weight * b.weight) }

-- with one more round it
abbrev pub around : Extent → Extent
unfolding definitions
around a = record { size = cap (1 + a.size); depth = cap (1 + a.depth); weight = a.weight }

-- a sum of such terms
abbrev pub summed : Extent → Extent
unfolding definitions
summed a = record { size = cap (1 + a.size); depth = cap (1 + a.depth); weight = max 1 a.weight }

abbrev pub compared : Extent → Extent → Extent
unfolding definitions
compared a b = around (beside a b)

-- of each, the greater
abbrev pub greater : Extent → Extent → Extent
unfolding definitions
greater a b = record { size = max a.size b.size; depth = max a.depth b.depth; weight = max a.weight b.weight }

-- in no respect more
abbrev pub no_more : Extent → Extent → Bool
unfolding definitions
no_more a b = nat_le a.size b.size && (nat_le a.depth b.depth && nat_le a.weight b.weight)

-- an object that nothing is written to, which weighs so much
abbrev pub unwritten : ℕ → ℕ → Extent
unfolding definitions
unwritten sites weight = record { size = cap (sites + 2); depth = 2; weight = weight }

-- an object that a value of this extent is written to
abbrev pub written : ℕ → Extent → Extent
unfolding definitions
written sites e = record { size = cap (e.size + (3 * sites + 2)); depth = cap (e.depth + 3); weight = e.weight }

-- ---- commands
-- a command without parts, and a sequence without commands
abbrev pub empty : Measure
empty = record { size = 1; depth = 0; weight = 0; rows = 1 }

-- an assignment or a print of a value of this extent
abbrev pub valued : Extent → Measure
unfolding definitions
valued e = record { size = cap (1 + e.size); depth = e.depth; weight = e.weight; rows = 1 }

-- a write of a value of this extent
abbrev pub writing : ℕ → Extent → Measure
unfolding definitions
writing sites e = record { size = cap ((3 * sites + 3) + e.size); depth = e.depth; weight = e.weight; rows = 1 }

abbrev pub chosen : Extent → Measure → Measure → Measure
unfolding definitions
chosen t m n = record {
  size = cap (2 + (t.size + (m.size + n.size)));
  depth = max t.depth (max m.depth n.depth);
  weight = max t.weight (max m.weight n.weight);
  rows = cap (m.rows + n.rows);
}

-- a sequence with one more command
abbrev pub followed : Measure → Measure → Measure
unfolding definitions
followed m n = record { size = cap (m.size + n.size); depth = max m.depth n.depth; weight = max m.weight n.weight; rows = cap (m.rows * n.rows) }
