-- The names' extents with a log of what they were before each change, by which a branch is taken back.
use Rattle.std.specs.Prelude.{ℕ, cond, List, [], ◌∷◌, ◌++◌, map, take, drop}
use Rattle.homeo_syntax.specs.Low.{Command, Commands, Skip, Assign, Write, Print, Seq, If, NoCommand, MoreCommand}
use Rattle.homeo_meaning.specs.LowMeaning.{Location, TempAt, location_of, put}
use Rattle.homeo_size.specs.inner.Key.{definitions}
use Rattle.homeo_size.specs.inner.Parts.{greater, no_more}
use Rattle.homeo_size.specs.inner.Sizing.{Sizes}
use Rattle.homeo_size.specs.declared.extent.Extent.{Extent}
use Rattle.homeo_size.specs.declared.extents.Entry.{Entry}
use Rattle.homeo_size.specs.declared.extents.Kept.{Kept}

pub record Store : Type 0 where
  pub sizes : Sizes
  pub log : List Kept

-- where an entry of the tables has its extent
abbrev pub location_at : Entry → Location
unfolding definitions
location_at (Entry.Temp t) = TempAt t
location_at (Entry.Name x) = location_of x

-- an entry of the tables, and the tables with it changed
abbrev pub entry_sized : Sizes → Entry → Extent
unfolding definitions
entry_sized s e = s (location_at e)

abbrev pub with_entry : Sizes → Entry → Extent → Sizes
unfolding definitions
with_entry s e x = put s (location_at e) x

-- an entry with its extent
abbrev pub kept_in : Sizes → Entry → Kept
unfolding definitions
kept_in s e = record { entry = e; extent = entry_sized s e }

abbrev pub set_entry : Store → Entry → Extent → Store
unfolding definitions
set_entry z e x = record { sizes = with_entry z.sizes e x; log = z.log ++ kept_in z.sizes e ∷ [] }

-- the tables before the changes of a log, the last of which is taken back first
abbrev pub taken_back : List Kept → Sizes → Sizes
unfolding definitions
taken_back [] s = s
taken_back (k ∷ ks) s = with_entry (taken_back ks s) k.entry k.extent

-- as it was when the log had so many entries
abbrev pub back_to : ℕ → Store → Store
unfolding definitions
back_to n z = record { sizes = taken_back (drop n z.log) z.sizes; log = take n z.log }

-- what has changed since, as it is now
abbrev pub since : ℕ → Store → List Kept
unfolding definitions
since n z = map (λ k. kept_in z.sizes k.entry) (drop n z.log)

-- ---- branches
-- an entry made the greater of what it is and of this, which isn't logged where it stays what it is; and so each of these
abbrev pub raise_entry : Store → Entry → Extent → Store
unfolding definitions
raise_entry z e x = cond (no_more x (entry_sized z.sizes e)) z (set_entry z e (greater x (entry_sized z.sizes e)))

abbrev pub raised : List Kept → Store → Store
unfolding definitions
raised [] z = z
raised (k ∷ ks) z = raised ks (raise_entry z k.entry k.extent)

abbrev mutual
  unfolding definitions

  -- after others, the entries that a command may leave less than they were, of an `if` those of its first branch
  pub kept_sets : Sizes → Command → List Kept → List Kept
  kept_sets s Skip ks = ks
  kept_sets s (Assign t e) ks = ks ++ kept_in s (Entry.Temp t) ∷ []
  kept_sets s (Write x e) ks = ks ++ kept_in s (Entry.Name x) ∷ []
  kept_sets s (Print e) ks = ks
  kept_sets s (Seq cs) ks = kept_all s cs ks
  kept_sets s (If b c d) ks = kept_sets s c ks

  pub kept_all : Sizes → Commands → List Kept → List Kept
  kept_all s NoCommand ks = ks
  kept_all s (MoreCommand c cs) ks = kept_all s cs (kept_sets s c ks)

-- what a branch that began where the log has n entries leaves of all that it or the other branch may leave less
abbrev pub left_by : ℕ → Store → Command → List Kept
unfolding definitions
left_by n z d = kept_sets z.sizes d (since n z)
