-- Shares: how much of a clause's slack a site gets, against the other sites (this project's rule). A site takes part in a clause
-- where its calls can write one of the clause's deltas; then its share is its weight.
use Rattle.std.specs.Prelude.{ℕ, Bool, false, ◌==◌, ◌&&◌, ◌||◌, if◌then◌else◌, List, map, sum, replicate, slice_get}
use Rattle.std.specs.List.{list_any, range_with_len}
use Rattle.std.specs.Option.{option_map_or}
use Rattle.homeo_syntax.specs.declared.phrase.Number.{Number}
use Rattle.homeo_syntax.specs.declared.low.SplitName.{SplitName}
use Rattle.homeo_syntax.specs.declared.low.SplitName.TheVariants as split
use Rattle.homeo_syntax.specs.Low.{Command, Commands, Skip, Assign, Write, Print, Seq, If, NoCommand, MoreCommand}
use Rattle.homeo_meaning.specs.Schema.{nat_of}
use Rattle.homeo_plan.specs.Key.{definitions}
use Rattle.homeo_plan.specs.declared.forms.Delta.{Delta}
use Rattle.homeo_plan.specs.Linear.{same_delta, delta_of}
use Rattle.homeo_plan.specs.Template.{PlannedCall, shifted, Clause}

-- the name is that of the delta
abbrev pub names_delta : Delta → SplitName → Bool
unfolding definitions
names_delta d (split.Whole x) = false
names_delta d (split.Base x) = false
names_delta d (split.Delta x j) = same_delta d (delta_of x j)

abbrev mutual
  unfolding definitions

  -- some branch of a command writes the delta
  pub writes : Delta → Command → Bool
  writes d Skip = false
  writes d (Assign t e) = false
  writes d (Write x e) = names_delta d x
  writes d (Print e) = false
  writes d (Seq cs) = writes_all d cs
  writes d (If b c e) = writes d c || writes d e

  pub writes_all : Delta → Commands → Bool
  writes_all d NoCommand = false
  writes_all d (MoreCommand c cs) = writes d c || writes_all d cs

-- among these ground calls, for k sites, is one of the delta's site that can write it
abbrev pub is_written : ℕ → List PlannedCall → Delta → Bool
unfolding definitions
is_written k gs d = list_any (λ g. (g.site == d.site) && writes d (shifted k g)) gs

-- the clause has a term on a delta of site i that can be written there
abbrev pub takes_part : ℕ → List PlannedCall → Clause → ℕ → Bool
unfolding definitions
takes_part k gs c i = list_any (λ t. (t.delta.site == i) && is_written k gs t.delta) c.terms

-- the weight of a site: 0 where there is none
abbrev pub weight_of : List Number → ℕ → ℕ
unfolding definitions
weight_of weights i = option_map_or (λ n. nat_of n.value) (slice_get weights i) 0

-- site i's weight where it takes part, and else 0
abbrev pub own_share : ℕ → List Number → List PlannedCall → Clause → ℕ → ℕ
unfolding definitions
own_share k weights gs c i = if takes_part k gs c i then weight_of weights i else 0

-- these shares; 1 for each of k sites where all are 0
abbrev pub or_even : ℕ → List ℕ → List ℕ
unfolding definitions
or_even k shares = if sum shares == 0 then replicate k 1 else shares

-- the shares of k sites in a clause of these ground calls
abbrev pub shares : ℕ → List Number → List PlannedCall → Clause → List ℕ
unfolding definitions
shares k weights gs c = or_even k (map (own_share k weights gs c) (range_with_len 0 k))
