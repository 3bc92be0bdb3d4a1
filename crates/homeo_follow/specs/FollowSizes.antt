-- That the numbers met as a command is followed have a property P: in the forms of its tests and of their differences, and of
-- what it assigns, writes and prints, with partial sums and products from left to right.
use Rattle.std.specs.Prelude.{◌≡◌, ℤ, true, false}
use Rattle.homeo_syntax.specs.Low.{Command, Commands, Skip, Assign, Write, Print, Seq, If, NoCommand, MoreCommand}
use Rattle.homeo_meaning.specs.LowMeaning.{Location}
use Rattle.homeo_plan.specs.Linear.{Forms}
use Rattle.homeo_plan.specs.FormSizes.{Numbers, CanForm, CanCond}
use Rattle.homeo_follow.specs.Key.{definitions}
use Rattle.homeo_follow.specs.Follow.{holds_by, follow}

module _ (P : ℤ → Type 0) where
  -- the numbers of the forms at each place
  abbrev pub AreNumbers : Forms → Type 0
  unfolding definitions
  AreNumbers f = (p : Location) → Numbers P (f p)

  abbrev mutual
    unfolding definitions

    -- of a command that is followed from the forms f
    pub CanBeFollowed : Forms → Command → Type 0
    CanBeFollowed f Skip = Unit {0}
    CanBeFollowed f (Assign t e) = CanForm P f e
    CanBeFollowed f (Write x e) = CanForm P f e
    CanBeFollowed f (Print e) = CanForm P f e
    CanBeFollowed f (Seq cs) = CanAllBeFollowed f cs
    CanBeFollowed f (If b c d) =
        CanCond P f b × (holds_by f b ≡ true → CanBeFollowed f c) × (holds_by f b ≡ false → CanBeFollowed f d)

    pub CanAllBeFollowed : Forms → Commands → Type 0
    CanAllBeFollowed f NoCommand = Unit {0}
    CanAllBeFollowed f (MoreCommand c cs) = CanBeFollowed f c × CanAllBeFollowed (follow c f).forms cs
