-- A round of one call, written out by hand: two sites, one object with the base 5, and a call at site 0 that prints 1 where
-- the object is 3, and 0 where it isn't. Its treaties keep the object above 3.
use Rattle.homeo_meaning.specs.Key.{definitions as meaning_definitions}
use Rattle.homeo_plan.specs.Key.{definitions}
use Rattle.std.proofs.Common.{◌≡◌, ℕ, [], ◌∷◌, ℤ, pos, negsuc, Some, None, refl}
use Rattle.homeo_syntax.specs.declared.low.SplitName.TheVariants as split
use Rattle.homeo_syntax.specs.declared.phrase.Compare.TheVariants.{Equal}
use Rattle.homeo_syntax.specs.Low.{Literal, Read, Comparison, NoTest, MoreTest, If, Print}
use Rattle.homeo_plan.specs.declared.forms.Term.{Term}
use Rattle.homeo_plan.specs.declared.treaty.Broken.{Broken}
use Rattle.homeo_plan.specs.Joined.{Deltas}
use Rattle.homeo_plan.specs.Template.{PlannedCall, Clause, Template, template}
use Rattle.homeo_plan.specs.Config.{Config, even}
use Rattle.homeo_plan.specs.Treaty.{finding}
use Rattle.homeo_plan.specs.Local.{local_prints, no_deltas}

-- the call, and the base of its round
look : PlannedCall
look = record {
  site = 0;
  command =
      If (MoreTest (Comparison Equal (Read (split.Whole 0)) (Literal (pos 3))) NoTest) (Print (Literal (pos 1)))
      (Print (Literal (pos 0)));
}

base : ℕ → ℤ
base x = pos 5

-- minus the object's delta at site j
less : ℕ → Term
less j = record { delta = record { object = 0; site = j }; factor = negsuc 0 }

above : Clause
above = record { terms = less 0 ∷ less 1 ∷ []; slack = pos 1 }

plan : Template
plan = record { clauses = above ∷ []; freezes = [] }

-- the deltas of a site at which the object fell by 2
fallen : Deltas
fallen x = negsuc 1

bounds : Config
bounds = (pos 0 ∷ pos 1 ∷ []) ∷ []

too_low : Broken
too_low = record { clause = 0; sum = pos 2; bound = pos 1 }

plan_is : template 2 base (look ∷ []) ≡ plan
unfolding definitions meaning_definitions look base plan above less
plan_is = refl

bounds_are : even 2 (above ∷ []) ≡ bounds
unfolding definitions meaning_definitions above less bounds
bounds_are = refl

look_prints : local_prints 2 base look no_deltas ≡ pos 0 ∷ []
unfolding definitions meaning_definitions look base
look_prints = refl

keeps_at_first : finding plan bounds 1 no_deltas ≡ None
unfolding definitions meaning_definitions plan above less bounds
keeps_at_first = refl

breaks_when_fallen : finding plan bounds 1 fallen ≡ Some too_low
unfolding definitions meaning_definitions plan above less bounds fallen too_low
breaks_when_fallen = refl
