-- What counts and sums go over.
use Rattle.std.specs.Prelude.{◌+◌, ℕ, ℤ, pos, Bool, ◌&&◌}
use Rattle.homeo_syntax.specs.Source.{Cond}
use Rattle.homeo_eval.specs.declared.phrases.Term.{Term}
use Rattle.homeo_eval.specs.declared.phrases.Term.TheVariants.{One, Field}
use Rattle.homeo_meaning.specs.Key.{definitions}
use Rattle.homeo_meaning.specs.Context.{Slot, Context, bind}
use Rattle.homeo_meaning.specs.Meaning.{State, is_used, holds}
use Rattle.homeo_eval.specs.inner.CanRun.{cond_fits}

-- what a slot adds
abbrev pub term_of : Term → State → Slot → ℤ
unfolding definitions
term_of One s slot = pos 1
term_of (Field place) s slot = s.database (slot.used + 1 + place)

-- a slot counts where it is used and the condition holds of the row
abbrev pub counts : Context → ℕ → Cond → State → Slot → Bool
counts x row c s slot = is_used s slot && holds (bind x row slot) c s

abbrev pub row_fits : ℕ → Context → ℕ → Cond → State → Slot → Bool
row_fits b x row c s slot = cond_fits b (bind x row slot) c s
