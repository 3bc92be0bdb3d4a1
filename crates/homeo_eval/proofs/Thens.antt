-- What is done after a run, where the call goes on and where it is ended.
use Rattle.std.proofs.Common.{◌≡◌, Bool, true, false, cond, ◌||◌, List, ◌++◌, ℤ, sym, ap, ◌∙◌, append_assoc}
use Rattle.homeo_meaning.specs.Key.{definitions}
use Rattle.homeo_meaning.specs.Meaning.{State, Run, after_prints, then_do}

pub prints_twice : (ps qs : List ℤ) (r : Run) → after_prints (ps ++ qs) r ≡ after_prints ps (after_prints qs r)
unfolding definitions
prints_twice ps qs r = λ j. record { state = r.state; prints = append_assoc ps qs r.prints j; ended = r.ended }

pub then_on : (r : Run) (next : State → Run) → r.ended ≡ false → then_do r next ≡ after_prints r.prints (next r.state)
unfolding definitions
then_on r next e = ap (λ v. cond v r (after_prints r.prints (next r.state))) e

pub then_end : (r : Run) (next : State → Run) → r.ended ≡ true → then_do r next ≡ r
unfolding definitions
then_end r next e = ap (λ v. cond v r (after_prints r.prints (next r.state))) e

-- what counts where the call goes on
pub or_on : (v b : Bool) → v ≡ false → (v || b) ≡ true → b ≡ true
or_on v b e h = sym (ap (λ w. w || b) e) ∙ h
