-- The L form of a call: `skip` where there is no such transaction.
use Rattle.std.specs.Prelude.{ℤ, List, map, Option, Some, None, slice_get}
use Rattle.homeo_syntax.specs.Source as s
use Rattle.homeo_syntax.specs.Low.{Command, Skip}
use Rattle.homeo_meaning.specs.Key.{definitions}
use Rattle.homeo_meaning.specs.Schema.{schema_of}
use Rattle.homeo_meaning.specs.LForm.{l_form}
use Rattle.homeo_meaning.specs.GlobalNames.{SitedCall, called}
use Rattle.homeo_meaning.specs.Ground.{Ground}

-- of a transaction with these arguments
abbrev pub body_form : s.Workload → Option s.Transaction → List ℤ → Command
unfolding definitions
body_form w None args = Skip
body_form w (Some t) args = l_form (schema_of w) (map (λ p. p.name.name) t.params) args t.body

-- of a call by the name of its transaction
abbrev pub call_form : s.Workload → SitedCall → Command
unfolding definitions
call_form w c = body_form w (called w c.name) c.args

-- of a ground call
abbrev pub ground_form : s.Workload → Ground → Command
unfolding definitions
ground_form w g = body_form w (slice_get w.transactions g.transaction) g.args
