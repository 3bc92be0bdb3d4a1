-- The L forms of ground calls that some client makes.
use Rattle.std.specs.Prelude.{◌≡◌}
use Rattle.homeo_syntax.specs.Low.{Command}
use Rattle.homeo_syntax.specs.Source as s
use Rattle.homeo_meaning.specs.Calls.{IsGroundCall}
use Rattle.homeo_meaning.specs.CallForm.{ground_form}
use Rattle.homeo_meaning.specs.Ground.{Ground}

-- the L form of a ground call that some client makes
pub record IsCallForm (w : s.Workload) (f : Command) : Type 0 where
  pub call : Ground
  pub made : IsGroundCall w call.transaction call.args
  pub is : f ≡ ground_form w call
