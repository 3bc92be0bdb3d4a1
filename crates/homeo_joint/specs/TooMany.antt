-- Which errors say that a joint table would have too many rows.
use Rattle.homeo_joint.specs.declared.size.JointError.{JointError}
use Rattle.homeo_joint.specs.declared.size.JointError.TheVariants.{TooMany, Memory}

abbrev pub IsTooMany : JointError → Type 0
IsTooMany (TooMany t p) = Unit {0}
IsTooMany Memory = ⊥
