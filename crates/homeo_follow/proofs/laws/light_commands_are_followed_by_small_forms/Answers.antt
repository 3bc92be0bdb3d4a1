use Rattle.std.proofs.Common.{◌+◌, ◌*◌, arith}
use Rattle.homeo_follow.proofs.Weighed.{followed_small}
use Rattle.homeo_follow.proofs.laws.light_commands_are_followed_by_small_forms.Goals as goal

pub returns : goal.returns
returns c = λ b. followed_small b (2 * b + 1) (omega arith)
