-- Both constants are small.
use Rattle.std.proofs.Common.{negsuc, refl}
use Rattle.homeo_meaning.specs.Key.{definitions}
use Rattle.homeo_plan_tests.proofs.AtomExample.{small}
use Rattle.homeo_plan_tests.proofs.templates.other.Goals as goal

pub pair-requires-clause-first : goal.pair-requires-clause-first
unfolding definitions
pair-requires-clause-first g c = small c.atom-mixed.result.form.constant (negsuc 1) c.atom-mixed.ensures refl

pub pair-requires-clause-second : goal.pair-requires-clause-second
unfolding definitions
pair-requires-clause-second g c = small c.shared-shared.result.form.constant (negsuc 4) c.shared-shared.ensures refl
