-- The settings of an insert that the code's values stand for.
use Rattle.homeo_eval.specs.declared.inserts.Setting as code
use Rattle.homeo_meaning.specs.Key.{definitions}
use Rattle.homeo_meaning.specs.Meaning.{Setting}
use Rattle.homeo_context.specs.Slots.{plain_spot}

abbrev pub plain_setting : code.Setting → Setting
unfolding definitions
plain_setting f = record { field = plain_spot f.field; value = f.value }
