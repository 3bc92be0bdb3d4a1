use Rattle.std.proofs.Common.{rules, append_assoc}
use Rattle.std.proofs.lemmas.List.{length-map}
use Rattle.homeo_print.specs.Key.{definitions}
use Rattle.homeo_print.proofs.templates.print_template.Goals as goal

pub returns : goal.returns
unfolding definitions
returns c = search (rules, append_assoc, length-map)
