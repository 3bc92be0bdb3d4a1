-- Those so far are others.
use Rattle.std.proofs.Common.{◌≡◌, drop}
use Rattle.std.specs.List.{list_any}
use Rattle.std.specs.Str.{bytes_eq}
use Rattle.homeo_lines.proofs.members.is_among.Given as goal

abbrev pub invariant-loop-other : goal.invariant-loop-other
invariant-loop-other l = list_any (λ other. bytes_eq other l.text) l.texts ≡ list_any (λ other. bytes_eq other l.text) (drop l.other-index l.texts)
