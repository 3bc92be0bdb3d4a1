-- Those so far are others.
use Rattle.std.proofs.Common.{◌≡◌, drop}
use Rattle.std.specs.Str.{bytes_eq}
use Rattle.homeo_lines.specs.Named.{first_from}
use Rattle.homeo_process.specs.Driven.{place_of}
use Rattle.homeo_process.proofs.names.place_of.Given as goal

abbrev pub invariant-loop-place : goal.invariant-loop-place
invariant-loop-place l = place_of l.id l.ids ≡ first_from (λ other. bytes_eq other l.id) l.place (drop l.place l.ids)
