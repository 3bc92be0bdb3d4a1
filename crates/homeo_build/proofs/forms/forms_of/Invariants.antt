-- The calls so far have their forms.
use Rattle.std.proofs.Common.{◌≡◌, [], map, take}
use Rattle.homeo_syntax.specs.LowView.{plain_lcommand}
use Rattle.homeo_syntax.specs.SourceView.{plain_workload}
use Rattle.homeo_meaning.specs.Ground.{plain_ground}
use Rattle.homeo_meaning.specs.Forms.{HaveForms, bodies_after}
use Rattle.homeo_build.specs.inner.Bodies.{call_body, AreBodies}
use Rattle.homeo_build.proofs.forms.forms_of.Given as goal

abbrev pub invariant-loop-call : goal.invariant-loop-call
invariant-loop-call l = record {
  bodies : AreBodies (plain_workload l.w) l.bodies;
  keys : map call_body l.bodies.bodies.keys ≡ bodies_after [] (map plain_ground (take l.call-index l.calls));
  placed : HaveForms (plain_workload l.w) (map plain_lcommand l.bodies.forms.items) (map plain_ground (take l.call-index l.calls)) l.places.items;
}
