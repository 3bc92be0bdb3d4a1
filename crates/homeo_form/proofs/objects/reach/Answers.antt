-- What comes is 0, as it is behind the end.
use Rattle.std.proofs.Common.{◌+◌, get_or, ap, ◌∙◌, arith}
use Rattle.homeo_form.proofs.ObjectPlaces.{places_kept}
use Rattle.homeo_form.proofs.objects.reach.Goals as goal

pub returns-clause-same : goal.returns-clause-same
returns-clause-same c = λ x.
    ap (λ l. get_or l x 0) c.in_ok-resize.ensures.items
    ∙ places_kept c.args.places.now.items (c.args.object + 1) _ x (omega (arith, c.if-index-len.false, c.len.ensures, c.args.places.now.ok.0))
