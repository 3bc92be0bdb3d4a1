use Rattle.homeo_print.proofs.NamedObjects.{name_found}
use Rattle.homeo_print.proofs.objects.ObjectNames.get.Goals as goal

pub returns-in-Some : goal.returns-in-Some
returns-in-Some c =
    let e = name_found c.as_slice.result.now c.args.object _ c.in-Some.ensures in cc

pub returns-in-None : goal.returns-in-None
returns-in-None c =
    let e = name_found c.as_slice.result.now c.args.object _ c.in-None.ensures in cc
