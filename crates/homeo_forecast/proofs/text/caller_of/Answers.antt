use Rattle.homeo_forecast.proofs.TextSteps.{client_text_at}
use Rattle.homeo_forecast.proofs.text.caller_of.Goals as goal

pub returns-in-Some : goal.returns-in-Some
returns-in-Some c =
    let e = client_text_at c.args.w.now c.args.call.client _ c.in-Some.ensures in cc

pub returns-in-None : goal.returns-in-None
returns-in-None c =
    let e = client_text_at c.args.w.now c.args.call.client _ c.in-None.ensures in cc
