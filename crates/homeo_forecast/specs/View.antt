-- What a value of the types of forecasts stands for.
use Rattle.homeo_forecast.specs.declared.outlook.Stop as code
use Rattle.homeo_forecast.specs.declared.outlook.Stop.TheVariants as code_stop
use Rattle.homeo_forecast.specs.Peaks.{Stop, Spent, Frozen}

abbrev pub plain_stop : code.Stop → Stop
plain_stop (code_stop.Spent clause peaks slack) = Spent clause peaks.items slack
plain_stop (code_stop.Frozen freeze delta value) = Frozen freeze delta value
