-- The text of a forecast (this project's rule).
use Rattle.std.specs.Prelude.{◌≡◌, ℕ, List, [], ◌++◌, length, slice_get, ℤ, Option, Some, None, codes, decimal}
use Rattle.std.specs.Fmt.{signed_decimal}
use Rattle.std.specs.List.{flat_map, enumerate_from}
use Rattle.std.specs.Option.{option_map_or}
use Rattle.homeo_syntax.specs.Source as s
use Rattle.homeo_meaning.specs.declared.call.CallId.{CallId}
use Rattle.homeo_plan.specs.Config.{Config}
use Rattle.homeo_print.specs.Names.{newline, name_text, numbers_text}
use Rattle.homeo_print.specs.Treaties.{delta_text}
use Rattle.homeo_forecast.specs.Forecast.{IsForecast}
use Rattle.homeo_forecast.specs.Key.{definitions}
use Rattle.homeo_forecast.specs.Peaks.{Stop, Spent, Frozen}

-- kept N of M
abbrev pub kept_line : ℕ → ℕ → List ℕ
unfolding definitions
kept_line kept count = codes "kept " ++ decimal kept ++ codes " of " ++ decimal count ++ newline

-- C bounds B0 B1 ..
abbrev pub bounds_line : ℕ → List ℤ → List ℕ
unfolding definitions
bounds_line clause bounds = decimal clause ++ codes " bounds" ++ numbers_text bounds ++ newline

-- the clauses are numbered from 0
abbrev pub bounds_lines : Config → List ℕ
unfolding definitions
bounds_lines config = flat_map (λ b. bounds_line b.0 b.1) (enumerate_from 0 config)

-- NAME SEQ: the client and the number of a call
abbrev pub caller_text : s.Workload → CallId → List ℕ
unfolding definitions
caller_text w id = option_map_or (λ client. name_text w client.name) (slice_get w.clients id.client) [] ++ codes " " ++ decimal id.seq

-- clause C peaks P0 P1 .. slack S, or freeze C x@j value V
abbrev pub cause_text : s.Workload → Stop → List ℕ
unfolding definitions
cause_text w (Spent clause peaks slack) =
    codes "clause " ++ decimal clause ++ codes " peaks" ++ numbers_text peaks ++ codes " slack " ++ signed_decimal slack
cause_text w (Frozen freeze delta value) =
    codes "freeze " ++ decimal freeze ++ codes " " ++ delta_text w delta ++ codes " value " ++ signed_decimal value

-- stop, the next call and why, or stop none
abbrev pub stop_line : s.Workload → Option CallId → Option Stop → List ℕ
unfolding definitions
stop_line w next None = codes "stop none\n"
stop_line w next (Some stop) = codes "stop " ++ option_map_or (caller_text w) next [] ++ codes " " ++ cause_text w stop ++ newline

abbrev pub forecast_text : s.Workload → List CallId → ℕ → Config → Option Stop → List ℕ
unfolding definitions
forecast_text w calls kept config stop =
    kept_line kept (length calls) ++ bounds_lines config ++ stop_line w (slice_get calls kept) stop

-- the text of the forecast of calls from a base
pub record IsForecastText (w : s.Workload) (base : List ℤ) (calls : List CallId) (text : List ℕ) : Type 0 where
  pub kept : ℕ
  pub config : Config
  pub stop : Option Stop
  pub forecast : IsForecast w base calls kept config stop
  pub is : text ≡ forecast_text w calls kept config stop
