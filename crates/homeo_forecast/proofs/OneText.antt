-- The calls of a list have one forecast text, and equal lists the same.
use Rattle.std.proofs.Common.{◌≡◌, ℕ, List, ℤ, sym, ◌∙◌, subst}
use Rattle.homeo_syntax.specs.Source as s
use Rattle.homeo_meaning.specs.declared.call.CallId.{CallId}
use Rattle.homeo_forecast.specs.Text.{forecast_text, IsForecastText}
use Rattle.homeo_forecast.proofs.Prefixes.{one_forecast}

pub one_forecast_text :
    (w : s.Workload) (base : List ℤ) (calls : List CallId) (text text' : List ℕ) → IsForecastText w base calls text → IsForecastText w base calls text' →
    text ≡ text'
one_forecast_text w base calls text text' t t' =
    let same = one_forecast w base calls t.kept t'.kept t.config t'.config t.stop t'.stop t.forecast t'.forecast in
    t.is ∙ (λ i. forecast_text w calls (same.0 i) (same.1 i) (same.2 i)) ∙ sym t'.is

pub same_text :
    (v w : s.Workload) (base base' : List ℤ) (calls calls' : List CallId) (text : List ℕ) → v ≡ w → base ≡ base' → calls ≡ calls' →
    IsForecastText v base calls text → IsForecastText w base' calls' text
same_text v w base base' calls calls' text e f g is =
    subst (λ u. IsForecastText u base' calls' text) e
    (subst (λ b. IsForecastText v b calls' text) f (subst (λ l. IsForecastText v base l text) g is))
