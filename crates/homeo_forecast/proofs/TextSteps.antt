-- The client of a call, and the lines of bounds, with one more.
use Rattle.std.proofs.Common.{◌≡◌, ℕ, ◌+◌, ◌<◌, List, [], ◌++◌, map, length, take, get_or, append_assoc, append-nil, slice_get, Option, Some, None, option_map, refl, sym, ap, ◌∙◌}
use Rattle.std.specs.Prelude.{ℤ}
use Rattle.std.specs.Option.{option_map_or}
use Rattle.std.proofs.lemmas.Option.{slice_get-map}
use Rattle.homeo_syntax.specs.Key.{definitions as syntax_definitions}
use Rattle.homeo_syntax.specs.Listed.{Listed}
use Rattle.homeo_syntax.specs.SourceView.{plain_client, plain_workload}
use Rattle.homeo_syntax.specs.declared.workload.Client.{Client}
use Rattle.homeo_syntax.specs.declared.workload.Workload.{Workload}
use Rattle.homeo_print.specs.Names.{name_text}
use Rattle.homeo_print.proofs.OneMore.{numbered_more}
use Rattle.homeo_forecast.specs.Key.{definitions}
use Rattle.homeo_forecast.specs.Text.{bounds_line, bounds_lines}

pub client_text_at :
    (w : Workload) (n : ℕ) (o : Option Client) → o ≡ slice_get w.clients.items n →
    option_map_or (λ client. name_text (plain_workload w) client.name) (slice_get (plain_workload w).clients n) [] ≡
    option_map_or (λ (c : Client). name_text (plain_workload w) c.name) o []
unfolding syntax_definitions
client_text_at w n None e =
    ap (λ o. option_map_or (λ client. name_text (plain_workload w) client.name) o [])
    (slice_get-map plain_client w.clients.items n ∙ ap (option_map plain_client) (sym e))
client_text_at w n (Some c) e =
    ap (λ o. option_map_or (λ client. name_text (plain_workload w) client.name) o [])
    (slice_get-map plain_client w.clients.items n ∙ ap (option_map plain_client) (sym e))

pub bounds_more : (bounds : List (Listed ℤ)) (i : ℕ) (b : Listed ℤ) → i < length bounds → b ≡ get_or bounds i b →
    bounds_lines (map (λ (l : Listed ℤ). l.items) (take (i + 1) bounds)) ≡ bounds_lines (map (λ (l : Listed ℤ). l.items) (take i bounds)) ++ bounds_line i b.items
unfolding definitions
bounds_more bounds i b within is = numbered_more bounds_line (λ (l : Listed ℤ). l.items) bounds i b within is

pub no_bounds : bounds_lines [] ≡ []
unfolding definitions
no_bounds = refl

pub ruleset text_steps = (append_assoc, append-nil, no_bounds, bounds_more)
