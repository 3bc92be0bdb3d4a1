-- Ground calls as plain data: a transaction with its arguments at a site.
use Rattle.std.specs.Prelude.{ℕ, ℤ, List, map, Option, option_map, slice_get}
use Rattle.std.specs.Option.{option_and_then}
use Rattle.homeo_syntax.specs.Source as s
use Rattle.homeo_meaning.specs.declared.call.CallId.{CallId}
use Rattle.homeo_meaning.specs.declared.call.GroundCall.{GroundCall}
use Rattle.homeo_meaning.specs.Key.{definitions}
use Rattle.homeo_meaning.specs.Schema.{nat_of}
use Rattle.homeo_meaning.specs.Declarations.{declarations, place_of}
use Rattle.homeo_meaning.specs.Serial.{arguments, numbered}
use Rattle.homeo_meaning.specs.GlobalNames.{SitedCall}
use Rattle.homeo_meaning.specs.NumberRules.{ground_calls}

-- a transaction by its number, with its arguments, at a site
pub record Ground : Type 0 where
  pub transaction : ℕ
  pub args : List ℤ
  pub site : ℕ

abbrev pub plain_ground : GroundCall → Ground
plain_ground c = record { transaction = c.transaction; args = c.args.items; site = c.site }

-- a call with its transaction by its number: an accepted workload has no site below 0
abbrev pub ground_of_sited : s.Workload → SitedCall → Ground
unfolding definitions
ground_of_sited w c = record { transaction = place_of (declarations w).transactions c.name.name; args = c.args; site = nat_of c.site }

-- the distinct ground calls, each where it is first called, in the order of the text
abbrev pub grounds : s.Workload → List Ground
unfolding definitions
grounds w = map (ground_of_sited w) (ground_calls w)

-- a call at the site of its client
abbrev pub sited_call : s.Client → s.Call → SitedCall
unfolding definitions
sited_call client call = record { name = call.name; args = arguments call; site = client.site.value }

-- the ground call of a client's call
abbrev pub ground_of : s.Workload → CallId → Option Ground
unfolding definitions
ground_of w id =
    option_and_then (λ client. option_map (λ call. ground_of_sited w (sited_call client call)) (numbered id.seq client.calls)) (slice_get w.clients id.client)
