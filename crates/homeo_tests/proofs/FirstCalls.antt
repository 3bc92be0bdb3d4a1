-- The calls of a first client at site 0, and the site that runs them.
use Rattle.std.proofs.Common.{◌≡◌, ℕ, zero, suc, ◌<◌, ◌≤◌, List, [], ◌∷◌, map, length, get_or, slice_get, ℤ, pos, Option, Some, refl, sym, ap, ◌∙◌, subst, arith}
use Rattle.std.specs.Prelude.{IsSome}
use Rattle.std.specs.Option.{option_map, option_and_then}
use Rattle.homeo_syntax.specs.Key.{definitions as syntax_definitions}
use Rattle.homeo_syntax.specs.Source as s
use Rattle.homeo_syntax.specs.SourceView.{plain_call, plain_client, plain_workload}
use Rattle.homeo_syntax.specs.declared.workload.Call.{Call}
use Rattle.homeo_syntax.specs.declared.workload.Client.{Client}
use Rattle.homeo_syntax.specs.declared.workload.Workload.{Workload}
use Rattle.homeo_meaning.specs.Key.{definitions as meaning_definitions}
use Rattle.homeo_meaning.specs.Schema.{nat_of}
use Rattle.homeo_meaning.specs.Serial.{numbered}
use Rattle.homeo_history.specs.Key.{definitions as history_definitions}
use Rattle.homeo_history.specs.Legal.{IsCallAt}

there : (calls : List Call) (n : ℕ) → n < length calls → IsSome (slice_get (map plain_call calls) n)
there [] n lt = absurd (omega arith)
there (c ∷ calls) zero lt = refl
there (c ∷ calls) (suc n) lt = there calls n (omega arith)

has_number : (calls : List Call) (seq : ℕ) → 1 ≤ seq → seq ≤ length calls → IsSome (numbered seq (map plain_call calls))
unfolding meaning_definitions
has_number calls zero some le = absurd (omega arith)
has_number calls (suc n) some le = there calls n (omega arith)

first_of_clients : (cs : List Client) (client : Client) → 1 ≤ length cs → client ≡ get_or cs 0 client → slice_get (map plain_client cs) 0 ≡ Some (plain_client client)
first_of_clients [] client some is = absurd (omega arith)
first_of_clients (c ∷ cs) client some is = ap (λ (d : Client). Some (plain_client d)) (sym is)

pub first_call :
    (w : Workload) (cs : List Client) (client : Client) (seq : ℕ) → cs ≡ w.clients.items → 1 ≤ length cs → client ≡ get_or cs 0 client →
    client.site.value ≡ pos 0 → 1 ≤ seq → seq ≤ length client.calls.items →
    IsCallAt (plain_workload w) 0 (record { client = 0; seq = seq })
unfolding syntax_definitions meaning_definitions history_definitions
first_call w cs client seq same some is site least most =
    let found : slice_get (map plain_client w.clients.items) 0 ≡ Some (plain_client client) =
    ap (λ (l : List Client). slice_get (map plain_client l) 0) (sym same) ∙ first_of_clients cs client some is in
    record {
      exists =
          subst (λ (o : Option s.Client). IsSome (option_and_then (λ (c : s.Client). numbered seq c.calls) o)) (sym found)
          (has_number client.calls.items seq least most);
      at_site =
          ap (λ (o : Option s.Client). option_map (λ (c : s.Client). nat_of c.site.value) o) found
          ∙ ap (λ (z : ℤ). Some (nat_of z)) site;
    }
