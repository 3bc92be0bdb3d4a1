-- Calls of a load by their clients and numbers, and sums over them.
use Rattle.std.proofs.Common.{◌≡◌, ◌<◌, ◌≤◌, ℕ, zero, suc, Bool, true, false, cond, List, [], ◌∷◌, map, Option, Some, None, slice_get, refl, sym, ap, ◌∙◌, arith}
use Rattle.std.specs.Prelude.{All, nat_lt, option_map, IfSome}
use Rattle.std.proofs.lemmas.List.Elements.{All-head, All-tail}
use Rattle.std.proofs.lemmas.Bool.Decides.{nat_tests}
use Rattle.std.proofs.lemmas.Option.{slice_get-map, slice_get_past}
use Rattle.homeo_syntax.specs.Source as s
use Rattle.homeo_meaning.specs.Key.{definitions as meaning_definitions}
use Rattle.homeo_meaning.specs.declared.call.CallId.{CallId}
use Rattle.homeo_meaning.specs.Serial.{numbered, call_of}
use Rattle.homeo_load.specs.Key.{definitions}
use Rattle.homeo_load.specs.Additions.{Addition}
use Rattle.homeo_load.specs.Load.{load_call, load_of, dealt}
use Rattle.homeo_load.proofs.Cases.{by_eight}
use Rattle.homeo_load.proofs.DrawnAdditions.{IsAddition}
use Rattle.homeo_load.proofs.Dealt.{dealt_fit}

-- ---- the addition that a call makes
abbrev pub at_number : ℕ → List Addition → Option Addition
at_number zero some = None
at_number (suc n) some = slice_get some n

abbrev pub addition_of : List Addition → CallId → Option Addition
addition_of all id = cond (nat_lt id.client 8) (at_number id.seq (dealt id.client 0 all)) None

numbered_map : (some : List Addition) (n : ℕ) → numbered n (map load_call some) ≡ option_map load_call (at_number n some)
numbered_map some zero = refl
numbered_map some (suc n) = slice_get-map load_call some n

get_fit : (some : List Addition) → All IsAddition some → (n : ℕ) → IfSome (slice_get some n) IsAddition
get_fit [] a n = tt
get_fit (x ∷ some) a zero = All-head IsAddition x some a
get_fit (x ∷ some) a (suc n) = get_fit some (All-tail IsAddition x some a) n

at_fit : (some : List Addition) → All IsAddition some → (n : ℕ) → IfSome (at_number n some) IsAddition
at_fit some a zero = tt
at_fit some a (suc n) = get_fit some a n

pub addition_fits : (all : List Addition) → All IsAddition all → (id : CallId) → IfSome (addition_of all id) IsAddition
addition_fits all a id = by (nat_lt id.client 8)
  where
    by : (b : Bool) → IfSome (cond b (at_number id.seq (dealt id.client 0 all)) None) IsAddition
    by true = at_fit (dealt id.client 0 all) (dealt_fit id.client 0 all a) id.seq
    by false = tt

abbrev CalledAt : List Addition → ℕ → ℕ → Type 0
CalledAt all seq client = call_of (load_of all) (record { client = client; seq = seq }) ≡ option_map load_call (addition_of all (record { client = client; seq = seq }))

call_within : (all : List Addition) (seq client : ℕ) → client < 8 → CalledAt all seq client
unfolding meaning_definitions definitions
call_within all seq =
    by_eight (CalledAt all seq)
    (numbered_map (dealt 0 0 all) seq) (numbered_map (dealt 1 0 all) seq) (numbered_map (dealt 2 0 all) seq) (numbered_map (dealt 3 0 all) seq)
    (numbered_map (dealt 4 0 all) seq) (numbered_map (dealt 5 0 all) seq) (numbered_map (dealt 6 0 all) seq) (numbered_map (dealt 7 0 all) seq)

abbrev call_if : ℕ → Option s.Client → Option s.Call
call_if seq None = None
call_if seq (Some client) = numbered seq client.calls

call_past : (all : List Addition) (seq client : ℕ) → 8 ≤ client → CalledAt all seq client
unfolding meaning_definitions definitions
call_past all seq client l =
    let none : slice_get (load_of all).clients client ≡ None = slice_get_past (load_of all).clients client l in
    let q : nat_lt client 8 ≡ false = grind (arith, nat_tests) in
    ap (call_if seq) none ∙ sym (λ i. option_map load_call (cond (q i) (at_number seq (dealt client 0 all)) None))

pub call_is : (all : List Addition) (id : CallId) → call_of (load_of all) id ≡ option_map load_call (addition_of all id)
call_is all id = by (nat_lt id.client 8) refl
  where
    by : (b : Bool) → nat_lt id.client 8 ≡ b → CalledAt all id.seq id.client
    by true q = call_within all id.seq id.client (grind (arith, nat_tests))
    by false q = call_past all id.seq id.client (grind (arith, nat_tests))
