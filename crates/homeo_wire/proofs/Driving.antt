-- The events that a number chooses, as the code makes them: what is left of a list of events once the first of them were made.
use Rattle.homeo_syntax.specs.Key.{definitions as syntax_definitions}
use Rattle.homeo_wire.specs.Key.{definitions}
use Rattle.std.proofs.Common.{◌≡◌, ℕ, zero, suc, ◌+◌, ◌*◌, ◌<◌, ◌≤◌, get_or, nat_lt, List, [], ◌∷◌, ◌++◌, map, length, take, Bool, true, false, cond, Option, Some, None, Result, Ok, Err, refl, sym, ap, ◌∙◌, arith}
use Rattle.std.specs.Prelude.{slice_get, ◌||◌, option_map, OnOk}
use Rattle.std.proofs.lemmas.Bool.Decides.{nat_tests}
use Rattle.std.specs.List.{range_with_len, list_any, flat_map}
use Rattle.std.proofs.lemmas.List.{length-append, length-map, append-nil}
use Rattle.std.proofs.lemmas.List.FromFn.{map-range_with_len_more}
use Rattle.std.proofs.lemmas.Option.{slice_get_within}
use Rattle.homeo_lemmas.proofs.Bools.{or_false, or_assoc, or_true}
use Rattle.homeo_lemmas.proofs.Lists.{range_more, take_past}
use Rattle.homeo_lemmas.proofs.Places.{get_left, get_map}
use Rattle.homeo_syntax.specs.Source as s
use Rattle.homeo_syntax.specs.SourceView.{plain_call, plain_client}
use Rattle.homeo_syntax.specs.declared.phrase.Ident.{Ident}
use Rattle.homeo_syntax.specs.declared.workload.Client.{Client}
use Rattle.homeo_syntax.specs.declared.workload.Call.{Call as CallText}
use Rattle.homeo_plan.specs.Planned.{sites_of}
use Rattle.homeo_draws.specs.Draws.{next_state, drawn}
use Rattle.homeo_wire.specs.declared.events.Event.{Event}
use Rattle.homeo_wire.specs.declared.events.Event.TheVariants.{Call, Deliver}
use Rattle.homeo_wire.specs.Drive.{calls_in, excess, drive, chosen_event, turns, all_to, to_sites, sweeps, call_of_each, has_left, until_made}
use Rattle.homeo_wire.specs.Nodes.{Node, Packet, Reaction, World, reacts, calls, delivers, happens, after, at_start, reached}
use Rattle.homeo_wire.proofs.Wires.{after_append}

-- ---- lists of events
module _ (w : s.Workload) where
  and_then : (events : List Event) (rest : World → List Event) (x y : World) → y ≡ after w events x → after w (events ++ rest (after w events x)) x ≡ after w (rest y) y
  and_then events rest x y is = after_append w events (rest (after w events x)) x ∙ ap (λ z. after w (rest z) z) (sym is)

  -- one event more of a list by numbers
  pub one_more : (f : ℕ → Event) (x y z : World) (i : ℕ) → y ≡ after w (map f (range_with_len 0 i)) x → z ≡ (happens w y (f i)).world → z ≡ after w (map f (range_with_len 0 (i + 1))) x
  unfolding definitions
  one_more f x y z i is then =
      then ∙ ap (λ v. (happens w v (f i)).world) is
      ∙ sym (after_append w (map f (range_with_len 0 i)) (f i ∷ []) x)
      ∙ ap (λ es. after w es x) (sym (map-range_with_len_more f 0 i i (let h : 0 + i ≡ i = omega arith in h)))

  pub turn_next : (x y : World) (state n : ℕ) → y ≡ after w (chosen_event w x (drawn (next_state state)) (drawn (next_state (next_state state)))) x → after w (turns w x state (suc n)) x ≡ after w (turns w y (next_state (next_state state)) n) y
  unfolding definitions
  turn_next x y state n is =
      and_then (chosen_event w x (drawn (next_state state)) (drawn (next_state (next_state state)))) (λ z. turns w z (next_state (next_state state)) n) x y is

  pub site_next : (x y : World) (site n : ℕ) → y ≡ after w (all_to x site) x → after w (to_sites w x site (suc n)) x ≡ after w (to_sites w y (suc site) n) y
  unfolding definitions
  site_next x y site n is = and_then (all_to x site) (λ z. to_sites w z (suc site) n) x y is

  pub sweep_next : (x y : World) (n sites : ℕ) → y ≡ after w (to_sites w x 0 sites) x → sites ≡ sites_of w → after w (sweeps w x (suc n)) x ≡ after w (sweeps w y n) y
  unfolding definitions
  sweep_next x y n sites is same =
      and_then (to_sites w x 0 (sites_of w)) (λ z. sweeps w z n) x y (is ∙ ap (λ k. after w (to_sites w x 0 k) x) same)

  pub each_then : (x y z : World) (clients : ℕ) → clients ≡ length w.clients → y ≡ after w (map (λ client. Call client) (range_with_len 0 clients)) x → z ≡ after w (sweeps w y 3) y → z ≡ after w (call_of_each w x) x
  unfolding definitions
  each_then x y z clients many is then =
      then
      ∙ sym (and_then (map (λ client. Call client) (range_with_len 0 (length w.clients))) (λ v. sweeps w v 3) x y (is ∙ ap (λ k. after w (map (λ client. Call client) (range_with_len 0 k)) x) many))

  pub made_next : (x y : World) (n : ℕ) → has_left w x ≡ true → y ≡ after w (call_of_each w x) x → after w (until_made w x (suc n)) x ≡ after w (until_made w y n) y
  unfolding definitions
  made_next x y n left is =
      ap (λ t. after w (cond t (call_of_each w x ++ until_made w (after w (call_of_each w x) x) n) []) x) left
      ∙ and_then (call_of_each w x) (λ z. until_made w z n) x y is

  pub made_end : (x : World) (n : ℕ) → has_left w x ≡ false → after w (until_made w x (suc n)) x ≡ x
  unfolding definitions
  made_end x n left =
      ap (λ t. after w (cond t (call_of_each w x ++ until_made w (after w (call_of_each w x) x) n) []) x) left

  pub driven : (number calls : ℕ) (x y : World) → calls ≡ length (calls_in w) → x ≡ after w (turns w (at_start w) number (16 * calls + 16)) (at_start w) → y ≡ after w (until_made w x (calls + 1)) x → y ≡ reached w (drive w number)
  unfolding definitions
  driven number calls x y same is then =
      then ∙ ap (λ k. after w (until_made w x (k + 1)) x) same
      ∙ sym (and_then (turns w (at_start w) number (16 * length (calls_in w) + 16)) (λ z. until_made w z (length (calls_in w) + 1)) (at_start w) x (is ∙ ap (λ k. after w (turns w (at_start w) number (16 * k + 16)) (at_start w)) same))

  past_none : (o : Option s.Call) (name : Ident) → slice_get (calls_in w) 200 ≡ o → option_map (λ (c : s.Call). c.name) o ≡ Some name → length (calls_in w) ≤ 200 → ⊥
  past_none None name e f few = absurd (cc)
  past_none (Some call) name e f few = let lt = slice_get_within (calls_in w) 200 call e in omega (arith, few, lt)

  pub too_many : (name : Ident) → option_map (λ (c : s.Call). c.name) (excess w) ≡ Some name → length (calls_in w) ≤ 200 → ⊥
  unfolding definitions
  too_many name e few = past_none (slice_get (calls_in w) 200) name refl e few

  -- ---- packets may only become more
  reacts_more : (x : World) (i : ℕ) (o : Option Node) (f : Node → Reaction) → length x.packets ≤ length (reacts x i o f).world.packets
  unfolding definitions
  reacts_more x i None f = omega arith
  reacts_more x i (Some n) f = let h = length-append x.packets (f n).sends in omega (arith, h)

  calls_more : (x : World) (client : ℕ) (o : Option ℕ) → length x.packets ≤ length (calls w x client o).world.packets
  unfolding definitions
  calls_more x client None = omega arith
  calls_more x client (Some home) = reacts_more x home (slice_get x.nodes home) _

  delivers_more : (x : World) (site : ℕ) (o : Option Packet) → length x.packets ≤ length (delivers w x site o).world.packets
  unfolding definitions
  delivers_more x site None = omega arith
  delivers_more x site (Some p) = reacts_more x site (slice_get x.nodes site) _

  pub packets_more : (x : World) (e : Event) → length x.packets ≤ length (happens w x e).world.packets
  unfolding definitions
  packets_more x (Call client) = calls_more x client _
  packets_more x (Deliver site k) = delivers_more x site _

-- ---- some number passes a test
module _ (test : ℕ → Bool) where
  any_append : (xs : List ℕ) (x : ℕ) → list_any test (xs ++ x ∷ []) ≡ (list_any test xs || test x)
  any_append [] x = or_false (test x)
  any_append (y ∷ xs) x = ap (λ t. test y || t) (any_append xs x) ∙ or_assoc (test y) (list_any test xs) (test x)

  pub none_next : (i : ℕ) → list_any test (range_with_len 0 i) ≡ false → test i ≡ false → list_any test (range_with_len 0 (i + 1)) ≡ false
  none_next i none fails =
      let last : test (0 + i) ≡ false = ap test (let h : 0 + i ≡ i = omega arith in h) ∙ fails in
      ap (list_any test) (ap (range_with_len 0) (let h : i + 1 ≡ suc i = omega arith in h) ∙ range_more 0 i)
      ∙ any_append (range_with_len 0 i) (0 + i) ∙ (λ k. none k || last k)

  any_from : (a n i : ℕ) → i < n → test (a + i) ≡ true → list_any test (range_with_len a n) ≡ true
  any_from a zero i lt passes = absurd (omega (arith, lt))
  any_from a (suc n) zero lt passes = ap (λ t. t || list_any test (range_with_len (a + 1) n)) (ap test (let h : a ≡ a + zero = omega arith in h) ∙ passes)
  any_from a (suc n) (suc i) lt passes =
      ap (λ t. test a || t) (any_from (a + 1) n i (omega (arith, lt)) (ap test (let h : (a + 1) + i ≡ a + suc i = omega arith in h) ∙ passes)) ∙ or_true (test a)

  pub any_here : (n i : ℕ) → i < n → test i ≡ true → list_any test (range_with_len 0 n) ≡ true
  any_here n i lt passes = any_from 0 n i lt (ap test (let h : 0 + i ≡ i = omega arith in h) ∙ passes)

-- ---- the calls of all clients
assoc : {X : Type 0} (xs ys zs : List X) → xs ++ (ys ++ zs) ≡ (xs ++ ys) ++ zs
assoc [] ys zs = refl
assoc (x ∷ xs) ys zs = ap (λ l. x ∷ l) (assoc xs ys zs)

abbrev pub calls_of : List Client → List s.Call
calls_of clients = flat_map (λ (client : s.Client). client.calls) (map plain_client clients)

calls_suc : (clients : List Client) (i : ℕ) (client : Client) → i < length clients → client ≡ get_or clients i client → (rest : List s.Call) × ((calls_of clients ≡ calls_of (take i clients) ++ (map plain_call client.calls.items ++ rest)) × (calls_of (take (suc i) clients) ≡ calls_of (take i clients) ++ map plain_call client.calls.items))
unfolding syntax_definitions
calls_suc [] i client lt e = absurd (omega (arith, lt))
calls_suc (c ∷ clients) zero client lt e =
    (calls_of clients, (ap (λ (x : Client). map plain_call x.calls.items ++ calls_of clients) (sym e), ap (λ (x : Client). map plain_call x.calls.items ++ []) (sym e) ∙ append-nil (map plain_call client.calls.items)))
calls_suc (c ∷ clients) (suc i) client lt e =
    let h = calls_suc clients i client (omega (arith, lt)) e in
    (h.0, (ap (λ l. map plain_call c.calls.items ++ l) h.1.0 ∙ assoc (map plain_call c.calls.items) (calls_of (take i clients)) (map plain_call client.calls.items ++ h.0), ap (λ l. map plain_call c.calls.items ++ l) h.1.1 ∙ assoc (map plain_call c.calls.items) (calls_of (take i clients)) (map plain_call client.calls.items)))

pub calls_next : (clients : List Client) (i : ℕ) (client : Client) → i < length clients → client ≡ get_or clients i client → length (calls_of (take (i + 1) clients)) ≡ length (calls_of (take i clients)) + length client.calls.items
calls_next clients i client lt e =
    let h = calls_suc clients i client lt e in
    ap (λ k. length (calls_of (take k clients))) (let g : i + 1 ≡ suc i = omega arith in g)
    ∙ ap length h.1.1
    ∙ length-append (calls_of (take i clients)) (map plain_call client.calls.items)
    ∙ ap (λ k. length (calls_of (take i clients)) + k) (length-map client.calls.items plain_call)

get_past_left : {X : Type 0} (xs ys : List X) (i : ℕ) → slice_get (xs ++ ys) (length xs + i) ≡ slice_get ys i
get_past_left [] ys i = ap (slice_get ys) (let h : 0 + i ≡ i = omega arith in h)
get_past_left (x ∷ xs) ys i =
    ap (slice_get (x ∷ (xs ++ ys))) (let h : suc (length xs) + i ≡ suc (length xs + i) = omega arith in h) ∙ get_past_left xs ys i

-- the call at a place among a client's is one of all calls
pub call_among : (clients : List Client) (i : ℕ) (client : Client) → i < length clients → client ≡ get_or clients i client → (place : ℕ) (call : CallText) → slice_get client.calls.items place ≡ Some call → slice_get (calls_of clients) (length (calls_of (take i clients)) + place) ≡ Some (plain_call call)
call_among clients i client lt e place call here =
    let h = calls_suc clients i client lt e in
    ap (λ l. slice_get l (length (calls_of (take i clients)) + place)) h.1.0
    ∙ get_past_left (calls_of (take i clients)) (map plain_call client.calls.items ++ h.0) place
    ∙ get_left (map plain_call client.calls.items) h.0 place (plain_call call) (get_map plain_call client.calls.items place call here)

pub on_ok_map : {T E : Type 0} (r : Result T E) (P Q : Type 0) → (P → Q) → OnOk r P → OnOk r Q
on_ok_map (Ok x) P Q f h = f h
on_ok_map (Err e) P Q f h = tt

-- ---- a count that is left, and what is missing of a count
pub lacks_some : (left count all : ℕ) → left + count ≡ all → 0 < left → nat_lt count all ≡ true
lacks_some left count all sum some = by (nat_lt count all) refl
  where
    by : (t : Bool) → nat_lt count all ≡ t → nat_lt count all ≡ true
    by true e = e
    by false e = absurd (let lt : count < all = omega (arith, sum, some) in let never : ⊥ = grind (arith, nat_tests) in never)

pub lacks_none : (left count all : ℕ) → left + count ≡ all → left ≤ 0 → nat_lt count all ≡ false
lacks_none left count all sum none = by (nat_lt count all) refl
  where
    by : (t : Bool) → nat_lt count all ≡ t → nat_lt count all ≡ false
    by false e = e
    by true e = absurd (let lt : count < all = grind (arith, nat_tests) in omega (arith, lt, sum, none))

pub calls_none : (clients : List Client) → 0 ≡ length (calls_of (take 0 clients))
calls_none [] = refl
calls_none (c ∷ clients) = refl

pub calls_all : (clients : List Client) (i : ℕ) → length clients ≤ i → calls_of (take i clients) ≡ calls_of clients
calls_all clients i le = ap calls_of (take_past clients i le)
