-- Where a call's place stands in the table, and what stands at that place.
use Rattle.std.proofs.Common.{◌≡◌, ℕ, zero, suc, ◌+◌, ◌-◌, ◌^◌, ◌<◌, ◌≤◌, ◌==◌, ◌&&◌, Bool, true, false, Option, Some, None, List, [], ◌∷◌, map, length, get_or, Vec, Global, refl, sym, ap, ◌∙◌, subst, arith}
use Rattle.std.specs.Prelude.{◌||◌, not, if◌then◌else◌, slice_get, option_map, IsSome}
use Rattle.std.specs.Option.{option_and_then}
use Rattle.std.specs.Ordering.{int_eq}
use Rattle.std.specs.List.{list_any, position_or_len, flat_map}
use Rattle.std.proofs.lemmas.Bool.{false≢true}
use Rattle.std.proofs.lemmas.Option.{slice_get-map, slice_get_read, slice_get_within, slice_get-get_or}
use Rattle.std.proofs.lemmas.List.{length-map}
use Rattle.homeo_lemmas.proofs.Bools.{and_first, and_second}
use Rattle.homeo_lemmas.proofs.Integers.{int_is}
use Rattle.homeo_lemmas.proofs.Naturals.{nat_is}
use Rattle.homeo_syntax.specs.Source as s
use Rattle.homeo_meaning.specs.Key.{definitions as meaning_definitions}
use Rattle.homeo_meaning.specs.declared.call.CallId.{CallId}
use Rattle.homeo_meaning.specs.declared.call.GroundCall.{GroundCall}
use Rattle.homeo_meaning.specs.Calls.{CallExists}
use Rattle.homeo_meaning.specs.Declarations.{place_of}
use Rattle.homeo_meaning.specs.Ground.{Ground, plain_ground, ground_of_sited, grounds, sited_call, ground_of}
use Rattle.homeo_meaning.specs.GlobalNames.{SitedCall, sited_calls_of}
use Rattle.homeo_meaning.specs.NumberRules.{same_numbers, same_ground, ground_calls}
use Rattle.homeo_meaning.specs.Schema.{nat_of}
use Rattle.homeo_meaning.specs.Serial.{numbered}
use Rattle.homeo_ground.specs.Key.{definitions}
use Rattle.homeo_ground.specs.Table.{GroundTable}
use Rattle.homeo_meaning.specs.CallPlaces.{place_among, places_among}
use Rattle.homeo_meaning.proofs.GroundCalls.{numbers_same}
use Rattle.homeo_ground.specs.Grounding.{grounding, IsCallIn}
use Rattle.homeo_ground.proofs.Distinct.{Known, all-known, known-first, known-second}

-- ---- calls that are the same ground call have one ground call
ground-is : (w : s.Workload) (u v : SitedCall) → same_ground u v ≡ true → ground_of_sited w u ≡ ground_of_sited w v
unfolding meaning_definitions
ground-is w u v h =
    let body = and_first ((u.name.name == v.name.name) && same_numbers u.args v.args) (int_eq u.site v.site) h in
    let name : u.name.name ≡ v.name.name = nat_is u.name.name v.name.name (and_first (u.name.name == v.name.name) (same_numbers u.args v.args) body) in
    let args : u.args ≡ v.args = numbers_same u.args v.args (and_second (u.name.name == v.name.name) (same_numbers u.args v.args) body) in
    let site : u.site ≡ v.site = int_is u.site v.site (and_second ((u.name.name == v.name.name) && same_numbers u.args v.args) (int_eq u.site v.site) h) in
    λ i. record { transaction = place_of (map (λ (t : s.Transaction). t.name.name) w.transactions) (name i); args = args i; site = nat_of (site i) }

-- what stands at a call's place
module _ (w : s.Workload) (u : SitedCall) where
  there : (kept : List SitedCall) → list_any (same_ground u) kept ≡ true → slice_get (map (ground_of_sited w) kept) (place_among kept u) ≡ Some (ground_of_sited w u)
  unfolding meaning_definitions
  there [] h = absurd (false≢true h)
  there (k ∷ kept) h = go (same_ground u k) refl h (there kept)
    where
      go : (b : Bool) → same_ground u k ≡ b → (b || list_any (same_ground u) kept) ≡ true → (list_any (same_ground u) kept ≡ true → slice_get (map (ground_of_sited w) kept) (position_or_len (same_ground u) kept) ≡ Some (ground_of_sited w u)) → slice_get (map (ground_of_sited w) (k ∷ kept)) (if not b then 1 + position_or_len (same_ground u) kept else 0) ≡ Some (ground_of_sited w u)
      go true e h rest = ap (λ (g : Ground). Some g) (sym (ground-is w u k e))
      go false e h rest =
          let next : 1 + position_or_len (same_ground u) kept ≡ suc (position_or_len (same_ground u) kept) = omega arith in
          ap (slice_get (map (ground_of_sited w) (k ∷ kept))) next ∙ rest h

-- ---- a call of a client is among the distinct ones
known_at : (kept us : List SitedCall) (j : ℕ) (u : SitedCall) → Known kept us → slice_get us j ≡ Some u → list_any (same_ground u) kept ≡ true
known_at kept [] j u h e = let no : ⊥ = cc in absurd no
known_at kept (v ∷ us) zero u h e = let is : v ≡ u = cc in subst (λ (v : SitedCall). list_any (same_ground v) kept ≡ true) is h.0
known_at kept (v ∷ us) (suc j) u h e = known_at kept us j u h.1 e

known_client : (kept : List SitedCall) (cs : List s.Client) (i : ℕ) (c : s.Client) → Known kept (flat_map sited_calls_of cs) → slice_get cs i ≡ Some c → Known kept (sited_calls_of c)
known_client kept [] i c h e = let no : ⊥ = cc in absurd no
known_client kept (d ∷ cs) zero c h e = let is : d ≡ c = cc in subst (λ (d : s.Client). Known kept (sited_calls_of d)) is (known-first kept (sited_calls_of d) (flat_map sited_calls_of cs) h)
known_client kept (d ∷ cs) (suc i) c h e = known_client kept cs i c (known-second kept (sited_calls_of d) (flat_map sited_calls_of cs) h) e

-- ---- look-ups
some_map : {A B : Type 0} (f : A → B) (o : Option A) (b : B) → option_map f o ≡ Some b → (a : A) × (o ≡ Some a) × (f a ≡ b)
some_map f None b e = let no : ⊥ = cc in absurd no
some_map f (Some a) b e = (a, refl, cc)

map_twice : {A B C : Type 0} (f : A → B) (g : B → C) (o : Option A) → option_map (λ (a : A). g (f a)) o ≡ option_map g (option_map f o)
map_twice f g None = refl
map_twice f g (Some a) = refl

some_within : {A : Type 0} (xs : List A) (n : ℕ) → IsSome (slice_get xs n) → n < length xs
some_within [] n h = absurd (false≢true h)
some_within (x ∷ xs) zero h = omega arith
some_within (x ∷ xs) (suc n) h = omega (arith, some_within xs n h)

numbered_some : (n : ℕ) (calls : List s.Call) → IsSome (numbered n calls) → (1 ≤ n) × (n - 1 < length calls)
numbered_some zero calls h = absurd (false≢true h)
numbered_some (suc n) calls h = let k : n < length calls = some_within calls n h in (omega arith, omega arith)

numbered_is : (n : ℕ) (calls : List s.Call) → 1 ≤ n → numbered n calls ≡ slice_get calls (n - 1)
numbered_is zero calls h = absurd (omega arith)
numbered_is (suc n) calls h = let e : n ≡ suc n - 1 = omega arith in ap (slice_get calls) e

client_of : (w : s.Workload) (id : CallId) → CallExists w id → (client : s.Client) × (slice_get w.clients id.client ≡ Some client) × IsSome (numbered id.seq client.calls)
unfolding meaning_definitions
client_of w id h = go (slice_get w.clients id.client) refl h
  where
    go : (o : Option s.Client) → slice_get w.clients id.client ≡ o → IsSome (option_and_then (λ (client : s.Client). numbered id.seq client.calls) o) → (client : s.Client) × (slice_get w.clients id.client ≡ Some client) × IsSome (numbered id.seq client.calls)
    go None e h = absurd (false≢true h)
    go (Some client) e h = (client, e, h)

-- ---- a call that exists has a place
record IsPlaced (places : List (List ℕ)) (id : CallId) : Type 0 where
  list : List ℕ
  at : slice_get places id.client ≡ Some list
  counted : 1 ≤ id.seq
  within : id.seq - 1 < length list

is_placed : (w : s.Workload) (id : CallId) → CallExists w id → IsPlaced (places_among (ground_calls w) w.clients) id
unfolding meaning_definitions
is_placed w id h =
    let c = client_of w id h in
    let k = numbered_some id.seq c.0.calls c.2 in
    let row : s.Client → List ℕ = λ (client : s.Client). map (place_among (ground_calls w)) (sited_calls_of client) in
    let long : length (row c.0) ≡ length c.0.calls = length-map (sited_calls_of c.0) (place_among (ground_calls w)) ∙ length-map c.0.calls (sited_call c.0) in
    record {
      list = row c.0;
      at = slice_get-map row w.clients id.client ∙ ap (option_map row) c.1;
      counted = k.0;
      within = let m : id.seq - 1 < length c.0.calls = k.1 in subst (λ (n : ℕ). id.seq - 1 < n) (sym long) m;
    }

-- ---- what stands at its place
ground_at : (w : s.Workload) (id : CallId) (client : s.Client) (u : SitedCall) → slice_get w.clients id.client ≡ Some client → 1 ≤ id.seq → slice_get (sited_calls_of client) (id.seq - 1) ≡ Some u → ground_of w id ≡ Some (ground_of_sited w u)
unfolding meaning_definitions
ground_at w id client u e k q =
    ap (option_and_then (λ (c : s.Client). option_map (λ (call : s.Call). ground_of_sited w (sited_call c call)) (numbered id.seq c.calls))) e
    ∙ ap (option_map (λ (call : s.Call). ground_of_sited w (sited_call client call))) (numbered_is id.seq client.calls k)
    ∙ map_twice (sited_call client) (ground_of_sited w) (slice_get client.calls (id.seq - 1))
    ∙ ap (option_map (ground_of_sited w)) (sym (slice_get-map (sited_call client) client.calls (id.seq - 1)) ∙ q)

all_known : (w : s.Workload) → Known (ground_calls w) (flat_map sited_calls_of w.clients)
unfolding meaning_definitions
all_known w = all-known (flat_map sited_calls_of w.clients) []

record StandsAt (w : s.Workload) (id : CallId) (place : ℕ) : Type 0 where
  same : slice_get (grounds w) place ≡ ground_of w id
  within : place < length (grounds w)

stands : (w : s.Workload) (id : CallId) (list : List ℕ) (place : ℕ) → slice_get (places_among (ground_calls w) w.clients) id.client ≡ Some list → 1 ≤ id.seq → slice_get list (id.seq - 1) ≡ Some place → StandsAt w id place
unfolding meaning_definitions
stands w id list place e k q =
    let kept : List SitedCall = ground_calls w in
    let row : s.Client → List ℕ = λ (client : s.Client). map (place_among (ground_calls w)) (sited_calls_of client) in
    let c = some_map row (slice_get w.clients id.client) list (sym (slice_get-map row w.clients id.client) ∙ e) in
    let u = some_map (place_among (ground_calls w)) (slice_get (sited_calls_of c.0) (id.seq - 1)) place (sym (slice_get-map (place_among (ground_calls w)) (sited_calls_of c.0) (id.seq - 1)) ∙ ap (λ (l : List ℕ). slice_get l (id.seq - 1)) c.2 ∙ q) in
    let known : list_any (same_ground u.0) (ground_calls w) ≡ true = known_at (ground_calls w) (sited_calls_of c.0) (id.seq - 1) u.0 (known_client (ground_calls w) w.clients id.client c.0 (all_known w) c.1) u.1 in
    let at : slice_get (grounds w) place ≡ Some (ground_of_sited w u.0) = ap (slice_get (grounds w)) (sym u.2) ∙ there w u.0 (ground_calls w) known in
    record {
      same = at ∙ sym (ground_at w id c.0 u.0 c.1 k u.1);
      within = slice_get_within (grounds w) place (ground_of_sited w u.0) at;
    }

-- ---- as the code holds them
abbrev rows : List (Vec ℕ Global) → List (List ℕ)
rows vs = map (λ (v : Vec ℕ Global). v.items) vs

table_places : (g : GroundTable) (w : s.Workload) → g ≡ grounding w → g.places ≡ places_among (ground_calls w) w.clients
unfolding definitions meaning_definitions
table_places g w e = ap (λ (g : GroundTable). g.places) e

table_calls : (g : GroundTable) (w : s.Workload) → g ≡ grounding w → g.calls ≡ grounds w
unfolding definitions
table_calls g w e = ap (λ (g : GroundTable). g.calls) e

pub row_at : (vs : List (Vec ℕ Global)) (i : ℕ) (v : Vec ℕ Global) → i < length vs → v ≡ get_or vs i v → slice_get (rows vs) i ≡ Some v.items
row_at vs i v h e = slice_get-map (λ (v : Vec ℕ Global). v.items) vs i ∙ ap (option_map (λ (v : Vec ℕ Global). v.items)) (slice_get_read vs (length vs) i v refl h e)

module _ (g : GroundTable) (id : CallId) (vs : List (Vec ℕ Global)) (view : rows vs ≡ g.places) (made : IsCallIn g id) where
  here : IsPlaced (rows vs) id
  here = subst (λ (l : List (List ℕ)). IsPlaced l id) (sym (view ∙ table_places g made.workload made.same)) (is_placed made.workload id made.exists)

  pub client_within : id.client < length vs
  client_within =
      let h : id.client < length (rows vs) = slice_get_within (rows vs) id.client here.list here.at in
      subst (λ (n : ℕ). id.client < n) (length-map vs (λ (v : Vec ℕ Global). v.items)) h

  pub counted : 1 ≤ id.seq
  counted = here.counted

  module _ (v : Vec ℕ Global) (read : v ≡ get_or vs id.client v) (row : List ℕ) (is : row ≡ v.items) where
    held : slice_get (rows vs) id.client ≡ Some row
    held = row_at vs id.client v client_within read ∙ ap (λ (l : List ℕ). Some l) (sym is)

    some_is : Some here.list ≡ Some row → here.list ≡ row
    some_is e = cc

    pub call_within : id.seq - 1 < length row
    call_within = subst (λ (l : List ℕ). id.seq - 1 < length l) (some_is (sym here.at ∙ held)) here.within

    stands_at : (w : s.Workload) → g ≡ grounding w → StandsAt w id (get_or row (id.seq - 1) 0)
    stands_at w e =
        stands w id row (get_or row (id.seq - 1) 0) (sym (ap (λ (l : List (List ℕ)). slice_get l id.client) (view ∙ table_places g w e)) ∙ held) counted (slice_get-get_or row (id.seq - 1) 0 call_within)

    pub place_is : (w : s.Workload) → g ≡ grounding w → slice_get (grounds w) (get_or row (id.seq - 1) 0) ≡ ground_of w id
    place_is w e = (stands_at w e).same

    pub place_within : get_or row (id.seq - 1) 0 < length g.calls
    place_within = subst (λ (l : List Ground). get_or row (id.seq - 1) 0 < length l) (sym (table_calls g made.workload made.same)) (stands_at made.workload made.same).within

    pub place_fits : (calls : List GroundCall) → map plain_ground calls ≡ g.calls → length calls < 2 ^ 32 → get_or row (id.seq - 1) 0 < 2 ^ 32
    place_fits calls e h =
        let long : length g.calls ≡ length calls = ap (λ (l : List Ground). length l) (sym e) ∙ length-map calls plain_ground in
        let k : get_or row (id.seq - 1) 0 < length g.calls = place_within in
        omega arith
