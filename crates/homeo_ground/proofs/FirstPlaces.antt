-- Which calls are the first of their ground call, by the places of all calls.
use Rattle.std.proofs.Common.{◌≡◌, ◌≢◌, ℕ, zero, suc, ◌+◌, ◌<◌, ◌==◌, Bool, true, false, Some, List, [], ◌∷◌, ◌++◌, map, length, take, get_or, Vec, Global, refl, sym, ap, ◌∙◌, subst, arith}
use Rattle.std.specs.Prelude.{◌||◌, not, if◌then◌else◌, slice_get}
use Rattle.std.specs.List.{list_any, position_or_len, flat_map}
use Rattle.std.proofs.lemmas.Bool.Decides.{nat_tests}
use Rattle.std.proofs.lemmas.List.{length-map, map-append}
use Rattle.homeo_syntax.specs.Source as s
use Rattle.homeo_syntax.specs.declared.workload.Call.{Call}
use Rattle.homeo_syntax.specs.declared.workload.Client.{Client}
use Rattle.homeo_syntax.specs.SourceView.{plain_client}
use Rattle.homeo_meaning.specs.Key.{definitions as meaning_definitions}
use Rattle.homeo_meaning.specs.CallPlaces.{place_among, places_among}
use Rattle.homeo_meaning.specs.GlobalNames.{SitedCall, sited_calls_of}
use Rattle.homeo_meaning.specs.NumberRules.{same_ground, distinct_after}
use Rattle.homeo_ground.specs.Sited.{sited}
use Rattle.homeo_ground.specs.declared.sited.SitedCall.{SitedCall as Held}
use Rattle.homeo_ground.specs.inner.Firsts.{ArePlaces}
use Rattle.homeo_ground.proofs.Calls.{sited_at, all-sited, client_calls-step}
use Rattle.homeo_ground.proofs.Distinct.{distinct-append, put-place, put-there, stays}
use Rattle.homeo_ground.proofs.Places.{row_at}

-- ---- a call's place is the number of the kept exactly where none of these is the same ground call
module _ {A : Type 0} (test : A → Bool) where
  after_all : (xs : List A) → list_any test xs ≡ false → position_or_len test xs ≡ length xs
  after_all [] h = refl
  after_all (x ∷ xs) h = go (test x) h (after_all xs)
    where
      go : (b : Bool) → (b || list_any test xs) ≡ false → (list_any test xs ≡ false → position_or_len test xs ≡ length xs) → (if not b then 1 + position_or_len test xs else 0) ≡ suc (length xs)
      go true h rest = cc
      go false h rest = let e : position_or_len test xs ≡ length xs = rest h in omega arith

  before_end : (xs : List A) → list_any test xs ≡ true → position_or_len test xs < length xs
  before_end [] h = let no : ⊥ = cc in absurd no
  before_end (x ∷ xs) h = go (test x) h (before_end xs)
    where
      go : (b : Bool) → (b || list_any test xs) ≡ true → (list_any test xs ≡ true → position_or_len test xs < length xs) → (if not b then 1 + position_or_len test xs else 0) < suc (length xs)
      go true h rest = omega arith
      go false h rest = let e : position_or_len test xs < length xs = rest h in omega arith

equal : (m n : ℕ) → m ≡ n → (m == n) ≡ true
equal m n h = grind (arith, nat_tests)

unequal : (m n : ℕ) → m ≢ n → (m == n) ≡ false
unequal m n h = grind (arith, nat_tests)

-- a call that is put to the kept, and its place in all
module _ (kept : List SitedCall) (u : SitedCall) (place : ℕ) (at : place ≡ place_among kept u) where
  is_new : (place == length kept) ≡ not (list_any (same_ground u) kept)
  unfolding meaning_definitions
  is_new = ap (λ (n : ℕ). n == length kept) at ∙ go (list_any (same_ground u) kept) refl
    where
      go : (b : Bool) → list_any (same_ground u) kept ≡ b → (position_or_len (same_ground u) kept == length kept) ≡ not b
      go true e = let h = before_end (same_ground u) kept e in unequal (position_or_len (same_ground u) kept) (length kept) (omega arith)
      go false e = equal (position_or_len (same_ground u) kept) (length kept) (after_all (same_ground u) kept e)

  pub put : distinct_after kept (u ∷ []) ≡ (if place == length kept then kept ++ u ∷ [] else kept)
  unfolding meaning_definitions
  put = go (list_any (same_ground u) kept) ∙ ap (λ (b : Bool). if b then kept ++ u ∷ [] else kept) (sym is_new)
    where
      go : (b : Bool) → (if b then kept else kept ++ u ∷ []) ≡ (if not b then kept ++ u ∷ [] else kept)
      go true = refl
      go false = refl

-- ---- the place of a call is the one among those before it
pub place_here : {B : Type 0} (f : B → SitedCall) (xs : List B) (after kept : List SitedCall) (k : ℕ) (x : B) (d : ℕ) → k < length xs → x ≡ get_or xs k x → get_or (map (place_among (distinct_after kept (map f xs ++ after))) (map f xs)) k d ≡ place_among (distinct_after kept (map f (take k xs))) (f x)
unfolding meaning_definitions
place_here {B} f [] after kept k x d h e = absurd (omega arith)
place_here {B} f (y ∷ ys) after kept zero x d h e =
    (stays (f y) (map f ys ++ after) (distinct_after kept (f y ∷ [])) (put-there kept (f y))).0 ∙ put-place kept (f y) ∙ ap (λ (x : B). place_among kept (f x)) (sym e)
place_here {B} f (y ∷ ys) after kept (suc k) x d h e = place_here f ys after (distinct_after kept (f y ∷ [])) k x d (omega arith) e

-- ---- the places of a client's calls are among those of the clients before it
abbrev calls_of : List Client → List SitedCall
calls_of clients = flat_map sited_calls_of (map plain_client clients)

pub row_here : (clients : List Client) (kept : List SitedCall) (k : ℕ) (client : Client) (row : List ℕ) → k < length clients → client ≡ get_or clients k client → slice_get (places_among (distinct_after kept (calls_of clients)) (map plain_client clients)) k ≡ Some row → ArePlaces (distinct_after kept (calls_of (take k clients))) (sited_calls_of (plain_client client)) row
unfolding meaning_definitions
row_here [] kept k client row h e p = absurd (omega arith)
row_here (c ∷ clients) kept zero client row h e p =
    let is : map (place_among (distinct_after kept (sited_calls_of (plain_client c) ++ calls_of clients))) (sited_calls_of (plain_client c)) ≡ row = cc in
    subst (λ (c : Client). ArePlaces kept (sited_calls_of (plain_client c)) row) (sym e) (record { after = calls_of clients; are = sym is })
row_here (c ∷ clients) kept (suc k) client row h e p =
    let own : List SitedCall = sited_calls_of (plain_client c) in
    let q : slice_get (places_among (distinct_after (distinct_after kept own) (calls_of clients)) (map plain_client clients)) k ≡ Some row = subst (λ (l : List SitedCall). slice_get (places_among l (map plain_client clients)) k ≡ Some row) (distinct-append kept own (calls_of clients)) p in
    subst (λ (l : List SitedCall). ArePlaces l (sited_calls_of (plain_client client)) row) (sym (distinct-append kept own (calls_of (take k clients)))) (row_here clients (distinct_after kept own) k client row (omega arith) e q)

-- ---- the first calls in the code, to which one is put or not
module _ (firsts : List Held) (place n : ℕ) (long : n ≡ length firsts) (u : SitedCall) where
  as_told : (b : Bool) → (place == n) ≡ b → (if b then map sited firsts ++ u ∷ [] else map sited firsts) ≡ (if place == length (map sited firsts) then map sited firsts ++ u ∷ [] else map sited firsts)
  as_told b test =
      ap (λ (b : Bool). if b then map sited firsts ++ u ∷ [] else map sited firsts) (sym test ∙ ap (λ (n : ℕ). place == n) (long ∙ sym (length-map firsts sited)))

  pub one_more : place ≡ n → (new : List Held) (x : Held) → new ≡ firsts ++ x ∷ [] → sited x ≡ u → map sited new ≡ (if place == length (map sited firsts) then map sited firsts ++ u ∷ [] else map sited firsts)
  one_more test new x is e =
      ap (map sited) is ∙ map-append sited firsts (x ∷ []) ∙ ap (λ (u : SitedCall). map sited firsts ++ u ∷ []) e ∙ as_told true (equal place n test)

  pub no_more : place ≢ n → (new : List Held) → new ≡ firsts → map sited new ≡ (if place == length (map sited firsts) then map sited firsts ++ u ∷ [] else map sited firsts)
  no_more test new is = ap (map sited) is ∙ as_told false (unequal place n test)

-- ---- a client's calls are read with their places
module _ (client : Client) (calls : List Call) (of : calls ≡ client.calls.items) (kept : List SitedCall) (places : List ℕ) (are : ArePlaces kept (sited_calls_of (plain_client client)) places) where
  abbrev own : List Call → List SitedCall
  own cs = map (sited_at client) cs

  places_are : places ≡ map (place_among (distinct_after kept (own calls ++ are.after))) (own calls)
  places_are =
      are.are
      ∙ ap (λ (l : List SitedCall). map (place_among (distinct_after kept (l ++ are.after))) l) (sym (ap (map (sited_at client)) of ∙ all-sited client))

  pub places_long : length places ≡ length calls
  places_long =
      ap (λ (l : List ℕ). length l) places_are ∙ length-map (own calls) (place_among (distinct_after kept (own calls ++ are.after))) ∙ length-map calls (sited_at client)

  module _ (k : ℕ) (call : Call) (within : k < length calls) (here : call ≡ get_or calls k call) (old : List SitedCall) (before : old ≡ distinct_after kept (own (take k calls))) where
    placed : (d : ℕ) → get_or places k d ≡ place_among old (sited_at client call)
    placed d =
        ap (λ (l : List ℕ). get_or l k d) places_are ∙ place_here (sited_at client) calls are.after kept k call d within here
        ∙ ap (λ (l : List SitedCall). place_among l (sited_at client call)) (sym before)

    pub firsts-step : (d : ℕ) (new : List SitedCall) → new ≡ (if get_or places k d == length old then old ++ sited_at client call ∷ [] else old) → new ≡ distinct_after kept (own (take (k + 1) calls))
    firsts-step d new is =
        client_calls-step client calls k call within here (sited_at client call) refl kept old new before (is ∙ sym (put old (sited_at client call) (get_or places k d) (placed d)))

-- ---- the clients are read with the rows of their places
abbrev rows : List (Vec ℕ Global) → List (List ℕ)
rows vs = map (λ (v : Vec ℕ Global). v.items) vs

module _ (clients : List Client) (places : List (Vec ℕ Global)) (are : rows places ≡ places_among (distinct_after [] (calls_of clients)) (map plain_client clients)) where
  pub rows_long : length places ≡ length clients
  unfolding meaning_definitions
  rows_long =
      sym (length-map places (λ (v : Vec ℕ Global). v.items)) ∙ ap (λ (l : List (List ℕ)). length l) are
      ∙ length-map (map plain_client clients) (λ (c : s.Client). map (place_among (distinct_after [] (calls_of clients))) (sited_calls_of c)) ∙ length-map clients plain_client

  pub row_of : (k : ℕ) (client : Client) → k < length clients → client ≡ get_or clients k client → (v : Vec ℕ Global) → v ≡ get_or places k v → (row : List ℕ) → row ≡ v.items → (old : List SitedCall) → old ≡ distinct_after [] (calls_of (take k clients)) → ArePlaces old (sited_calls_of (plain_client client)) row
  row_of k client within here v read row is old before =
      let at : slice_get (rows places) k ≡ Some v.items = row_at places k v (subst (λ (n : ℕ). k < n) (sym rows_long) within) read in
      subst (λ (l : List SitedCall). ArePlaces l (sited_calls_of (plain_client client)) row) (sym before)
      (row_here clients [] k client row within here (ap (λ (l : List (List ℕ)). slice_get l k) (sym are) ∙ at ∙ ap (λ (l : List ℕ). Some l) (sym is)))
