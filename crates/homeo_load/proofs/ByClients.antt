-- A sum over all calls of a history is the sum over all additions.
use Rattle.std.proofs.Common.{◌≡◌, ◌<◌, ◌≤◌, ℕ, zero, suc, ◌+◌, Bool, true, false, cond, List, [], ◌∷◌, map, length, None, slice_get, slice_index_or, refl, sym, ap, ◌∙◌, arith}
use Rattle.std.specs.Prelude.{◌==◌, nat_lt, sum_by, filter}
use Rattle.std.specs.List.{range_with_len}
use Rattle.std.specs.Option.{option_map_or}
use Rattle.std.proofs.lemmas.List.{length-map}
use Rattle.std.proofs.lemmas.List.FromFn.{length-range_with_len}
use Rattle.std.proofs.lemmas.List.Sums.{sum_by-cons}
use Rattle.std.proofs.lemmas.Bool.Decides.{nat_tests}
use Rattle.homeo_syntax.specs.Source as s
use Rattle.homeo_meaning.specs.declared.call.CallId.{CallId}
use Rattle.homeo_history.specs.Key.{definitions as history_definitions}
use Rattle.homeo_history.specs.Legal.{numbers_of}
use Rattle.homeo_load.specs.Key.{definitions}
use Rattle.homeo_load.specs.Additions.{Addition}
use Rattle.homeo_load.specs.Load.{load_call, load_of, eight, dealt}
use Rattle.homeo_load.proofs.Cases.{by_eight}
use Rattle.homeo_load.proofs.Dealt.{dealt_sum, one_takes, length_sum}
use Rattle.homeo_load.proofs.Ids.{at_number, addition_of}

abbrev call : ℕ → ℕ → CallId
call client seq = record { client = client; seq = seq }

-- ---- the calls client by client
module _ (f : CallId → ℕ) where
  abbrev of_client : List CallId → ℕ → ℕ
  of_client ids j = sum_by (λ seq. f (call j seq)) (numbers_of j ids)

  one_more_if : (j : ℕ) (id : CallId) (ids : List CallId) (b : Bool) → (id.client == j) ≡ b
      → sum_by (λ seq. f (call j seq)) (map (λ (x : CallId). x.seq) (cond b (id ∷ filter (λ (x : CallId). x.client == j) ids) (filter (λ (x : CallId). x.client == j) ids)))
      ≡ cond b (f id) 0 + of_client ids j
  unfolding history_definitions
  one_more_if j id ids true q =
      let is : j ≡ id.client = grind (arith, nat_tests) in
      sum_by-cons (λ seq. f (call j seq)) id.seq (numbers_of j ids) ∙ ap (λ k. f (call k id.seq) + of_client ids j) is
  one_more_if j id ids false q = omega arith

  one_more : (id : CallId) (ids : List CallId) (j : ℕ) → of_client (id ∷ ids) j ≡ cond (id.client == j) (f id) 0 + of_client ids j
  unfolding history_definitions
  one_more id ids j = one_more_if j id ids (id.client == j) refl

  -- where f is 0 for calls of no client
  by_no_client : (g : ℕ → ℕ) (v : ℕ) (id : CallId) → v ≡ 0 → sum_by (λ j. cond (id.client == j) v 0 + g j) eight ≡ v + sum_by g eight
  by_no_client g v id e =
      let none : (b : Bool) → cond b v 0 ≡ 0 = none_if in
      (λ t. sum_by (λ j. none (id.client == j) t + g j) eight) ∙ omega (arith, e)
    where
      none_if : (b : Bool) → cond b v 0 ≡ 0
      none_if true = e
      none_if false = refl

  nothing : 0 ≡ sum_by (of_client []) eight
  unfolding history_definitions
  nothing = refl

  pub by_clients : ((id : CallId) → nat_lt id.client 8 ≡ false → f id ≡ 0) → (ids : List CallId) → sum_by f ids ≡ sum_by (of_client ids) eight
  by_clients none [] = nothing
  by_clients none (id ∷ ids) =
      let rest : sum_by f ids ≡ sum_by (of_client ids) eight = by_clients none ids in
      sum_by-cons f id ids ∙ ap (λ n. f id + n) rest ∙ sym (here (nat_lt id.client 8) refl) ∙ sym (λ t. sum_by (λ j. one_more id ids j t) eight)
    where
      here : (b : Bool) → nat_lt id.client 8 ≡ b → sum_by (λ j. cond (id.client == j) (f id) 0 + of_client ids j) eight ≡ f id + sum_by (of_client ids) eight
      here true q = one_takes (of_client ids) (f id) id.client (grind (arith, nat_tests))
      here false q = by_no_client (of_client ids) (f id) id (none id q)

-- ---- the numbers of one client's calls
along : (h : ℕ → ℕ) (g : Addition → ℕ) (some : List Addition) (k : ℕ) → ((i : ℕ) → h (k + i) ≡ option_map_or g (slice_get some i) 0) → sum_by h (range_with_len k (length some)) ≡ sum_by g some
along h g [] k at = refl
along h g (x ∷ some) k at =
    let first : h k ≡ g x = (let e : k ≡ k + 0 = omega arith in ap h e ∙ at 0) in
    let rest : sum_by h (range_with_len (k + 1) (length some)) ≡ sum_by g some = along h g some (k + 1) (λ i. let e : (k + 1) + i ≡ k + suc i = omega arith in ap h e ∙ at (suc i)) in
    omega (arith, sum_by-cons h k (range_with_len (k + 1) (length some)), sum_by-cons g x some, first, rest)

pub numbers_sum : (g : Addition → ℕ) (some : List Addition) → sum_by (λ seq. option_map_or g (at_number seq some) 0) (range_with_len 1 (length some)) ≡ sum_by g some
numbers_sum g some = along (λ seq. option_map_or g (at_number seq some) 0) g some 1 (λ i. let e : 1 + i ≡ suc i = omega arith in ap (λ n. option_map_or g (at_number n some) 0) e)

-- ---- all calls of the clients of a load
abbrev pub counts : List Addition → List ℕ
counts all = map (λ (c : s.Client). length c.calls) (load_of all).clients

abbrev IsCount : List Addition → ℕ → Type 0
IsCount all j = slice_index_or (counts all) j 0 ≡ length (dealt j 0 all)

count_is : (all : List Addition) (j : ℕ) → j < 8 → IsCount all j
unfolding definitions
count_is all = by_eight (IsCount all) (at 0) (at 1) (at 2) (at 3) (at 4) (at 5) (at 6) (at 7)
  where
    at : (j : ℕ) → length (map load_call (dealt j 0 all)) ≡ length (dealt j 0 all)
    at j = length-map (dealt j 0 all) load_call

abbrev pub weight : List Addition → (Addition → ℕ) → CallId → ℕ
weight all g id = option_map_or g (addition_of all id) 0

no_weight : (all : List Addition) (g : Addition → ℕ) (id : CallId) → nat_lt id.client 8 ≡ false → weight all g id ≡ 0
no_weight all g id q = ap (λ b. option_map_or g (cond b (at_number id.seq (dealt id.client 0 all)) None) 0) q

pub record HasAllCalls (all : List Addition) (ids : List CallId) : Type 0 where
  pub numbers : (j : ℕ) → numbers_of j ids ≡ range_with_len 1 (slice_index_or (counts all) j 0)

pub sum_eight : (f k : ℕ → ℕ) → ((j : ℕ) → j < 8 → f j ≡ k j) → sum_by f eight ≡ sum_by k eight
sum_eight f k e = λ t. 0 + e 0 (omega arith) t + e 1 (omega arith) t + e 2 (omega arith) t + e 3 (omega arith) t + e 4 (omega arith) t + e 5 (omega arith) t + e 6 (omega arith) t + e 7 (omega arith) t

pub all_weights : (all : List Addition) (g : Addition → ℕ) (ids : List CallId) → HasAllCalls all ids → sum_by (weight all g) ids ≡ sum_by g all
all_weights all g ids h =
    by_clients (weight all g) (no_weight all g) ids ∙ sum_eight (of_client (weight all g) ids) (λ j. sum_by g (dealt j 0 all)) mine ∙ dealt_sum g 0 all
  where
    mine : (j : ℕ) → j < 8 → of_client (weight all g) ids j ≡ sum_by g (dealt j 0 all)
    mine j l =
        let q : nat_lt j 8 ≡ true = grind (arith, nat_tests) in
        ap (sum_by (λ seq. weight all g (call j seq))) (h.numbers j)
        ∙ ap (λ n. sum_by (λ seq. weight all g (call j seq)) (range_with_len 1 n)) (count_is all j l)
        ∙ (λ t. sum_by (λ seq. option_map_or g (cond (q t) (at_number seq (dealt j 0 all)) None) 0) (range_with_len 1 (length (dealt j 0 all))))
        ∙ numbers_sum g (dealt j 0 all)

-- ---- how many calls there are: none is of a client past the last
abbrev is_client : CallId → ℕ
is_client id = cond (nat_lt id.client 8) 1 0

abbrev NonePast : List CallId → Type 0
NonePast ids = (j : ℕ) → 8 ≤ j → numbers_of j ids ≡ []

none_past_rest : (id : CallId) (ids : List CallId) → NonePast (id ∷ ids) → NonePast ids
unfolding history_definitions
none_past_rest id ids h j l = by (id.client == j) (h j l)
  where
    by : (b : Bool) → map (λ (x : CallId). x.seq) (cond b (id ∷ filter (λ (x : CallId). x.client == j) ids) (filter (λ (x : CallId). x.client == j) ids)) ≡ [] → map (λ (x : CallId). x.seq) (filter (λ (x : CallId). x.client == j) ids) ≡ []
    by true e = cc
    by false e = e

not_past : (id : CallId) (ids : List CallId) → NonePast (id ∷ ids) → (b : Bool) → nat_lt id.client 8 ≡ b → 1 ≡ is_client id
unfolding history_definitions
not_past id ids h true q = sym (λ t. cond (q t) 1 0)
not_past id ids h false q =
    let same : (id.client == id.client) ≡ true = grind (arith, nat_tests) in
    let past : 8 ≤ id.client = grind (arith, nat_tests) in
    let others : List CallId = filter (λ (x : CallId). x.client == id.client) ids in
    let none : map (λ (x : CallId). x.seq) (id ∷ others) ≡ [] = sym (λ t. map (λ (x : CallId). x.seq) (cond (same t) (id ∷ others) others)) ∙ h id.client past in
    cc

all_clients : (ids : List CallId) → NonePast ids → sum_by (λ id. 1) ids ≡ sum_by is_client ids
all_clients [] h = refl
all_clients (id ∷ ids) h =
    let here : 1 ≡ is_client id = not_past id ids h (nat_lt id.client 8) refl in
    let rest : sum_by (λ (x : CallId). 1) ids ≡ sum_by is_client ids = all_clients ids (none_past_rest id ids h) in
    sum_by-cons (λ (x : CallId). 1) id ids ∙ (λ t. here t + rest t) ∙ sym (sum_by-cons is_client id ids)

past_default : (xs : List ℕ) (n : ℕ) → length xs ≤ n → slice_index_or xs n 0 ≡ 0
past_default [] n l = refl
past_default (x ∷ xs) zero l = absurd (omega arith)
past_default (x ∷ xs) (suc n) l = past_default xs n (omega arith)

none_past : (all : List Addition) (ids : List CallId) → HasAllCalls all ids → NonePast ids
unfolding definitions
none_past all ids h j l = h.numbers j ∙ ap (range_with_len 1) (past_default (counts all) j l)

pub all_counted : (all : List Addition) (ids : List CallId) → HasAllCalls all ids → length ids ≡ length all
all_counted all ids h =
    sym (length_sum ids) ∙ all_clients ids (none_past all ids h) ∙ by_clients is_client none ids
    ∙ sum_eight (of_client is_client ids) (λ j. sum_by (λ (a : Addition). 1) (dealt j 0 all)) mine ∙ dealt_sum (λ (a : Addition). 1) 0 all ∙ length_sum all
  where
    none : (id : CallId) → nat_lt id.client 8 ≡ false → is_client id ≡ 0
    none id q = λ t. cond (q t) 1 0

    mine : (j : ℕ) → j < 8 → of_client is_client ids j ≡ sum_by (λ (a : Addition). 1) (dealt j 0 all)
    mine j l =
        let q : nat_lt j 8 ≡ true = grind (arith, nat_tests) in
        ap (sum_by (λ seq. is_client (call j seq))) (h.numbers j)
        ∙ ap (λ n. sum_by (λ seq. is_client (call j seq)) (range_with_len 1 n)) (count_is all j l)
        ∙ (λ t. sum_by (λ (seq : ℕ). cond (q t) 1 0) (range_with_len 1 (length (dealt j 0 all))))
        ∙ length_sum (range_with_len 1 (length (dealt j 0 all))) ∙ length-range_with_len 1 (length (dealt j 0 all)) ∙ sym (length_sum (dealt j 0 all))
