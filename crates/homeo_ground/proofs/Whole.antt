-- The grounding of an accepted workload, made of its numbered calls.
use Rattle.std.proofs.Common.{◌≡◌, ℕ, ◌^◌, ◌<◌, ◌≤◌, List, [], ◌∷◌, map, length, All, sym, ap, ◌∙◌, subst, arith}
use Rattle.std.specs.List.{flat_map}
use Rattle.std.proofs.lemmas.List.{length-map}
use Rattle.std.proofs.lemmas.List.Elements.{All-nil, All-cons, All-head, All-tail}
use Rattle.homeo_syntax.specs.Key.{definitions as syntax_definitions}
use Rattle.homeo_syntax.specs.SourceView.{plain_client, plain_workload}
use Rattle.homeo_syntax.specs.declared.workload.Client.{Client}
use Rattle.homeo_syntax.specs.declared.workload.Workload.{Workload}
use Rattle.homeo_meaning.specs.Key.{definitions as meaning_definitions}
use Rattle.homeo_meaning.specs.declared.call.GroundCall.{GroundCall}
use Rattle.homeo_meaning.specs.Acceptance.{IsAccepted}
use Rattle.homeo_meaning.specs.Declarations.{Declarations, declarations}
use Rattle.homeo_meaning.specs.Ground.{Ground, plain_ground, ground_of_sited, grounds}
use Rattle.homeo_meaning.specs.GlobalNames.{SitedCall, sited_calls_of}
use Rattle.homeo_meaning.specs.NumberRules.{distinct_after, ground_calls}
use Rattle.homeo_ground.specs.Key.{definitions}
use Rattle.homeo_ground.specs.Sited.{sited}
use Rattle.homeo_ground.specs.inner.Grounds.{ground_by, IsSite}
use Rattle.homeo_meaning.specs.CallPlaces.{places_among, call_places}
use Rattle.homeo_ground.specs.Grounding.{grounding}
use Rattle.homeo_ground.specs.declared.sited.SitedCall.{SitedCall as Held}
use Rattle.homeo_ground.proofs.Limits.{limited}

all_unmapped : {A B : Type 0} (f : A → B) (P : B → Type 0) (xs : List A) → All P (map f xs) → All (λ (x : A). P (f x)) xs
all_unmapped {A} f P [] h = let Q : A → Type 0 = λ x. P (f x) in All-nil Q
all_unmapped {A} f P (x ∷ xs) h = let Q : A → Type 0 = λ x. P (f x) in All-cons Q x xs (All-head P (f x) (map f xs) h) (all_unmapped f P xs (All-tail P (f x) (map f xs) h))

-- the workload, the places of its names, and the distinct calls in the code
module _ (workload : Workload) (accepted : IsAccepted (plain_workload workload)) (names : Declarations) (named : names ≡ declarations (plain_workload workload)) (calls : List Held) (calls_are : map sited calls ≡ ground_calls (plain_workload workload)) where
  pub have_sites : All (λ (c : Held). IsSite c.site) calls
  have_sites =
      all_unmapped sited (λ (c : SitedCall). IsSite c.site) calls (subst (All (λ (c : SitedCall). IsSite c.site)) (sym calls_are) (limited (plain_workload workload) accepted).sites)

  pub are_few : length names.transactions < 2 ^ 32
  are_few =
      let h : length (declarations (plain_workload workload)).transactions ≤ 256 = (limited (plain_workload workload) accepted).transactions in
      let e : length names.transactions ≡ length (declarations (plain_workload workload)).transactions = ap (λ (d : Declarations). length d.transactions) named in
      omega arith

  module _ (made : List Ground) (same : made ≡ map (ground_by names.transactions) (map sited calls)) where
    pub are_grounds : made ≡ grounds (plain_workload workload)
    unfolding meaning_definitions
    are_grounds =
        same ∙ ap (λ (d : Declarations). map (ground_by d.transactions) (map sited calls)) named
        ∙ ap (map (ground_of_sited (plain_workload workload))) calls_are

    pub is_grounding : (places : List (List ℕ)) → places ≡ call_places (plain_workload workload) → record { calls = made; places = places } ≡ grounding (plain_workload workload)
    unfolding definitions
    is_grounding places p = λ i. record { calls = are_grounds i; places = p i }

  pub calls_fit : (made : List GroundCall) → map plain_ground made ≡ map (ground_by names.transactions) (map sited calls) → length made < 2 ^ 32
  calls_fit made same =
      let h : length (ground_calls (plain_workload workload)) ≤ 1024 = (limited (plain_workload workload) accepted).grounds in
      let e : length made ≡ length (map sited calls) = sym (length-map made plain_ground) ∙ ap (λ (l : List Ground). length l) same ∙ length-map (map sited calls) (ground_by names.transactions) in
      let f : length (map sited calls) ≡ length (ground_calls (plain_workload workload)) = ap (λ (l : List SitedCall). length l) calls_are in
      omega arith

-- the clients in the code are the workload's
module _ (workload : Workload) (clients : List Client) (of : clients ≡ workload.clients.items) where
  pub their_calls : distinct_after [] (flat_map sited_calls_of (map plain_client clients)) ≡ ground_calls (plain_workload workload)
  unfolding meaning_definitions syntax_definitions
  their_calls = ap (λ (l : List Client). distinct_after [] (flat_map sited_calls_of (map plain_client l))) of

  pub their_places : places_among (distinct_after [] (flat_map sited_calls_of (map plain_client clients))) (map plain_client clients) ≡ call_places (plain_workload workload)
  unfolding meaning_definitions syntax_definitions
  their_places = ap (λ (l : List Client). places_among (distinct_after [] (flat_map sited_calls_of (map plain_client l))) (map plain_client l)) of
