-- What the absence of faults says.
use Rattle.std.proofs.Common.{◌≡◌, ℕ, suc, ◌+◌, ℤ, ◌≤ℤ◌, Bool, true, false, cond, not, ◌||◌, ◌==◌, List, [], ◌∷◌, ◌++◌, map, Option, Some, None, All, refl, sym, ap, subst, ◌∙◌, add-zero, zero-add, arith, append_assoc}
use Rattle.std.specs.Prelude.{slice_get, find, int_lt}
use Rattle.std.proofs.lemmas.List.Concat.{flat_map-append}
use Rattle.std.specs.List.{flat_map}
use Rattle.std.proofs.lemmas.List.Elements.{All-nil, All-cons}
use Rattle.homeo_lemmas.proofs.Integers.{not_less}
use Rattle.homeo_syntax.specs.Source as s
use Rattle.homeo_syntax.specs.declared.phrase.Ident.{Ident}
use Rattle.homeo_syntax.specs.declared.workload.ObjectDecl.{ObjectDecl}
use Rattle.homeo_meaning.specs.Key.{definitions}
use Rattle.homeo_meaning.specs.Schema.{declared_object, schema_of}
use Rattle.homeo_meaning.specs.Bounds.{bounds_of, AreIn}
use Rattle.homeo_meaning.specs.Serial.{transaction_named, arguments}
use Rattle.homeo_meaning.specs.Acceptance.{IsLightBody}
use Rattle.homeo_meaning.specs.inner.LightCalls.{IsLightCall}
use Rattle.homeo_meaning.specs.NameRules.{when, fault}
use Rattle.homeo_meaning.specs.GlobalNames.{GlobalName, SitedCall, numbered_from, first_named, scope_of, transaction_at, called, sited_calls_of, sited_calls}
use Rattle.homeo_meaning.specs.NumberRules.{range_faults, outside, object_faults, site_faults, same_ground, ground_calls}
use Rattle.homeo_meaning.specs.CallRules.{call_faults, client_faults}
use Rattle.homeo_meaning.specs.CallForm.{body_form, call_form}
use Rattle.homeo_meaning.specs.SizeRules.{heaviest, heavy_call, weight_faults}
use Rattle.homeo_meaning.specs.LowWeights.{first_weights, is_light}
use Rattle.homeo_meaning.specs.Declarations.{declarations, place_from, place_of}
use Rattle.homeo_meaning.specs.Faults.{declared_faults}
use Rattle.homeo_meaning.specs.declared.rules.Fault.{Fault}
use Rattle.homeo_meaning.specs.declared.rules.Item.{Item}
use Rattle.homeo_meaning.specs.declared.rules.Item.TheVariants as I
use Rattle.homeo_meaning.specs.declared.rules.Phase.{Phase}
use Rattle.homeo_meaning.specs.declared.rules.Phase.TheVariants as F
use Rattle.homeo_meaning.proofs.FaultParts.{none_first, none_second, NoDeclaredFault, declared_parts}
use Rattle.homeo_meaning.proofs.GroundCalls.{Every, spread, SameCall, same_call}

-- ---- small steps
no_fault : (p : Phase) (x : Ident) (b : Bool) → when (not b) (fault p x) ≡ [] → b ≡ true
no_fault p x true e = refl
no_fault p x false e = cc

-- each item of a list has no fault where the list has none
pub each-none : {A : Type 0} (rule : A → List Fault) (P : A → Type 0) → ((x : A) → rule x ≡ [] → P x) → (xs : List A) → flat_map rule xs ≡ [] → All P xs
each-none rule P h [] e = All-nil P
each-none rule P h (x ∷ xs) e = All-cons P x xs (h x (none_first (rule x) (flat_map rule xs) e)) (each-none rule P h xs (none_second (rule x) (flat_map rule xs) e))

-- ---- the initial database
not_below : (p : Phase) (n : ℕ) (a b : ℤ) (z : Bool) → when (int_lt a b || z) (record { phase = p; offset = n } ∷ []) ≡ [] → b ≤ℤ a
not_below p n a b z e = by_case (int_lt a b) refl e
  where
    by_case : (c : Bool) → int_lt a b ≡ c → when (c || z) (record { phase = p; offset = n } ∷ []) ≡ [] → b ≤ℤ a
    by_case true h e = cc
    by_case false h e = not_less a b h

not_above : (p : Phase) (n : ℕ) (z : Bool) (a b : ℤ) → when (z || int_lt a b) (record { phase = p; offset = n } ∷ []) ≡ [] → b ≤ℤ a
not_above p n true a b e = cc
not_above p n false a b e = by_case (int_lt a b) refl e
  where
    by_case : (c : Bool) → int_lt a b ≡ c → when c (record { phase = p; offset = n } ∷ []) ≡ [] → b ≤ℤ a
    by_case true h e = cc
    by_case false h e = not_less a b h

pub starts_in : (os : List ObjectDecl) → flat_map object_faults os ≡ [] → AreIn (map bounds_of (map declared_object os)) (map (λ d. d.start.value) os)
unfolding definitions
starts_in [] e = tt
starts_in (d ∷ os) e =
    let here : object_faults d ≡ [] = none_first (object_faults d) (flat_map object_faults os) e in
    let inside : outside d.lo d.hi d.start ≡ [] = none_second (range_faults d.lo d.hi) (outside d.lo d.hi d.start) here in
    ((not_below F.Bounds d.start.offset d.start.value d.lo.value (int_lt d.hi.value d.start.value) inside, not_above F.Bounds d.start.offset (int_lt d.start.value d.lo.value) d.hi.value d.start.value inside), starts_in os (none_second (object_faults d) (flat_map object_faults os) e))

-- ---- calls
pub record Names (ts : List s.Transaction) (i n k : ℕ) : Type 0 where
  pub place : ℕ
  pub after : k ≡ i + place
  pub found : find (λ (t : s.Transaction). t.name.name == n) ts ≡ slice_get ts place
  pub transaction : s.Transaction
  pub there : find (λ (t : s.Transaction). t.name.name == n) ts ≡ Some transaction
  pub first : place_from i (map (λ (t : s.Transaction). t.name.name) ts) n ≡ k

-- a number of a transaction
abbrev number_of : Option Item → Option ℕ
number_of (Some (I.Transaction k)) = Some k
number_of _ = None

others : (kind : ℕ → Item) → ((k : ℕ) → number_of (Some (kind k)) ≡ None) → (n i : ℕ) (xs : List Ident) (more : List GlobalName) (k : ℕ) → first_named (numbered_from kind i xs ++ more) n ≡ Some (I.Transaction k) → first_named more n ≡ Some (I.Transaction k)
unfolding definitions
others kind h n i [] more k e = e
others kind h n i (x ∷ xs) more k e = by_case (x.name == n) (others kind h n (i + 1) xs more k) e
  where
    by_case : (b : Bool) → (first_named (numbered_from kind (i + 1) xs ++ more) n ≡ Some (I.Transaction k) → first_named more n ≡ Some (I.Transaction k)) → cond b (Some (kind i)) (first_named (numbered_from kind (i + 1) xs ++ more) n) ≡ Some (I.Transaction k) → first_named more n ≡ Some (I.Transaction k)
    by_case true rest e = let no : None ≡ Some k = sym (h i) ∙ ap number_of e in cc
    by_case false rest e = rest e

no_client : (n i : ℕ) (xs : List Ident) (k : ℕ) → first_named (numbered_from I.Client i xs) n ≡ Some (I.Transaction k) → ⊥
unfolding definitions
no_client n i [] k e = cc
no_client n i (x ∷ xs) k e = by_case (x.name == n) (no_client n (i + 1) xs k) e
  where
    by_case : (b : Bool) → (first_named (numbered_from I.Client (i + 1) xs) n ≡ Some (I.Transaction k) → ⊥) → cond b (Some (I.Client i)) (first_named (numbered_from I.Client (i + 1) xs) n) ≡ Some (I.Transaction k) → ⊥
    by_case true rest e = let no : None ≡ Some k = ap number_of e in cc
    by_case false rest e = rest e

the_transaction : (n i : ℕ) (ts : List s.Transaction) (cs : List Ident) (k : ℕ) → first_named (numbered_from I.Transaction i (map (λ t. t.name) ts) ++ numbered_from I.Client 0 cs) n ≡ Some (I.Transaction k) → Names ts i n k
unfolding definitions
the_transaction n i [] cs k e = absurd (no_client n 0 cs k e)
the_transaction n i (t ∷ ts) cs k e = found_in (t.name.name == n) refl (the_transaction n (i + 1) ts cs k) e
  where
    names : List ℕ
    names = map (λ (u : s.Transaction). u.name.name) ts

    found_in : (b : Bool) → (t.name.name == n) ≡ b → (first_named (numbered_from I.Transaction (i + 1) (map (λ t. t.name) ts) ++ numbered_from I.Client 0 cs) n ≡ Some (I.Transaction k) → Names ts (i + 1) n k) → cond b (Some (I.Transaction i)) (first_named (numbered_from I.Transaction (i + 1) (map (λ t. t.name) ts) ++ numbered_from I.Client 0 cs) n) ≡ Some (I.Transaction k) → Names (t ∷ ts) i n k
    found_in true h rest e =
        let same : Some i ≡ Some k = ap number_of e in
        let is : i ≡ k = cc in
        record { place = 0; after = sym is ∙ sym (add-zero i); found = ap (λ (b : Bool). cond b (Some t) (find (λ (u : s.Transaction). u.name.name == n) ts)) h; transaction = t; there = ap (λ (b : Bool). cond b (Some t) (find (λ (u : s.Transaction). u.name.name == n) ts)) h; first = ap (λ (b : Bool). cond b i (place_from (suc i) names n)) h ∙ is }
    found_in false h rest e =
        let r : Names ts (i + 1) n k = rest e in
        let a : k ≡ i + 1 + r.place = r.after in
        let next : suc i ≡ i + 1 = omega arith in
        record { place = suc r.place; after = omega arith; found = ap (λ (b : Bool). cond b (Some t) (find (λ (u : s.Transaction). u.name.name == n) ts)) h ∙ r.found; transaction = r.transaction; there = ap (λ (b : Bool). cond b (Some t) (find (λ (u : s.Transaction). u.name.name == n) ts)) h ∙ r.there; first = ap (λ (b : Bool). cond b i (place_from (suc i) names n)) h ∙ ap (λ (j : ℕ). place_from j names n) next ∙ r.first }

pub names_of : (w : s.Workload) (n k : ℕ) → (scope_of w).item n ≡ Some (I.Transaction k) → Names w.transactions 0 n k
unfolding definitions
names_of w n k e =
    let o = numbered_from I.Object 0 (map (λ (d : ObjectDecl). d.name) w.objects) in
    let r = numbered_from I.Relation 0 (map (λ (d : s.RelationDecl). d.name) w.relations) in
    let t = numbered_from I.Transaction 0 (map (λ (d : s.Transaction). d.name) w.transactions) in
    let c = numbered_from I.Client 0 (map (λ (d : s.Client). d.name) w.clients) in
    let grouped : ((o ++ r) ++ t) ++ c ≡ o ++ (r ++ (t ++ c)) = append_assoc (o ++ r) t c ∙ append_assoc o r (t ++ c) in
    let e1 : first_named (o ++ (r ++ (t ++ c))) n ≡ Some (I.Transaction k) = ap (λ l. first_named l n) (sym grouped) ∙ e in
    let e2 : first_named (r ++ (t ++ c)) n ≡ Some (I.Transaction k) = others I.Object (λ k. refl) n 0 (map (λ (d : ObjectDecl). d.name) w.objects) (r ++ (t ++ c)) k e1 in
    let e3 : first_named (t ++ c) n ≡ Some (I.Transaction k) = others I.Relation (λ k. refl) n 0 (map (λ (d : s.RelationDecl). d.name) w.relations) (t ++ c) k e2 in
    the_transaction n 0 w.transactions (map (λ (d : s.Client). d.name) w.clients) k e3

pub named-is : (w : s.Workload) (n k : ℕ) → (scope_of w).item n ≡ Some (I.Transaction k) → transaction_named w n ≡ slice_get w.transactions k
unfolding definitions
named-is w n k e =
    let f : Names w.transactions 0 n k = names_of w n k e in
    let place : f.place ≡ k = sym (zero-add f.place) ∙ sym f.after in
    f.found ∙ ap (slice_get w.transactions) place

-- whose number is that of its name
pub place-is : (w : s.Workload) (n k : ℕ) → (scope_of w).item n ≡ Some (I.Transaction k) → place_of (declarations w).transactions n ≡ k
unfolding definitions
place-is w n k e = (names_of w n k e).first

-- a call without a fault names a transaction
pub names_one : (w : s.Workload) (c : s.Call) (g : Option Item) → call_faults w.transactions g c ≡ [] → (k : ℕ) × (g ≡ Some (I.Transaction k))
unfolding definitions
names_one w c None e = cc
names_one w c (Some (I.Transaction k)) e = (k, refl)
names_one w c (Some (I.Object k)) e = cc
names_one w c (Some (I.Relation k)) e = cc
names_one w c (Some (I.Client k)) e = cc

abbrev is_light_form : s.Workload → Option s.Transaction → List ℤ → Bool
unfolding definitions
is_light_form w o args = is_light heaviest (body_form w o args) (first_weights (schema_of w))

light_call : (w : s.Workload) (c : s.Call) → call_faults w.transactions ((scope_of w).item c.name.name) c ≡ [] → is_light_form w (called w c.name) (arguments c) ≡ true → IsLightCall w c
unfolding definitions
light_call w c e light =
    let k : (k : ℕ) × ((scope_of w).item c.name.name ≡ Some (I.Transaction k)) = names_one w c ((scope_of w).item c.name.name) e in
    let is : transaction_named w c.name.name ≡ slice_get w.transactions k.0 = named-is w c.name.name k.0 k.1 in
    let body : is_light_form w (slice_get w.transactions k.0) (arguments c) ≡ true = ap (λ g. is_light_form w (transaction_at w g) (arguments c)) (sym k.1) ∙ light in
    subst (λ o. IsLightBody w o (arguments c)) (sym is) body

abbrev sited : s.Call → ℤ → SitedCall
sited c site = record { name = c.name; args = arguments c; site = site }

-- a call whose L form is too heavy
abbrev heavy_form : s.Workload → SitedCall → List Fault
unfolding definitions
heavy_form w c = when (not (is_light_form w (called w c.name) c.args)) (fault F.Weight c.name)

module _ (w : s.Workload) where
  light_calls : (site : ℤ) (calls : List s.Call) → flat_map (λ (c : s.Call). call_faults w.transactions ((scope_of w).item c.name.name) c) calls ≡ [] → flat_map (heavy_form w) (map (λ (c : s.Call). sited c site) calls) ≡ [] → All (IsLightCall w) calls
  unfolding definitions
  light_calls site [] e heavy = All-nil (IsLightCall w)
  light_calls site (c ∷ calls) e heavy =
      let rest : List Fault = flat_map (heavy_form w) (map (λ (c : s.Call). sited c site) calls) in
      let more : List Fault = flat_map (λ (c : s.Call). call_faults w.transactions ((scope_of w).item c.name.name) c) calls in
      let first : List Fault = call_faults w.transactions ((scope_of w).item c.name.name) c in
      let light : is_light_form w (called w c.name) (arguments c) ≡ true = no_fault F.Weight c.name (is_light_form w (called w c.name) (arguments c)) (none_first (heavy_form w (sited c site)) rest heavy) in
      All-cons (IsLightCall w) c calls (light_call w c (none_first first more e) light) (light_calls site calls (none_second first more e) (none_second (heavy_form w (sited c site)) rest heavy))

  light_clients : (cs : List s.Client) → flat_map (client_faults w.sites (scope_of w) w.transactions) cs ≡ [] → flat_map (heavy_form w) (flat_map sited_calls_of cs) ≡ [] → All (λ client. All (IsLightCall w) client.calls) cs
  unfolding definitions
  light_clients [] e heavy = All-nil (λ client. All (IsLightCall w) client.calls)
  light_clients (c ∷ cs) e heavy =
      let faults : List Fault = flat_map (λ (call : s.Call). call_faults w.transactions ((scope_of w).item call.name.name) call) c.calls in
      let sites : List Fault = site_faults w.sites c.site in
      let more : List Fault = flat_map (client_faults w.sites (scope_of w) w.transactions) cs in
      let split : flat_map (heavy_form w) (sited_calls_of c) ++ flat_map (heavy_form w) (flat_map sited_calls_of cs) ≡ [] = sym (flat_map-append (heavy_form w) (sited_calls_of c) (flat_map sited_calls_of cs)) ∙ heavy in
      All-cons (λ (client : s.Client). All (IsLightCall w) client.calls) c cs (light_calls c.site.value c.calls (none_first faults sites (none_first (faults ++ sites) more e)) (none_first (flat_map (heavy_form w) (sited_calls_of c)) (flat_map (heavy_form w) (flat_map sited_calls_of cs)) split)) (light_clients cs (none_second (faults ++ sites) more e) (none_second (flat_map (heavy_form w) (sited_calls_of c)) (flat_map (heavy_form w) (flat_map sited_calls_of cs)) split))

-- ---- each call is as light as its ground call
light_ground : (w : s.Workload) (cs : List SitedCall) → flat_map (heavy_call w) cs ≡ [] → Every (λ c. is_light_form w (called w c.name) c.args ≡ true) cs
unfolding definitions
light_ground w [] e = tt
light_ground w (c ∷ cs) e =
    (no_fault F.Weight c.name (is_light heaviest (call_form w c) (first_weights (schema_of w))) (none_first (heavy_call w c) (flat_map (heavy_call w) cs) e), light_ground w cs (none_second (heavy_call w c) (flat_map (heavy_call w) cs) e))

light_alike : (w : s.Workload) (u k : SitedCall) → same_ground u k ≡ true → is_light_form w (called w k.name) k.args ≡ true → is_light_form w (called w u.name) u.args ≡ true
unfolding definitions
light_alike w u k e light =
    let same : SameCall u k = same_call u k e in
    (λ i. is_light_form w (transaction_at w ((scope_of w).item (same.name i))) (same.args i)) ∙ light

none_heavy : (w : s.Workload) (cs : List SitedCall) → Every (λ c. is_light_form w (called w c.name) c.args ≡ true) cs → flat_map (heavy_form w) cs ≡ []
unfolding definitions
none_heavy w [] h = refl
none_heavy w (c ∷ cs) h = (λ i. when (not (h.0 i)) (fault F.Weight c.name) ++ flat_map (heavy_form w) cs) ∙ none_heavy w cs h.1

pub all-light : (w : s.Workload) → declared_faults w ≡ [] → weight_faults w ≡ [] → All (λ client. All (IsLightCall w) client.calls) w.clients
unfolding definitions
all-light w e heavy =
    let p : NoDeclaredFault w = declared_parts w e in
    let light : Every (λ (c : SitedCall). is_light_form w (called w c.name) c.args ≡ true) (sited_calls w) = (spread (λ (c : SitedCall). is_light_form w (called w c.name) c.args ≡ true) (light_alike w) [] (sited_calls w) (light_ground w (ground_calls w) heavy)).all in
    light_clients w w.clients p.clients (none_heavy w (sited_calls w) light)
