-- Relations that stand one after another, looked up by name.
use Rattle.std.proofs.Common.{◌≡◌, ℕ, zero, suc, ◌+◌, ◌*◌, ◌<◌, ◌≤◌, ◌^◌, ◌==◌, Bool, true, false, cond, List, [], ◌∷◌, map, length, get_or, refl, sym, ap, ◌∙◌, subst, arith}
use Rattle.std.proofs.lemmas.List.{length-map}
use Rattle.homeo_syntax.specs.declared.workload.ObjectDecl.{ObjectDecl}
use Rattle.homeo_context.specs.declared.declarations.Placed.{Placed}
use Rattle.homeo_meaning.specs.Key.{definitions}
use Rattle.homeo_meaning.specs.Schema.{declared_object, declared_range}
use Rattle.homeo_meaning.specs.Context.{slots_from, find_slots, find_fields}
use Rattle.homeo_meaning.specs.Declarations.{place_from, place_of}
use Rattle.homeo_context.specs.Placed.{placed_relation, StandFrom}

-- what is found of the relation of a name
pub record Found (k : ℕ) (rs : List Placed) (n : ℕ) (r : Placed) : Type 0 where
  pub slots : find_slots k (map placed_relation rs) n ≡ slots_from 0 r.first (map declared_range r.fields.items) r.slots
  pub fields : find_fields (map placed_relation rs) n ≡ map declared_range r.fields.items
  pub counted : r.first + r.slots * (1 + length r.fields.items) < 2 ^ 32

pub record Nothing (k : ℕ) (rs : List Placed) (n : ℕ) : Type 0 where
  pub slots : find_slots k (map placed_relation rs) n ≡ []
  pub fields : find_fields (map placed_relation rs) n ≡ []

pub place_least : (j : ℕ) (ms : List ℕ) (n : ℕ) → j ≤ place_from j ms n
unfolding definitions
place_least j [] n = omega arith
place_least j (m ∷ ms) n = by_case (m == n) (place_least (suc j) ms n)
  where
    by_case : (b : Bool) → suc j ≤ place_from (suc j) ms n → j ≤ cond b j (place_from (suc j) ms n)
    by_case true h = omega arith
    by_case false h = omega arith

abbrev behind : ℕ → Placed → ℕ
behind k p = k + p.slots * (1 + length p.fields.items)

behind_is : (k : ℕ) (p : Placed) → k + p.slots * (1 + length (map declared_range p.fields.items)) ≡ behind k p
behind_is k p = ap (λ w. k + p.slots * (1 + w)) (length-map p.fields.items declared_range)

slots_next : (k n : ℕ) (p : Placed) (ps : List Placed) → (p.name == n) ≡ false → find_slots k (map placed_relation (p ∷ ps)) n ≡ find_slots (behind k p) (map placed_relation ps) n
unfolding definitions
slots_next k n p ps e =
    ap (λ b. cond b (slots_from 0 k (map declared_range p.fields.items) p.slots) (find_slots (k + p.slots * (1 + length (map declared_range p.fields.items))) (map placed_relation ps) n)) e
    ∙ ap (λ m. find_slots m (map placed_relation ps) n) (behind_is k p)

fields_next : (n : ℕ) (p : Placed) (ps : List Placed) → (p.name == n) ≡ false → find_fields (map placed_relation (p ∷ ps)) n ≡ find_fields (map placed_relation ps) n
unfolding definitions
fields_next n p ps e = ap (λ b. cond b (map declared_range p.fields.items) (find_fields (map placed_relation ps) n)) e

pub found : (k j n i : ℕ) (rs : List Placed) (r : Placed) → StandFrom k rs → place_from j (map (λ p. p.name) rs) n ≡ j + i → i < length rs → r ≡ get_or rs i r → Found k rs n r
unfolding definitions
found k j n i [] r stand at h p = absurd (omega arith)
found k j n i (q ∷ rs) r stand at h p = by_case (λ i. found (behind k q) (suc j) n i rs r stand.2) (q.name == n) refl i at h p
  where
    by_case : ((i : ℕ) → place_from (suc j) (map (λ p. p.name) rs) n ≡ suc j + i → i < length rs → r ≡ get_or rs i r → Found (behind k q) rs n r) → (b : Bool) → (q.name == n) ≡ b → (i : ℕ) → cond b j (place_from (suc j) (map (λ p. p.name) rs) n) ≡ j + i → i < suc (length rs) → r ≡ get_or (q ∷ rs) i r → Found k (q ∷ rs) n r
    by_case more true e zero at h p =
        let first : q.first ≡ k = stand.0 in
        let is : q ≡ r = sym p in
        let here : Found k (q ∷ rs) n q = record {
          slots = ap (λ b. cond b (slots_from 0 k (map declared_range q.fields.items) q.slots) (find_slots (k + q.slots * (1 + length (map declared_range q.fields.items))) (map placed_relation rs) n)) e ∙ ap (λ m. slots_from 0 m (map declared_range q.fields.items) q.slots) (sym first);
          fields = ap (λ b. cond b (map declared_range q.fields.items) (find_fields (map placed_relation rs) n)) e;
          counted = subst (λ m. m + q.slots * (1 + length q.fields.items) < 2 ^ 32) (sym first) stand.1;
        } in
        subst (Found k (q ∷ rs) n) is here
    by_case more true e (suc i) at h p = absurd (omega arith)
    by_case more false e zero at h p =
        let least : suc j ≤ place_from (suc j) (map (λ p. p.name) rs) n = place_least (suc j) (map (λ p. p.name) rs) n in absurd (omega arith)
    by_case more false e (suc i) at h p =
        let rest : Found (behind k q) rs n r = more i (at ∙ omega arith) (omega arith) p in
        record { slots = slots_next k n q rs e ∙ rest.slots; fields = fields_next n q rs e ∙ rest.fields; counted = rest.counted }

pub nothing : (k j n : ℕ) (rs : List Placed) → j + length rs ≤ place_from j (map (λ p. p.name) rs) n → Nothing k rs n
unfolding definitions
nothing k j n [] h = record { slots = refl; fields = refl }
nothing k j n (q ∷ rs) h = by_case (nothing (behind k q) (suc j) n rs) (q.name == n) refl h
  where
    by_case : (suc j + length rs ≤ place_from (suc j) (map (λ p. p.name) rs) n → Nothing (behind k q) rs n) → (b : Bool) → (q.name == n) ≡ b → j + suc (length rs) ≤ cond b j (place_from (suc j) (map (λ p. p.name) rs) n) → Nothing k (q ∷ rs) n
    by_case more true e h = absurd (omega arith)
    by_case more false e h =
        let rest : Nothing (behind k q) rs n = more (omega arith) in
        record { slots = slots_next k n q rs e ∙ rest.slots; fields = fields_next n q rs e ∙ rest.fields }

-- of the declared's own lists
pub found_in : (objects : List ObjectDecl) (rs : List Placed) (names : List ℕ) (n place : ℕ) (kept : List Placed) (r : Placed) → names ≡ map (λ p. p.name) rs → StandFrom (length objects) rs → place ≡ place_of names n → kept ≡ rs → place < length kept → r ≡ get_or kept place r → Found (length (map declared_object objects)) rs n r
unfolding definitions
found_in objects rs names n place kept r named stand at e h p =
    let where_is : place_from 0 (map (λ p. p.name) rs) n ≡ 0 + place = sym (ap (λ l. place_of l n) named) ∙ sym at ∙ omega arith in
    subst (λ k. Found k rs n r) (sym (length-map objects declared_object)) (found (length objects) 0 n place rs r stand where_is (subst (λ l. place < length l) e h) (p ∙ ap (λ l. get_or l place r) e))

pub nothing_in : (objects : List ObjectDecl) (rs : List Placed) (names : List ℕ) (n place : ℕ) (kept : List Placed) → names ≡ map (λ p. p.name) rs → place ≡ place_of names n → kept ≡ rs → length kept ≤ place → Nothing (length (map declared_object objects)) rs n
unfolding definitions
nothing_in objects rs names n place kept named at e h =
    let where_is : place ≡ place_from 0 (map (λ p. p.name) rs) n = at ∙ ap (λ l. place_of l n) named in
    let past : length rs ≤ place = subst (λ l. length l ≤ place) e h in
    nothing (length (map declared_object objects)) 0 n rs (omega arith)
