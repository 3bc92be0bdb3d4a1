-- Relations placed one after another.
use Rattle.std.proofs.Common.{◌≡◌, ℕ, ◌+◌, ◌*◌, ◌<◌, ◌≤◌, ◌^◌, ℤ, pos, negsuc, List, [], ◌∷◌, ◌++◌, map, take, drop, get_or, length, All, SFits, w64, to_z, of_z, refl, sym, ap, ◌∙◌, subst, arith, add-one, drop_of_length-le}
use Rattle.std.specs.Int.RustNames.{unsigned_abs}
use Rattle.std.proofs.lemmas.Int.{to_z-of_z}
use Rattle.std.proofs.Math.Seq.{drop-cons}
use Rattle.std.proofs.lemmas.List.{length-map, map-append, take-append-drop}
use Rattle.std.proofs.lemmas.List.Elements.{All-nil, All-cons, All-head, All-tail}
use Rattle.std.proofs.lemmas.Simd.{map-map}
use Rattle.homeo_lemmas.proofs.Lists.{map_take_more}
use Rattle.homeo_syntax.specs.Key.{definitions as syntax_definitions}
use Rattle.homeo_syntax.specs.SourceView.{plain_relation}
use Rattle.homeo_syntax.specs.declared.workload.RelationDecl.{RelationDecl}
use Rattle.homeo_context.specs.declared.declarations.Placed.{Placed}
use Rattle.homeo_meaning.specs.Key.{definitions}
use Rattle.homeo_meaning.specs.Schema.{Relation, declared_range, declared_relation, nat_of}
use Rattle.homeo_meaning.specs.Context.{object_count}
use Rattle.homeo_context.specs.Placed.{placed_relation, StandFrom, HasSlots}
use Rattle.homeo_meaning.proofs.SoundRelations.{SlotsFit, count_grows}

-- ---- slots as the code counts them
size_is : (v : ℤ) → 1 ≤ nat_of v → unsigned_abs v ≡ nat_of v
size_is (pos n) h = refl
size_is (negsuc n) h = absurd (omega arith)

pub slots_are : (r : RelationDecl) → HasSlots r → SFits w64 r.slots.value → unsigned_abs (to_z w64 (of_z w64 r.slots.value)) ≡ nat_of r.slots.value
slots_are r h f = ap unsigned_abs (to_z-of_z w64 r.slots.value f) ∙ size_is r.slots.value h.least

pub have_slots : (rs : List RelationDecl) → All SlotsFit (map declared_relation (map plain_relation rs)) → All HasSlots rs
unfolding definitions syntax_definitions
have_slots [] h = All-nil HasSlots
have_slots (r ∷ rs) h =
    let here : SlotsFit (declared_relation (plain_relation r)) = All-head SlotsFit (declared_relation (plain_relation r)) (map declared_relation (map plain_relation rs)) h in
    All-cons HasSlots r rs (record { least = here.least; most = here.most }) (have_slots rs (All-tail SlotsFit (declared_relation (plain_relation r)) (map declared_relation (map plain_relation rs)) h))

-- ---- how many objects there are
count_both : (k : ℕ) (rs qs : List Relation) → object_count k (rs ++ qs) ≡ object_count (object_count k rs) qs
unfolding definitions
count_both k [] qs = refl
count_both k (r ∷ rs) qs = count_both (k + r.slots * (1 + length r.fields)) rs qs

count_more : (k : ℕ) (rs : List Relation) (r : Relation) → object_count k (rs ++ r ∷ []) ≡ object_count k rs + r.slots * (1 + length r.fields)
unfolding definitions
count_more k rs r = count_both k rs (r ∷ [])

abbrev declared : RelationDecl → Relation
declared r = declared_relation (plain_relation r)

declared_width : (r : RelationDecl) → (declared r).slots * (1 + length (declared r).fields) ≡ nat_of r.slots.value * (1 + length r.fields.items)
unfolding definitions syntax_definitions
declared_width r = ap (λ n. nat_of r.slots.value * (1 + n)) (length-map r.fields.items declared_range)

-- the objects behind one more relation are few
pub next_few : (first : ℕ) (rs : List RelationDecl) (i : ℕ) (r : RelationDecl) (ps : List Placed) (next : ℕ) → i < length rs → r ≡ get_or rs i r → map placed_relation ps ≡ map (λ q. declared_relation (plain_relation q)) (take i rs) → next ≡ object_count first (map placed_relation ps) → object_count first (map declared_relation (map plain_relation rs)) ≤ 1024 → next + nat_of r.slots.value * (1 + length r.fields.items) ≤ 1024
next_few first rs i r ps next h p placed at few =
    let taken : List RelationDecl = take (i + 1) rs in
    let rest : List RelationDecl = drop (i + 1) rs in
    let split : map declared rs ≡ map declared taken ++ map declared rest = ap (map declared) (sym (take-append-drop (i + 1) rs)) ∙ map-append declared taken rest in
    let whole : object_count first (map declared_relation (map plain_relation rs)) ≡ object_count (object_count first (map declared taken)) (map declared rest) = ap (object_count first) (map-map declared_relation plain_relation rs ∙ split) ∙ count_both first (map declared taken) (map declared rest) in
    let part : object_count first (map declared taken) ≤ object_count (object_count first (map declared taken)) (map declared rest) = count_grows (object_count first (map declared taken)) (map declared rest) in
    let step : object_count first (map declared taken) ≡ next + nat_of r.slots.value * (1 + length r.fields.items) = ap (object_count first) (map_take_more declared rs i r h p) ∙ count_more first (map declared (take i rs)) (declared r) ∙ (λ j. (ap (object_count first) (sym placed) ∙ sym at) j + declared_width r j) in
    omega arith

-- ---- relations and where they stand
behind_is : (k : ℕ) (p : Placed) → k + p.slots * (1 + length (map declared_range p.fields.items)) ≡ k + p.slots * (1 + length p.fields.items)
behind_is k p = ap (λ n. k + p.slots * (1 + n)) (length-map p.fields.items declared_range)

stand_more : (k : ℕ) (ps : List Placed) (p : Placed) → StandFrom k ps → p.first ≡ object_count k (map placed_relation ps) → p.first + p.slots * (1 + length p.fields.items) < 2 ^ 32 → StandFrom k (ps ++ p ∷ [])
unfolding definitions
stand_more k [] p h at small = (at, subst (λ m. m + p.slots * (1 + length p.fields.items) < 2 ^ 32) at small, tt)
stand_more k (q ∷ ps) p h at small =
    (h.0, h.1, stand_more (k + q.slots * (1 + length q.fields.items)) ps p h.2 (at ∙ ap (λ m. object_count m (map placed_relation ps)) (behind_is k q)) small)

pub record PlaceStep (first : ℕ) (rs : List RelationDecl) (i next : ℕ) (items : List Placed) : Type 0 where
  pub placed : map placed_relation items ≡ map (λ q. declared_relation (plain_relation q)) (take (i + 1) rs)
  pub stand : StandFrom first items
  pub at : next ≡ object_count first (map placed_relation items)

pub place_step : (first : ℕ) (rs : List RelationDecl) (i : ℕ) (r : RelationDecl) (ps : List Placed) (next : ℕ) (p : Placed) (after : ℕ) (items : List Placed) → i < length rs → r ≡ get_or rs i r → map placed_relation ps ≡ map (λ q. declared_relation (plain_relation q)) (take i rs) → StandFrom first ps → next ≡ object_count first (map placed_relation ps) → object_count first (map declared_relation (map plain_relation rs)) ≤ 1024 → items ≡ ps ++ p ∷ [] → p.name ≡ r.name.name → p.first ≡ next → p.slots ≡ nat_of r.slots.value → p.fields.items ≡ r.fields.items → after ≡ next + p.slots * (1 + length p.fields.items) → PlaceStep first rs i after items
unfolding definitions syntax_definitions
place_step first rs i r ps next p after items h e placed stand at few added name start slots fields behind =
    let is : placed_relation p ≡ declared r = λ j. record { name = name j; slots = slots j; fields = map declared_range (fields j) } in
    let now : map placed_relation items ≡ map placed_relation ps ++ placed_relation p ∷ [] = ap (map placed_relation) added ∙ map-append placed_relation ps (p ∷ []) in
    let width : p.slots * (1 + length p.fields.items) ≡ nat_of r.slots.value * (1 + length r.fields.items) = λ j. slots j * (1 + length (fields j)) in
    let small : next + nat_of r.slots.value * (1 + length r.fields.items) ≤ 1024 = next_few first rs i r ps next h e placed at few in
    let own : (placed_relation p).slots * (1 + length (placed_relation p).fields) ≡ p.slots * (1 + length p.fields.items) = ap (λ n. p.slots * (1 + n)) (length-map p.fields.items declared_range) in
    record {
      placed = now ∙ (λ j. placed j ++ is j ∷ []) ∙ sym (map_take_more declared rs i r h e);
      stand = subst (StandFrom first) (sym added) (stand_more first ps p stand (start ∙ at) (omega arith));
      at = behind ∙ (λ j. at j + sym own j) ∙ sym (count_more first (map placed_relation ps) (placed_relation p)) ∙ ap (object_count first) (sym now);
    }

-- ---- the objects counted along the relations
abbrev pub behind : ℕ → Placed → ℕ → ℕ
behind k p fields = k + p.slots * (1 + fields)

next_is : (ps : List Placed) (i : ℕ) (p : Placed) → i < length ps → p ≡ get_or ps i p → drop i ps ≡ p ∷ drop (i + 1) ps
next_is ps i p h e =
    let front : drop i ps ≡ get_or ps i p ∷ drop (i + 1) ps = rw add-one (drop-cons ps i p h) in
    front ∙ ap (λ q. q ∷ drop (i + 1) ps) (sym e)

pub stand_next : (ps : List Placed) (i k fields : ℕ) (p : Placed) → i < length ps → p ≡ get_or ps i p → fields ≡ length p.fields.items → StandFrom k (drop i ps) → (behind k p fields < 2 ^ 32) × StandFrom (behind k p fields) (drop (i + 1) ps)
unfolding definitions
stand_next ps i k fields p h e f stand =
    let here : StandFrom k (p ∷ drop (i + 1) ps) = subst (StandFrom k) (next_is ps i p h e) stand in
    subst (λ n. (behind k p n < 2 ^ 32) × StandFrom (behind k p n) (drop (i + 1) ps)) (sym f) (here.1, here.2)

pub count_next : (ps : List Placed) (i k fields whole : ℕ) (p : Placed) → i < length ps → p ≡ get_or ps i p → fields ≡ length p.fields.items → object_count k (map placed_relation (drop i ps)) ≡ whole → object_count (behind k p fields) (map placed_relation (drop (i + 1) ps)) ≡ whole
unfolding definitions
count_next ps i k fields whole p h e f left =
    ap (λ n. object_count n (map placed_relation (drop (i + 1) ps))) (ap (behind k p) f ∙ sym (behind_is k p))
    ∙ sym (ap (λ l. object_count k (map placed_relation l)) (next_is ps i p h e))
    ∙ left

pub counted_all : (ps : List Placed) (i k whole : ℕ) → length ps ≤ i → object_count k (map placed_relation (drop i ps)) ≡ whole → k ≡ whole
unfolding definitions
counted_all ps i k whole h left = sym (ap (λ l. object_count k (map placed_relation l)) (drop_of_length-le ps h)) ∙ left
