-- What a map of places has at each location.
use Rattle.std.proofs.Common.{Bor, ◌≡◌, Bool, true, false, cond, Option, Some, None, List, [], ◌∷◌, refl, sym, ap, ap₂, ◌∙◌, subst}
use Rattle.std.specs.HashMap.{HashMap, get, get_by}
use Rattle.std.specs.List.{AllZip}
use Rattle.std.specs.Map.{lookup}
use Rattle.std.specs.Option.{option_map, option_copied}
use Rattle.homeo_meaning.specs.Key.{definitions as meaning_definitions}
use Rattle.homeo_meaning.specs.LowMeaning.{Location, same_location, put}
use Rattle.homeo_split.specs.contracts.places.PlacePartialEq.TheImpl.{ghosts}
use Rattle.homeo_split.specs.declared.places.Place.{Place}
use Rattle.homeo_split.specs.Places.{plain_place}
use Rattle.homeo_split.proofs.SamePlaces.{is_at, at_each_place, same-places}

map-choice : {X Y : Type 0} (f : X → Y) (b : Bool) (v : X) (o : Option X) → option_map f (cond b (Some v) o) ≡ cond b (Some (f v)) (option_map f o)
map-choice f true v o = refl
map-choice f false v o = refl

-- a value stands at its place, and the others stay
pub put-at :
    {X S : Type 0} (m n : HashMap Place X S) (k : Place) (v : X) → ((q : Place) → get ghosts.eq n q ≡ cond (ghosts.eq k q) (Some v) (get ghosts.eq m q)) →
    (l : Location) → get_by (is_at l) n ≡ cond (same_location (plain_place k) l) (Some v) (get_by (is_at l) m)
put-at m n k v h =
    let s : ghosts.eq ≡ (λ a b. is_at (plain_place a) b) = λ i a b. same-places a b i in
    let h' = subst (λ (e : Place → Place → Bool). (q : Place) → get e n q ≡ cond (e k q) (Some v) (get e m q)) s h in
    at_each_place (λ l. get_by (is_at l) n ≡ cond (same_location (plain_place k) l) (Some v) (get_by (is_at l) m)) h'

pub bound-put :
    {X Y S : Type 0} (f : X → Y) (m n : HashMap Place X S) (k : Place) (v : X) → ((q : Place) → get ghosts.eq n q ≡ cond (ghosts.eq k q) (Some v) (get ghosts.eq m q)) →
    (λ l. option_map f (get_by (is_at l) n)) ≡ put (λ l. option_map f (get_by (is_at l) m)) (plain_place k) (Some (f v))
unfolding meaning_definitions
bound-put f m n k v h =
    λ i l. (ap (option_map f) (put-at m n k v h l) ∙ map-choice f (same_location (plain_place k) l) v (get_by (is_at l) m)) i

pub map-copied : {X Y : Type 0} (f : X → Y) (o : Option (Bor X)) → option_map (λ e. f e.now) o ≡ option_map f (option_copied o)
map-copied f None = refl
map-copied f (Some e) = refl

pub get-at : {X S : Type 0} (m : HashMap Place X S) (k : Place) (o : Option X) → o ≡ get ghosts.eq m k → o ≡ get_by (is_at (plain_place k)) m
get-at m k o h =
    let test : ghosts.eq k ≡ is_at (plain_place k) = λ i p. same-places k p i in
    h ∙ ap (λ t. get_by t m) test

pub bound-at :
    {X Y S : Type 0} (f : X → Y) (m : HashMap Place X S) (k : Place) (o : Option X) → o ≡ get ghosts.eq m k →
    option_map f o ≡ option_map f (get_by (is_at (plain_place k)) m)
bound-at f m k o h = ap (option_map f) (get-at m k o h)

pub bound-same :
    {X Y Z : Type 0} (f : X → Y) (g : Y → Z) (es fs : List (Place × X)) → AllZip (λ p q. (q.0 ≡ p.0) × (f q.1 ≡ f p.1)) es fs →
    (test : Place → Bool) → option_map (λ x. g (f x)) (lookup test fs) ≡ option_map (λ x. g (f x)) (lookup test es)
bound-same f g [] [] h test = refl
bound-same f g [] (q ∷ qs) h test = absurd h
bound-same f g (p ∷ ps) [] h test = absurd h
bound-same f g (p ∷ ps) (q ∷ qs) h test =
    map-choice (λ x. g (f x)) (test q.0) q.1 (lookup test qs)
    ∙ ap₂ (λ k v. cond (test k) (Some (g v)) (option_map (λ x. g (f x)) (lookup test qs))) h.0.0 h.0.1
    ∙ ap (cond (test p.0) (Some (g (f p.1)))) (bound-same f g ps qs h.1 test)
    ∙ sym (map-choice (λ x. g (f x)) (test p.0) p.1 (lookup test ps))
