-- Lists of what sites have said, as the code goes over them.
use Rattle.std.proofs.Common.{◌≡◌, ℕ, suc, ◌+◌, ◌<◌, List, [], ◌∷◌, ◌++◌, map, length, take, get_or, Option, Some, None, refl, sym, ap, ◌∙◌, arith, append_assoc}
use Rattle.std.specs.Prelude.{option_map}
use Rattle.std.proofs.lemmas.List.{map-append, length-map}
use Rattle.homeo_lemmas.proofs.Lists.{length_take, map_take_more}
use Rattle.homeo_nodes.specs.Nodes as n
use Rattle.homeo_nodes.specs.Nodes.{State, all_of, of_states}
use Rattle.homeo_carry.specs.CarryView.{plain_said}
use Rattle.homeo_carry.specs.declared.said.Said.{Said}
use Rattle.homeo_live.specs.declared.packet.Packet.{Packet}
use Rattle.homeo_live.specs.LiveView.{plain_state, plain_packet}

-- one more that is there
all_more : {X : Type 0} (x y : X) (o more : Option (List X)) (ys : List X) → option_map (λ l. x ∷ l) o ≡ Some ys → ((zs : List X) → o ≡ Some zs → more ≡ Some (zs ++ y ∷ [])) → option_map (λ l. x ∷ l) more ≡ Some (ys ++ y ∷ [])
all_more x y None more ys e rest = absurd (cc)
all_more x y (Some zs) more ys e rest =
    let same : x ∷ zs ≡ ys = cc in ap (option_map (λ l. x ∷ l)) (rest zs refl) ∙ ap (λ l. Some (l ++ y ∷ [])) same

all_push : {X : Type 0} (xs : List (Option X)) (ys : List X) (y : X) → all_of xs ≡ Some ys → all_of (xs ++ Some y ∷ []) ≡ Some (ys ++ y ∷ [])
all_push [] ys y e = let same : [] ≡ ys = cc in ap (λ l. Some (l ++ y ∷ [])) same
all_push (None ∷ xs) ys y e = absurd (cc)
all_push (Some x ∷ xs) ys y e = all_more x y (all_of xs) (all_of (xs ++ Some y ∷ [])) ys e (λ zs f. all_push xs zs y f)

-- a list with one item more, seen through f
pub pushed : {A B : Type 0} (f : A → B) (xs : List A) (i : ℕ) (x : A) (now next : List A) (y : A) → i < length xs → x ≡ get_or xs i x → next ≡ now ++ y ∷ [] → f y ≡ f x → map f now ≡ map f (take i xs) → map f next ≡ map f (take (i + 1) xs)
pushed f xs i x now next y lt is push same so =
    ap (map f) push ∙ map-append f now (y ∷ []) ∙ ap (λ l. l ++ f y ∷ []) so ∙ ap (λ z. map f (take i xs) ++ z ∷ []) same ∙ sym (map_take_more f xs i x lt is)

pub kept_next : (xs : List (Option Said)) (i : ℕ) (x : Option Said) (z : Said) (now next : List Said) (y : Said) → i < length xs → x ≡ get_or xs i x → x ≡ Some z → next ≡ now ++ y ∷ [] → plain_said y ≡ plain_said z → all_of (map plain_state (take i xs)) ≡ Some (map plain_said now) → all_of (map plain_state (take (i + 1) xs)) ≡ Some (map plain_said next)
kept_next xs i x z now next y lt is some push same so =
    let state : plain_state x ≡ Some (plain_said y) = ap plain_state some ∙ ap Some (sym same) in
    ap all_of (map_take_more plain_state xs i x lt is ∙ ap (λ s. map plain_state (take i xs) ++ s ∷ []) state)
    ∙ all_push (map plain_state (take i xs)) (map plain_said now) (plain_said y) so
    ∙ ap Some (sym (ap (map plain_said) push ∙ map-append plain_said now (y ∷ [])))

-- ---- states that are sent
pub states_push : (round site : ℕ) (xs : List n.Said) (d : n.Said) → of_states round site (xs ++ d ∷ []) ≡ of_states round site xs ++ State round (site + length xs) d ∷ []
states_push round site [] d = ap (λ k. State round k d ∷ []) (let e : site ≡ site + 0 = omega arith in e)
states_push round site (x ∷ xs) d =
    ap (λ l. State round site x ∷ l) (states_push round (suc site) xs d ∙ ap (λ k. of_states round (suc site) xs ++ State round k d ∷ []) (let e : suc site + length xs ≡ site + suc (length xs) = omega arith in e))

pub sent_next : (before : List n.Packet) (round i : ℕ) (xs : List Said) (x : Said) (now next : List Packet) (p : Packet) → i < length xs → x ≡ get_or xs i x → next ≡ now ++ p ∷ [] → plain_packet p ≡ n.State round i (plain_said x) → map plain_packet now ≡ before ++ of_states round 0 (map plain_said (take i xs)) → map plain_packet next ≡ before ++ of_states round 0 (map plain_said (take (i + 1) xs))
sent_next before round i xs x now next p lt is push packet so =
    let count : 0 + length (map plain_said (take i xs)) ≡ i = let a = length-map (take i xs) plain_said in let b = length_take xs i lt in omega (arith, a, b) in
    ap (map plain_packet) push ∙ map-append plain_packet now (p ∷ [])
    ∙ ap (λ l. l ++ plain_packet p ∷ []) so
    ∙ append_assoc before (of_states round 0 (map plain_said (take i xs))) (plain_packet p ∷ [])
    ∙ ap (λ q. before ++ (of_states round 0 (map plain_said (take i xs)) ++ q ∷ [])) (packet ∙ ap (λ k. n.State round k (plain_said x)) (sym count))
    ∙ ap (λ l. before ++ l) (sym (states_push round 0 (map plain_said (take i xs)) (plain_said x)))
    ∙ ap (λ l. before ++ of_states round 0 l) (sym (map_take_more plain_said xs i x lt is))
