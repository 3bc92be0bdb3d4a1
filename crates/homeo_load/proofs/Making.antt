-- One more call, and the list of all places.
use Rattle.std.proofs.Common.{◌≡◌, ◌<◌, ℕ, suc, ◌+◌, ◌-◌, ◌%◌, Bool, true, false, cond, List, [], ◌∷◌, ◌++◌, map, refl, sym, ap, ◌∙◌, append_assoc, arith}
use Rattle.std.specs.Prelude.{◌==◌}
use Rattle.std.specs.List.{range_with_len}
use Rattle.std.proofs.lemmas.List.{map-append}
use Rattle.std.proofs.lemmas.List.FromFn.{map-range_with_len_more}
use Rattle.homeo_syntax.specs.Listed.{Listed}
use Rattle.homeo_syntax.specs.Source as s
use Rattle.homeo_load.specs.Key.{definitions}
use Rattle.homeo_draws.specs.Draws.{next_state}
use Rattle.homeo_load.specs.Additions.{Addition, next_addition, additions}
use Rattle.homeo_load.specs.Load.{load_call, dealt}

put : (b : Bool) (x : Addition) (rest : List Addition) → map load_call (cond b (x ∷ rest) rest) ≡ cond b (load_call x ∷ []) [] ++ map load_call rest
put true x rest = refl
put false x rest = refl

deal_next : (client k state m : ℕ) → map load_call (dealt client k (additions state (suc m))) ≡ cond ((k % 8) == client) (load_call (next_addition state) ∷ []) [] ++ map load_call (dealt client (k + 1) (additions (next_state (next_state state)) m))
unfolding definitions
deal_next client k state m = put ((k % 8) == client) (next_addition state) (dealt client (k + 1) (additions (next_state (next_state state)) m))

pub deal_more : (before : List s.Call) (client k state n : ℕ) → k < n
    → (before ++ cond ((k % 8) == client) (load_call (next_addition state) ∷ []) []) ++ map load_call (dealt client (k + 1) (additions (next_state (next_state state)) (n - (k + 1))))
    ≡ before ++ map load_call (dealt client k (additions state (n - k)))
deal_more before client k state n l =
    let e : n - k ≡ suc (n - (k + 1)) = omega arith in
    append_assoc before (cond ((k % 8) == client) (load_call (next_addition state) ∷ []) []) (map load_call (dealt client (k + 1) (additions (next_state (next_state state)) (n - (k + 1)))))
    ∙ ap (λ c. before ++ c) (sym (deal_next client k state (n - (k + 1))) ∙ ap (λ m. map load_call (dealt client k (additions state m))) (sym e))

pub deal_step : (old new all : List s.Call) (client k state n object number after : ℕ) → k < n
    → object ≡ (next_addition state).object → number ≡ (next_addition state).number → after ≡ next_state (next_state state)
    → new ≡ old ++ cond ((k % 8) == client) (load_call (record { object = object; number = number }) ∷ []) []
    → old ++ map load_call (dealt client k (additions state (n - k))) ≡ all
    → new ++ map load_call (dealt client (k + 1) (additions after (n - (k + 1)))) ≡ all
deal_step old new all client k state n object number after l o m e p h =
    (λ t. p t ++ map load_call (dealt client (k + 1) (additions (e t) (n - (k + 1)))))
    ∙ (λ t. (old ++ cond ((k % 8) == client) (load_call (record { object = o t; number = m t }) ∷ []) []) ++ map load_call (dealt client (k + 1) (additions (next_state (next_state state)) (n - (k + 1)))))
    ∙ deal_more old client k state n l ∙ h

-- ---- one more place
pub place_more : {X Y : Type 0} (view : X → Y) (f : ℕ → Y) (old : List X) (x : X) (new : Listed X) (spare i : ℕ)
    → map view old ≡ map f (range_with_len 0 i) → view x ≡ f i → new ≡ record { items = old ++ x ∷ []; spare = spare } → map view new.items ≡ map f (range_with_len 0 (i + 1))
place_more view f old x new spare i h e p =
    let same : 0 + i ≡ i = omega arith in
    ap (λ l. map view l.items) p ∙ map-append view old (x ∷ []) ∙ (λ t. h t ++ e t ∷ []) ∙ sym (map-range_with_len_more f 0 i i same)

pub item_more : {X : Type 0} (f : ℕ → X) (old : List X) (x : X) (new : Listed X) (spare i : ℕ)
    → old ≡ map f (range_with_len 0 i) → x ≡ f i → new ≡ record { items = old ++ x ∷ []; spare = spare } → new.items ≡ map f (range_with_len 0 (i + 1))
item_more f old x new spare i h e p =
    let same : 0 + i ≡ i = omega arith in
    ap (λ l. l.items) p ∙ (λ t. h t ++ e t ∷ []) ∙ sym (map-range_with_len_more f 0 i i same)
