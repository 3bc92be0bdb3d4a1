-- What is known of a request.
use Rattle.homeo_nodes.specs.Key.{definitions}
use Rattle.std.proofs.Common.{◌≡◌, ℕ, ◌<◌, ◌≤◌, List, length, Bool, true, false, cond, Option, Some, None, refl, ap, ◌∙◌, arith}
use Rattle.std.specs.Prelude.{nat_lt, ◌==◌, slice_index_or}
use Rattle.std.specs.List.{list_any}
use Rattle.std.proofs.lemmas.Bool.Decides.{nat_tests}
use Rattle.homeo_desk.specs.declared.output.Request.{Request}
use Rattle.homeo_desk.specs.DeskView.{DeskValue, Reply}
use Rattle.homeo_desk.specs.Requests.{Standing, Answered, Waits, Late, Full, New, is_same, is_later, if_room, among, after_last, standing}

-- ---- where a request is new there is room
room : (k : ℕ) → if_room k ≡ New → k < 64
unfolding definitions
room k e = go (nat_lt k 64) refl e
  where
    go : (t : Bool) → nat_lt k 64 ≡ t → cond t New Full ≡ New → k < 64
    go true f g = grind (arith, nat_tests)
    go false f g = absurd (cc)

by_queue : (queue : List Request) (r : Request) → among queue r ≡ New → length queue < 64
by_queue queue r e = go (list_any (is_same r) queue) (list_any (is_later r) queue) e
  where
    go : (s t : Bool) → cond s Waits (cond t Late (if_room (length queue))) ≡ New → length queue < 64
    go true t e = absurd (cc)
    go false true e = absurd (cc)
    go false false e = room (length queue) e

by_last : (queue : List Request) (r : Request) (o : Option Reply) → after_last queue r o ≡ New → length queue < 64
by_last queue r None e = by_queue queue r e
by_last queue r (Some last) e = go (r.number == last.number) (nat_lt r.number last.number) e
  where
    go : (s t : Bool) → cond s (Answered last) (cond t Late (among queue r)) ≡ New → length queue < 64
    go true t e = absurd (cc)
    go false true e = absurd (cc)
    go false false e = by_queue queue r e

pub new_has_room : (d : DeskValue) (r : Request) → standing d r ≡ New → length d.queue < 64
new_has_room d r e = by_last d.queue r (slice_index_or d.answered r.call.client None) e

-- ---- where no such request waits
module _ (queue : List Request) (r : Request) (same : list_any (is_same r) queue ≡ false) (later : list_any (is_later r) queue ≡ false) where
  by_room : (t : Bool) (x : Standing) → nat_lt (length queue) 64 ≡ t → cond t New Full ≡ x → among queue r ≡ x
  unfolding definitions
  by_room t x e is =
      ap (λ s. cond s Waits (cond (list_any (is_later r) queue) Late (cond (nat_lt (length queue) 64) New Full))) same
      ∙ ap (λ s. cond s Late (cond (nat_lt (length queue) 64) New Full)) later
      ∙ ap (λ s. cond s New Full) e ∙ is

  pub among_full : 64 ≤ length queue → among queue r ≡ Full
  among_full le = by_room false Full (grind (arith, nat_tests, le)) refl

  pub among_new : length queue < 64 → among queue r ≡ New
  among_new lt = by_room true New (grind (arith, nat_tests, lt)) refl
