-- Rooms at their places, and rooms that take one visit more.
use Rattle.std.proofs.Common.{◌≡◌, ◌⊎◌, inl, inr, ⊎_elim, ℕ, ◌+◌, ◌<◌, ◌≤◌, List, [], length, get_or, ℤ, pos, ◌+ℤ◌, ◌≤ℤ◌, FitsSigned, sym, ◌∙◌, subst, arith}
use Rattle.std.specs.Int.{w128}
use Rattle.std.proofs.Math.ListN.{set}
use Rattle.std.proofs.lemmas.List.{length-set, get_or-set_same}
use Rattle.std.proofs.lemmas.Bool.{cases_eq}
use Rattle.homeo_plan.specs.Key.{definitions as plan_definitions}
use Rattle.homeo_plan.specs.Config.{total}
use Rattle.homeo_plan.specs.Template.{Clause}
use Rattle.homeo_outline.specs.Numbers.{has}
use Rattle.homeo_outline.specs.ObjectPlan.{template_in}
use Rattle.homeo_outline.specs.declared.plan.ObjectPlan.{ObjectPlan}
use Rattle.homeo_forecast.specs.Peaks.{peaks}
use Rattle.homeo_forecast.specs.Visits.{Visit}
use Rattle.homeo_forecast.specs.declared.rooms.Room.{Room}
use Rattle.homeo_forecast.specs.inner.Raising.{CanTest, CanRaise, EitherRooms, Raises, with_own}
use Rattle.homeo_forecast.specs.inner.Replays.{CanBound}
use Rattle.homeo_forecast.specs.inner.Rooms.{HasRoom, HaveRooms, IsOpen}
use Rattle.homeo_forecast.proofs.Lists.{each_there, set_apart}
use Rattle.homeo_forecast.proofs.RoomSteps.{is_open, bound_fits}

-- ---- rooms at their places
abbrev none : Clause
none = record { terms = []; slack = pos 0 }

pub room_at :
    (k : ℕ) (vs : List Visit) (cs : List Clause) (rs : List Room) (n : ℕ) (d : Clause) (r : Room) → HaveRooms k vs cs rs → n < length rs →
    r ≡ get_or rs n r → HasRoom k vs (get_or cs n d) r
room_at k vs cs rs n d r have lt is =
    subst (HasRoom k vs (get_or cs n d)) (sym is) (have.each n d r (omega (arith, lt, have.count)))

pub bound_there :
    (rs : List Room) (n : ℕ) (r : Room) → CanBound rs → n < length rs → r ≡ get_or rs n r →
    (0 < length r.peaks.items) × FitsSigned w128 (r.room +ℤ get_or r.peaks.items 0 (pos 0))
unfolding plan_definitions
bound_there rs n r can lt is =
    let below : n < length can.clauses = omega (arith, lt, can.rooms.count) in
    bound_fits can.sites can.visits (get_or can.clauses n none) r (room_at can.sites can.visits can.clauses rs n none r can.rooms lt is)
    (each_there (λ (d : Clause). total (peaks can.sites can.visits d) ≤ℤ d.slack) can.clauses n none below can.fit) can.some

module _ (p : ObjectPlan) (site : ℕ) (deltas : List ℤ) where
  abbrev k : ℕ
  k = p.outline.value.sites

  abbrev cs : List Clause
  cs = (template_in p).clauses

  pub room_below : (rs : List Room) (n : ℕ) → CanTest p rs site deltas → n < length cs → n < length rs
  room_below rs n can lt = subst (λ m. n < m) (sym can.rooms.count) lt

  pub open_there : (rs : List Room) (n : ℕ) (r : Room) → CanTest p rs site deltas → n < length cs → r ≡ get_or rs n r → IsOpen site r
  unfolding plan_definitions
  open_there rs n r can lt is =
      is_open k can.visits (get_or cs n none) site r (room_at k can.visits cs rs n none r can.rooms (room_below rs n can lt) is)
      (each_there (λ (d : Clause). total (peaks k can.visits d) ≤ℤ d.slack) cs n none lt can.fit) can.sums.below

  -- ---- raising
  pub raised_below : (rs : List Room) (n : ℕ) → CanRaise p rs site deltas → n < length cs → n < length rs
  raised_below rs n can lt = subst (λ m. n < m) (sym can.rooms.count) lt

  -- a room is open whether or not it has taken the visit
  pub open_now : (rs : List Room) (n : ℕ) (r : Room) → CanRaise p rs site deltas → n < length cs → IsOpen site (get_or rs n r)
  unfolding plan_definitions
  open_now rs n r can lt =
      ⊎_elim
      (λ old. is_open k can.visits (get_or cs n none) site (get_or rs n r) old
      (each_there (λ (d : Clause). total (peaks k can.visits d) ≤ℤ d.slack) cs n none lt can.before) can.sums.below)
      (λ new. is_open k (with_own can.visits site deltas) (get_or cs n none) site (get_or rs n r) new
      (each_there (λ (d : Clause). total (peaks k (with_own can.visits site deltas) d) ≤ℤ d.slack) cs n none lt can.after) can.sums.below)
      (can.rooms.each n none r lt)

  pub still_can :
      (old new : List Room) (Looked : ℕ → Type 0) → ((vs : List Visit) → Raises p vs site deltas Looked old new) → CanRaise p old site deltas →
      CanRaise p new site deltas
  still_can old new Looked raises can =
      record { sums = can.sums; visits = can.visits; rooms = (raises can.visits).either can.rooms; before = can.before; after = can.after }

  module _ (vs : List Visit) where
    abbrev us : List Visit
    us = with_own vs site deltas

    pub either : (rs : List Room) → HaveRooms k vs cs rs → EitherRooms p vs site deltas rs
    either rs h = record { count = h.count; each = λ n c r lt. inl (h.each n c r lt) }

    pub no_raise : (rs : List Room) (Looked : ℕ → Type 0) → ((n : ℕ) → Looked n → ⊥) → Raises p vs site deltas Looked rs rs
    no_raise rs Looked none_is = record {
      either = λ h. h;
      stays = λ n c r h lt room. room;
      raised = λ n c r h lt looked. absurd (none_is n looked);
    }

    -- the room of one clause rises
    pub one_raise :
        (rs : List Room) (n : ℕ) (d r : Room) → n < length cs →
        ((c : Clause) → HasRoom k vs (get_or cs n c) (get_or rs n d) ⊎ HasRoom k us (get_or cs n c) (get_or rs n d) → HasRoom k us (get_or cs n c) r) →
        Raises p vs site deltas (λ m. m ≡ n) rs (set rs n r)
    one_raise rs n d r lt has = record {
      either = λ h. record {
        count = length-set rs n r ∙ h.count;
        each = λ m c q below. ⊎_elim
            (λ same. inr (there h m c q same))
            (λ apart. subst (λ x. HasRoom k vs (get_or cs m c) x ⊎ HasRoom k us (get_or cs m c) x) (sym (set_apart rs n m r q apart)) (h.each m c q below))
            (cases_eq m n);
      };
      stays = λ m c q h below room. ⊎_elim
          (λ same. there h m c q same)
          (λ apart. subst (HasRoom k us (get_or cs m c)) (sym (set_apart rs n m r q apart)) room)
          (cases_eq m n);
      raised = λ m c q h below same. there h m c q same;
    }
      where
        there : EitherRooms p vs site deltas rs → (m : ℕ) (c : Clause) (q : Room) → m ≡ n → HasRoom k us (get_or cs m c) (get_or (set rs n r) m q)
        there h m c q same =
            subst (λ j. HasRoom k us (get_or cs j c) (get_or (set rs n r) j q)) (sym same)
            (subst (HasRoom k us (get_or cs n c)) (sym (get_or-set_same rs n r q (subst (λ j. n < j) (sym h.count) lt))) (has c (h.each n c d lt)))

    -- one more step, after which more were looked at
    pub more_raised :
        (first old new : List Room) (P Q All : ℕ → Type 0) → ((n : ℕ) → n < length cs → All n → P n ⊎ Q n) → Raises p vs site deltas P first old →
        Raises p vs site deltas Q old new → Raises p vs site deltas All first new
    more_raised first old new P Q All split a b = record {
      either = λ h. b.either (a.either h);
      stays = λ n c r h lt room. b.stays n c r (a.either h) lt (a.stays n c r h lt room);
      raised = λ n c r h lt all.
          ⊎_elim (λ l. b.stays n c r (a.either h) lt (a.raised n c r h lt l)) (λ l. b.raised n c r (a.either h) lt l) (split n lt all);
    }

    -- fewer were looked at
    pub fewer_raised : (old new : List Room) (P Q : ℕ → Type 0) → ((n : ℕ) → Q n → P n) → Raises p vs site deltas P old new → Raises p vs site deltas Q old new
    fewer_raised old new P Q within a =
        record { either = a.either; stays = a.stays; raised = λ n c r h lt q. a.raised n c r h lt (within n q) }
