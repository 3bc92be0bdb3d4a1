-- What is told of a run whose call can be ended, and of commands that stand behind one another.
use Rattle.std.proofs.Common.{◌≡◌, ℕ, ◌≤◌, Bool, true, false, cond, ◌&&◌, List, [], ◌∷◌, ◌++◌, ℤ, pos, refl, sym, ap, ap₂, ◌∙◌, subst, append-nil, arith}
use Rattle.std.specs.Ordering.{int_eq}
use Rattle.std.proofs.lemmas.Bool.{false≢true}
use Rattle.homeo_syntax.specs.Low as L
use Rattle.homeo_syntax.specs.Source.{Commands, NoCommand, MoreCommand}
use Rattle.homeo_meaning.specs.Key.{definitions}
use Rattle.homeo_meaning.specs.LowMeaning as M
use Rattle.homeo_meaning.specs.Context.{Slot, Context}
use Rattle.homeo_meaning.specs.Meaning.{State, Run, done, after_prints, then_do, is_used, visit}
use Rattle.homeo_meaning.specs.LForm.{Lifted, Made, unless_ended, guard, in_front, visits, form, forms}
use Rattle.homeo_lform.specs.Fresh.{flags, TakesFrom}
use Rattle.homeo_lform.proofs.Lifts.{seen, seen_run, quiet, at_fresh, Alike, Lifts, quiet_front}
use Rattle.homeo_lform.proofs.Loops.{loop_test, tested}
use Rattle.homeo_lform.proofs.Fresh.{Keeps, Allows, if_keeps, turn_run, turn_runs, turn_keeps}

-- the flag of a call that can be ended
abbrev pub flag_at : Bool → M.State → ℤ
unfolding definitions
flag_at true s = at_fresh 0 s
flag_at false s = pos 0

abbrev pub flag_of : Bool → ℤ
flag_of true = pos 1
flag_of false = pos 0

-- the source's state, what was printed, and the flag
pub record Told : Type 0 where
  pub state : State
  pub prints : List ℤ
  pub flag : ℤ

abbrev pub told_low : Bool → M.Run → Told
told_low b r = record { state = seen r.state; prints = r.prints; flag = flag_at b r.state }

abbrev pub told : Run → Told
told d = record { state = d.state; prints = d.prints; flag = flag_of d.ended }

-- the call goes on, and its fresh temporaries are taken from n on
pub record Ready (b : Bool) (n : ℕ) (s : M.State) : Type 0 where
  pub room : flags b ≤ n
  pub down : flag_at b s ≡ pos 0

-- ---- the flag
one_is_not_zero : pos 1 ≡ pos 0 → ⊥
one_is_not_zero e = false≢true (ap (λ z. int_eq z (pos 1)) (sym e))

flag_kept : (b : Bool) (n : ℕ) (s u : M.State) → flags b ≤ n → Keeps 0 n s u → flag_at b u ≡ flag_at b s
unfolding definitions
flag_kept true n s u le h = h 0 (omega arith) (omega (arith, le))
flag_kept false n s u le h = refl

pub ready_kept : (b : Bool) (n m : ℕ) (s u : M.State) → Ready b n s → Keeps 0 n s u → n ≤ m → Ready b m u
ready_kept b n m s u k h le = record { room = omega (arith, k.room, le); down = flag_kept b n s u k.room h ∙ k.down }

pub ready_alike : (b : Bool) (n m : ℕ) (s u : M.State) → Ready b n s → Alike n s u → n ≤ m → Ready b m u
ready_alike b n m s u k h le = ready_kept b n m s u k (λ j z lt. h.keeps j lt) le

-- where the flag is up, the call has one
pub flag_up : (b : Bool) (s : M.State) → flag_at b s ≡ pos 1 → (b ≡ true) × (at_fresh 0 s ≡ pos 1)
unfolding definitions
flag_up true s e = (refl, e)
flag_up false s e = absurd (one_is_not_zero (sym e))

-- ---- guards
pub guard_down : (b g : Bool) (c : L.Command) (s : M.State) → Allows b g → flag_at b s ≡ pos 0 → M.exec (guard g c) s ≡ M.exec c s
unfolding definitions
guard_down b false c s h e = refl
guard_down b true c s h e =
    ap (λ z. cond (int_eq z (pos 0) && true) (M.exec c s) (quiet s)) (subst (λ a. flag_at a s ≡ pos 0) (h refl) e)

turn_is : (b g : Bool) (before : L.Commands) (c : L.Command) (s a : M.State) → Allows b g → flag_at b s ≡ pos 0 → M.exec_all before s ≡ quiet a → turn_run g before c s a ≡ M.exec c a
unfolding definitions
turn_is b false before c s a h e runs = refl
turn_is b true before c s a h e runs = guard_down b true (in_front before c) s h e ∙ quiet_front before c s a runs

unless_up : (c : L.Command) (s : M.State) → at_fresh 0 s ≡ pos 1 → M.exec (unless_ended c) s ≡ quiet s
unfolding definitions
unless_up c s e = ap (λ z. cond (int_eq z (pos 0) && true) (M.exec c s) (quiet s)) e

pub forms_up : (w : Context) (cs : Commands) (n : ℕ) (s : M.State) → at_fresh 0 s ≡ pos 1 → M.exec_all (forms w true cs n).commands s ≡ quiet s
unfolding definitions
forms_up w NoCommand n s e = refl
forms_up w (MoreCommand c cs) n s e =
    let x = form w c n in
    let others = (forms w true cs x.next).commands in
    ap (λ (r : M.Run). M.after_prints r.prints (M.exec_all others r.state)) (unless_up x.command s e)
    ∙ forms_up w cs x.next s e

visits_up : (test : Slot → ℕ → Lifted L.Cond) (body : Slot → ℕ → Made) (all : List Slot) (n : ℕ) (s : M.State) → at_fresh 0 s ≡ pos 1 → M.exec_all (visits true true test body all n).commands s ≡ quiet s
unfolding definitions
visits_up test body [] n s e = refl
visits_up test body (slot ∷ more) n s e =
    let b = test slot n in
    let c = body slot b.next in
    let others = visits true true test body more c.next in
    ap (λ (r : M.Run). M.after_prints r.prints (M.exec_all others.commands r.state))
    (unless_up (in_front b.before (L.If (loop_test slot b.phrase) c.command L.Skip)) s e)
    ∙ visits_up test body more c.next s e

-- ---- what is told
-- of a run that sets no flag
pub calm : (b : Bool) (n : ℕ) (s : M.State) (r : M.Run) (d : Run) → Ready b n s → Keeps 0 n s r.state → seen_run r ≡ d → told_low b r ≡ told d
calm b n s r d k h e =
    let p : flag_at b r.state ≡ pos 0 = flag_kept b n s r.state k.room h ∙ k.down in
    (λ i. record { state = seen r.state; prints = r.prints; flag = p i }) ∙ ap told e

pub told_choice : (b v : Bool) (r r' : M.Run) (d d' : Run) → told_low b r ≡ told d → told_low b r' ≡ told d' → told_low b (cond v r r') ≡ told (cond v d d')
told_choice b true r r' d d' h k = h
told_choice b false r r' d d' h k = k

abbrev after_told : List ℤ → Told → Told
after_told ps t = record { state = t.state; prints = ps ++ t.prints; flag = t.flag }

-- of a run and then more commands, which do nothing where the call is ended
pub then_told : (b : Bool) (r : M.Run) (rest : L.Commands) (d : Run) (next : State → Run) → told_low b r ≡ told d
    → (d.ended ≡ true → M.exec_all rest r.state ≡ quiet r.state)
    → (d.ended ≡ false → told_low b (M.exec_all rest r.state) ≡ told (next d.state))
    → told_low b (M.after_prints r.prints (M.exec_all rest r.state)) ≡ told (then_do d next)
unfolding definitions
then_told b r rest d next first stop go_on = by_case d.ended refl
  where
    by_case : (e : Bool) → d.ended ≡ e → told_low b (M.after_prints r.prints (M.exec_all rest r.state)) ≡ told (cond e d (after_prints d.prints (next d.state)))
    by_case true e =
        ap (λ (q : M.Run). told_low b (M.after_prints r.prints q)) (stop e)
        ∙ (λ i. record { state = seen r.state; prints = append-nil r.prints i; flag = flag_at b r.state })
        ∙ first
    by_case false e =
        ap (after_told r.prints) (go_on e) ∙ ap (λ (t : Told). after_told t.prints (told (next d.state))) first

pub ended_up : (b : Bool) (r : M.Run) (d : Run) → told_low b r ≡ told d → d.ended ≡ true → (b ≡ true) × (at_fresh 0 r.state ≡ pos 1)
ended_up b r d h e = flag_up b r.state (ap (λ (t : Told). t.flag) h ∙ ap flag_of e)

pub goes_on : (b : Bool) (n : ℕ) (r : M.Run) (d : Run) → flags b ≤ n → told_low b r ≡ told d → d.ended ≡ false → Ready b n r.state
goes_on b n r d room h e = record { room = room; down = ap (λ (t : Told). t.flag) h ∙ ap flag_of e }

-- what keeps the flag doesn't end the call
pub not_ended : (b : Bool) (n : ℕ) (s : M.State) (r : M.Run) (d : Run) → Ready b n s → Keeps 0 n s r.state → told_low b r ≡ told d → d.ended ≡ true → ⊥
not_ended b n s r d k h e up =
    one_is_not_zero (sym (ap (λ (t : Told). t.flag) e ∙ ap flag_of up) ∙ flag_kept b n s r.state k.room h ∙ k.down)

-- ---- loops
module _ (b : Bool) (test : Slot → ℕ → Lifted L.Cond) (p : Slot → State → Bool) (tests : (slot : Slot) (m : ℕ) (s : M.State) → Lifts m s (test slot m) M.holds (p slot)) (later : Bool) (may : Allows b later) (body : Slot → ℕ → Made) (source : Slot → State → Run)
    (takes : (slot : Slot) (m : ℕ) (s : M.State) → TakesFrom (flags later) m (body slot m).next s (M.exec (body slot m).command s).state)
    (bodies : (slot : Slot) (m : ℕ) (s : M.State) → Ready b m s → told_low b (M.exec (body slot m).command s) ≡ told (source slot (seen s))) where
  abbrev pub if_else : Slot → ℕ → L.Command
  unfolding definitions
  if_else slot m = L.If (loop_test slot (test slot m).phrase) (body slot (test slot m).next).command L.Skip

  -- the commands of a slot do what is done at a visit
  pub slot_told : (slot : Slot) (g : Bool) (m : ℕ) (s : M.State) → Allows b g → Ready b m s
      → told_low b (turn_run g (test slot m).before (if_else slot m) s (tests slot m s).after) ≡ told (cond (is_used (seen s) slot && p slot (seen s)) (source slot (seen s)) (done (seen s)))
  unfolding definitions
  slot_told slot g m s h ready =
      let x = test slot m in
      let k = tests slot m s in
      let now = ready_alike b m m s k.after ready k.alike (omega arith) in
      ap (told_low b) (turn_is b g x.before (if_else slot m) s k.after h ready.down k.runs)
      ∙ told_choice b (M.holds (loop_test slot x.phrase) k.after) (M.exec (body slot x.next).command k.after) (quiet k.after) (source slot (seen k.after)) (done (seen k.after))
      (bodies slot x.next k.after (ready_alike b m x.next s k.after ready k.alike k.grows))
      (calm b m k.after (quiet k.after) (done (seen k.after)) now (λ j le lt. refl) refl)
      ∙ ap₂ (λ v t. told (cond v (source slot t) (done t))) (tested slot (p slot) m s x k) k.alike.sees

  -- a body that keeps the flag doesn't end the call
  slot_keeps : later ≡ false → (slot : Slot) (g : Bool) (m : ℕ) (s : M.State) → Keeps 0 m s (turn_run g (test slot m).before (if_else slot m) s (tests slot m s).after).state
  unfolding definitions
  slot_keeps e slot g m s =
      let x = test slot m in
      let k = tests slot m s in
      let kept = (subst (λ z. TakesFrom (flags z) x.next (body slot x.next).next k.after (M.exec (body slot x.next).command k.after).state) e (takes slot x.next k.after)).keeps in
      let inner : Keeps 0 x.next k.after (M.exec (if_else slot m) k.after).state =
      if_keeps 0 x.next k.after (M.holds (loop_test slot x.phrase) k.after) (M.exec (body slot x.next).command k.after) (quiet k.after) kept (λ j le lt. refl) in
      turn_keeps 0 m g x.before (if_else slot m) s k.after k.runs (λ j le lt. inner j le (omega (arith, k.grows)) ∙ k.alike.keeps j lt)

  pub loop_told : (all : List Slot) (g : Bool) (m : ℕ) (s : M.State) → Allows b g → Ready b m s → told_low b (M.exec_all (visits g later test body all m).commands s) ≡ told (visit p source all (seen s))
  unfolding definitions
  loop_told [] g m s h ready = calm b m s (quiet s) (done (seen s)) ready (λ j le lt. refl) refl
  loop_told (slot ∷ more) g m s h ready =
      let x = test slot m in
      let k = tests slot m s in
      let c = body slot x.next in
      let others = (visits later later test body more c.next).commands in
      let r = turn_run g x.before (if_else slot m) s k.after in
      let d : Run = cond (is_used (seen s) slot && p slot (seen s)) (source slot (seen s)) (done (seen s)) in
      let first = slot_told slot g m s h ready in
      let ends : d.ended ≡ true → later ≡ true = λ up. by_case slot g m s ready d first up later refl in
      ap (told_low b) (turn_runs g x.before (if_else slot m) others s k.after k.runs)
      ∙ then_told b r others d (visit p source more) first
      (λ up. subst (λ z. M.exec_all (visits z z test body more c.next).commands r.state ≡ quiet r.state) (sym (ends up)) (visits_up test body more c.next r.state (ended_up b r d first up).1))
      (λ on. loop_told more later c.next r.state may (goes_on b c.next r d (omega (arith, ready.room, k.grows, (takes slot x.next k.after).grows)) first on)
      ∙ ap (λ (t : Told). told (visit p source more t.state)) first)
    where
      by_case : (slot : Slot) (g : Bool) (m : ℕ) (s : M.State) → Ready b m s → (d : Run) → let r = turn_run g (test slot m).before (if_else slot m) s (tests slot m s).after in told_low b r ≡ told d → d.ended ≡ true → (z : Bool) → later ≡ z → later ≡ true
      by_case slot g m s ready d first up true e = e
      by_case slot g m s ready d first up false e =
          absurd (not_ended b m s (turn_run g (test slot m).before (if_else slot m) s (tests slot m s).after) d ready (slot_keeps e slot g m s) first up)
