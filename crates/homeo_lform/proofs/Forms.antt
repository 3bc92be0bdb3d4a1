-- Every L form does what the source does.
use Rattle.std.proofs.Common.{◌≡◌, ℕ, Bool, true, false, cond, ◌||◌, [], ◌∷◌, ℤ, pos, refl, sym, ap, ap₂, ◌∙◌, subst, arith}
use Rattle.std.proofs.lemmas.Bool.{false≢true, or_right}
use Rattle.homeo_syntax.specs.declared.low.Temp.TheVariants as temp
use Rattle.homeo_syntax.specs.Low as L
use Rattle.homeo_syntax.specs.Source.{Command, Commands, Skip, Assign, Write, Print, If, Block, SetField, SetRow, Foreach, Insert, Delete, Update, Abort, NoCommand, MoreCommand}
use Rattle.homeo_meaning.specs.Key.{definitions}
use Rattle.homeo_meaning.specs.Aborts.{holds_abort, hold_abort}
use Rattle.homeo_meaning.specs.LowMeaning as M
use Rattle.homeo_meaning.specs.Context.{Slot, Context, spot, field_cell, object, slots, fields, bind}
use Rattle.homeo_meaning.specs.Meaning.{State, Run, done, set_temp, set_object, write_field, value, holds, does, does_all}
use Rattle.homeo_meaning.specs.LForm
use Rattle.homeo_meaning.specs.LForm.{Lifted, lift, lift_cond, set_flag, guard, as_one, clear, form, forms}
use Rattle.homeo_lform.proofs.Lifts.{seen, seen_run, quiet, Lifts, quiet_front, alike_self, put_here}
use Rattle.homeo_lform.proofs.Values.{lifts, lifts_cond}
use Rattle.homeo_lform.proofs.Writes.{placed_does, write_does, write_indexed_does, insert_does}
use Rattle.homeo_lform.proofs.Fresh.{Keeps, Allows, allows_left, allows_right, guard_keeps, row_takes, form_takes, forms_take}
use Rattle.homeo_lform.proofs.Ends.{Told, told_low, told, Ready, ready_alike, guard_down, forms_up, calm, told_choice, then_told, ended_up, goes_on, not_ended, loop_told}

row_does : (slot : Slot) (f : ℕ) (v : State → ℤ) (n : ℕ) (s : M.State) (e : Lifted L.Expr) → Lifts n s e M.value v → seen_run (M.exec (LForm.write_field slot f e).command s) ≡ done (write_field (seen s) slot f (v (seen s)))
unfolding definitions
row_does slot f v n s e k = write_does (spot slot.fields f) (field_cell slot f) v n s e k

-- a field of a slot
pub row_told : (b : Bool) (slot : Slot) (f : ℕ) (v : State → ℤ) (n : ℕ) (s : M.State) (e : Lifted L.Expr) → Lifts n s e M.value v → Ready b n s → told_low b (M.exec (LForm.write_field slot f e).command s) ≡ told (done (write_field (seen s) slot f (v (seen s))))
unfolding definitions
row_told b slot f v n s e k ready =
    calm b n s (M.exec (LForm.write_field slot f e).command s) (done (write_field (seen s) slot f (v (seen s)))) ready (row_takes 0 slot f v n s e k).keeps (row_does slot f v n s e k)

abort_told : (b : Bool) (s : M.State) → b ≡ true → told_low b (M.exec (set_flag (pos 1)) s) ≡ told (record { state = seen s; prints = []; ended = true })
unfolding definitions
abort_told true s e = λ i. record { state = seen s; prints = []; flag = put_here 0 s (pos 1) i }
abort_told false s e = absurd (false≢true e)

-- b says whether the call can be ended
module _ (b : Bool) where
  pub none_ends : Allows b false
  none_ends e = absurd (false≢true e)

  pub also_ends : (x y : Bool) → Allows b x → Allows b y → Allows b (x || y)
  also_ends true y h k = h
  also_ends false y h k = k

  -- a command that can't end the call keeps what is below n
  form_keeps : (w : Context) (c : Command) (n : ℕ) (s : M.State) → holds_abort c ≡ false → Keeps 0 n s (M.exec (form w c n).command s).state
  unfolding definitions
  form_keeps w c n s e = (form_takes false w c n s (λ up. absurd (false≢true (sym e ∙ up)))).keeps

  plain_told : (w : Context) (c : Command) (n : ℕ) (s : M.State) → holds_abort c ≡ false → Ready b n s → seen_run (M.exec (form w c n).command s) ≡ does w c (seen s) → told_low b (M.exec (form w c n).command s) ≡ told (does w c (seen s))
  plain_told w c n s e ready h = calm b n s (M.exec (form w c n).command s) (does w c (seen s)) ready (form_keeps w c n s e) h

  -- what ends the call can do so
  ends : (w : Context) (c : Command) (n : ℕ) (s : M.State) (g : Bool) → Ready b n s → (d : Run) → told_low b (M.exec (guard g (form w c n).command) s) ≡ told d → d.ended ≡ true → (z : Bool) → holds_abort c ≡ z → holds_abort c ≡ true
  ends w c n s g ready d first up true e = e
  ends w c n s g ready d first up false e =
      absurd (not_ended b n s (M.exec (guard g (form w c n).command) s) d ready (guard_keeps 0 n s g (form w c n).command (form_keeps w c n s e)) first up)

  mutual
    unfolding definitions

    pub form_told : (w : Context) (c : Command) (n : ℕ) (s : M.State) → Allows b (holds_abort c) → Ready b n s → told_low b (M.exec (form w c n).command s) ≡ told (does w c (seen s))
    form_told w Skip n s h ready = plain_told w Skip n s refl ready refl
    form_told w (Assign t e) n s h ready =
        plain_told w (Assign t e) n s refl ready
        (placed_does M.value (value w e) (L.Assign (temp.Named t.name)) (λ z a. done (set_temp a t.name z)) (λ p u. refl) n s (lift w e n) (lifts w e n s))
    form_told w (Write x e) n s h ready =
        plain_told w (Write x e) n s refl ready (write_does (object w x.name) (object w x.name).place (value w e) n s (lift w e n) (lifts w e n s))
    form_told w (Print e) n s h ready =
        plain_told w (Print e) n s refl ready
        (placed_does M.value (value w e) L.Print (λ z (a : State). let r : Run = record { state = a; prints = z ∷ []; ended = false } in r) (λ p u. refl) n s (lift w e n) (lifts w e n s))
    form_told w (If t c d) n s h ready =
        let x = lift_cond w t n in
        let k = lifts_cond w t n s in
        let y = form w c x.next in
        let z = form w d y.next in
        let hc = allows_left b (holds_abort c) (holds_abort d) h in
        let hd = allows_right b (holds_abort c) (holds_abort d) h in
        let here = ready_alike b n x.next s k.after ready k.alike k.grows in
        let there = ready_alike b x.next y.next k.after k.after here (alike_self x.next k.after) (form_takes b w c x.next k.after hc).grows in
        ap (told_low b) (quiet_front x.before (L.If x.phrase y.command z.command) s k.after k.runs)
        ∙ told_choice b (M.holds x.phrase k.after) (M.exec y.command k.after) (M.exec z.command k.after) (does w c (seen k.after)) (does w d (seen k.after))
        (form_told w c x.next k.after hc here) (form_told w d y.next k.after hd there)
        ∙ ap₂ (λ v a. told (cond v (does w c a) (does w d a))) (k.means k.after (alike_self x.next k.after)) k.alike.sees
    form_told w (Block cs) n s h ready = forms_told w false cs n s none_ends h ready
    form_told w (SetField q i f e) n s h ready =
        plain_told w (SetField q i f e) n s refl ready
        (write_indexed_does (slots w q.name) (spot (fields w q.name) f.name) (value w i) (value w e) (lift w e) (lifts w e) n s (lift w i n).before (lift w i n).phrase (lift w i n).next (lifts w i n s))
    form_told w (SetRow r f e) n s h ready =
        plain_told w (SetRow r f e) n s refl ready (row_does (w.rows r.name) f.name (value w e) n s (lift w e n) (lifts w e n s))
    form_told w (Foreach r q t body) n s h ready =
        loop_told b (λ slot. lift_cond (bind w r.name slot) t) (λ slot. holds (bind w r.name slot) t) (λ slot m a. lifts_cond (bind w r.name slot) t m a) (hold_abort body) h
        (λ slot m. as_one (forms (bind w r.name slot) false body m)) (λ slot. does_all (bind w r.name slot) body)
        (λ slot m a. forms_take (hold_abort body) (bind w r.name slot) false body m a (λ e. e))
        (λ slot m a now. forms_told (bind w r.name slot) false body m a none_ends h now) (slots w q.name) false n s none_ends ready
    form_told w (Insert q xs t) n s h ready =
        plain_told w (Insert q xs t) n s refl ready (insert_does w (fields w q.name) xs (slots w q.name) t.name n s)
    form_told w (Delete r q t) n s h ready =
        loop_told b (λ slot. lift_cond (bind w r.name slot) t) (λ slot. holds (bind w r.name slot) t) (λ slot m a. lifts_cond (bind w r.name slot) t m a) false none_ends
        clear (λ slot a. done (set_object a slot.used (pos 0))) (λ slot m a. record { grows = omega arith; keeps = λ j le lt. refl })
        (λ slot m a now. calm b m a (M.exec (clear slot m).command a) (done (set_object (seen a) slot.used (pos 0))) now (λ j le lt. refl) refl) (slots w q.name) false n s none_ends ready
    form_told w (Update r q t f e) n s h ready =
        loop_told b (λ slot. lift_cond (bind w r.name slot) t) (λ slot. holds (bind w r.name slot) t) (λ slot m a. lifts_cond (bind w r.name slot) t m a) false none_ends
        (λ slot m. LForm.write_field slot f.name (lift (bind w r.name slot) e m)) (λ slot a. done (write_field a slot f.name (value (bind w r.name slot) e a)))
        (λ slot m a. row_takes 0 slot f.name (value (bind w r.name slot) e) m a (lift (bind w r.name slot) e m) (lifts (bind w r.name slot) e m a))
        (λ slot m a now. row_told b slot f.name (value (bind w r.name slot) e) m a (lift (bind w r.name slot) e m) (lifts (bind w r.name slot) e m a) now) (slots w q.name) false n s none_ends ready
    form_told w Abort n s h ready = abort_told b s (h refl)

    -- g says whether the commands are guarded
    pub forms_told : (w : Context) (g : Bool) (cs : Commands) (n : ℕ) (s : M.State) → Allows b g → Allows b (hold_abort cs) → Ready b n s → told_low b (M.exec_all (forms w g cs n).commands s) ≡ told (does_all w cs (seen s))
    forms_told w g NoCommand n s hg h ready = calm b n s (quiet s) (done (seen s)) ready (λ j le lt. refl) refl
    forms_told w g (MoreCommand c cs) n s hg h ready =
        let x = form w c n in
        let hc = allows_left b (holds_abort c) (hold_abort cs) h in
        let hcs = allows_right b (holds_abort c) (hold_abort cs) h in
        let later = g || holds_abort c in
        let others = (forms w later cs x.next).commands in
        let r = M.exec (guard g x.command) s in
        let d = does w c (seen s) in
        let first : told_low b r ≡ told d = ap (told_low b) (guard_down b g x.command s hg ready.down) ∙ form_told w c n s hc ready in
        then_told b r others d (does_all w cs) first
        (λ up. subst (λ z. M.exec_all (forms w z cs x.next).commands r.state ≡ quiet r.state) (sym (or_right g (holds_abort c) (ends w c n s g ready d first up (holds_abort c) refl))) (forms_up w cs x.next r.state (ended_up b r d first up).1))
        (λ on. forms_told w later cs x.next r.state (also_ends g (holds_abort c) hg hc) hcs (goes_on b x.next r d (omega (arith, ready.room, (form_takes b w c n s hc).grows)) first on)
        ∙ ap (λ (t : Told). told (does_all w cs t.state)) first)

  -- the first command of a list
  pub first_told : (w : Context) (g : Bool) (c : Command) (n : ℕ) (s : M.State) → Allows b g → Allows b (holds_abort c) → Ready b n s → told_low b (M.exec (guard g (form w c n).command) s) ≡ told (does w c (seen s))
  first_told w g c n s hg h ready = ap (told_low b) (guard_down b g (form w c n).command s hg ready.down) ∙ form_told w c n s h ready
