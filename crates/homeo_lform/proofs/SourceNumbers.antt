-- What holds of every number of the L form holds of every number of the source.
use Rattle.std.proofs.Common.{◌≡◌, ℕ, suc, ◌+◌, Bool, true, false, ◌||◌, List, [], ◌∷◌, length, ℤ, pos, Option, Some, None, refl, sym, ap, ◌∙◌, subst, arith}
use Rattle.homeo_syntax.specs.declared.low.Temp.TheVariants as temp
use Rattle.homeo_syntax.specs.Low as L
use Rattle.homeo_syntax.specs.Source.{Expr, Cond, FieldValue, Command, Commands, Skip, Assign, Write, Print, If, Block, SetField, SetRow, Foreach, Insert, Delete, Update, Abort, NoCommand, MoreCommand}
use Rattle.homeo_meaning.specs.Key.{definitions}
use Rattle.homeo_meaning.specs.Aborts.{holds_abort, hold_abort}
use Rattle.homeo_meaning.specs.LowMeaning as M
use Rattle.homeo_meaning.specs.Schema.{Declared, Schema}
use Rattle.homeo_meaning.specs.Context.{Spot, Slot, Context, spot, cell, field_cell, object, slots, fields, bind, slot_at, context}
use Rattle.homeo_meaning.specs.Meaning.{State, Run, done, set_object, write_field, value, holds, does, does_all}
use Rattle.homeo_meaning.specs.LForm
use Rattle.homeo_meaning.specs.LForm.{Made, both, one, in_front, guard, within, guarded, write_to, write_chain, write_at, write_by, lift, lift_cond, lift_values, literal_of, as_one, loop, clear, form, forms, saves, saved_in, body_by, l_form}
use Rattle.homeo_meaning.specs.LowComputed as low
use Rattle.homeo_meaning.specs.Computed.{is_given, Unless, OnSlots, OnSlot, CanValue, CanHold, CanValues, CanVisit, CanRun, CanRunAll}
use Rattle.homeo_meaning.specs.LowMeaning.{whole}
use Rattle.homeo_lform.specs.Fresh.{flags, TakesFrom}
use Rattle.homeo_lform.proofs.Lifts.{seen, alike_self}
use Rattle.homeo_lform.proofs.Values.{lifts, lifts_cond}
use Rattle.homeo_lform.proofs.Fresh.{Allows, allows_left, allows_right, row_takes, form_takes, forms_take}
use Rattle.homeo_lform.proofs.Ends.{Told, told_low, told, Ready, ready_alike, calm, goes_on}
use Rattle.homeo_lform.proofs.Conveys.{after, after_both, alike_after, means_after, literal_value, unless_on, split_all, front_can, guard_can, halves, index_given, index_counts, visits_can, conveys, conveys_cond}
use Rattle.homeo_lform.proofs.Forms.{none_ends, also_ends, row_told, forms_told, first_told}
use Rattle.homeo_lform.proofs.Undone.{saved_state, begun, begun_sees, begun_ready}

module _ (R P : ℤ → Type 0) where
  -- the value of a lifting that a command uses at once
  value_can : (w : Context) (e : Expr) (n : ℕ) (s : M.State) (c : L.Command) → (low.CanRun R P c (after (lift w e n).before s) → low.CanValue R P (lift w e n).phrase (after (lift w e n).before s)) → low.CanRun R P (in_front (lift w e n).before c) s → CanValue R P w e (seen s)
  unfolding definitions
  value_can w e n s c g h =
      let x = lift w e n in
      let k = front_can R P x.before c s h in
      conveys R P w e n s k.0 (after x.before s) (alike_self x.next (after x.before s)) (g k.1)

  write_can : (w : Context) (e : Expr) (n : ℕ) (s : M.State) (b : Spot) (x : ℕ) → low.CanRun R P (write_to b x (lift w e n)).command s → CanValue R P w e (seen s)
  unfolding definitions
  write_can w e n s b x h = value_can w e n s (guarded b x (lift w e n).phrase) (λ k. k.1) h

  -- ---- a field by an index
  chain_can : (f : Spot) (i e : L.Expr) (all : List Slot) (a : M.State) (T : Type 0) → (low.CanValue R P i a → T) → low.CanRun R P (write_chain f i e all) a → OnSlots all T
  unfolding definitions
  chain_can f i e [] a T k h = tt
  chain_can f i e (slot ∷ more) a T k h = k h.0.0.0

  on_slot : (o : Option Slot) (T : Type 0) → T → OnSlot o T
  unfolding definitions
  on_slot None T k = tt
  on_slot (Some slot) T k = k

  at_can : (w : Context) (e : Expr) (o : Option Slot) (f : Spot) (n : ℕ) (s : M.State) → low.CanRun R P (write_at o f n (lift w e)).command s → OnSlot o (CanValue R P w e (seen s))
  unfolding definitions
  at_can w e None f n s h = tt
  at_can w e (Some slot) f n s h = write_can w e n s f (cell slot f) h

  set_can : (w : Context) (i e : Expr) (all : List Slot) (f : Spot) (n : ℕ) (s : M.State) (o : Option ℤ) → literal_of (lift w i n).phrase ≡ o → low.CanRun R P (write_by o all f (lift w i n) (lift w e)).command s → OnSlots all (Unless (is_given w i (seen s)) (CanValue R P w i (seen s))) × OnSlot (slot_at (value w i (seen s)) all) (CanValue R P w e (seen s))
  unfolding definitions
  set_can w i e all f n s (Some k) is h =
      let x = lift w i n in
      let a = after x.before s in
      let same : k ≡ value w i (seen s) = sym (literal_value x.phrase k a is) ∙ means_after n s x M.value (value w i) (lifts w i n s) a (alike_self x.next a) in (
        index_given R P w i n s all k is,
        subst (λ z. OnSlot (slot_at z all) (CanValue R P w e (seen s))) same (at_can w e (slot_at k all) f x.next s h),
      )
  set_can w i e all f n s None is h =
      let x = lift w i n in
      let y = lift w e x.next in
      let before = both x.before y.before in
      let a = after before s in
      let k = front_can R P before (L.If (within f y.phrase L.NoTest) (write_chain f x.phrase y.phrase all) L.Skip) s h in
      let two = halves R P M.value M.value (value w i) (value w e) (low.CanValue R P) (low.CanValue R P) (CanValue R P w i) (CanValue R P w e) n s x (lift w e)
      (lifts w i n s) (lifts w e) (conveys R P w i n s) (conveys R P w e) k.0 a (alike_self y.next a) in (
        index_counts R P w i (seen s) all (chain_can f x.phrase y.phrase all a (CanValue R P w i (seen s)) two.0 k.1.1),
        on_slot (slot_at (value w i (seen s)) all) (CanValue R P w e (seen s)) (two.1 k.1.0.0.1),
      )

  -- ---- an insert
  values_can : (w : Context) (ds : List Declared) (xs : List FieldValue) (n : ℕ) (s : M.State) → low.CanRunAll R P (lift_values w ds xs n).before s → CanValues R P w xs (seen s)
  unfolding definitions
  values_can w ds [] n s h = tt
  values_can w ds (f ∷ more) n s h =
      let x = lift w f.value n in
      let set = L.Assign (temp.Fresh x.next) x.phrase in
      let first = both x.before (one set) in
      let rest = lift_values w ds more (suc x.next) in
      let runs = split_all R P first rest.before s h in
      let here = split_all R P x.before (one set) s runs.0 in
      let sees : seen (after first s) ≡ seen s = ap seen (after_both x.before (one set) s) ∙ (alike_after n s x M.value (value w f.value) (lifts w f.value n s)).sees in (
        conveys R P w f.value n s here.0 (after x.before s) (alike_self x.next (after x.before s)) here.1.0,
        subst (CanValues R P w more) sees (values_can w ds more (suc x.next) (after first s) runs.1),
      )

  -- b says whether the call can be ended
  module _ (b : Bool) where
    loop_can : (w : Context) (r q : ℕ) (t : Cond) (later : Bool) → Allows b later → (body : Slot → ℕ → Made) (source : Slot → State → Run) (Bodies : Slot → State → Type 0)
        → ((slot : Slot) (m : ℕ) (s : M.State) → TakesFrom (flags later) m (body slot m).next s (M.exec (body slot m).command s).state)
        → ((slot : Slot) (m : ℕ) (s : M.State) → Ready b m s → told_low b (M.exec (body slot m).command s) ≡ told (source slot (seen s)))
        → ((slot : Slot) (m : ℕ) (s : M.State) → Ready b m s → low.CanRun R P (body slot m).command s → Bodies slot (seen s))
        → (n : ℕ) (s : M.State) → Ready b n s → low.CanRun R P (loop w r q t later body n).command s → CanVisit R P (λ slot. CanHold R P (bind w r slot) t) Bodies (λ slot. holds (bind w r slot) t) source (slots w q) (seen s)
    unfolding definitions
    loop_can w r q t later may body source Bodies takes does_it can_it n s ready h =
        visits_can R P (λ slot. lift_cond (bind w r slot) t) (λ slot. holds (bind w r slot) t) (λ slot m a. lifts_cond (bind w r slot) t m a)
        (λ slot. CanHold R P (bind w r slot) t) (λ slot m a. conveys_cond R P (bind w r slot) t m a) b later may body source takes does_it Bodies can_it (slots w q) false n s (none_ends b) ready h

    mutual
      unfolding definitions

      run_can : (w : Context) (c : Command) (n : ℕ) (s : M.State) → Allows b (holds_abort c) → Ready b n s → low.CanRun R P (form w c n).command s → CanRun R P w c (seen s)
      run_can w Skip n s m ready h = tt
      run_can w (Assign t e) n s m ready h = value_can w e n s (L.Assign (temp.Named t.name) (lift w e n).phrase) (λ k. k) h
      run_can w (Write x e) n s m ready h = write_can w e n s (object w x.name) (object w x.name).place h
      run_can w (Print e) n s m ready h = value_can w e n s (L.Print (lift w e n).phrase) (λ k. k) h
      run_can w (If t c d) n s m ready h =
          let x = lift_cond w t n in
          let y = form w c x.next in
          let z = form w d y.next in
          let a = after x.before s in
          let k = front_can R P x.before (L.If x.phrase y.command z.command) s h in
          let l = lifts_cond w t n s in
          let like = alike_after n s x M.holds (holds w t) l in
          let mc = allows_left b (holds_abort c) (holds_abort d) m in
          let md = allows_right b (holds_abort c) (holds_abort d) m in
          let here = ready_alike b n x.next s a ready like l.grows in
          let there = ready_alike b x.next y.next a a here (alike_self x.next a) (form_takes b w c x.next a mc).grows in (
            conveys_cond R P w t n s k.0 a (alike_self x.next a) k.1.0,
            subst (CanRun R P w c) like.sees (run_can w c x.next a mc here k.1.1),
            subst (CanRun R P w d) like.sees (run_can w d y.next a md there k.1.2),
          )
      run_can w (Block cs) n s m ready h = runs_can w false cs n s (none_ends b) m ready h
      run_can w (SetField q i f e) n s m ready h =
          set_can w i e (slots w q.name) (spot (fields w q.name) f.name) n s (literal_of (lift w i n).phrase) refl h
      run_can w (SetRow r f e) n s m ready h = write_can w e n s (spot (w.rows r.name).fields f.name) (field_cell (w.rows r.name) f.name) h
      run_can w (Foreach r q t body) n s m ready h =
          loop_can w r.name q.name t (hold_abort body) m (λ slot j. as_one (forms (bind w r.name slot) false body j)) (λ slot. does_all (bind w r.name slot) body) (λ slot. CanRunAll R P (bind w r.name slot) body)
          (λ slot j a. forms_take (hold_abort body) (bind w r.name slot) false body j a (λ e. e))
          (λ slot j a now. forms_told b (bind w r.name slot) false body j a (none_ends b) m now) (λ slot j a now k. runs_can (bind w r.name slot) false body j a (none_ends b) m now k) n s ready h
      run_can w (Insert q xs t) n s m ready h =
          values_can w (fields w q.name) xs n s (split_all R P (lift_values w (fields w q.name) xs n).before _ s h).0
      run_can w (Delete r q t) n s m ready h =
          loop_can w r.name q.name t false (none_ends b) clear (λ slot a. done (set_object a slot.used (pos 0))) (λ slot a. Unit {0}) (λ slot j a. record { grows = omega arith; keeps = λ i le lt. refl })
          (λ slot j a now. calm b j a (M.exec (clear slot j).command a) (done (set_object (seen a) slot.used (pos 0))) now (λ i le lt. refl) refl) (λ slot j a now k. tt) n s ready h
      run_can w (Update r q t f e) n s m ready h =
          loop_can w r.name q.name t false (none_ends b) (λ slot j. LForm.write_field slot f.name (lift (bind w r.name slot) e j)) (λ slot a. done (write_field a slot f.name (value (bind w r.name slot) e a))) (λ slot. CanValue R P (bind w r.name slot) e)
          (λ slot j a. row_takes 0 slot f.name (value (bind w r.name slot) e) j a (lift (bind w r.name slot) e j) (lifts (bind w r.name slot) e j a))
          (λ slot j a now. row_told b slot f.name (value (bind w r.name slot) e) j a (lift (bind w r.name slot) e j) (lifts (bind w r.name slot) e j a) now)
          (λ slot j a now k. write_can (bind w r.name slot) e j a (spot slot.fields f.name) (field_cell slot f.name) k) n s ready h
      run_can w Abort n s m ready h = tt

      pub runs_can : (w : Context) (g : Bool) (cs : Commands) (n : ℕ) (s : M.State) → Allows b g → Allows b (hold_abort cs) → Ready b n s → low.CanRunAll R P (forms w g cs n).commands s → CanRunAll R P w cs (seen s)
      runs_can w g NoCommand n s mg m ready h = tt
      runs_can w g (MoreCommand c cs) n s mg m ready h =
          let x = form w c n in
          let mc = allows_left b (holds_abort c) (hold_abort cs) m in
          let r = M.exec (guard g x.command) s in
          let d = does w c (seen s) in
          let first = first_told b w g c n s mg mc ready in (
            run_can w c n s mc ready (guard_can R P g x.command s h.0),
            unless_on d.ended (CanRunAll R P w cs d.state) (λ on.
                subst (CanRunAll R P w cs) (ap (λ (t : Told). t.state) first)
                (runs_can w (g || holds_abort c) cs x.next r.state (also_ends b g (holds_abort c) mg mc) (allows_right b (holds_abort c) (hold_abort cs) m)
                (goes_on b x.next r d (omega (arith, ready.room, (form_takes b w c n s mc).grows)) first on) h.1)),
          )

  saves_can : (n : ℕ) (xs : List ℕ) (more : L.Commands) (s : M.State) → low.CanRunAll R P (saves n xs more) s → low.CanRunAll R P more (saved_state n xs s)
  unfolding definitions
  saves_can n [] more s h = h
  saves_can n (x ∷ xs) more s h = saves_can (suc n) xs more (M.put s (M.TempAt (temp.Fresh n)) (s (M.BaseAt x))) h.1

  body_can : (w : Context) (body : Commands) (database : ℕ → ℤ) (v : Bool) → hold_abort body ≡ v → low.CanRun R P (body_by v w body) (whole database) → CanRunAll R P w body (record { database = database; temps = λ t. pos 0 })
  unfolding definitions
  body_can w body database false e h =
      runs_can false w false body 0 (whole database) (λ up. up) (λ up. sym e ∙ up) (record { room = omega arith; down = refl }) h
  body_can w body database true e h =
      let saved = saved_in w body in
      let n = 1 + length saved in
      let s = begun saved database in
      subst (CanRunAll R P w body) (begun_sees saved database)
      (runs_can true w false body n s (λ up. refl) (λ up. refl) (begun_ready saved database)
      (saves_can 1 saved _ (M.put (whole database) (M.TempAt (temp.Fresh 0)) (pos 0)) h.1).0)

pub values_law : (R P : ℤ → Type 0) (x : Schema) (params : List ℕ) (args : List ℤ) (body : Commands) (database : ℕ → ℤ) → low.CanRun R P (l_form x params args body) (whole database) → CanRunAll R P (context x params args) body (record { database = database; temps = λ t. pos 0 })
unfolding definitions
values_law R P x params args body database h = body_can R P (context x params args) body database (hold_abort body) refl h
