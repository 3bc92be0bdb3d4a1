-- What residuals need, one command after another.
use Rattle.std.proofs.Common.{◌≡◌, ℕ, ◌+◌, ◌-◌, ◌<◌, ◌≤◌, List, [], ◌∷◌, ◌++◌, map, drop, get_or, length, ℤ, refl, sym, ap, ap₂, ◌∙◌, subst, add-one, Box, Global, arith}
use Rattle.std.proofs.Math.Seq.{drop-cons}
use Rattle.std.proofs.lemmas.List.{map_push}
use Rattle.homeo_lemmas.proofs.Lists.{map_drop_past}
use Rattle.homeo_syntax.specs.Key.{definitions as syntax_definitions}
use Rattle.homeo_syntax.specs.Low as l
use Rattle.homeo_syntax.specs.LowView.{low_commands, plain_lexpr, plain_lcommand}
use Rattle.homeo_syntax.specs.Listed.{Listed}
use Rattle.homeo_syntax.specs.declared.low.LCond.{LCond}
use Rattle.homeo_syntax.specs.declared.low.LExpr.{LExpr}
use Rattle.homeo_syntax.specs.declared.low.LCommand.{LCommand, Skip, Assign, Write, Print, Seq, If}
use Rattle.homeo_syntax.proofs.LowViews.{low_Skip, low_Assign, low_Write, low_Print, low_Seq, low_If}
use Rattle.homeo_syntax.specs.declared.low.SplitName.{SplitName}
use Rattle.homeo_syntax.specs.declared.low.Temp.{Temp}
use Rattle.homeo_meaning.specs.LowMeaning.{Location, TempAt, DeltaAt, State, location_of, put, exec_all}
use Rattle.homeo_meaning.specs.Serial.{values_of}
use Rattle.homeo_meaning.specs.Small.{IsSmall}
use Rattle.homeo_meaning.proofs.Steps.{drop_next}
use Rattle.homeo_plan.specs.Key.{definitions as plan_definitions}
use Rattle.homeo_plan.specs.Each.{Each}
use Rattle.homeo_plan.specs.FormSizes.{CanForm, CanFollow}
use Rattle.homeo_plan.specs.Holding.{IsOn, ZeroInBoth, SameOwn}
use Rattle.homeo_plan.proofs.Needs.{residual_same}
use Rattle.homeo_plan.specs.Linear.{Linear, Forms, base_forms, form, support, add_deltas}
use Rattle.homeo_plan.specs.Needs.{remote, written_needs, add_written, needs_from, needs, IsStraightOne, IsStraight}
use Rattle.homeo_plan.specs.declared.forms.Delta.{Delta}
use Rattle.homeo_plan.specs.Limit.{form_limit}
use Rattle.homeo_atoms.specs.declared.following.Following.{Following}
use Rattle.homeo_atoms.specs.inner.Following.{adds, needs_of, Followed}
use Rattle.homeo_atoms.specs.inner.Key.{definitions}
use Rattle.homeo_form.specs.Standing.{forms_of}
use Rattle.homeo_form.proofs.DeltasInOrder.{adds_append}

-- ---- what the written deltas need
pub needed_end : (i : ℕ) (f : Forms) (ds es : List Delta) → es ≡ [] → add_deltas es [] ≡ written_needs i f (drop (length ds) ds)
unfolding plan_definitions
needed_end i f ds es p = ap (λ l. add_deltas l []) p ∙ sym (ap (written_needs i f) (none ds))
  where
    none : (xs : List Delta) → drop (length xs) xs ≡ []
    none [] = refl
    none (x ∷ xs) = none xs

pub needed_more :
    (i : ℕ) (f : Forms) (ds es fs gs hs : List Delta) (n : ℕ) (x : Delta) (k : Location) (a : Linear) → n < length ds →
    k ≡ DeltaAt (get_or ds n x).object (get_or ds n x).site → a ≡ f k → gs ≡ remote i (support a) → hs ≡ gs → fs ≡ es ++ hs →
    add_deltas es [] ≡ written_needs i f (drop (n + 1) ds) → add_deltas fs [] ≡ written_needs i f (drop n ds)
unfolding plan_definitions
needed_more i f ds es fs gs hs n x k a h pk pa pg ph pf pe =
    let d : Delta = get_or ds n x in
    let next : drop n ds ≡ d ∷ drop (n + 1) ds = rw add-one (drop-cons ds n x h) in
    ap (λ l. add_deltas l []) pf ∙ adds_append es hs []
    ∙ ap₂ add_deltas (ph ∙ pg ∙ ap (λ l. remote i (support l)) (pa ∙ ap f pk)) pe ∙ sym (ap (written_needs i f) next)

-- ---- what the prints need
pub adds_push : (ps : List (List Delta)) (p es : List Delta) → adds (ps ++ p ∷ []) es ≡ adds ps (add_deltas p es)
unfolding definitions
adds_push [] p es = refl
adds_push (q ∷ ps) p es = ap (add_deltas q) (adds_push ps p es)

-- ---- commands
pub followed_by :
    (r s : Following) (c : l.Command) (f : Forms) (w : List Delta) (ps : List (List Delta)) → s.site ≡ r.site → forms_of s.standing ≡ f →
    add_deltas s.written.items [] ≡ w → map (λ p. p.items) s.prints.items ≡ ps →
    ((cs : l.Commands) → adds ps (needs_from r.site f w cs) ≡ needs_of r (l.MoreCommand c cs)) →
    ((cs : l.Commands) → CanFollow (IsSmall form_limit) (forms_of r.standing) (l.MoreCommand c cs) → CanFollow (IsSmall form_limit) f cs) → Followed r s c
unfolding needs_of
followed_by r s c f w ps ei ef ew ep n k =
    record {
      needs = λ cs. ap₂ (λ i g. adds (map (λ p. p.items) s.prints.items) (needs_from i g (add_deltas s.written.items []) cs)) ei ef
          ∙ ap₂ (λ v q. adds q (needs_from r.site f v cs)) ew ep ∙ n cs;
      small = λ cs h. subst (λ g. CanFollow (IsSmall form_limit) g cs) (sym ef) (k cs h);
    }

module _ (r s : Following) (e : l.Expr) (a : Linear) (is : a ≡ form (forms_of r.standing) e) (site : s.site ≡ r.site) where
  pub assigned :
      (t : Temp) (k : Location) → k ≡ TempAt t → s.written.items ≡ r.written.items → map (λ p. p.items) s.prints.items ≡ map (λ p. p.items) r.prints.items →
      forms_of s.standing ≡ put (forms_of r.standing) k a → Followed r s (l.Assign t e)
  unfolding needs_of plan_definitions
  assigned t k pk ew ep ef =
      followed_by r s (l.Assign t e) (put (forms_of r.standing) (TempAt t) (form (forms_of r.standing) e)) (add_deltas r.written.items [])
      (map (λ p. p.items) r.prints.items) site (ef ∙ ap₂ (put (forms_of r.standing)) pk is) (ap (λ l. add_deltas l []) ew) ep (λ cs. refl) (λ cs h. h.1)

  pub wrote :
      (x : SplitName) (k : Location) → k ≡ location_of x → add_deltas s.written.items [] ≡ add_written x (add_deltas r.written.items []) →
      map (λ p. p.items) s.prints.items ≡ map (λ p. p.items) r.prints.items → forms_of s.standing ≡ put (forms_of r.standing) k a → Followed r s (l.Write x e)
  unfolding needs_of plan_definitions
  wrote x k pk ew ep ef =
      followed_by r s (l.Write x e) (put (forms_of r.standing) (location_of x) (form (forms_of r.standing) e)) (add_written x (add_deltas r.written.items []))
      (map (λ p. p.items) r.prints.items) site (ef ∙ ap₂ (put (forms_of r.standing)) pk is) ew ep (λ cs. refl) (λ cs h. h.1)

  pub printed :
      (ds : List Delta) → ds ≡ remote r.site (support a) → s.written.items ≡ r.written.items →
      map (λ p. p.items) s.prints.items ≡ map (λ p. p.items) r.prints.items ++ ds ∷ [] → forms_of s.standing ≡ forms_of r.standing → Followed r s (l.Print e)
  unfolding needs_of plan_definitions
  printed ds pd ew ep ef =
      let needed : List Delta = remote r.site (support (form (forms_of r.standing) e)) in
      let written : List Delta = add_deltas r.written.items [] in
      followed_by r s (l.Print e) (forms_of r.standing) written (map (λ p. p.items) r.prints.items ++ needed ∷ []) site ef (ap (λ l. add_deltas l []) ew)
      (ep ∙ ap (λ d. map (λ p. p.items) r.prints.items ++ d ∷ []) (pd ∙ ap (λ b. remote r.site (support b)) is))
      (λ cs. adds_push (map (λ p. p.items) r.prints.items) needed (needs_from r.site (forms_of r.standing) written cs)) (λ cs h. h.1)

pub first_needs :
    (r : Following) (i : ℕ) (b : ℕ → ℤ) → r.site ≡ i → forms_of r.standing ≡ base_forms b → r.written.items ≡ [] → r.prints.items ≡ [] →
    (cs : l.Commands) → needs_of r cs ≡ needs i b cs
unfolding needs_of definitions plan_definitions
first_needs r i b ei ef ew ep cs =
    ap₂ (λ j g. adds (map (λ p. p.items) r.prints.items) (needs_from j g (add_deltas r.written.items []) cs)) ei ef
    ∙ ap₂ (λ v q. adds (map (λ p. p.items) q) (needs_from i (base_forms b) (add_deltas v []) cs)) ew ep

-- ---- the first of the commands that are left
can_one : (f : Forms) (c : l.Command) (cs : l.Commands) → CanFollow (IsSmall form_limit) f (l.MoreCommand c cs) → CanFollow (IsSmall form_limit) f (l.MoreCommand c l.NoCommand)
unfolding plan_definitions
can_one f (l.Assign t e) cs h = (h.0, tt)
can_one f (l.Write x e) cs h = (h.0, tt)
can_one f (l.Print e) cs h = (h.0, tt)
can_one f l.Skip cs h = tt
can_one f (l.Seq ds) cs h = tt
can_one f (l.If b c d) cs h = tt

pub record CommandStep (r : Following) (cs : List LCommand) (i : ℕ) (c : LCommand) : Type 0 where
  pub straight : IsStraightOne (plain_lcommand c)
  pub small : CanFollow (IsSmall form_limit) (forms_of r.standing) (l.MoreCommand (plain_lcommand c) l.NoCommand)
  pub left : IsStraight (low_commands (map plain_lcommand (drop (i + 1) cs)))
  pub can : (s : Following) → Followed r s (plain_lcommand c) → CanFollow (IsSmall form_limit) (forms_of s.standing) (low_commands (map plain_lcommand (drop (i + 1) cs)))
  pub needs : (s : Following) → Followed r s (plain_lcommand c) →
      needs_of s (low_commands (map plain_lcommand (drop (i + 1) cs))) ≡ needs_of r (low_commands (map plain_lcommand (drop i cs)))

pub command_step :
    (r : Following) (cs : List LCommand) (i : ℕ) (c : LCommand) → i < length cs → c ≡ get_or cs i c →
    IsStraight (low_commands (map plain_lcommand (drop i cs))) →
    CanFollow (IsSmall form_limit) (forms_of r.standing) (low_commands (map plain_lcommand (drop i cs))) → CommandStep r cs i c
unfolding plan_definitions syntax_definitions
command_step r cs i c h p st can =
    let rest = low_commands (map plain_lcommand (drop (i + 1) cs)) in
    let next = drop_next plain_lcommand cs i c h p in
    let k = subst (λ l. IsStraight (low_commands l)) next st in
    let m = subst (λ l. CanFollow (IsSmall form_limit) (forms_of r.standing) (low_commands l)) next can in
    record {
      straight = k.0;
      small = can_one (forms_of r.standing) (plain_lcommand c) rest m;
      left = k.1;
      can = λ s d. d.small rest m;
      needs = λ s d. d.needs rest ∙ sym (ap (λ l. needs_of r (low_commands l)) next);
    }

pub commands_end : (r : Following) (cs : List LCommand) (i : ℕ) → length cs ≤ i → needs_of r l.NoCommand ≡ needs_of r (low_commands (map plain_lcommand (drop i cs)))
unfolding syntax_definitions
commands_end r cs i h = sym (ap (λ l. needs_of r (low_commands l)) (map_drop_past plain_lcommand cs i h))

-- ---- loops from the end
pub needed_place :
    (i : ℕ) (f : Forms) (ds es fs gs hs : List Delta) (p : ℕ) (x : Delta) (k : Location) (a : Linear) → 0 < p → p ≤ length ds →
    k ≡ DeltaAt (get_or ds (p - 1) x).object (get_or ds (p - 1) x).site → a ≡ f k → gs ≡ remote i (support a) → hs ≡ gs → fs ≡ es ++ hs →
    add_deltas es [] ≡ written_needs i f (drop p ds) → add_deltas fs [] ≡ written_needs i f (drop (p - 1) ds)
needed_place i f ds es fs gs hs p x k a m h pk pa pg ph pf pe =
    let same : p - 1 + 1 ≡ p = omega (arith, m) in
    needed_more i f ds es fs gs hs (p - 1) x k a (omega (arith, m, h)) pk pa pg ph pf (pe ∙ ap (λ n. written_needs i f (drop n ds)) (sym same))

pub popped :
    {V : Type 0} (g : V → List Delta) (ps qs : List V) (v : V) (es fs hs : List Delta) → ps ≡ qs ++ v ∷ [] → hs ≡ g v → fs ≡ es ++ hs →
    adds (map g qs) (add_deltas fs []) ≡ adds (map g ps) (add_deltas es [])
popped g ps qs v es fs hs p q r =
    ap (adds (map g qs)) (ap (λ l. add_deltas l []) r ∙ adds_append es hs [] ∙ ap (λ l. add_deltas l (add_deltas es [])) q)
    ∙ sym (adds_push (map g qs) (g v) (add_deltas es []))
    ∙ sym (ap (λ l. adds l (add_deltas es [])) (ap (map g) p ∙ map_push g qs v))

pub all_popped : {V : Type 0} (g : V → List Delta) (ps : List V) (es ws : List Delta) → ps ≡ [] → adds (map g ps) es ≡ ws → es ≡ ws
unfolding definitions
all_popped g ps es ws p h = sym (ap (λ l. adds (map g l) es) p) ∙ h

pub needs_are :
    (r : Following) (es vs ws : List Delta) → vs ≡ ws → ws ≡ add_deltas r.written.items [] → es ≡ written_needs r.site (forms_of r.standing) vs →
    adds (map (λ p. p.items) r.prints.items) es ≡ needs_of r l.NoCommand
unfolding needs_of plan_definitions
needs_are r es vs ws p q h = ap (adds (map (λ p. p.items) r.prints.items)) (h ∙ ap (written_needs r.site (forms_of r.standing)) (p ∙ q))

-- ---- each kind of command
module _ (f : Forms) (x : LCommand) where
  pub assign_can : (t : Temp) (e : LExpr) → x ≡ Assign t e → CanFollow (IsSmall form_limit) f (l.MoreCommand (plain_lcommand x) l.NoCommand) → CanForm (IsSmall form_limit) f (plain_lexpr e)
  unfolding plan_definitions
  assign_can t e p h = (subst (λ y. CanFollow (IsSmall form_limit) f (l.MoreCommand y l.NoCommand)) (ap plain_lcommand p ∙ low_Assign t e) h).0

  pub write_can : (n : SplitName) (e : LExpr) → x ≡ Write n e → CanFollow (IsSmall form_limit) f (l.MoreCommand (plain_lcommand x) l.NoCommand) → CanForm (IsSmall form_limit) f (plain_lexpr e)
  unfolding plan_definitions
  write_can n e p h = (subst (λ y. CanFollow (IsSmall form_limit) f (l.MoreCommand y l.NoCommand)) (ap plain_lcommand p ∙ low_Write n e) h).0

  pub print_can : (e : LExpr) → x ≡ Print e → CanFollow (IsSmall form_limit) f (l.MoreCommand (plain_lcommand x) l.NoCommand) → CanForm (IsSmall form_limit) f (plain_lexpr e)
  unfolding plan_definitions
  print_can e p h = (subst (λ y. CanFollow (IsSmall form_limit) f (l.MoreCommand y l.NoCommand)) (ap plain_lcommand p ∙ low_Print e) h).0

module _ (x : LCommand) (h : IsStraightOne (plain_lcommand x)) where
  pub no_skip : x ≡ Skip → ⊥
  unfolding plan_definitions
  no_skip p = subst IsStraightOne (ap plain_lcommand p ∙ low_Skip) h

  pub no_seq : (cs : Listed LCommand) → x ≡ Seq cs → ⊥
  unfolding plan_definitions
  no_seq cs p = subst IsStraightOne (ap plain_lcommand p ∙ low_Seq cs) h

  pub no_if : (b : LCond) (c d : Box LCommand Global) → x ≡ If b c d → ⊥
  unfolding plan_definitions
  no_if b c d p = subst IsStraightOne (ap plain_lcommand p ∙ low_If b c d) h

-- ---- what the needs of a whole residual mean
pub needs_mean :
    (i : ℕ) (db : List ℤ) (cs : l.Commands) (ds : List Delta) → ds ≡ needs i (values_of db) cs → IsStraight cs → (s s' : State) →
    ((x : ℕ) → s (DeltaAt x i) ≡ s' (DeltaAt x i)) → IsOn (values_of db) s → IsOn (values_of db) s' → Each (ZeroInBoth s s') ds →
    SameOwn i (exec_all cs s) (exec_all cs s')
needs_mean i db cs ds p st s s' own on on' z =
    residual_same i s s' own (values_of db) cs on on' st (subst (Each (ZeroInBoth s s')) p z)
