-- The L forms of writes and inserts.
use Rattle.std.proofs.Common.{◌≡◌, ℕ, suc, Bool, true, false, cond, ◌&&◌, List, [], ◌∷◌, ℤ, pos, int_le, Option, Some, None, refl, ap, ap₂, ◌∙◌}
use Rattle.std.specs.Ordering.{int_eq}
use Rattle.homeo_syntax.specs.declared.low.Temp.TheVariants as temp
use Rattle.homeo_syntax.specs.declared.low.SplitName.TheVariants as split
use Rattle.homeo_syntax.specs.Low as L
use Rattle.homeo_syntax.specs.Source.{FieldValue}
use Rattle.homeo_meaning.specs.Key.{definitions}
use Rattle.homeo_meaning.specs.LowMeaning as M
use Rattle.homeo_meaning.specs.Schema.{Declared}
use Rattle.homeo_meaning.specs.Context.{Spot, Slot, Context, spot, cell, first_where, slot_at}
use Rattle.homeo_meaning.specs.Meaning.{State, Run, done, set_temp, set_object, is_free, is_within, write, write_slot, Setting, settings, are_within, fill, insert, value}
use Rattle.homeo_meaning.specs.LForm.{Lifted, Pair, pair, one, fresh, placed, within, guarded, write_to, write_chain, write_at, write_indexed, Target, stored, lift, lift_values, all_within, field_writes, fill_chain, inserted}
use Rattle.homeo_lform.proofs.Lifts.{seen, seen_run, quiet, at_fresh, Lifts, quiet_then, quiet_front, alike_self, plain_lifts, combined_lifts, stored_lifts}
use Rattle.homeo_lform.proofs.Values.{lifts}

-- a lifting in front of a command that does what the source does with the value
pub placed_does : {A V : Type 0} (at : A → M.State → V) (v : State → V) (f : A → L.Command) (source : V → State → Run) → ((a : A) (u : M.State) → seen_run (M.exec (f a) u) ≡ source (at a u) (seen u)) → (n : ℕ) (s : M.State) (x : Lifted A) → Lifts n s x at v → seen_run (M.exec (placed x f).command s) ≡ source (v (seen s)) (seen s)
unfolding definitions
placed_does at v f source h n s x k =
    ap seen_run (quiet_front x.before (f x.phrase) s k.after k.runs)
    ∙ h x.phrase k.after
    ∙ ap₂ source (k.means k.after (alike_self x.next k.after)) k.alike.sees

within_is : (b : Spot) (e : L.Expr) (more : L.Cond) (u : M.State) → M.holds (within b e more) u ≡ is_within b (M.value e u) && M.holds more u
unfolding definitions
within_is b e more u = go (int_le b.lo (M.value e u)) (int_le (M.value e u) b.hi) (M.holds more u)
  where
    go : (p q r : Bool) → p && (q && r) ≡ (p && q) && r
    go true true r = refl
    go true false r = refl
    go false q r = refl

and_true : (b : Bool) → b && true ≡ b
unfolding definitions
and_true true = refl
and_true false = refl

-- a command under the bounds
under_bounds : (b : Spot) (e : L.Expr) (c : L.Command) (after : State) (u : M.State) → seen_run (M.exec c u) ≡ done after → seen_run (M.exec (L.If (within b e L.NoTest) c L.Skip) u) ≡ done (cond (is_within b (M.value e u)) after (seen u))
unfolding definitions
under_bounds b e c after u h =
    ap (λ v. seen_run (cond v (M.exec c u) (quiet u))) (within_is b e L.NoTest u ∙ and_true (is_within b (M.value e u)))
    ∙ go (is_within b (M.value e u))
  where
    go : (v : Bool) → seen_run (cond v (M.exec c u) (quiet u)) ≡ done (cond v after (seen u))
    go true = h
    go false = refl

guarded_does : (b : Spot) (x : ℕ) (e : L.Expr) (u : M.State) → seen_run (M.exec (guarded b x e) u) ≡ done (write (seen u) b x (M.value e u))
unfolding definitions
guarded_does b x e u = under_bounds b e (L.Write (split.Whole x) e) (set_object (seen u) x (M.value e u)) u refl

pub write_does : (b : Spot) (x : ℕ) (v : State → ℤ) (n : ℕ) (s : M.State) (e : Lifted L.Expr) → Lifts n s e M.value v → seen_run (M.exec (write_to b x e).command s) ≡ done (write (seen s) b x (v (seen s)))
unfolding definitions
write_does b x v n s e k = placed_does M.value v (guarded b x) (λ z t. done (write t b x z)) (guarded_does b x) n s e k

-- ---- a field of the slot that an index names
abbrev set_slot : State → Spot → ℤ → Option Slot → State
unfolding definitions
set_slot s f v None = s
set_slot s f v (Some slot) = set_object s (cell slot f) v

chain_writes : (f : Spot) (i e : L.Expr) (all : List Slot) (u : M.State) → seen_run (M.exec (write_chain f i e all) u) ≡ done (set_slot (seen u) f (M.value e u) (slot_at (M.value i u) all))
unfolding definitions
chain_writes f i e [] u = refl
chain_writes f i e (slot ∷ more) u = go (int_eq (M.value i u) (pos slot.number)) (chain_writes f i e more u)
  where
    go : (b : Bool)
        → seen_run (M.exec (write_chain f i e more) u) ≡ done (set_slot (seen u) f (M.value e u) (slot_at (M.value i u) more))
        → seen_run (cond (b && true) (quiet (M.put u (M.BaseAt (cell slot f)) (M.value e u))) (M.exec (write_chain f i e more) u)) ≡ done (set_slot (seen u) f (M.value e u) (cond b (Some slot) (slot_at (M.value i u) more)))
    go true ih = refl
    go false ih = ih

bounds_first : (s : State) (f : Spot) (v : ℤ) (o : Option Slot) → cond (is_within f v) (set_slot s f v o) s ≡ write_slot s f o v
unfolding definitions
bounds_first s f v None = go (is_within f v)
  where
    go : (b : Bool) → cond b s s ≡ s
    go true = refl
    go false = refl
bounds_first s f v (Some slot) = refl

write_at_does : (o : Option Slot) (f : Spot) (n : ℕ) (y : ℕ → Lifted L.Expr) (v : State → ℤ) → ((m : ℕ) (a : M.State) → Lifts m a (y m) M.value v) → (s : M.State) → seen_run (M.exec (write_at o f n y).command s) ≡ done (write_slot (seen s) f o (v (seen s)))
unfolding definitions
write_at_does None f n y v h s = refl
write_at_does (Some slot) f n y v h s =
    write_does f (cell slot f) v n s (y n) (h n s)

abbrev pub pair_value : Pair L.Expr → M.State → Pair ℤ
unfolding definitions
pair_value p u = pair (M.value p.index u) (M.value p.value u)

chain_does : (all : List Slot) (f : Spot) (p : Pair L.Expr) (u : M.State) → seen_run (M.exec (L.If (within f p.value L.NoTest) (write_chain f p.index p.value all) L.Skip) u) ≡ done (write_slot (seen u) f (slot_at (M.value p.index u) all) (M.value p.value u))
unfolding definitions
chain_does all f p u =
    under_bounds f p.value (write_chain f p.index p.value all) (set_slot (seen u) f (M.value p.value u) (slot_at (M.value p.index u) all)) u (chain_writes f p.index p.value all u)
    ∙ ap done (bounds_first (seen u) f (M.value p.value u) (slot_at (M.value p.index u) all))

pub write_indexed_does : (all : List Slot) (f : Spot) (i v : State → ℤ) (y : ℕ → Lifted L.Expr) → ((m : ℕ) (a : M.State) → Lifts m a (y m) M.value v) → (n : ℕ) (s : M.State) (before : L.Commands) (e : L.Expr) (next : ℕ) → Lifts n s (record { before = before; phrase = e; next = next }) M.value i → seen_run (M.exec (write_indexed all f (record { before = before; phrase = e; next = next }) y).command s) ≡ done (write_slot (seen s) f (slot_at (i (seen s)) all) (v (seen s)))
unfolding definitions
write_indexed_does all f i v y h n s before (L.Literal k) next x =
    write_at_does (slot_at k all) f next y v h s
    ∙ ap (λ z. done (write_slot (seen s) f (slot_at z all) (v (seen s)))) (x.means x.after (alike_self next x.after))
write_indexed_does all f i v y h n s before e next x =
    placed_does pair_value (λ t. pair (i t) (v t)) (λ p. L.If (within f p.value L.NoTest) (write_chain f p.index p.value all) L.Skip) (λ p t. done (write_slot t f (slot_at p.index all) p.value)) (chain_does all f) n s _
    (combined_lifts pair pair M.value M.value pair_value i v (λ a b u. refl) n s (record { before = before; phrase = e; next = next }) y x h)

-- ---- an insert
abbrev pub target_value : Target → M.State → Setting
unfolding definitions
target_value x u = record { field = x.field; value = at_fresh x.temp u }

abbrev pub target_values : List Target → M.State → List Setting
unfolding definitions
target_values [] u = []
target_values (x ∷ xs) u = target_value x u ∷ target_values xs u

pub lifts_values : (w : Context) (ds : List Declared) (xs : List FieldValue) (n : ℕ) (s : M.State) → Lifts n s (lift_values w ds xs n) target_values (settings w ds xs)
unfolding definitions
lifts_values w ds [] n s = plain_lifts _ n s target_values (settings w ds []) (λ u. refl)
lifts_values w ds (f ∷ more) n s =
    let k = lifts w f.value n s in
    combined_lifts ◌∷◌ ◌∷◌ target_value target_values target_values (λ t. setting (value w f.value t)) (settings w ds more) (λ a b u. refl) n s
    (stored (spot ds f.field.name) (lift w f.value n)) (lift_values w ds more)
    (stored_lifts M.value (value w f.value) target_value (λ t. setting (value w f.value t)) n s (lift w f.value n) (L.Assign (temp.Fresh (lift w f.value n).next) (lift w f.value n).phrase)
    _ setting (M.value (lift w f.value n).phrase k.after) k refl (λ u. refl) (ap setting (k.means k.after (alike_self (lift w f.value n).next k.after))))
    (lifts_values w ds more)
  where
    setting : ℤ → Setting
    setting z = record { field = spot ds f.field.name; value = z }

all_within_is : (xs : List Target) (u : M.State) → M.holds (all_within xs) u ≡ are_within (target_values xs u)
unfolding definitions
all_within_is [] u = refl
all_within_is (x ∷ xs) u =
    within_is x.field (fresh x.temp) (all_within xs) u ∙ ap (λ b. is_within x.field (at_fresh x.temp u) && b) (all_within_is xs u)

-- a write changes no temporary
values_kept : (xs : List Target) (x : ℕ) (v : ℤ) (u : M.State) → target_values xs (M.put u (M.BaseAt x) v) ≡ target_values xs u
unfolding definitions
values_kept [] x v u = refl
values_kept (y ∷ ys) x v u = ap (λ l. target_value y u ∷ l) (values_kept ys x v u)

-- the commands that end a fill
abbrev pub fill_end : Slot → ℕ → L.Commands
unfolding definitions
fill_end slot t = L.MoreCommand (L.Write (split.Whole slot.used) (L.Literal (pos 1))) (one (L.Assign (temp.Named t) (L.Literal (pos (suc slot.number)))))

writes_fill : (slot : Slot) (t : ℕ) (xs : List Target) (u : M.State) → seen_run (M.exec_all (field_writes slot xs (fill_end slot t)) u) ≡ done (fill (target_values xs u) t (seen u) (Some slot))
unfolding definitions
writes_fill slot t [] u = refl
writes_fill slot t (x ∷ xs) u =
    let a = M.put u (M.BaseAt (cell slot x.field)) (at_fresh x.temp u) in
    writes_fill slot t xs a ∙ ap (λ l. done (fill l t (seen a) (Some slot))) (values_kept xs (cell slot x.field) (at_fresh x.temp u) u)

chain_fills : (xs : List Target) (t : ℕ) (all : List Slot) (u : M.State) → seen_run (M.exec (fill_chain xs t all) u) ≡ done (fill (target_values xs u) t (seen u) (first_where (is_free (seen u)) all))
unfolding definitions
chain_fills xs t [] u = refl
chain_fills xs t (slot ∷ more) u = go (is_free (seen u) slot) (writes_fill slot t xs u) (chain_fills xs t more u)
  where
    go : (b : Bool)
        → seen_run (M.exec_all (field_writes slot xs (fill_end slot t)) u) ≡ done (fill (target_values xs u) t (seen u) (Some slot))
        → seen_run (M.exec (fill_chain xs t more) u) ≡ done (fill (target_values xs u) t (seen u) (first_where (is_free (seen u)) more))
        → seen_run (cond (b && true) (M.exec_all (field_writes slot xs (fill_end slot t)) u) (M.exec (fill_chain xs t more) u)) ≡ done (fill (target_values xs u) t (seen u) (cond b (Some slot) (first_where (is_free (seen u)) more)))
    go true h ih = h
    go false h ih = ih

abbrev insert_end : List Slot → ℕ → List Target → L.Command
unfolding definitions
insert_end all t xs = L.If (all_within xs) (fill_chain xs t all) (L.Assign (temp.Named t) (L.Literal (pos 0)))

end_does : (all : List Slot) (t : ℕ) (xs : List Target) (u : M.State) → seen_run (M.exec (insert_end all t xs) u) ≡ done (insert all (target_values xs u) t (seen u))
unfolding definitions
end_does all t xs u =
    ap (λ b. seen_run (cond b (M.exec (fill_chain xs t all) u) (quiet (M.put u (M.TempAt (temp.Named t)) (pos 0))))) (all_within_is xs u)
    ∙ go (are_within (target_values xs u))
  where
    go : (b : Bool) → seen_run (cond b (M.exec (fill_chain xs t all) u) (quiet (M.put u (M.TempAt (temp.Named t)) (pos 0)))) ≡ done (cond b (fill (target_values xs u) t (seen u) (first_where (is_free (seen u)) all)) (set_temp (seen u) t (pos 0)))
    go true = chain_fills xs t all u
    go false = refl

pub insert_does : (w : Context) (ds : List Declared) (xs : List FieldValue) (all : List Slot) (t : ℕ) (n : ℕ) (s : M.State) → seen_run (M.exec (inserted all t (lift_values w ds xs n)).command s) ≡ done (insert all (settings w ds xs (seen s)) t (seen s))
unfolding definitions
insert_does w ds xs all t n s =
    let x = lift_values w ds xs n in
    let k = lifts_values w ds xs n s in
    ap seen_run (quiet_then x.before (insert_end all t x.phrase) s k.after k.runs)
    ∙ end_does all t x.phrase k.after
    ∙ ap₂ (λ l a. done (insert all l t a)) (k.means k.after (alike_self x.next k.after)) k.alike.sees
