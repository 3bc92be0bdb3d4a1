-- What a lifting does: its commands print nothing and keep what is seen, and then the phrase has the source's value.
use Rattle.std.proofs.Common.{◌≡◌, ℕ, suc, ◌<◌, ◌≤◌, ◌==◌, Bool, true, false, cond, List, [], ◌++◌, ℤ, refl, sym, ap, ap₂, ◌∙◌, append_assoc, append-nil, arith}
use Rattle.std.proofs.lemmas.Bool.Decides.{nat_tests}
use Rattle.homeo_syntax.specs.declared.low.Temp.TheVariants as temp
use Rattle.homeo_syntax.specs.Low as L
use Rattle.homeo_meaning.specs.Key.{definitions}
use Rattle.homeo_meaning.specs.LowMeaning as M
use Rattle.homeo_meaning.specs.Meaning.{State, Run}
use Rattle.homeo_meaning.specs.LForm.{Lifted, both, one, in_front, plain, mapped, combined}

-- the source's state in a state of L
abbrev pub seen : M.State → State
seen s = record { database = λ x. s (M.BaseAt x); temps = λ x. s (M.TempAt (temp.Named x)) }

-- a run that doesn't end the call
abbrev pub seen_run : M.Run → Run
seen_run r = record { state = seen r.state; prints = r.prints; ended = false }

abbrev pub quiet : M.State → M.Run
unfolding definitions
quiet s = record { state = s; prints = [] }

abbrev pub at_fresh : ℕ → M.State → ℤ
unfolding definitions
at_fresh n s = s (M.TempAt (temp.Fresh n))

-- the same is seen, and the same stands in the fresh temporaries below n
pub record Alike (n : ℕ) (s u : M.State) : Type 0 where
  pub sees : seen u ≡ seen s
  pub keeps : (m : ℕ) → m < n → at_fresh m u ≡ at_fresh m s

pub record Lifts {A V : Type 0} (n : ℕ) (s : M.State) (x : Lifted A) (at : A → M.State → V) (v : State → V) : Type 0 where
  pub after : M.State
  pub runs : M.exec_all x.before s ≡ quiet after
  pub grows : n ≤ x.next
  pub alike : Alike n s after
  pub means : (u : M.State) → Alike x.next after u → at x.phrase u ≡ v (seen s)

-- ---- runs
pub after_twice : (ps qs : List ℤ) (r : M.Run) → M.after_prints (ps ++ qs) r ≡ M.after_prints ps (M.after_prints qs r)
unfolding definitions
after_twice ps qs r = ap (λ (l : List ℤ). let w : M.Run = record { state = r.state; prints = l } in w) (append_assoc ps qs r.prints)

exec_both : (cs ds : L.Commands) (s : M.State) → M.exec_all (both cs ds) s ≡ M.after_prints (M.exec_all cs s).prints (M.exec_all ds (M.exec_all cs s).state)
unfolding definitions
exec_both L.NoCommand ds s = refl
exec_both (L.MoreCommand c cs) ds s =
    ap (M.after_prints (M.exec c s).prints) (exec_both cs ds (M.exec c s).state)
    ∙ sym (after_twice (M.exec c s).prints (M.exec_all cs (M.exec c s).state).prints (M.exec_all ds (M.exec_all cs (M.exec c s).state).state))

-- commands after those that print nothing
pub quiet_both : (cs ds : L.Commands) (s a : M.State) → M.exec_all cs s ≡ quiet a → M.exec_all (both cs ds) s ≡ M.exec_all ds a
unfolding definitions
quiet_both cs ds s a e = exec_both cs ds s ∙ ap (λ (r : M.Run). M.after_prints r.prints (M.exec_all ds r.state)) e

pub quiet_then : (cs : L.Commands) (c : L.Command) (s a : M.State) → M.exec_all cs s ≡ quiet a → M.exec_all (both cs (one c)) s ≡ M.exec c a
unfolding definitions
quiet_then cs c s a e =
    quiet_both cs (one c) s a e
    ∙ ap (λ (l : List ℤ). let w : M.Run = record { state = (M.exec c a).state; prints = l } in w) (append-nil (M.exec c a).prints)

pub quiet_front : (cs : L.Commands) (c : L.Command) (s a : M.State) → M.exec_all cs s ≡ quiet a → M.exec (in_front cs c) s ≡ M.exec c a
unfolding definitions
quiet_front L.NoCommand c s a e = ap (λ (r : M.Run). M.exec c r.state) e
quiet_front (L.MoreCommand b bs) c s a e = quiet_then (L.MoreCommand b bs) c s a e

-- ---- states
pub alike_self : (n : ℕ) (s : M.State) → Alike n s s
unfolding definitions
alike_self n s = record { sees = refl; keeps = λ m lt. refl }

pub alike_then : (m n : ℕ) (s a u : M.State) → m ≤ n → Alike m s a → Alike n a u → Alike m s u
unfolding definitions
alike_then m n s a u le h k =
    record { sees = k.sees ∙ h.sees; keeps = λ j lt. k.keeps j (omega arith) ∙ h.keeps j lt }

pub alike_below : (m n : ℕ) (s u : M.State) → m ≤ n → Alike n s u → Alike m s u
unfolding definitions
alike_below m n s u le h = record { sees = h.sees; keeps = λ j lt. h.keeps j (omega arith) }

pub put_here : (n : ℕ) (s : M.State) (v : ℤ) → at_fresh n (M.put s (M.TempAt (temp.Fresh n)) v) ≡ v
unfolding definitions
put_here n s v = go (n == n) refl
  where
    go : (b : Bool) → (n == n) ≡ b → cond b v (at_fresh n s) ≡ v
    go true e = refl
    go false e = grind (arith, nat_tests)

pub alike_put : (m n : ℕ) (s : M.State) (v : ℤ) → m ≤ n → Alike m s (M.put s (M.TempAt (temp.Fresh n)) v)
unfolding definitions
alike_put m n s v le = record { sees = refl; keeps = λ j lt. go j (n == j) refl lt }
  where
    go : (j : ℕ) (b : Bool) → (n == j) ≡ b → j < m → cond b v (at_fresh j s) ≡ at_fresh j s
    go j true e lt = grind (arith, nat_tests)
    go j false e lt = refl

-- ---- ways to lift
pub plain_lifts : {A V : Type 0} (a : A) (n : ℕ) (s : M.State) (at : A → M.State → V) (v : State → V) → ((u : M.State) → at a u ≡ v (seen u)) → Lifts n s (plain a n) at v
unfolding definitions
plain_lifts a n s at v h =
    record { after = s; runs = refl; grows = omega arith; alike = alike_self n s; means = λ u k. h u ∙ ap v k.sees }

pub mapped_lifts : {A B V W : Type 0} (f : A → B) (g : V → W) (at : A → M.State → V) (at' : B → M.State → W) (v : State → V) → ((a : A) (u : M.State) → at' (f a) u ≡ g (at a u)) → (n : ℕ) (s : M.State) (x : Lifted A) → Lifts n s x at v → Lifts n s (mapped f x) at' (λ t. g (v t))
unfolding definitions
mapped_lifts f g at at' v h n s x k =
    record { after = k.after; runs = k.runs; grows = k.grows; alike = k.alike; means = λ u l. h x.phrase u ∙ ap g (k.means u l) }

pub combined_lifts : {A B C V W Z : Type 0} (f : A → B → C) (g : V → W → Z) (at : A → M.State → V) (at' : B → M.State → W) (at'' : C → M.State → Z) (v : State → V) (v' : State → W) → ((a : A) (b : B) (u : M.State) → at'' (f a b) u ≡ g (at a u) (at' b u)) → (n : ℕ) (s : M.State) (x : Lifted A) (y : ℕ → Lifted B) → Lifts n s x at v → ((m : ℕ) (a : M.State) → Lifts m a (y m) at' v') → Lifts n s (combined f x y) at'' (λ t. g (v t) (v' t))
unfolding definitions
combined_lifts f g at at' at'' v v' h n s x y k l =
    let r = l x.next k.after in
    record {
      after = r.after;
      runs = quiet_both x.before (y x.next).before s k.after k.runs ∙ r.runs;
      grows = omega (arith, k.grows, r.grows);
      alike = alike_then n x.next s k.after r.after k.grows k.alike r.alike;
      means = λ u i. h x.phrase (y x.next).phrase u ∙ ap₂ g (k.means u (alike_then x.next (y x.next).next k.after r.after u r.grows r.alike i)) (r.means u i ∙ ap v' k.alike.sees);
    }

-- a value that a last command puts into a fresh temporary
pub stored_lifts : {A B V W : Type 0} (at : A → M.State → V) (v : State → V) (at' : B → M.State → W) (v' : State → W) (n : ℕ) (s : M.State) (x : Lifted A) (c : L.Command) (b : B) (g : ℤ → W) (z : ℤ) → (k : Lifts n s x at v) → M.exec c k.after ≡ quiet (M.put k.after (M.TempAt (temp.Fresh x.next)) z) → ((u : M.State) → at' b u ≡ g (at_fresh x.next u)) → g z ≡ v' (seen s) → Lifts n s (record { before = both x.before (one c); phrase = b; next = suc x.next }) at' v'
unfolding definitions
stored_lifts at v at' v' n s x c b g z k e h i =
    record {
      after = M.put k.after (M.TempAt (temp.Fresh x.next)) z;
      runs = quiet_then x.before c s k.after k.runs ∙ e;
      grows = omega (arith, k.grows);
      alike = alike_then n x.next s k.after _ k.grows k.alike (alike_put x.next x.next k.after z (omega arith));
      means = λ u a. h u ∙ ap g (a.keeps x.next (omega arith) ∙ put_here x.next k.after z) ∙ i;
    }
