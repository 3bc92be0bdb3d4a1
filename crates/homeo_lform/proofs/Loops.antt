-- Loops over slots: counts and sums, and loops of commands.
use Rattle.std.proofs.Common.{◌≡◌, ℕ, suc, ◌<◌, ◌≤◌, Bool, true, false, cond, ◌&&◌, List, [], ◌∷◌, ℤ, pos, ◌+ℤ◌, refl, ap, ap₂, ◌∙◌, arith}
use Rattle.std.proofs.lemmas.Int.{ints}
use Rattle.homeo_syntax.specs.declared.low.Temp.TheVariants as temp
use Rattle.homeo_syntax.specs.Low as L
use Rattle.homeo_meaning.specs.Key.{definitions}
use Rattle.homeo_meaning.specs.LowMeaning as M
use Rattle.homeo_meaning.specs.Context.{Slot}
use Rattle.homeo_meaning.specs.Meaning.{State, is_used, added}
use Rattle.homeo_meaning.specs.LForm.{Lifted, Made, AllMade, visits, counted, equal, read, fresh}
use Rattle.homeo_lform.proofs.Lifts.{seen, quiet, at_fresh, Alike, Lifts, quiet_both, alike_self, alike_then, alike_below, alike_put, put_here}

-- the test of a loop at one slot
abbrev pub loop_test : Slot → L.Cond → L.Cond
unfolding definitions
loop_test slot b = L.MoreTest (equal (read slot.used) (pos 1)) b

pub tested : (slot : Slot) (p : State → Bool) (m : ℕ) (s : M.State) (x : Lifted L.Cond) → (k : Lifts m s x M.holds p) → M.holds (loop_test slot x.phrase) k.after ≡ is_used (seen s) slot && p (seen s)
unfolding definitions
tested slot p m s x k =
    ap₂ ◌&&◌ (ap (λ t. is_used t slot) k.alike.sees) (k.means k.after (alike_self x.next k.after))

-- ---- counts and sums in the fresh temporary n
record Counts (n m : ℕ) (s : M.State) (x : AllMade) (total : ℤ) : Type 0 where
  after : M.State
  runs : M.exec_all x.commands s ≡ quiet after
  grows : m ≤ x.next
  alike : Alike n s after
  counts : at_fresh n after ≡ total

abbrev pub add_term : ℕ → L.Expr → L.Command
unfolding definitions
add_term n e = L.Assign (temp.Fresh n) (L.Sum (L.MoreExpr (fresh n) (L.MoreExpr e L.NoExpr)))

pub record Adds (n : ℕ) (a : M.State) (r : M.Run) (total : ℤ) : Type 0 where
  pub after : M.State
  pub runs : r ≡ quiet after
  pub alike : Alike n a after
  pub counts : at_fresh n after ≡ total

pub adds : (n : ℕ) (e : L.Expr) (a : M.State) (q : ℤ) (b : Bool) → M.value e a ≡ q → Adds n a (cond b (M.exec (add_term n e) a) (quiet a)) (cond b (at_fresh n a +ℤ q) (at_fresh n a))
unfolding definitions
adds n e a q true h =
    let v = (pos 0 +ℤ at_fresh n a) +ℤ M.value e a in
    record {
      after = M.put a (M.TempAt (temp.Fresh n)) v;
      runs = refl;
      alike = alike_put n n a v (omega arith);
      counts = put_here n a v ∙ (let zero_left : (pos 0 +ℤ at_fresh n a) +ℤ M.value e a ≡ at_fresh n a +ℤ M.value e a = omega (arith, ints) in zero_left) ∙ ap (λ z. at_fresh n a +ℤ z) h;
    }
adds n e a q false h = record { after = a; runs = refl; alike = alike_self n a; counts = refl }

module _ (test : Slot → ℕ → Lifted L.Cond) (p : Slot → State → Bool) (tests : (slot : Slot) (m : ℕ) (s : M.State) → Lifts m s (test slot m) M.holds (p slot)) where
  abbrev passes_at : State → Slot → Bool
  passes_at t slot = is_used t slot && p slot t

  module _ (term : Slot → L.Expr) (q : Slot → State → ℤ) (terms : (slot : Slot) (u : M.State) → M.value (term slot) u ≡ q slot (seen u)) where
    abbrev term_body : ℕ → Slot → ℕ → Made
    term_body n slot m = record { command = add_term n (term slot); next = m }

    abbrev total_of : State → List Slot → ℤ → ℤ
    total_of t all z = added (passes_at t) (λ slot. q slot t) all z

    counts_all : (all : List Slot) (n m : ℕ) → n < m → (s : M.State) → Counts n m s (visits false false test (term_body n) all m) (total_of (seen s) all (at_fresh n s))
    unfolding definitions
    counts_all [] n m lt s = record { after = s; runs = refl; grows = omega arith; alike = alike_self n s; counts = refl }
    counts_all (slot ∷ more) n m lt s =
        let b = test slot m in
        let k = tests slot m s in
        let if_else : L.Command = L.If (loop_test slot b.phrase) (add_term n (term slot)) L.Skip in
        let others = visits false false test (term_body n) more b.next in
        let one = adds n (term slot) k.after (q slot (seen s)) (passes_at (seen s) slot) (terms slot k.after ∙ ap (q slot) k.alike.sees) in
        let rest = counts_all more n b.next (omega (arith, k.grows)) one.after in
        let step : M.exec if_else k.after ≡ quiet one.after =
        ap (λ v. cond v (M.exec (add_term n (term slot)) k.after) (quiet k.after)) (tested slot (p slot) m s b k) ∙ one.runs in
        record {
          after = rest.after;
          runs = quiet_both b.before (L.MoreCommand if_else others.commands) s k.after k.runs
              ∙ ap (λ (r : M.Run). M.after_prints r.prints (M.exec_all others.commands r.state)) step
              ∙ rest.runs;
          grows = omega (arith, k.grows, rest.grows);
          alike = alike_then n n s k.after rest.after (omega arith) (alike_below n m s k.after (omega arith) k.alike)
              (alike_then n n k.after one.after rest.after (omega arith) one.alike rest.alike);
          counts = rest.counts
              ∙ ap₂ (λ t z. total_of t more z) (one.alike.sees ∙ k.alike.sees)
              (one.counts ∙ ap (λ z. cond (passes_at (seen s) slot) (z +ℤ q slot (seen s)) z) (k.alike.keeps n lt));
        }

    pub counted_lifts : (all : List Slot) (n : ℕ) (s : M.State) → Lifts n s (counted test term all n) M.value (λ t. total_of t all (pos 0))
    unfolding definitions
    counted_lifts all n s =
        let a = M.put s (M.TempAt (temp.Fresh n)) (pos 0) in
        let k = counts_all all n (suc n) (omega arith) a in
        record {
          after = k.after;
          runs = k.runs;
          grows = omega (arith, k.grows);
          alike = alike_then n n s a k.after (omega arith) (alike_put n n s (pos 0) (omega arith)) k.alike;
          means = λ u h. h.keeps n (omega (arith, k.grows)) ∙ k.counts ∙ ap (λ z. total_of (seen s) all z) (put_here n s (pos 0));
        }
