-- Clients are counted one after another.
use Rattle.homeo_cluster.specs.Key.{places}
use Rattle.std.proofs.Common.{◌≡◌, ◌≢◌, ℕ, zero, suc, ◌+◌, ◌*◌, ◌<◌, ◌≤◌, Bool, true, false, List, [], ◌∷◌, ◌++◌, length, Some, refl, sym, ap, ◌∙◌, arith, length-append}
use Rattle.std.specs.Prelude.{slice_get}
use mathlib.Core.Logic.{dite}
use native.Mathlib.Decide.{ℕ_discrete}
use Rattle.homeo_history.proofs.Lists.{get_end}
use Rattle.std.proofs.lemmas.List.{length-map}
use Rattle.homeo_lemmas.proofs.Places.{get_left}
use Rattle.homeo_syntax.specs.Source as s
use Rattle.homeo_meaning.specs.Schema.{nat_of}
use Rattle.homeo_history.specs.Legal.{IsClientAt}
use Rattle.homeo_cluster.specs.Places.{is_less, is_same, one_for, earlier, nth, homes, below, place, done_line, at_line}
use Rattle.homeo_cluster.specs.inner.Begun.{before}
use Rattle.homeo_cluster.proofs.Apart.{at_home}

-- ---- tests
less_true : (m n : ℕ) → m < n → is_less m n ≡ true
less_true zero zero l = absurd (omega arith)
less_true zero (suc n) l = refl
less_true (suc m) zero l = absurd (omega arith)
less_true (suc m) (suc n) l = less_true m n (omega arith)

less_false : (m n : ℕ) → n ≤ m → is_less m n ≡ false
less_false zero zero l = refl
less_false zero (suc n) l = absurd (omega arith)
less_false (suc m) zero l = refl
less_false (suc m) (suc n) l = less_false m n (omega arith)

same_true : (m n : ℕ) → m ≡ n → is_same m n ≡ true
same_true zero zero e = refl
same_true zero (suc n) e = absurd (omega (arith, e))
same_true (suc m) zero e = absurd (omega (arith, e))
same_true (suc m) (suc n) e = same_true m n (omega (arith, e))

same_false : (m n : ℕ) → m ≢ n → is_same m n ≡ false
same_false zero zero ne = absurd (ne refl)
same_false zero (suc n) ne = refl
same_false (suc m) zero ne = refl
same_false (suc m) (suc n) ne = same_false m n (λ e. ne (ap suc e))

-- ---- counts
earlier_more : (p : ℕ → Bool) (xs : List ℕ) (n : ℕ) → n < length xs → earlier p xs (suc n) ≡ earlier p xs n + one_for (p (nth xs n))
earlier_more p [] n l = absurd (omega arith)
earlier_more p (x ∷ xs) zero l = none p x xs
  where
    none : (p : ℕ → Bool) (x : ℕ) (xs : List ℕ) → one_for (p x) + earlier p xs zero ≡ 0 + one_for (p x)
    none p x [] = omega arith
    none p x (y ∷ ys) = omega arith
earlier_more p (x ∷ xs) (suc n) l =
    let rest : earlier p xs (suc n) ≡ earlier p xs n + one_for (p (nth xs n)) = earlier_more p xs n (omega arith) in omega (arith, rest)

pub earlier_few : (p : ℕ → Bool) (xs : List ℕ) (n : ℕ) → earlier p xs n ≤ length xs
earlier_few p [] n = omega arith
earlier_few p (x ∷ xs) zero = omega arith
earlier_few p (x ∷ xs) (suc n) = let rest : earlier p xs n ≤ length xs = earlier_few p xs n in let one : one_for (p x) ≤ 1 = at_most (p x) in omega (arith, rest, one)
  where
    at_most : (b : Bool) → one_for b ≤ 1
    at_most true = omega arith
    at_most false = omega arith

pub none_earlier : (p : ℕ → Bool) (xs : List ℕ) → earlier p xs 0 ≡ 0
none_earlier p [] = refl
none_earlier p (x ∷ xs) = refl

pub homes_length : (w : s.Workload) → length (homes w) ≡ length w.clients
homes_length w = length-map w.clients (λ (c : s.Client). nat_of c.site.value)

-- one client more, where the test is so for its site
module _ (w : s.Workload) (site client : ℕ) (at : IsClientAt w site client) (p : ℕ → Bool) where
  count_more : (b : Bool) → p site ≡ b → earlier p (homes w) (client + 1) ≡ earlier p (homes w) client + one_for b
  unfolding places
  count_more b is =
      let home = at_home w site client at in
      let next : client + 1 ≡ suc client = omega arith in
      ap (earlier p (homes w)) next ∙ earlier_more p (homes w) client home.1 ∙ ap (λ x. earlier p (homes w) client + one_for (p x)) home.0
      ∙ ap (λ x. earlier p (homes w) client + one_for x) is

  pub counted : p site ≡ true → (n m : ℕ) → n ≡ earlier p (homes w) client → m ≡ n + 1 → m ≡ earlier p (homes w) (client + 1)
  counted is n m e f = let more = count_more true is in omega (arith, more, e, f)

  pub passed_over : p site ≡ false → (n : ℕ) → n ≡ earlier p (homes w) client → n ≡ earlier p (homes w) (client + 1)
  passed_over is n e = let more = count_more false is in omega (arith, more, e)

-- ---- as the code counts
abbrev pub BelowSoFar : s.Workload → ℕ → ℕ → ℕ
BelowSoFar w site n = earlier (λ other. is_less other site) (homes w) n

pub below_more : (w : s.Workload) (home site client n m : ℕ) → IsClientAt w home client → home < site → n ≡ BelowSoFar w site client → m ≡ n + 1 → m ≡ BelowSoFar w site (client + 1)
below_more w home site client n m at l e f = counted w home client at (λ other. is_less other site) (less_true home site l) n m e f

pub below_same : (w : s.Workload) (home site client n : ℕ) → IsClientAt w home client → site ≤ home → n ≡ BelowSoFar w site client → n ≡ BelowSoFar w site (client + 1)
below_same w home site client n at l e = passed_over w home client at (λ other. is_less other site) (less_false home site l) n e

pub below_whole : (w : s.Workload) (site n clients : ℕ) → clients ≡ length w.clients → n ≡ BelowSoFar w site clients → n ≡ below w site
unfolding places
below_whole w site n clients all e = e ∙ ap (BelowSoFar w site) (all ∙ sym (homes_length w))

pub before_more : (w : s.Workload) (home site client n m : ℕ) → IsClientAt w home client → home ≡ site → n ≡ before w site client → m ≡ n + 1 → m ≡ before w site (client + 1)
unfolding places
before_more w home site client n m at is e f = counted w home client at (λ other. is_same other site) (same_true home site is) n m e f

pub before_same : (w : s.Workload) (home site client n : ℕ) → IsClientAt w home client → home ≢ site → n ≡ before w site client → n ≡ before w site (client + 1)
unfolding places
before_same w home site client n at ne e = passed_over w home client at (λ other. is_same other site) (same_false home site ne) n e

pub before_none : (w : s.Workload) (site : ℕ) → before w site 0 ≡ 0
unfolding places
before_none w site = none_earlier (λ other. is_same other site) (homes w)

pub below_none : (w : s.Workload) (site : ℕ) → BelowSoFar w site 0 ≡ 0
below_none w site = none_earlier (λ other. is_less other site) (homes w)

-- ---- the lines
pub place_is : (w : s.Workload) (home client : ℕ) → IsClientAt w home client → place w client ≡ below w home + before w home client
unfolding places
place_is w home client at = ap (λ n. below w n + before w n client) (at_home w home client at).0

pub done_is : (w : s.Workload) (home client : ℕ) → IsClientAt w home client → done_line w client ≡ 2 * length w.clients + 2 * place w client + home
unfolding places
done_is w home client at = ap (λ n. 2 * length w.clients + 2 * place w client + n) (at_home w home client at).0

pub at_is : (w : s.Workload) (site next : ℕ) → next ≡ site + 1 → at_line w site ≡ 2 * length w.clients + 2 * below w next + site
unfolding places
at_is w site next e = let n : suc site ≡ next = omega (arith, e) in ap (λ m. 2 * length w.clients + 2 * below w m + site) n

-- ---- a list of lines
pub longer_by_one : (lines more : List ℕ) (line n : ℕ) → more ≡ lines ++ line ∷ [] → length lines ≡ n → length more ≡ n + 1
longer_by_one lines more line n is count = let long = length-append lines (line ∷ []) in ap length is ∙ omega (arith, long, count)

pub one_line_more : (f : ℕ → ℕ) (lines more : List ℕ) (line n : ℕ) → more ≡ lines ++ line ∷ [] → length lines ≡ n → ((i : ℕ) → i < n → slice_get lines i ≡ Some (f i)) → line ≡ f n
    → (i : ℕ) → i < n + 1 → slice_get more i ≡ Some (f i)
one_line_more f lines more line n is count all last i l = ap (λ (xs : List ℕ). slice_get xs i) is ∙ dite (ℕ_discrete i n)
    (λ same. ap (slice_get (lines ++ line ∷ [])) (same ∙ sym count) ∙ get_end lines line ∙ ap Some (last ∙ ap f (sym same)))
    (λ ne. let before : i < n = omega (arith, l, ne) in get_left lines (line ∷ []) i (f i) (all i before))
