-- The lines of a site's holder are apart.
use Rattle.homeo_history.specs.Key.{definitions as history_definitions}
use Rattle.std.proofs.Common.{◌≡◌, ℕ, zero, suc, ◌+◌, ◌*◌, ◌<◌, ◌≤◌, Bool, true, List, [], ◌∷◌, length, map, Some, refl, ap, ◌∙◌, arith}
use Rattle.std.specs.Prelude.{slice_get, option_map}
use Rattle.homeo_syntax.specs.Source as s
use Rattle.homeo_syntax.specs.Source.{Client}
use Rattle.homeo_meaning.specs.Schema.{nat_of}
use Rattle.homeo_history.specs.Legal.{IsClientAt}
use Rattle.homeo_cluster.specs.Key.{places}
use Rattle.homeo_cluster.specs.Places.{is_less, is_same, one_for, earlier, nth, homes, home_of, below, done_line, shut_line, at_line}

-- at the place i stands x
stands : {X : Type 0} (f : X → ℕ) (xs : List X) (i site : ℕ) → option_map f (slice_get xs i) ≡ Some site → (nth (map f xs) i ≡ site) × (i < length (map f xs))
stands f [] i site e = absurd (cc)
stands f (x ∷ xs) zero site e = (cc (e), omega arith)
stands f (x ∷ xs) (suc i) site e = let rest = stands f xs i site e in (rest.0, omega (arith, rest.1))

pub at_home : (w : s.Workload) (site client : ℕ) → IsClientAt w site client → (home_of w client ≡ site) × (client < length (homes w))
unfolding places history_definitions
at_home w site client at = stands (λ (c : Client). nat_of c.site.value) w.clients client site at

-- counted before a place, and from it on
fewer : (p : ℕ → Bool) (xs : List ℕ) (i j : ℕ) → i < j → i < length xs → p (nth xs i) ≡ true → suc (earlier p xs i) ≤ earlier p xs j
fewer p [] i j lt len at = absurd (omega arith)
fewer p (x ∷ xs) zero zero lt len at = absurd (omega arith)
fewer p (x ∷ xs) zero (suc j) lt len at = let one : one_for (p x) ≡ 1 = ap one_for at in omega arith
fewer p (x ∷ xs) (suc i) zero lt len at = absurd (omega arith)
fewer p (x ∷ xs) (suc i) (suc j) lt len at = let rest : suc (earlier p xs i) ≤ earlier p xs j = fewer p xs i j (omega arith) (omega arith) at in omega arith

same_self : (n : ℕ) → is_same n n ≡ true
same_self zero = refl
same_self (suc n) = same_self n

split_one : (s i : ℕ) → one_for (is_less s (suc i)) ≡ one_for (is_less s i) + one_for (is_same s i)
split_one zero zero = refl
split_one zero (suc i) = refl
split_one (suc s) zero = less_none s
  where
    less_none : (s : ℕ) → one_for (is_less s zero) ≡ 0
    less_none zero = refl
    less_none (suc s) = refl
split_one (suc s) (suc i) = split_one s i

pub split_all : (i : ℕ) (xs : List ℕ) (n : ℕ) → earlier (λ s. is_less s (suc i)) xs n ≡ earlier (λ s. is_less s i) xs n + earlier (λ s. is_same s i) xs n
split_all i [] n = refl
split_all i (x ∷ xs) zero = refl
split_all i (x ∷ xs) (suc n) =
    let one : one_for (is_less x (suc i)) ≡ one_for (is_less x i) + one_for (is_same x i) = split_one x i in
    let rest : earlier (λ s. is_less s (suc i)) xs n ≡ earlier (λ s. is_less s i) xs n + earlier (λ s. is_same s i) xs n = split_all i xs n in
    omega arith

-- ---- the lines of one site
-- the place of a client within its site's block
pub record InBlock (w : s.Workload) (site client : ℕ) : Type 0 where
  pub line : done_line w client ≡ 2 * length w.clients + 2 * (below w site + earlier (λ s. is_same s site) (homes w) client) + site
  pub before : suc (below w site + earlier (λ s. is_same s site) (homes w) client) ≤ below w (suc site)

pub in_block : (w : s.Workload) (site client : ℕ) → IsClientAt w site client → InBlock w site client
unfolding places
in_block w site client at =
    let home = at_home w site client at in
    let same : is_same (nth (homes w) client) site ≡ true = ap (λ n. is_same n site) home.0 ∙ same_self site in
    let some : suc (earlier (λ s. is_same s site) (homes w) client) ≤ earlier (λ s. is_same s site) (homes w) (length (homes w)) = fewer (λ s. is_same s site) (homes w) client (length (homes w)) home.1 home.1 same in
    let all : below w (suc site) ≡ below w site + earlier (λ s. is_same s site) (homes w) (length (homes w)) = split_all site (homes w) (length (homes w)) in record {
      line = ap (λ n. 2 * length w.clients + 2 * (below w n + earlier (λ s. is_same s n) (homes w) client) + n) home.0;
      before = omega arith;
    }

-- a client before another of the same site
earlier_client : (w : s.Workload) (site c d : ℕ) → c < d → IsClientAt w site c → suc (earlier (λ s. is_same s site) (homes w) c) ≤ earlier (λ s. is_same s site) (homes w) d
unfolding places
earlier_client w site c d lt at =
    let home = at_home w site c at in
    fewer (λ s. is_same s site) (homes w) c d lt home.1 (ap (λ n. is_same n site) home.0 ∙ same_self site)

pub record AreApart (w : s.Workload) (site : ℕ) : Type 0 where
  pub done : (c d : ℕ) → IsClientAt w site c → IsClientAt w site d → done_line w c ≡ done_line w d → c ≡ d
  pub shut : (c d : ℕ) → IsClientAt w site c → IsClientAt w site d → shut_line w c ≡ shut_line w d → c ≡ d
  pub mixed : (c d : ℕ) → IsClientAt w site c → IsClientAt w site d → done_line w c ≡ shut_line w d → ⊥
  pub at_done : (c : ℕ) → IsClientAt w site c → at_line w site ≡ done_line w c → ⊥
  pub at_shut : (c : ℕ) → IsClientAt w site c → at_line w site ≡ shut_line w c → ⊥

done_apart : (w : s.Workload) (site c d : ℕ) → IsClientAt w site c → IsClientAt w site d → done_line w c ≡ done_line w d → (c < d → ⊥) × (d < c → ⊥)
done_apart w site c d at bt e =
    let x = in_block w site c at in
    let y = in_block w site d bt in
    let xl : done_line w c ≡ 2 * length w.clients + 2 * (below w site + earlier (λ s. is_same s site) (homes w) c) + site = x.line in
    let yl : done_line w d ≡ 2 * length w.clients + 2 * (below w site + earlier (λ s. is_same s site) (homes w) d) + site = y.line in (
      (λ lt. let f : suc (earlier (λ s. is_same s site) (homes w) c) ≤ earlier (λ s. is_same s site) (homes w) d = earlier_client w site c d lt at in omega arith),
      (λ lt. let f : suc (earlier (λ s. is_same s site) (homes w) d) ≤ earlier (λ s. is_same s site) (homes w) c = earlier_client w site d c lt bt in omega arith),
    )

neither : (c d : ℕ) → (c < d → ⊥) × (d < c → ⊥) → c ≡ d
neither zero zero h = refl
neither zero (suc d) h = absurd (h.0 (omega arith))
neither (suc c) zero h = absurd (h.1 (omega arith))
neither (suc c) (suc d) h = ap suc (neither c d ((λ lt. h.0 (omega (arith, lt))), (λ lt. h.1 (omega (arith, lt)))))

pub apart : (w : s.Workload) (site : ℕ) → AreApart w site
unfolding places
apart w site = record {
  done = λ c d at bt e. neither c d (done_apart w site c d at bt e);
  shut = λ c d at bt e. neither c d (done_apart w site c d at bt (omega (arith, e)));
  mixed = λ c d at bt e. let xl = (in_block w site c at).line in let yl = (in_block w site d bt).line in omega (arith, xl, yl, e);
  at_done = λ c at e. let x = in_block w site c at in let xl = x.line in let xb = x.before in omega (arith, xl, xb, e);
  at_shut = λ c at e. let x = in_block w site c at in let xl = x.line in let xb = x.before in omega (arith, xl, xb, e);
}
