-- What is true of each ground call is true of each call.
use Rattle.std.proofs.Common.{◌≡◌, ℤ, Bool, true, false, cond, ◌||◌, ◌==◌, List, [], ◌∷◌, ◌++◌, refl, ap₂, arith}
use Rattle.std.specs.List.{list_any}
use Rattle.std.specs.Ordering.{int_eq}
use Rattle.std.proofs.lemmas.Int.{ints}
use Rattle.std.proofs.lemmas.Bool.{and_parts}
use Rattle.std.proofs.lemmas.Bool.Decides.{nat_tests}
use Rattle.homeo_meaning.specs.Key.{definitions}
use Rattle.homeo_meaning.specs.NumberRules.{same_numbers, same_body, same_ground, distinct_after}
use Rattle.homeo_meaning.specs.GlobalNames.{SitedCall}

abbrev pub Every : (SitedCall → Type 0) → List SitedCall → Type 0
Every P [] = Unit {0}
Every P (c ∷ cs) = P c × Every P cs

pub every_first : (P : SitedCall → Type 0) (cs ds : List SitedCall) → Every P (cs ++ ds) → Every P cs × Every P ds
every_first P [] ds h = (tt, h)
every_first P (c ∷ cs) ds h = let k = every_first P cs ds h.1 in ((h.0, k.0), k.1)

known_case : (P : SitedCall → Type 0) (u : SitedCall) → ((k : SitedCall) → same_ground u k ≡ true → P k → P u) → (kept : List SitedCall) → list_any (same_ground u) kept ≡ true → Every P kept → P u
known_case P u same [] e h = cc
known_case P u same (k ∷ kept) e h = by_case (same_ground u k) refl e (λ z. known_case P u same kept z h.1)
  where
    by_case : (b : Bool) → same_ground u k ≡ b → (b || list_any (same_ground u) kept) ≡ true → (list_any (same_ground u) kept ≡ true → P u) → P u
    by_case true q z more = same k q h.0
    by_case false q z more = more z

pub record Spread (P : SitedCall → Type 0) (kept us : List SitedCall) : Type 0 where
  pub before : Every P kept
  pub all : Every P us

module _ (P : SitedCall → Type 0) (same : (u k : SitedCall) → same_ground u k ≡ true → P k → P u) where
  pub spread : (kept us : List SitedCall) → Every P (distinct_after kept us) → Spread P kept us
  unfolding definitions
  spread kept [] h = record { before = h; all = tt }
  spread kept (u ∷ us) h = by_case (list_any (same_ground u) kept) refl h (spread kept us) (spread (kept ++ u ∷ []) us)
    where
      by_case : (b : Bool) → list_any (same_ground u) kept ≡ b → Every P (distinct_after (cond b kept (kept ++ u ∷ [])) us) → (Every P (distinct_after kept us) → Spread P kept us) → (Every P (distinct_after (kept ++ u ∷ []) us) → Spread P (kept ++ u ∷ []) us) → Spread P kept (u ∷ us)
      by_case true q z known more = let r = known z in record { before = r.before; all = (known_case P u (same u) kept q r.before, r.all) }
      by_case false q z known more =
          let r = more z in
          let k = every_first P kept (u ∷ []) r.before in
          record { before = k.0; all = (k.1.0, r.all) }

-- calls of one ground call have one body and equal arguments
pub numbers_same : (ms ns : List ℤ) → same_numbers ms ns ≡ true → ms ≡ ns
numbers_same [] [] e = refl
numbers_same [] (n ∷ ns) e = cc
numbers_same (m ∷ ms) [] e = cc
numbers_same (m ∷ ms) (n ∷ ns) e =
    let k = and_parts (int_eq m n) (same_numbers ms ns) e in
    let first : m ≡ n = grind (arith, ints) in
    ap₂ ◌∷◌ first (numbers_same ms ns k.1)

pub record SameCall (u k : SitedCall) : Type 0 where
  pub name : u.name.name ≡ k.name.name
  pub args : u.args ≡ k.args

pub same_call : (u k : SitedCall) → same_ground u k ≡ true → SameCall u k
unfolding definitions
same_call u k e =
    let a = and_parts (same_body u k) (int_eq u.site k.site) e in
    let b = and_parts (u.name.name == k.name.name) (same_numbers u.args k.args) a.0 in
    record { name = grind (arith, nat_tests); args = numbers_same u.args k.args b.1 }
