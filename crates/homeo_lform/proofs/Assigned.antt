-- How many assignments a form has, that it is at least as large, and that a literal takes no fresh temporary.
use Rattle.std.proofs.Common.{◌≡◌, ℕ, suc, ◌≤◌, ◌+◌, List, [], ◌∷◌, length, ℤ, Option, Some, None, Bool, true, false, refl, arith}
use Rattle.homeo_syntax.specs.Low as L
use Rattle.homeo_syntax.specs.Source.{Expr, Literal, Name, Read, Sum, Product, Neg, Field, Row, Count, Total}
use Rattle.homeo_meaning.specs.Key.{definitions}
use Rattle.homeo_meaning.specs.Context.{Spot, Slot, Context, spot, slots, fields}
use Rattle.homeo_meaning.specs.LowMeaning.{Location}
use Rattle.homeo_meaning.specs.LowSizes.{Extent, command_extent, commands_extent, after}
use Rattle.homeo_meaning.specs.LForm.{both, one, in_front, guard, in_turn, saves, undo, undoing, read_chain, literal_of, indexed_by, lift}

abbrev mutual
  unfolding definitions

  pub assigns : L.Command → ℕ
  assigns L.Skip = 0
  assigns (L.Assign t e) = 1
  assigns (L.Write x e) = 0
  assigns (L.Print e) = 0
  assigns (L.Seq cs) = all_assigns cs
  assigns (L.If t c d) = assigns c + assigns d

  pub all_assigns : L.Commands → ℕ
  all_assigns L.NoCommand = 0
  all_assigns (L.MoreCommand c cs) = assigns c + all_assigns cs

mutual
  unfolding definitions

  pub assigns_size : (k : ℕ) (c : L.Command) (u : Location → Extent) → assigns c ≤ (command_extent k c u).size
  assigns_size k L.Skip u = omega arith
  assigns_size k (L.Assign t e) u = omega arith
  assigns_size k (L.Write x e) u = omega arith
  assigns_size k (L.Print e) u = omega arith
  assigns_size k (L.Seq cs) u = let r = all_assigns_size k cs u in omega (arith, r)
  assigns_size k (L.If b c d) u = let r = assigns_size k c u in let q = assigns_size k d u in omega (arith, r, q)

  all_assigns_size : (k : ℕ) (cs : L.Commands) (u : Location → Extent) → all_assigns cs ≤ (commands_extent k cs u).size
  all_assigns_size k L.NoCommand u = omega arith
  all_assigns_size k (L.MoreCommand c cs) u =
      let r = assigns_size k c u in let q = all_assigns_size k cs (after k c u) in omega (arith, r, q)

pub both_count : (cs ds : L.Commands) → all_assigns (both cs ds) ≡ all_assigns cs + all_assigns ds
unfolding definitions
both_count L.NoCommand ds = omega arith
both_count (L.MoreCommand c cs) ds = let r = both_count cs ds in omega (arith, r)

pub front_count : (cs : L.Commands) (c : L.Command) → assigns (in_front cs c) ≡ all_assigns cs + assigns c
unfolding definitions
front_count L.NoCommand c = omega arith
front_count (L.MoreCommand d ds) c = let r = both_count ds (one c) in omega (arith, r)

pub turn_count : (v : Bool) (cs : L.Commands) (c : L.Command) (more : L.Commands) → all_assigns (in_turn v cs c more) ≡ all_assigns cs + (assigns c + all_assigns more)
unfolding definitions
turn_count true cs c more = let e = front_count cs c in omega (arith, e)
turn_count false cs c more = both_count cs (L.MoreCommand c more)

pub guard_count : (v : Bool) (c : L.Command) → assigns (guard v c) ≡ assigns c
unfolding definitions
guard_count true c = omega arith
guard_count false c = refl

pub saves_count : (xs : List ℕ) (n : ℕ) (more : L.Commands) → all_assigns (saves n xs more) ≡ length xs + all_assigns more
unfolding definitions
saves_count [] n more = omega arith
saves_count (x ∷ xs) n more = let r = saves_count xs (suc n) more in omega (arith, r)

pub chain_count : (f : Spot) (e : L.Expr) (t : ℕ) (all : List Slot) → 1 ≤ assigns (read_chain f e t all)
unfolding definitions
chain_count f e t [] = omega arith
chain_count f e t (slot ∷ more) = omega arith

pub undoing_count : (saved : List ℕ) (body : L.Commands) → 1 + length saved + all_assigns body ≤ assigns (undoing saved body)
unfolding definitions
undoing_count saved body =
    let e = saves_count saved 1 (L.MoreCommand (L.Seq body) (one (undo saved))) in omega (arith, e)

-- a literal takes no number
pub literal_next : (w : Context) (e : Expr) (n : ℕ) (v : ℤ) → literal_of (lift w e n).phrase ≡ Some v → (lift w e n).next ≡ n
unfolding definitions
literal_next w (Literal k) n v h = refl
literal_next w (Name t) n v h = refl
literal_next w (Read o) n v h = refl
literal_next w (Sum es) n v h = cc
literal_next w (Product es) n v h = cc
literal_next w (Neg e) n v h = cc
literal_next w (Field q e f) n v h = go (literal_of (lift w e n).phrase) (λ k i. literal_next w e n k i) h
  where
    go :
        (o : Option ℤ) → ((k : ℤ) → o ≡ Some k → (lift w e n).next ≡ n) →
        literal_of (indexed_by o (slots w q.name) (spot (fields w q.name) f.name) (lift w e n)).phrase ≡ Some v →
        (indexed_by o (slots w q.name) (spot (fields w q.name) f.name) (lift w e n)).next ≡ n
    go (Some k) f h = f k refl
    go None f h = cc
literal_next w (Row r f) n v h = refl
literal_next w (Count r q c) n v h = cc
literal_next w (Total r f q c) n v h = cc
