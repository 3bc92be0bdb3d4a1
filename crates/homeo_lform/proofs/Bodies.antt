-- So holds in the form of a body, also of one that can end its call and saves before what it restores then.
use Rattle.std.proofs.Common.{ℕ, suc, ◌+◌, ◌<◌, ◌≤◌, ◌==◌, Bool, true, false, cond, List, [], ◌∷◌, length, arith}
use Rattle.std.specs.Prelude.{nat_lt}
use Rattle.homeo_syntax.specs.declared.low.Temp.{Temp}
use Rattle.homeo_syntax.specs.declared.low.Temp.TheVariants as temp
use Rattle.homeo_syntax.specs.declared.low.SplitName.{SplitName}
use Rattle.homeo_syntax.specs.declared.low.SplitName.TheVariants as split
use Rattle.homeo_syntax.specs.declared.phrase.Ident.{Ident}
use Rattle.homeo_syntax.specs.Low as L
use Rattle.homeo_syntax.specs.Source as s
use Rattle.homeo_syntax.specs.WellFormed.{EachInCommands}
use Rattle.homeo_meaning.specs.Key.{definitions}
use Rattle.homeo_meaning.specs.Context.{Slot, Context}
use Rattle.homeo_meaning.specs.Bindings.{Row}
use Rattle.homeo_meaning.specs.Occurrences.{Occurrence, in_commands}
use Rattle.homeo_meaning.specs.LowWrites.{object_in, with_number, written, all_written}
use Rattle.homeo_meaning.specs.LForm.{forms, saves, restores, saved_in, undoing, body_by}
use Rattle.homeo_meaning.specs.Everywhere.{Everywhere, EverywhereInAll}
use Rattle.homeo_lform.proofs.Assigned.{assigns, undoing_count}
use Rattle.homeo_lform.proofs.Everywhere.{forms_in}
use Rattle.homeo_lform.proofs.Gives.{Gives}
use Rattle.homeo_lform.proofs.ObjectBounds.{Each}

-- ---- calls that can be ended
module _ (P : SplitName → Type 0) (Q : Temp → Type 0) (b : ℕ) (flag_below : 0 < b) (each_fresh : (m : ℕ) → m < b → Q (temp.Fresh m)) where
  abbrev Whole : ℕ → Type 0
  Whole x = P (split.Whole x)

  abbrev In : L.Command → Type 0
  In = Everywhere P Q

  abbrev InAll : L.Commands → Type 0
  InAll = EverywhereInAll P Q

  flag_in : Q (temp.Fresh 0)
  flag_in = each_fresh 0 flag_below

  number_in : (n : ℕ) (xs : List ℕ) → Whole n → Each Whole xs → Each Whole (with_number n xs)
  unfolding definitions
  number_in n [] h k = (h, tt)
  number_in n (m ∷ ms) h k = by_case (nat_lt n m) (n == m) (number_in n ms h k.1)
    where
      by_case : (p q : Bool) → Each Whole (with_number n ms) → Each Whole (cond p (n ∷ m ∷ ms) (cond q (m ∷ ms) (m ∷ with_number n ms)))
      by_case true q ih = (h, k)
      by_case false true ih = k
      by_case false false ih = (k.0, ih)

  module _ (whole_of : (x : SplitName) → P x → Whole (object_in x)) where
    mutual
      unfolding definitions

      written_in : (c : L.Command) (xs : List ℕ) → In c → Each Whole xs → Each Whole (written c xs)
      written_in L.Skip xs h k = k
      written_in (L.Assign t e) xs h k = k
      written_in (L.Write x e) xs h k = number_in (object_in x) xs (whole_of x h.0) k
      written_in (L.Print e) xs h k = k
      written_in (L.Seq cs) xs h k = all_written_in cs xs h k
      written_in (L.If t c d) xs h k = written_in d (written c xs) h.2 (written_in c xs h.1 k)

      all_written_in : (cs : L.Commands) (xs : List ℕ) → InAll cs → Each Whole xs → Each Whole (all_written cs xs)
      all_written_in L.NoCommand xs h k = k
      all_written_in (L.MoreCommand c cs) xs h k = all_written_in cs (written c xs) h.1 (written_in c xs h.0 k)

  saves_in : (n : ℕ) (xs : List ℕ) (more : L.Commands) → n + length xs ≤ b → Each Whole xs → InAll more → InAll (saves n xs more)
  unfolding definitions
  saves_in n [] more l h k = k
  saves_in n (x ∷ xs) more l h k = ((each_fresh n (omega (arith, l)), h.0), saves_in (suc n) xs more (omega (arith, l)) h.1 k)

  restores_in : (n : ℕ) (xs : List ℕ) → n + length xs ≤ b → Each Whole xs → InAll (restores n xs)
  unfolding definitions
  restores_in n [] l h = tt
  restores_in n (x ∷ xs) l h = ((h.0, each_fresh n (omega (arith, l))), restores_in (suc n) xs (omega (arith, l)) h.1)

  undoing_in : (saved : List ℕ) (body : L.Commands) → 1 + length saved ≤ b → Each Whole saved → InAll body → In (undoing saved body)
  unfolding definitions
  undoing_in saved body l h k = (
    (flag_in, tt),
    saves_in 1 saved _ l h (k, ((((flag_in, tt), tt), restores_in 1 saved l h, tt), tt)),
  )

-- ---- bodies
-- the next number behind the form of a body that can end its call, or can't
abbrev pub last_number : Bool → Context → s.Commands → ℕ
last_number false x cs = (forms x false cs 0).next
last_number true x cs = (forms x false cs (1 + length (saved_in x cs))).next

module _
    (P : SplitName → Type 0)
    (Q : Temp → Type 0)
    (K : List Row → Context → Type 0)
    (C : Occurrence → Type 0)
    (N : Ident → Type 0)
    (R : Context → ℕ → Slot → Type 0)
    (gives : Gives P Q K C N R)
    (whole_of : (x : SplitName) → P x → P (split.Whole (object_in x)))
    (x : Context)
    (cs : s.Commands)
    (known : K [] x)
    (each_name : Each C (in_commands [] cs))
    (each_ident : EachInCommands N cs)
  where
    -- the names alone, whatever the temporaries
    names : Gives P (λ t. Unit {0}) K C N R
    names =
        record {
          named = λ t h. tt;
          one_object = gives.one_object;
          row_field = gives.row_field;
          all_slots = gives.all_slots;
          used = gives.used;
          field = gives.field;
          filled = gives.filled;
          bound = gives.bound;
        }

    saved_whole : Each (λ y. P (split.Whole y)) (saved_in x cs)
    unfolding definitions
    saved_whole =
        let end = suc (forms x false cs 0).next in
        let made = forms_in P (λ t. Unit {0}) end (omega arith) (λ m l. tt) K C N R names [] x false cs 0 known each_name each_ident in
        all_written_in P (λ t. Unit {0}) end (omega arith) (λ m l. tt) whole_of (forms x false cs 0).commands [] (made.holds (omega arith)) tt

    pub body_in : (v : Bool) (b : ℕ) → 0 < b → ((m : ℕ) → m < b → Q (temp.Fresh m)) → last_number v x cs ≤ b → Everywhere P Q (body_by v x cs)
    unfolding definitions
    body_in false b flag each l = (forms_in P Q b flag each K C N R gives [] x false cs 0 known each_name each_ident).holds l
    body_in true b flag each l =
        let saved = saved_in x cs in
        let made = forms_in P Q b flag each K C N R gives [] x false cs (1 + length saved) known each_name each_ident in
        let g = made.grows in
        undoing_in P Q b flag each saved _ (omega (arith, g, l)) saved_whole (made.holds l)

    pub body_count : (v : Bool) → last_number v x cs ≤ assigns (body_by v x cs)
    unfolding definitions
    body_count false =
        let made = forms_in P (λ t. Unit {0}) 1 (omega arith) (λ m l. tt) K C N R names [] x false cs 0 known each_name each_ident in
        let c = made.count in
        omega (arith, c)
    body_count true =
        let saved = saved_in x cs in
        let made = forms_in P (λ t. Unit {0}) 1 (omega arith) (λ m l. tt) K C N R names [] x false cs (1 + length saved) known each_name each_ident in
        let c = made.count in
        let sum = undoing_count saved (forms x false cs (1 + length saved)).commands in
        omega (arith, c, sum)
