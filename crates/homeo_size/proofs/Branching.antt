-- Branches: taken back the extents are as before, and after both they are the greater.
use Rattle.std.proofs.Common.{◌≡◌, ℕ, ◌==◌, ◌≤◌, max, Bool, true, false, cond, ◌&&◌, List, [], ◌∷◌, ◌++◌, map, length, take, drop, refl, sym, ap, ap₂, ◌∙◌, arith, append_assoc, append-nil}
use Rattle.std.specs.Prelude.{nat_le}
use Rattle.std.proofs.Math.Seq.{take-append_seam, drop-append_seam}
use Rattle.std.proofs.lemmas.Bool.Decides.{nat_tests}
use Rattle.std.proofs.lemmas.Bool.{false≢true, and_parts}
use Rattle.std.proofs.lemmas.Int.{clamps}
use Rattle.std.proofs.lemmas.List.{map-append}
use Rattle.homeo_syntax.specs.Low.{Command, Commands, Skip, Assign, Write, Print, Seq, If, NoCommand, MoreCommand}
use Rattle.homeo_syntax.specs.declared.low.Temp.TheVariants.{Named, Fresh}
use Rattle.homeo_meaning.specs.Key.{definitions as meaning_definitions}
use Rattle.homeo_meaning.specs.LowMeaning.{Location, TempAt, BaseAt, DeltaAt, same_location, put}
use Rattle.homeo_size.specs.inner.Key.{definitions}
use Rattle.homeo_size.specs.inner.Parts.{greater, no_more}
use Rattle.homeo_size.specs.inner.Sizing.{Sizes}
use Rattle.homeo_size.specs.inner.Store.{Store, location_at, with_entry, kept_in, set_entry, raise_entry, taken_back, back_to, since, raised, kept_sets, kept_all, left_by}
use Rattle.homeo_size.specs.declared.extent.Extent.{Extent}
use Rattle.homeo_size.specs.declared.extents.Entry.{Entry}
use Rattle.homeo_size.specs.declared.extents.Entry.TheVariants.{Temp, Name}
use Rattle.homeo_size.specs.declared.extents.Kept.{Kept}
use Rattle.homeo_size.proofs.Caps.{max_same, max_assoc}
use Rattle.homeo_size.proofs.Tables.{store_with}

-- ---- the greater of two extents
greater_same : (e : Extent) → greater e e ≡ e
unfolding definitions
greater_same e = λ i. record { size = max_same e.size i; depth = max_same e.depth i; weight = max_same e.weight i }

max_again : (m n : ℕ) → max m (max m n) ≡ max m n
max_again m n = omega (arith, clamps)

greater_again : (e f : Extent) → greater e (greater e f) ≡ greater e f
unfolding definitions
greater_again e f = λ i. record { size = max_again e.size f.size i; depth = max_again e.depth f.depth i; weight = max_again e.weight f.weight i }

less_max : (m n : ℕ) → nat_le m n ≡ true → max m n ≡ n
less_max m n h = let le : m ≤ n = grind (arith, nat_tests) in omega (arith, clamps, le)

greater_more : (e f : Extent) → no_more e f ≡ true → greater e f ≡ f
unfolding definitions
greater_more e f h =
    let sizes = and_parts (nat_le e.size f.size) (nat_le e.depth f.depth && nat_le e.weight f.weight) h in
    let others = and_parts (nat_le e.depth f.depth) (nat_le e.weight f.weight) sizes.1 in
    λ i. record { size = less_max e.size f.size sizes.0 i; depth = less_max e.depth f.depth others.0 i; weight = less_max e.weight f.weight others.1 i }

greater_assoc : (d e f : Extent) → greater (greater d e) f ≡ greater d (greater e f)
unfolding definitions
greater_assoc d e f = λ i. record { size = max_assoc d.size e.size f.size i; depth = max_assoc d.depth e.depth f.depth i; weight = max_assoc d.weight e.weight f.weight i }

-- ---- places
both_same : (w x j k : ℕ) → w == x && j == k ≡ true → DeltaAt w j ≡ DeltaAt x k
both_same w x j k h = go (w == x) (j == k) refl refl h
  where
    go : (b c : Bool) → w == x ≡ b → j == k ≡ c → b && c ≡ true → DeltaAt w j ≡ DeltaAt x k
    go true true d e h =
        let one : w ≡ x = grind (arith, nat_tests) in
        let two : j ≡ k = grind (arith, nat_tests) in
        ap₂ DeltaAt one two
    go true false d e h = absurd (false≢true h)
    go false c d e h = absurd (false≢true h)

same_is : (p q : Location) → same_location p q ≡ true → p ≡ q
unfolding meaning_definitions
same_is (TempAt (Named m)) (TempAt (Named n)) h = let e : m ≡ n = grind (arith, nat_tests) in ap (λ k. TempAt (Named k)) e
same_is (TempAt (Named m)) (TempAt (Fresh n)) h = absurd (false≢true h)
same_is (TempAt (Fresh m)) (TempAt (Named n)) h = absurd (false≢true h)
same_is (TempAt (Fresh m)) (TempAt (Fresh n)) h = let e : m ≡ n = grind (arith, nat_tests) in ap (λ k. TempAt (Fresh k)) e
same_is (TempAt t) (BaseAt y) h = absurd (false≢true h)
same_is (TempAt t) (DeltaAt y k) h = absurd (false≢true h)
same_is (BaseAt x) (TempAt t) h = absurd (false≢true h)
same_is (BaseAt x) (BaseAt y) h = let e : x ≡ y = grind (arith, nat_tests) in ap BaseAt e
same_is (BaseAt x) (DeltaAt y k) h = absurd (false≢true h)
same_is (DeltaAt x j) (TempAt t) h = absurd (false≢true h)
same_is (DeltaAt x j) (BaseAt y) h = absurd (false≢true h)
same_is (DeltaAt x j) (DeltaAt y k) h = both_same x y j k h

put_at : (s : Sizes) (p : Location) (v : Extent) (q : Location) → put s p v q ≡ cond (same_location p q) v (s q)
unfolding meaning_definitions
put_at s p v q = refl

each_place : (s t : Sizes) → ((p : Location) → s p ≡ t p) → s ≡ t
each_place s t h = λ i p. h p i

-- a place that is made what it is, and one that is put back
unchanged : (s : Sizes) (p q : Location) → put s p (s p) q ≡ s q
unchanged s p q = put_at s p (s p) q ∙ go (same_location p q) refl
  where
    go : (b : Bool) → same_location p q ≡ b → cond (same_location p q) (s p) (s q) ≡ s q
    go true h = ap (λ b. cond b (s p) (s q)) h ∙ ap s (same_is p q h)
    go false h = ap (λ b. cond b (s p) (s q)) h

put_back : (s : Sizes) (p : Location) (v : Extent) → put (put s p v) p (s p) ≡ s
put_back s p v =
    each_place _ _ (λ q. put_at (put s p v) p (s p) q ∙ ap (cond (same_location p q) (s p)) (put_at s p v q) ∙ go q (same_location p q) refl)
  where
    go : (q : Location) (b : Bool) → same_location p q ≡ b → cond (same_location p q) (s p) (cond (same_location p q) v (s q)) ≡ s q
    go q true h = ap (λ b. cond b (s p) (cond b v (s q))) h ∙ ap s (same_is p q h)
    go q false h = ap (λ b. cond b (s p) (cond b v (s q))) h

-- ---- lists of entries
pub is_in : Location → List Entry → Bool
is_in p [] = false
is_in p (e ∷ es) = cond (same_location (location_at e) p) true (is_in p es)

record Neither (b c : Bool) : Type 0 where
  first : b ≡ false
  second : c ≡ false

neither : (b c : Bool) → cond b true c ≡ false → Neither b c
neither true c h = absurd (false≢true (sym h))
neither false c h = record { first = refl; second = h }

either_way : (b c d : Bool) → cond (cond b true c) true d ≡ cond b true (cond c true d)
either_way true c d = refl
either_way false c d = refl

in_both : (p : Location) (es fs : List Entry) → is_in p (es ++ fs) ≡ cond (is_in p es) true (is_in p fs)
unfolding is_in
in_both p [] fs = refl
in_both p (e ∷ es) fs =
    let here : Bool = same_location (location_at e) p in
    ap (cond here true) (in_both p es fs) ∙ sym (either_way here (is_in p es) (is_in p fs))

abbrev entries : List Kept → List Entry
entries l = map (λ k. k.entry) l

-- other places are not taken back
others_stay : (l : List Kept) (s : Sizes) (p : Location) → is_in p (entries l) ≡ false → taken_back l s p ≡ s p
unfolding definitions is_in
others_stay [] s p h = refl
others_stay (k ∷ ks) s p h =
    let here : Bool = same_location (location_at k.entry) p in
    let n : Neither here (is_in p (entries ks)) = neither here (is_in p (entries ks)) h in
    put_at (taken_back ks s) (location_at k.entry) k.extent p
    ∙ ap (λ b. cond b k.extent (taken_back ks s p)) n.first
    ∙ others_stay ks s p n.second

-- ---- a store whose further changes, taken back, leave the first
pub record Keeps (y z : Store) : Type 0 where
  pub extra : List Kept
  pub longer : z.log ≡ y.log ++ extra
  pub undone : taken_back extra z.sizes ≡ y.sizes

pub keeps_self : (y : Store) → Keeps y y
unfolding definitions
keeps_self y = record { extra = []; longer = sym (append-nil y.log); undone = refl }

back_both : (k l : List Kept) (s : Sizes) → taken_back (k ++ l) s ≡ taken_back k (taken_back l s)
unfolding definitions
back_both [] l s = refl
back_both (j ∷ k) l s = ap (λ t. with_entry t j.entry j.extent) (back_both k l s)

pub keeps_then : (x y z : Store) → Keeps x y → Keeps y z → Keeps x z
keeps_then x y z h k = record {
  extra = h.extra ++ k.extra;
  longer = k.longer ∙ ap (λ l. l ++ k.extra) h.longer ∙ append_assoc x.log h.extra k.extra;
  undone = back_both h.extra k.extra z.sizes ∙ ap (taken_back h.extra) k.undone ∙ h.undone;
}

pub set_keeps : (z : Store) (e : Entry) (v : Extent) → Keeps z (set_entry z e v)
unfolding definitions
set_keeps z e v = record { extra = kept_in z.sizes e ∷ []; longer = refl; undone = put_back z.sizes (location_at e) v }

-- ---- taken back
pub back_is : (y z : Store) → Keeps y z → back_to (length y.log) z ≡ y
unfolding definitions
back_is y z h =
    (λ i. store_with (taken_back (drop (length y.log) (h.longer i)) z.sizes) (take (length y.log) (h.longer i)))
    ∙ (λ i. store_with (taken_back (drop-append_seam y.log h.extra i) z.sizes) (take-append_seam y.log h.extra i))
    ∙ ap (λ s. store_with s y.log) h.undone

-- what has changed since
map_entries : (s : Sizes) (l : List Kept) → map (λ k. kept_in s k.entry) l ≡ map (kept_in s) (entries l)
map_entries s [] = refl
map_entries s (k ∷ ks) = ap (λ l. kept_in s k.entry ∷ l) (map_entries s ks)

since_is : (y z : Store) (h : Keeps y z) → since (length y.log) z ≡ map (kept_in z.sizes) (entries h.extra)
unfolding definitions
since_is y z h =
    ap (λ l. map (λ k. kept_in z.sizes k.entry) (drop (length y.log) l)) h.longer
    ∙ ap (map (λ k. kept_in z.sizes k.entry)) (drop-append_seam y.log h.extra)
    ∙ map_entries z.sizes h.extra

-- what has not changed is the same
same_outside : (y z : Store) (h : Keeps y z) (p : Location) → is_in p (entries h.extra) ≡ false → z.sizes p ≡ y.sizes p
same_outside y z h p out = sym (others_stay h.extra z.sizes p out) ∙ ap (λ (s : Sizes). s p) h.undone

-- ---- what is raised
raise_step : (b c : Bool) (kept e now : Extent) → (b ≡ true → e ≡ greater kept now) → cond c (greater kept (cond b e now)) (cond b e now) ≡ cond (cond b true c) (greater kept now) now
raise_step true true kept e now h = ap (greater kept) (h refl) ∙ greater_again kept now
raise_step true false kept e now h = h refl
raise_step false c kept e now h = refl

raise_sizes : (z : Store) (e : Entry) (x : Extent) (p : Location) → (raise_entry z e x).sizes p ≡ put z.sizes (location_at e) (greater x (z.sizes (location_at e))) p
unfolding definitions
raise_sizes z e x p = go (no_more x (z.sizes (location_at e))) refl
  where
    go : (b : Bool) → no_more x (z.sizes (location_at e)) ≡ b → (cond b z (set_entry z e (greater x (z.sizes (location_at e))))).sizes p ≡ put z.sizes (location_at e) (greater x (z.sizes (location_at e))) p
    go true h = sym (ap (λ v. put z.sizes (location_at e) v p) (greater_more x (z.sizes (location_at e)) h) ∙ unchanged z.sizes (location_at e) p)
    go false h = refl

raise_keeps : (z : Store) (e : Entry) (x : Extent) → Keeps z (raise_entry z e x)
unfolding definitions
raise_keeps z e x = go (no_more x (z.sizes (location_at e)))
  where
    go : (b : Bool) → Keeps z (cond b z (set_entry z e (greater x (z.sizes (location_at e)))))
    go true = keeps_self z
    go false = set_keeps z e (greater x (z.sizes (location_at e)))

raised_is : (s : Sizes) (es : List Entry) (z : Store) (p : Location) → (raised (map (kept_in s) es) z).sizes p ≡ cond (is_in p es) (greater (s p) (z.sizes p)) (z.sizes p)
unfolding definitions is_in
raised_is s [] z p = refl
raised_is s (e ∷ es) z p =
    let q : Location = location_at e in
    let v : Extent = greater (s q) (z.sizes q) in
    raised_is s es (raise_entry z e (s q)) p
    ∙ ap (λ u. cond (is_in p es) (greater (s p) u) u) (raise_sizes z e (s q) p ∙ put_at z.sizes q v p)
    ∙ raise_step (same_location q p) (is_in p es) (s p) v (z.sizes p) (λ h. ap (λ r. greater (s r) (z.sizes r)) (same_is q p h))

raised_keeps : (ks : List Kept) (z : Store) → Keeps z (raised ks z)
unfolding definitions
raised_keeps [] z = keeps_self z
raised_keeps (k ∷ ks) z =
    keeps_then z (raise_entry z k.entry k.extent) (raised ks (raise_entry z k.entry k.extent)) (raise_keeps z k.entry k.extent) (raised_keeps ks (raise_entry z k.entry k.extent))

-- ---- what a command may leave less than it was
abbrev mutual
  pub sets : Command → List Entry
  sets Skip = []
  sets (Assign t e) = Temp t ∷ []
  sets (Write x e) = Name x ∷ []
  sets (Print e) = []
  sets (Seq cs) = sets_all cs
  sets (If b c d) = sets c

  pub sets_all : Commands → List Entry
  sets_all NoCommand = []
  sets_all (MoreCommand c cs) = sets c ++ sets_all cs

mutual
  unfolding definitions

  kept_is : (s : Sizes) (c : Command) (ks : List Kept) → kept_sets s c ks ≡ ks ++ map (kept_in s) (sets c)
  kept_is s Skip ks = sym (append-nil ks)
  kept_is s (Assign t e) ks = refl
  kept_is s (Write x e) ks = refl
  kept_is s (Print e) ks = sym (append-nil ks)
  kept_is s (Seq cs) ks = all_kept_are s cs ks
  kept_is s (If b c d) ks = kept_is s c ks

  all_kept_are : (s : Sizes) (cs : Commands) (ks : List Kept) → kept_all s cs ks ≡ ks ++ map (kept_in s) (sets_all cs)
  all_kept_are s NoCommand ks = sym (append-nil ks)
  all_kept_are s (MoreCommand c cs) ks =
      ap (kept_all s cs) (kept_is s c ks)
      ∙ all_kept_are s cs (ks ++ map (kept_in s) (sets c))
      ∙ append_assoc ks (map (kept_in s) (sets c)) (map (kept_in s) (sets_all cs))
      ∙ ap (λ l. ks ++ l) (sym (map-append (kept_in s) (sets c) (sets_all cs)))

left_is : (y z : Store) (h : Keeps y z) (d : Command) → left_by (length y.log) z d ≡ map (kept_in z.sizes) (entries h.extra ++ sets d)
unfolding definitions
left_is y z h d =
    kept_is z.sizes d (since (length y.log) z)
    ∙ ap (λ l. l ++ map (kept_in z.sizes) (sets d)) (since_is y z h)
    ∙ sym (map-append (kept_in z.sizes) (entries h.extra) (sets d))

-- where a command doesn't set a place, it leaves no less there than there was
abbrev pub Rises : Store → Store → List Entry → Type 0
Rises y z es = (p : Location) → is_in p es ≡ false → greater (y.sizes p) (z.sizes p) ≡ z.sizes p

pub rises_self : (y : Store) (es : List Entry) → Rises y y es
rises_self y es p out = greater_same (y.sizes p)

pub set_rises : (y : Store) (e : Entry) (v : Extent) → Rises y (set_entry y e v) (e ∷ [])
unfolding definitions is_in
set_rises y e v p out =
    let n : Neither (same_location (location_at e) p) false = neither (same_location (location_at e) p) false out in
    let is : put y.sizes (location_at e) v p ≡ y.sizes p = put_at y.sizes (location_at e) v p ∙ ap (λ b. cond b v (y.sizes p)) n.first in
    ap (greater (y.sizes p)) is ∙ greater_same (y.sizes p) ∙ sym is

pub rises_then : (x y z : Store) (es fs : List Entry) → Rises x y es → Rises y z fs → Rises x z (es ++ fs)
rises_then x y z es fs h k p out =
    let n : Neither (is_in p es) (is_in p fs) = neither (is_in p es) (is_in p fs) (sym (in_both p es fs) ∙ out) in
    let one : greater (x.sizes p) (y.sizes p) ≡ y.sizes p = h p n.first in
    let two : greater (y.sizes p) (z.sizes p) ≡ z.sizes p = k p n.second in
    ap (greater (x.sizes p)) (sym two) ∙ sym (greater_assoc (x.sizes p) (y.sizes p) (z.sizes p)) ∙ ap (λ e. greater e (z.sizes p)) one ∙ two

-- ---- two branches from y, of which the first leaves z and the second u
module _ (y z u : Store) (d : Command) (h : Keeps y z) (k : Keeps y u) (rises : Rises y u (sets d)) where
  abbrev pub both_left : Store
  both_left = raised (left_by (length y.log) z d) u

  both_at : (p : Location) (b : Bool) → is_in p (entries h.extra ++ sets d) ≡ b → cond (is_in p (entries h.extra ++ sets d)) (greater (z.sizes p) (u.sizes p)) (u.sizes p) ≡ greater (z.sizes p) (u.sizes p)
  both_at p true e = ap (λ b. cond b (greater (z.sizes p) (u.sizes p)) (u.sizes p)) e
  both_at p false e =
      let n : Neither (is_in p (entries h.extra)) (is_in p (sets d)) = neither (is_in p (entries h.extra)) (is_in p (sets d)) (sym (in_both p (entries h.extra) (sets d)) ∙ e) in
      ap (λ b. cond b (greater (z.sizes p) (u.sizes p)) (u.sizes p)) e
      ∙ sym (rises p n.second)
      ∙ ap (λ e. greater e (u.sizes p)) (sym (same_outside y z h p n.first))

  pub both_sizes : (p : Location) → both_left.sizes p ≡ greater (z.sizes p) (u.sizes p)
  both_sizes p =
      ap (λ l. (raised l u).sizes p) (left_is y z h d)
      ∙ raised_is z.sizes (entries h.extra ++ sets d) u p
      ∙ both_at p (is_in p (entries h.extra ++ sets d)) refl

  pub both_keep : Keeps y both_left
  both_keep = keeps_then y u (raised (left_by (length y.log) z d) u) k (raised_keeps (left_by (length y.log) z d) u)

  -- no less than the first branch leaves
  pub both_rise : (es : List Entry) → Rises y z es → Rises y both_left es
  both_rise es first p out =
      let is : both_left.sizes p ≡ greater (z.sizes p) (u.sizes p) = both_sizes p in
      ap (greater (y.sizes p)) is
      ∙ sym (greater_assoc (y.sizes p) (z.sizes p) (u.sizes p))
      ∙ ap (λ e. greater e (u.sizes p)) (first p out)
      ∙ sym is
