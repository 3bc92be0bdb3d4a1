-- Phrases after a mark, any number of times.
use Rattle.std.proofs.Common.{◌≡◌, ℕ, zero, suc, ◌<◌, ◌≤◌, Bool, true, false, ◌||◌, ◌&&◌, List, [], ◌∷◌, ◌++◌, length, refl, ap, ◌∙◌, sym, subst, arith, append_assoc, not, true≢false}
use Rattle.std.specs.Prelude.{Option, Some, None, option_map, Ok, Err, if◌then◌else◌}
use Rattle.homeo_syntax.specs.declared.token.Mark.{Mark}
use Rattle.homeo_syntax.specs.declared.token.Kind.{Kind}
use Rattle.homeo_syntax.specs.declared.token.Kind.TheVariants as kind
use Rattle.homeo_syntax.specs.declared.token.Token.{Token}
use Rattle.homeo_syntax.specs.Classes.{number_of}
use Rattle.homeo_syntax.specs.Grammar.{many, alt, call, as_value, takes, Spells, Means}
use Rattle.homeo_reader.specs.inner.Engine.{Reading, ◌>>=◌, Calls, calls_at, empty, exists, begins, first_is, read, decides}
use Rattle.homeo_syntax.specs.Rules.{Deep, Factor, Test, Tree, Rule, rule, lead, term}
use Rattle.homeo_reader.specs.inner.FirstTokens.{classes}
use Rattle.homeo_syntax.specs.declared.token.Mark.TheVariants as mark
use Rattle.homeo_syntax.specs.Source as s
use Rattle.homeo_reader.specs.declared.parser.Fault.{Fault}
use Rattle.homeo_reader.specs.declared.parser.Fault.TheVariants as fault
use Rattle.homeo_reader.specs.inner.Reading.{opt_of, opt_read, on_marked, if_marked, next_factor_read, next_factor_do, next_term_read, next_term_do, test_read, next_test_read, next_test_do, Gives, mark_read, offset_read, with_front, factor_read, term_read}
use Rattle.homeo_reader.proofs.Bools.{if_true, if_false, not_both}
use Rattle.homeo_reader.proofs.Words.{Outcome, Takes, begun_exists, empty_word}
use Rattle.homeo_reader.proofs.Outcomes.{read_outcome, first_begins, longer}
use Rattle.homeo_reader.proofs.Complete.{known_at}
use Rattle.homeo_reader.proofs.Decided.{decided}
use Rattle.homeo_reader.proofs.Unfold.{many_ends, many_goes_on, many_stops, no_longer}
use Rattle.homeo_reader.proofs.Flat.{bind_ok, bind_assoc}
use Rattle.std.proofs.lemmas.List.{append-nil}
use Rattle.std.proofs.lemmas.Bool.{eq-eqb, and_parts, or_left, and_from}
use Rattle.homeo_lemmas.proofs.Bools.{never_both}

abbrev after : {A : Type 0} → Reading A → List Token
after (Ok x) = x.1
after (Err e) = e

-- a mark is taken
pub mark_taken : (m : Mark) (t : Token) (ts rest : List Token) → t.kind ≡ kind.Fixed m → ts ≡ t ∷ rest → mark_read m ts ≡ Ok (tt, rest)
mark_taken m t ts rest e h =
    ap (mark_read m) h ∙ if_true (takes (number_of m ∷ []) (λ k. true) t.kind) (Ok (tt, rest)) (Err (t ∷ rest))
    (ap (takes (number_of m ∷ []) (λ k. true)) e ∙ ap (λ (b : Bool). (b || false) && true) (eq-eqb (number_of m) (number_of m) refl))

pub offset_taken : (m : Mark) (t : Token) (ts rest : List Token) → t.kind ≡ kind.Fixed m → ts ≡ t ∷ rest → offset_read m ts ≡ Ok (t.offset, rest)
offset_taken m t ts rest e h =
    ap (offset_read m) h ∙ if_true (takes (number_of m ∷ []) (λ k. true) t.kind) (Ok (t.offset, rest)) (Err (t ∷ rest))
    (ap (takes (number_of m ∷ []) (λ k. true)) e ∙ ap (λ (b : Bool). (b || false) && true) (eq-eqb (number_of m) (number_of m) refl))

-- this mark comes first, and then the rest
pub marked : (m : Mark) (ts r : List Token) (u : Unit {0}) → mark_read m ts ≡ Ok (u, r) →
    (t : Token) × (ts ≡ t ∷ r) × (takes (number_of m ∷ []) (λ k. true) t.kind ≡ true)
marked m [] r u e = cc
marked m (t ∷ ts) r u e = go (takes (number_of m ∷ []) (λ k. true) t.kind) refl e
  where
    go : (b : Bool) → takes (number_of m ∷ []) (λ k. true) t.kind ≡ b → if◌then◌else◌ {A = Reading (Unit {0})} b (Ok (tt, ts)) (Err (t ∷ ts)) ≡ Ok (u, r) →
        (s : Token) × (t ∷ ts ≡ s ∷ r) × (takes (number_of m ∷ []) (λ k. true) s.kind ≡ true)
    go true h e = (t, ap (λ (x : Reading (Unit {0})). t ∷ after x) e, h)
    go false h e = cc

-- another token comes first, or none
pub not_marked : (m : Mark) (ts e : List Token) → mark_read m ts ≡ Err e → first_is (takes (number_of m ∷ []) (λ k. true)) ts ≡ false
not_marked m [] e h = refl
not_marked m (t ∷ ts) e h = go (takes (number_of m ∷ []) (λ k. true) t.kind) refl h
  where
    go : (b : Bool) → takes (number_of m ∷ []) (λ k. true) t.kind ≡ b → if◌then◌else◌ {A = Reading (Unit {0})} b (Ok (tt, ts)) (Err (t ∷ ts)) ≡ Err e →
        takes (number_of m ∷ []) (λ k. true) t.kind ≡ false
    go true h e = cc
    go false h e = h

module _ (cs : Calls Deep Tree) {X : Type 0} (m : Mark) (g : Rule X) (there : exists cs g ≡ true) where
  pub lead_begins : (ts r : List Token) (u : Unit {0}) → mark_read m ts ≡ Ok (u, r) → first_is (begins cs (lead m g)) ts ≡ true
  lead_begins ts r u e =
      let t = marked m ts r u e in
      ap (first_is (begins cs (lead m g))) t.1 ∙ or_left _ _ (and_from _ _ t.2 there)

  pub lead_reads : (ts r : List Token) (u : Unit {0}) → mark_read m ts ≡ Ok (u, r) → read cs (lead m g) ts ≡ read cs g r
  unfolding read
  lead_reads ts r u e =
      ap go_on e ∙ bind_assoc (read cs g r) (λ y. both (u, y.0) y.1) (λ x. Ok (x.0.1, x.1)) ∙ bind_ok (read cs g r)
    where
      both : Unit {0} × X → List Token → Reading (Unit {0} × X)
      both p ts = Ok (p, ts)

      go_on : Reading (Unit {0}) → Reading X
      go_on x = (x >>= λ x. read cs g x.1 >>= λ y. both (x.0, y.0) y.1) >>= λ x. Ok (x.0.1, x.1)

  pub lead_not : (ts e : List Token) → mark_read m ts ≡ Err e → first_is (begins cs (lead m g)) ts ≡ false
  lead_not [] e h = refl
  lead_not (t ∷ ts) e h =
      let n = not_marked m (t ∷ ts) e h in
      not_both (takes (number_of m ∷ []) (λ k. true) t.kind) (exists cs g) (begins cs g t.kind) n

-- these and one more in front
pub front_more : {A : Type 0} → (front : List A) (a : A) (r : Reading (List A)) →
    with_front front (r >>= λ y. Ok (a ∷ y.0, y.1)) ≡ with_front (front ++ a ∷ []) r
front_more front a (Ok x) = ap (λ l. Ok (l, x.1)) (sym (append_assoc front (a ∷ []) x.0))
front_more front a (Err e) = refl

pub front_end : {A : Type 0} → (front : List A) (ts : List Token) → with_front front (Ok ([], ts)) ≡ Ok (front, ts)
front_end front ts = ap (λ l. Ok (l, ts)) (append-nil front)

module _ (n : ℕ) {X : Type 0} (g : Rule X) (d : decides classes (many g) ≡ true) where
  pub more : (front : List X) (ts : List Token) (a : X) (r : List Token) → first_is (begins (calls_at rule n) g) ts ≡ true →
      read (calls_at rule n) g ts ≡ Ok (a, r) →
      with_front front (read (calls_at rule n) (many g) ts) ≡ with_front (front ++ a ∷ []) (read (calls_at rule n) (many g) r)
  more front ts a r f e =
      ap (with_front front) (many_goes_on classes (calls_at rule n) (Means rule n) (known_at classes rule decided n) g d ts a r f e)
      ∙ front_more front a (read (calls_at rule n) (many g) r)

  pub stops : (front : List X) (ts e : List Token) → first_is (begins (calls_at rule n) g) ts ≡ true → read (calls_at rule n) g ts ≡ Err e →
      with_front front (read (calls_at rule n) (many g) ts) ≡ Err e
  stops front ts e f h = ap (with_front front) (many_stops classes (calls_at rule n) (Means rule n) (known_at classes rule decided n) g d ts e f h)

  pub ends : (front : List X) (ts : List Token) → first_is (begins (calls_at rule n) g) ts ≡ false →
      with_front front (read (calls_at rule n) (many g) ts) ≡ Ok (front, ts)
  ends front ts f = ap (with_front front) (many_ends classes (calls_at rule n) (Means rule n) (known_at classes rule decided n) g d ts f) ∙ front_end front ts

pub exists_factor : (n : ℕ) → 0 < n → (calls_at rule n).exists Factor ≡ true
unfolding calls_at
exists_factor zero h = absurd (omega arith)
exists_factor (suc n) h = refl

-- a fault of a part is a fault of the whole
pub gives_err : {X Y X' Y' : Type 0} → (view : X → Y) (view' : X' → Y') (e : Fault) (rest : List Token) (part : Reading Y) (whole : Reading Y') →
    Gives view (Err e) rest part → (part ≡ Err rest → whole ≡ Err rest) → Gives view' (Err e) rest whole
gives_err view view' fault.Memory rest part whole g h = tt
gives_err view view' fault.Stuck rest part whole g h = h g

pub first_or : (p q : Kind → Bool) (ts : List Token) → first_is (λ k. p k || q k) ts ≡ (first_is p ts || first_is q ts)
first_or p q [] = refl
first_or p q (t ∷ ts) = refl

-- a phrase leaves no more than there was
pub leaves : {X : Type 0} → (n : ℕ) (g : Rule X) → decides classes g ≡ true → exists (calls_at rule n) g ≡ true → (ts : List Token) (a : X) (r : List Token) →
    read (calls_at rule n) g ts ≡ Ok (a, r) → length r ≤ length ts
leaves n g d x ts a r e =
    no_longer (Spells (Means rule n) g) (read (calls_at rule n) g) ts a r
    (read_outcome classes (calls_at rule n) (Means rule n) (known_at classes rule decided n) g d x ts) e

pub exists_term : (n : ℕ) → 0 < n → exists (calls_at rule n) term ≡ true
exists_term n h = and_from _ _ (exists_factor n h) refl

abbrev got : {X : Type 0} → Reading (Option X) → Reading X
got (Ok (Some a, r)) = Ok (a, r)
got (Ok (None, r)) = Err r
got (Err r) = Err r

abbrev is_none : {X : Type 0} → Reading (Option X) → Bool
is_none (Ok (None, r)) = true
is_none (Ok (Some a, r)) = false
is_none (Err r) = false

pub opt_some : {X : Type 0} → (b : Bool) (x : Reading X) (ts : List Token) (a : X) (r : List Token) → opt_of b x ts ≡ Ok (Some a, r) →
    (b ≡ true) × (x ≡ Ok (a, r))
opt_some true (Ok x) ts a r e = (refl, ap got e)
opt_some true (Err x) ts a r e = let no : ⊥ = cc in absurd no
opt_some false x ts a r e = absurd (true≢false (ap is_none e))

pub opt_err : {X : Type 0} → (b : Bool) (x : Reading X) (ts r : List Token) → opt_of b x ts ≡ Err r → (b ≡ true) × (x ≡ Err r)
opt_err true (Ok x) ts r e = let no : ⊥ = cc in absurd no
opt_err true (Err x) ts r e = (refl, ap got e)
opt_err false x ts r e = let no : ⊥ = cc in absurd no

pub opt_none : {X : Type 0} → (b : Bool) (x : Reading X) (ts r : List Token) → opt_of b x ts ≡ Ok (None, r) → (b ≡ false) × (ts ≡ r)
opt_none true (Ok x) ts r e = absurd (true≢false (sym (ap is_none e)))
opt_none true (Err x) ts r e = let no : ⊥ = cc in absurd no
opt_none false x ts r e = (refl, ap after e)

-- One more of them, or none.
module _ (n : ℕ) {X : Type 0} (g : Rule X) (d : decides classes (many g) ≡ true) where
  pub step_some : (front : List X) (ts r : List Token) (a : X) → opt_read (calls_at rule n) g ts ≡ Ok (Some a, r) →
      with_front front (read (calls_at rule n) (many g) ts) ≡ with_front (front ++ a ∷ []) (read (calls_at rule n) (many g) r)
  step_some front ts r a e = let b = opt_some _ _ ts a r e in more n g d front ts a r b.0 b.1

  pub step_err : (front : List X) (ts e : List Token) → opt_read (calls_at rule n) g ts ≡ Err e →
      with_front front (read (calls_at rule n) (many g) ts) ≡ Err e
  step_err front ts e h = let b = opt_err _ _ ts e h in stops n g d front ts e b.0 b.1

  pub step_none : (front : List X) (ts r : List Token) → opt_read (calls_at rule n) g ts ≡ Ok (None, r) →
      with_front front (read (calls_at rule n) (many g) ts) ≡ Ok (front, r)
  step_none front ts r e = let b = opt_none _ _ ts r e in ends n g d front ts b.0 ∙ ap (λ (x : List Token). Ok (front, x)) b.1

  pub step_smaller : (ts r : List Token) (a : X) → opt_read (calls_at rule n) g ts ≡ Ok (Some a, r) → length r < length ts
  step_smaller ts r a e =
      let b = opt_some _ _ ts a r e in
      let k = first_begins (begins (calls_at rule n) g) ts b.0 in
      let known = known_at classes rule decided n in
      let ds = and_parts (decides classes g) _ d in
      let t : Takes (Spells (Means rule n) g) (read (calls_at rule n) g) ts a r =
      subst (Outcome (Spells (Means rule n) g) (read (calls_at rule n) g) ts) b.1
      (read_outcome classes (calls_at rule n) (Means rule n) known g ds.0 (begun_exists classes (calls_at rule n) (Means rule n) known g k.0.kind k.3) ts) in
      let ne : t.word ≡ [] → ⊥ = λ z. never_both (empty g) (and_parts (not (empty g)) _ ds.1).0
      (empty_word classes (calls_at rule n) (Means rule n) known g a (subst (Spells (Means rule n) g a) z t.is)) in
      omega (arith, longer t.word r ts ne t.cut)

no_front : {A : Type 0} → (r : Reading (List A)) → with_front [] r ≡ r
no_front (Ok x) = refl
no_front (Err e) = refl

-- A repetition by what comes first of it.
module _ (n : ℕ) {X : Type 0} (g : Rule X) (d : decides classes (many g) ≡ true) where
  pub no_more : (ts r : List Token) → opt_read (calls_at rule n) g ts ≡ Ok (None, r) → read (calls_at rule n) (many g) ts ≡ Ok ([], r)
  no_more ts r e = sym (no_front (read (calls_at rule n) (many g) ts)) ∙ step_none n g d [] ts r e

  pub one_more : (ts r : List Token) (a : X) → opt_read (calls_at rule n) g ts ≡ Ok (Some a, r) →
      read (calls_at rule n) (many g) ts ≡ with_front (a ∷ []) (read (calls_at rule n) (many g) r)
  one_more ts r a e = sym (no_front (read (calls_at rule n) (many g) ts)) ∙ step_some n g d [] ts r a e

  pub none_stuck : (ts e : List Token) → opt_read (calls_at rule n) g ts ≡ Err e → read (calls_at rule n) (many g) ts ≡ Err e
  none_stuck ts e h = sym (no_front (read (calls_at rule n) (many g) ts)) ∙ step_err n g d [] ts e h

-- after a mark, one more
pub opt_lead : (cs : Calls Deep Tree) {X : Type 0} (m : Mark) (g : Rule X) → exists cs g ≡ true → (ts : List Token) →
    opt_read cs (lead m g) ts ≡ if_marked m ts (λ r. read cs g r >>= λ x. Ok (Some x.0, x.1)) (Ok (None, ts))
opt_lead cs {X} m g there ts = go (mark_read m ts) refl
  where
    go : (x : Reading (Unit {0})) → mark_read m ts ≡ x →
        opt_read cs (lead m g) ts ≡ on_marked x (λ r. read cs g r >>= λ x. Ok (Some x.0, x.1)) (Ok (None, ts))
    go (Ok x) e =
        if_true _ (read cs (lead m g) ts >>= λ x. Ok (Some x.0, x.1)) (Ok (None, ts)) (lead_begins cs m g there ts x.1 x.0 e)
        ∙ ap (λ r. r >>= λ x. Ok (Some x.0, x.1)) (lead_reads cs m g there ts x.1 x.0 e)
    go (Err x) e = if_false _ (read cs (lead m g) ts >>= λ x. Ok (Some x.0, x.1)) (Ok (None, ts)) (lead_not cs m g there ts x e)

abbrev pub plus_term : Rule s.Expr
plus_term = lead mark.Plus term

abbrev pub minus_term : Rule s.Expr
minus_term = as_value s.Neg (lead mark.Minus term)

alt_false : {X : Type 0} → (b c there : Bool) (x y : Reading X) (ts : List Token) → there ≡ true → b ≡ false →
    opt_of (b || c) (if b then x else (if there then y else Err ts)) ts ≡ opt_of c y ts
alt_false true c there x y ts h e = let no : ⊥ = cc in absurd no
alt_false false c true x y ts h e = refl
alt_false false c false x y ts h e = let no : ⊥ = cc in absurd no

alt_true : {X : Type 0} → (b c there : Bool) (x y : Reading X) (ts : List Token) → b ≡ true →
    opt_of (b || c) (if b then x else (if there then y else Err ts)) ts ≡ opt_of b x ts
alt_true true c there x y ts e = refl
alt_true false c there x y ts e = let no : ⊥ = cc in absurd no

-- the first, if it begins here, or the second
opt_alt : (cs : Calls Deep Tree) {X : Type 0} (g h : Rule X) (ts : List Token) →
    opt_read cs (alt g h) ts ≡ opt_of (first_is (begins cs g) ts || first_is (begins cs h) ts)
    (if first_is (begins cs g) ts then read cs g ts else (if exists cs h then read cs h ts else Err ts)) ts
unfolding read
opt_alt cs g h ts = ap (λ b. opt_of b (read cs (alt g h) ts) ts) (first_or (begins cs g) (begins cs h) ts)

pub opt_as : {X Y : Type 0} → (f : X → Y) (b : Bool) (x : Reading X) (ts : List Token) →
    opt_of b (x >>= λ x. Ok (f x.0, x.1)) ts ≡ (opt_of b x ts >>= λ x. Ok (option_map f x.0, x.1))
opt_as f true (Ok x) ts = refl
opt_as f true (Err e) ts = refl
opt_as f false x ts = refl

pub next_factor_reads : (room : ℕ) (ts : List Token) → 0 < room → next_factor_read room ts ≡ next_factor_do room ts
unfolding next_factor_read next_factor_do factor_read read
next_factor_reads room ts h = opt_lead (calls_at rule room) mark.Star (call Factor) (exists_factor room h) ts

pub mapped : {X Y : Type 0} → (f : X → Y) (x : Reading (Unit {0})) (t : List Token → Reading X) (ts : List Token) →
    (on_marked x (λ r. t r >>= λ x. Ok (Some x.0, x.1)) (Ok (None, ts)) >>= λ x. Ok (option_map f x.0, x.1))
    ≡ on_marked x (λ r. t r >>= λ x. Ok (Some (f x.0), x.1)) (Ok (None, ts))
mapped f (Ok x) t ts = go (t x.1)
  where
    go : (y : Reading _) → ((y >>= λ x. Ok (Some x.0, x.1)) >>= λ x. Ok (option_map f x.0, x.1)) ≡ (y >>= λ x. Ok (Some (f x.0), x.1))
    go (Ok y) = refl
    go (Err e) = refl
mapped f (Err e) t ts = refl

next_minus : (room : ℕ) (ts : List Token) → 0 < room →
    opt_read (calls_at rule room) minus_term ts ≡ if_marked mark.Minus ts (λ r. read (calls_at rule room) term r >>= λ x. Ok (Some (s.Neg x.0), x.1))
    (Ok (None, ts))
unfolding read
next_minus room ts h =
    opt_as s.Neg (first_is (begins (calls_at rule room) (lead mark.Minus term)) ts) (read (calls_at rule room) (lead mark.Minus term) ts) ts
    ∙ ap (λ x. x >>= λ x. Ok (option_map s.Neg x.0, x.1)) (opt_lead (calls_at rule room) mark.Minus term (exists_term room h) ts)
    ∙ mapped s.Neg (mark_read mark.Minus ts) (read (calls_at rule room) term) ts

pub next_term_reads : (room : ℕ) (ts : List Token) → 0 < room → next_term_read room ts ≡ next_term_do room ts
unfolding next_term_read next_term_do term_read
next_term_reads room ts h = go (mark_read mark.Plus ts) refl
  where
    go : (x : Reading (Unit {0})) → mark_read mark.Plus ts ≡ x →
        opt_read (calls_at rule room) (alt plus_term minus_term) ts
        ≡ on_marked x (λ r. term_read room r >>= λ x. Ok (Some x.0, x.1))
        (if_marked mark.Minus ts (λ r. term_read room r >>= λ x. Ok (Some (s.Neg x.0), x.1)) (Ok (None, ts)))
    go (Ok x) e =
        opt_alt (calls_at rule room) plus_term minus_term ts
        ∙ alt_true (first_is (begins (calls_at rule room) plus_term) ts) _ (exists (calls_at rule room) minus_term) (read (calls_at rule room) plus_term ts)
        (read (calls_at rule room) minus_term ts) ts (lead_begins (calls_at rule room) mark.Plus term (exists_term room h) ts x.1 x.0 e)
        ∙ opt_lead (calls_at rule room) mark.Plus term (exists_term room h) ts
        ∙ ap (λ y. on_marked y (λ r. read (calls_at rule room) term r >>= λ x. Ok (Some x.0, x.1)) (Ok (None, ts))) e
    go (Err x) e =
        opt_alt (calls_at rule room) plus_term minus_term ts
        ∙ alt_false (first_is (begins (calls_at rule room) plus_term) ts) _ (exists (calls_at rule room) minus_term) (read (calls_at rule room) plus_term ts)
        (read (calls_at rule room) minus_term ts) ts (exists_term room h) (lead_not (calls_at rule room) mark.Plus term (exists_term room h) ts x e)
        ∙ next_minus room ts h

abbrev pub star_factor : Rule s.Expr
star_factor = lead mark.Star (call Factor)

pub exists_test : (n : ℕ) → 0 < n → (calls_at rule n).exists Test ≡ true
unfolding calls_at
exists_test zero h = absurd (omega arith)
exists_test (suc n) h = refl

abbrev pub and_test : Rule s.Test
and_test = lead mark.And (call Test)

pub next_test_reads : (room : ℕ) (ts : List Token) → 0 < room → next_test_read room ts ≡ next_test_do room ts
unfolding next_test_read next_test_do test_read read
next_test_reads room ts h = opt_lead (calls_at rule room) mark.And (call Test) (exists_test room h) ts
