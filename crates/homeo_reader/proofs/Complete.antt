-- Each phrase is read whole, where what follows doesn't go on with it.
use Rattle.std.proofs.Common.{◌≡◌, ℕ, zero, suc, ◌≤◌, Bool, true, false, ◌&&◌, not, List, [], ◌∷◌, ◌++◌, length, refl, inl, inr, sym, subst, ap, ◌∙◌, append_assoc, arith}
use Rattle.std.specs.Prelude.{Ok, Err, if◌then◌else◌}
use Rattle.std.proofs.lemmas.Bool.{and_parts, false_from_ne_true}
use Rattle.homeo_lemmas.proofs.Bools.{never_both}
use Rattle.homeo_syntax.specs.declared.token.Token.{Token}
use Rattle.homeo_syntax.specs.Classes.{class_of}
use Rattle.homeo_syntax.specs.Grammar.{Grammar, token, nothing, call, seq, alt, many, part, as_value, Repeats, Spells, Means}
use Rattle.homeo_reader.specs.inner.Engine.{◌>>=◌, Calls, calls_at, empty, exists, begins, first_is, read_token, repeat, read, Classes, apart, within, starts, goes_on, decides, decides_call, where_empty}
use Rattle.homeo_reader.proofs.Bools.{if_true, if_false, has_left, has_right, has_where, has_apart, has_within}
use Rattle.homeo_reader.proofs.Words.{Clear, Known, some_word, word_exists, empty_word, begun_exists, begun_starts, word_begins}
use Rattle.homeo_reader.proofs.Outcomes.{read_outcome, repeat_ends, repeat_more, then_more, longer}

pub clear_left : (xs ys : List ℕ) (z : List Token) → Clear (xs ++ ys) z → Clear xs z
clear_left xs ys [] c = tt
clear_left xs ys (t ∷ z) c = λ h. c (has_left xs ys (class_of t.kind) h)

pub clear_right : (xs ys : List ℕ) (z : List Token) → Clear (xs ++ ys) z → Clear ys z
clear_right xs ys [] c = tt
clear_right xs ys (t ∷ z) c = λ h. c (has_right xs ys (class_of t.kind) h)

pub clear_where : (b : Bool) (xs : List ℕ) (z : List Token) → Clear (where_empty b xs) z → b ≡ true → Clear xs z
clear_where b xs [] c e = tt
clear_where b xs (t ∷ z) c e = λ h. c (has_where b xs (class_of t.kind) e h)

pub clear_within : (xs ys : List ℕ) (z : List Token) → within xs ys ≡ true → Clear ys z → Clear xs z
clear_within xs ys [] w c = tt
clear_within xs ys (t ∷ z) w c = λ h. c (has_within xs ys (class_of t.kind) w h)

module _ {Call : Type 0} {Value : Call → Type 0} (cl : Classes Call) (cs : Calls Call Value) (M : (c : Call) → Value c → List Token → Type 0)
    (known : Known cl cs M) where
  -- what a phrase begins with is clear of what is apart from it
  pub word_clear : {X : Type 0} → (g : Grammar Call Value X) (xs : List ℕ) (a : X) (w z : List Token) → Spells M g a w → apart xs (starts cl g) ≡ true →
      (empty g ≡ true → Clear xs z) → Clear xs (w ++ z)
  word_clear g xs a [] z s d c = c (empty_word cl cs M known g a s)
  word_clear g xs a (t ∷ w) z s d c =
      λ h. has_apart xs (starts cl g) (class_of t.kind) d h (begun_starts cl cs M known g t.kind (word_begins cl cs M known g a t w s))

  -- where nothing of these classes comes, the grammar doesn't begin
  not_begun : {X : Type 0} → (g : Grammar Call Value X) (z : List Token) → Clear (starts cl g) z → first_is (begins cs g) z ≡ false
  not_begun g [] c = refl
  not_begun g (t ∷ z) c = false_from_ne_true (begins cs g t.kind) (λ h. c (begun_starts cl cs M known g t.kind h))

  begun_word : {X : Type 0} → (g : Grammar Call Value X) (a : X) (w z : List Token) → Spells M g a w → not (empty g) ≡ true →
      first_is (begins cs g) (w ++ z) ≡ true
  begun_word g a [] z s ne = absurd (never_both (empty g) ne (empty_word cl cs M known g a s))
  begun_word g a (t ∷ w) z s ne = word_begins cl cs M known g a t w s

  -- a word of the second doesn't begin the first
  other_word : {X Y : Type 0} → (g : Grammar Call Value X) (h : Grammar Call Value Y) (a : Y) (w z : List Token) → Spells M h a w →
      apart (starts cl g) (starts cl h) ≡ true → (empty h ≡ true → Clear (starts cl g) z) → first_is (begins cs g) (w ++ z) ≡ false
  other_word g h a w z s d c = not_begun g (w ++ z) (word_clear h (starts cl g) a w z s d c)

  not_empty_word : {X : Type 0} → (g : Grammar Call Value X) (a : X) (w : List Token) → Spells M g a w → not (empty g) ≡ true → w ≡ [] → ⊥
  not_empty_word g a w s ne e = never_both (empty g) ne (empty_word cl cs M known g a (subst (Spells M g a) e s))

  many_complete : {X : Type 0} → (g : Grammar Call Value X) → not (empty g) ≡ true → apart (goes_on cl g) (starts cl g) ≡ true →
      ((a : X) (w z : List Token) → Spells M g a w → Clear (goes_on cl g) z → read cs g (w ++ z) ≡ Ok (a, z)) →
      (all : List X) (w z : List Token) → Repeats (Spells M g) all w → Clear (goes_on cl g ++ starts cl g) z → (m : ℕ) → length (w ++ z) ≤ m →
      repeat (begins cs g) (read cs g) m (w ++ z) ≡ Ok (all, z)
  many_complete g ne d one [] w z s c m l =
      ap (λ (x : List Token). repeat (begins cs g) (read cs g) m (x ++ z)) s
      ∙ repeat_ends (begins cs g) (read cs g) m z (not_begun g z (clear_right (goes_on cl g) (starts cl g) z c))
  many_complete g ne d one (a ∷ rest) w z s c m l =
      let u = s.0 in
      let v = s.1 in
      let e : w ++ z ≡ u ++ (v ++ z) = ap (λ (x : List Token). x ++ z) s.2 ∙ append_assoc u v z in
      let k = repeat_more (begins cs g) (read cs g) m (u ++ (v ++ z)) (begun_word g a u (v ++ z) s.3 ne) (omega (arith, ap length e, l)) in
      let room : length (v ++ z) ≤ k.0 = omega (arith, longer u (v ++ z) (u ++ (v ++ z)) (not_empty_word g a u s.3 ne) refl, ap length e, k.1, l) in
      ap (repeat (begins cs g) (read cs g) m) e ∙ k.2
      ∙ ap (then_more (begins cs g) (read cs g) k.0) (one a u (v ++ z) s.3 (after rest v s.4))
      ∙ ap (λ x. x >>= λ y. Ok (a ∷ y.0, y.1)) (many_complete g ne d one rest v z s.4 c k.0 room)
    where
      after : (rest : List _) (v : List Token) → Repeats (Spells M g) rest v → Clear (goes_on cl g) (v ++ z)
      after [] v r = subst (λ (x : List Token). Clear (goes_on cl g) (x ++ z)) (sym r) (clear_left (goes_on cl g) (starts cl g) z c)
      after (b ∷ others) v r =
          subst (Clear (goes_on cl g)) (sym (ap (λ (x : List Token). x ++ z) r.2 ∙ append_assoc r.0 r.1 z))
          (word_clear g (goes_on cl g) b r.0 (r.1 ++ z) r.3 d (λ e. absurd (never_both (empty g) ne e)))

  -- each phrase is read whole
  pub read_complete : {X : Type 0} → (g : Grammar Call Value X) → decides cl g ≡ true → (a : X) (w z : List Token) → Spells M g a w → Clear (goes_on cl g) z →
      read cs g (w ++ z) ≡ Ok (a, z)
  unfolding read
  read_complete (token classes test value sample) d a w z s c =
      ap (λ (x : List Token). read_token classes test value (x ++ z)) s.1 ∙ if_true _ (Ok (value s.0, z)) (Err (s.0 ∷ z)) s.2 ∙ ap (λ x. Ok (x, z)) (sym s.3)
  read_complete (nothing b) d a w z s c = ap (λ (x : List Token). Ok (b, x ++ z)) s.0 ∙ ap (λ x. Ok (x, z)) (sym s.1)
  read_complete (call k) d a w z s c = known.complete k a w z s c
  read_complete (seq g h) d a w z s c =
      let ds = and_parts (decides cl g && decides cl h) _ d in
      let dd = and_parts (decides cl g) (decides cl h) ds.0 in
      let after : Clear (goes_on cl g) (s.1 ++ z) = word_clear h (goes_on cl g) a.1 s.1 z s.4 ds.1
      (λ e. clear_where (empty h) (goes_on cl g) z (clear_right (goes_on cl h) (where_empty (empty h) (goes_on cl g)) z c) e) in
      ap (read cs (seq g h)) (ap (λ (x : List Token). x ++ z) s.2 ∙ append_assoc s.0 s.1 z)
      ∙ ap (λ x. x >>= λ x. read cs h x.1 >>= λ y. Ok ((x.0, y.0), y.1)) (read_complete g dd.0 a.0 s.0 (s.1 ++ z) s.3 after)
      ∙ ap (λ x. x >>= λ y. Ok ((a.0, y.0), y.1)) (read_complete h dd.1 a.1 s.1 z s.4 (clear_left (goes_on cl h) (where_empty (empty h) (goes_on cl g)) z c))
  read_complete (alt g h) d a w z s c =
      let ds = and_parts (decides cl g && decides cl h) _ d in
      let dd = and_parts (decides cl g) (decides cl h) ds.0 in
      let dn = and_parts (not (empty g)) _ ds.1 in
      let cc' = clear_left (goes_on cl g ++ goes_on cl h) (where_empty (empty h) (starts cl g)) z c in
      elim s [
        | inl x ↦ if_true _ (read cs g (w ++ z)) _ (begun_word g a w z x dn.0) ∙ read_complete g dd.0 a w z x (clear_left (goes_on cl g) (goes_on cl h) z cc')
        | inr x ↦ if_false _ (read cs g (w ++ z)) (if exists cs h then read cs h (w ++ z) else Err (w ++ z))
            (other_word g h a w z x dn.1
            (λ e. clear_where (empty h) (starts cl g) z (clear_right (goes_on cl g ++ goes_on cl h) (where_empty (empty h) (starts cl g)) z c) e))
            ∙ if_true (exists cs h) (read cs h (w ++ z)) (Err (w ++ z)) (word_exists cl cs M known h a w x)
            ∙ read_complete h dd.1 a w z x (clear_right (goes_on cl g) (goes_on cl h) z cc')
      ]
  read_complete (many g) d a w z s c =
      let ds = and_parts (decides cl g) _ d in
      let dn = and_parts (not (empty g)) _ ds.1 in
      many_complete g dn.0 dn.1 (λ b u y p q. read_complete g ds.0 b u y p q) a w z s c (length (w ++ z)) (omega arith)
  read_complete (part g) d a w z s c = read_complete g d a w z s c
  read_complete (as_value f g) d a w z s c =
      ap (λ x. x >>= λ x. Ok (f x.0, x.1)) (read_complete g d s.0 w z s.1 c) ∙ ap (λ x. Ok (x, z)) (sym s.2)

module _ {Call : Type 0} {Value : Call → Type 0} (cl : Classes Call) (rule : (c : Call) → Grammar Call Value (Value c))
    (decided : (c : Call) → decides_call cl c (rule c) ≡ true) where
  rule_decides : (c : Call) → decides cl (rule c) ≡ true
  rule_decides c = (and_parts (decides cl (rule c)) _ (and_parts (decides cl (rule c) && not (empty (rule c))) _ (decided c)).0).0

  rule_full : (c : Call) → not (empty (rule c)) ≡ true
  rule_full c = (and_parts (decides cl (rule c)) _ (and_parts (decides cl (rule c) && not (empty (rule c))) _ (decided c)).0).1

  rule_starts : (c : Call) → within (starts cl (rule c)) (cl.starts c) ≡ true
  rule_starts c = (and_parts (within (starts cl (rule c)) (cl.starts c)) _ (and_parts (decides cl (rule c) && not (empty (rule c))) _ (decided c)).1).0

  rule_goes_on : (c : Call) → within (goes_on cl (rule c)) (cl.goes_on c) ≡ true
  rule_goes_on c = (and_parts (within (starts cl (rule c)) (cl.starts c)) _ (and_parts (decides cl (rule c) && not (empty (rule c))) _ (decided c)).1).1

  -- at each depth the calls are read as they mean
  pub known_at : (n : ℕ) → Known cl (calls_at rule n) (Means rule n)
  unfolding calls_at
  known_at zero = record {
    some = λ c e. cc;
    exists = λ c a w m. absurd m;
    full = λ c a m. m;
    begins = λ c a t w m. absurd m;
    begun = λ c k b. cc;
    starts = λ c k b. cc;
    outcome = λ c ts e. cc;
    complete = λ c a w z m l. absurd m;
  }
  known_at (suc n) = record {
    some = λ c e. some_word cl (calls_at rule n) (Means rule n) (known_at n) (rule c) (rule_decides c) e;
    exists = λ c a w m. word_exists cl (calls_at rule n) (Means rule n) (known_at n) (rule c) a w m;
    full = λ c a m. never_both (empty (rule c)) (rule_full c) (empty_word cl (calls_at rule n) (Means rule n) (known_at n) (rule c) a m);
    begins = λ c a t w m. word_begins cl (calls_at rule n) (Means rule n) (known_at n) (rule c) a t w m;
    begun = λ c k b. begun_exists cl (calls_at rule n) (Means rule n) (known_at n) (rule c) k b;
    starts =
        λ c k b. has_within (starts cl (rule c)) (cl.starts c) (class_of k) (rule_starts c)
        (begun_starts cl (calls_at rule n) (Means rule n) (known_at n) (rule c) k b);
    outcome = λ c ts e. read_outcome cl (calls_at rule n) (Means rule n) (known_at n) (rule c) (rule_decides c) e ts;
    complete =
        λ c a w z m l. read_complete cl (calls_at rule n) (Means rule n) (known_at n) (rule c) (rule_decides c) a w z m
        (clear_within (goes_on cl (rule c)) (cl.goes_on c) z (rule_goes_on c) l);
  }
