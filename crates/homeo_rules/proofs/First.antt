-- The table of the global names holds the first of each, and what comes again is a fault.
use Rattle.std.proofs.Common.{◌≡◌, ◌≢◌, ℕ, zero, suc, ◌+◌, ◌<◌, Bool, true, false, cond, ◌||◌, ◌==◌, List, [], ◌∷◌, ◌++◌, map, replicate, Option, Some, None, is_some, length, refl, sym, ap, subst, ◌∙◌, arith, append-nil, append_assoc, slice_set, get_or-set_same, get_or-set_other}
use Rattle.std.proofs.lemmas.List.{length-set, length-replicate}
use Rattle.std.proofs.lemmas.Bool.Decides.{nat_tests}
use Rattle.homeo_syntax.specs.declared.phrase.Ident.{Ident}
use Rattle.homeo_meaning.specs.Key.{definitions as meaning_definitions}
use Rattle.homeo_meaning.specs.NameRules.{when, fault}
use Rattle.homeo_meaning.specs.TransactionRules.{is_in, each_from}
use Rattle.homeo_meaning.specs.GlobalNames.{duplicate, GlobalName, numbered_from, first_named}
use Rattle.homeo_rules.specs.inner.Deciding.{keep_all}
use Rattle.homeo_meaning.specs.declared.rules.Phase.TheVariants.{Duplicate}
use Rattle.homeo_meaning.specs.declared.rules.Fault.{Fault}
use Rattle.homeo_meaning.specs.declared.rules.Item.{Item}
use Rattle.homeo_rules.specs.inner.Key.{definitions}
use Rattle.homeo_rules.specs.inner.Scopes.{item_at}
use Rattle.homeo_rules.specs.inner.Items.{Items, entered, enter, along_names}
use Rattle.homeo_rules.proofs.Steps.{keep_all-append}
use Rattle.homeo_rules.proofs.Whole.{names}

-- each name is one of the n names of the text
abbrev pub NamesWithin : ℕ → List GlobalName → Type 0
NamesWithin n [] = Unit {0}
NamesWithin n (d ∷ ds) = (d.name.name < n) × NamesWithin n ds

abbrev pub along : Items → List GlobalName → Items
along t [] = t
along t (d ∷ ds) = along (enter t d.name d.item) ds

pub along-append : (t : Items) (ds es : List GlobalName) → along t (ds ++ es) ≡ along (along t ds) es
along-append t [] es = refl
along-append t (d ∷ ds) es = along-append (enter t d.name d.item) ds es

pub along-numbered : {A : Type 0} (name : A → Ident) (kind : ℕ → Item) (i : ℕ) (t : Items) (xs : List A) → along_names name kind i t xs ≡ along t (numbered_from kind i (map name xs))
unfolding definitions meaning_definitions
along-numbered name kind i t [] = refl
along-numbered name kind i t (x ∷ xs) = along-numbered name kind (i + 1) (enter t (name x) (kind i)) xs

abbrev pub named : List GlobalName → List Ident
named ds = map (λ d. d.name) ds

abbrev or_else : Option Item → Option Item → Option Item
or_else (Some g) other = Some g
or_else None other = other

first_more : (before : List GlobalName) (d : GlobalName) (m : ℕ) → first_named (before ++ d ∷ []) m ≡ or_else (first_named before m) (cond (d.name.name == m) (Some d.item) None)
unfolding definitions meaning_definitions
first_more [] d m = refl
first_more (b ∷ before) d m = by_case (b.name.name == m) (first_more before d m)
  where
    by_case : (c : Bool) → first_named (before ++ d ∷ []) m ≡ or_else (first_named before m) (cond (d.name.name == m) (Some d.item) None) → cond c (Some b.item) (first_named (before ++ d ∷ []) m) ≡ or_else (cond c (Some b.item) (first_named before m)) (cond (d.name.name == m) (Some d.item) None)
    by_case true e = refl
    by_case false e = e

-- a name is there exactly where it was declared
there_is : (before : List GlobalName) (m : ℕ) → is_some (first_named before m) ≡ is_in m (names (named before))
unfolding definitions meaning_definitions
there_is [] m = refl
there_is (b ∷ before) m = by_case (b.name.name == m) (there_is before m)
  where
    by_case : (c : Bool) → is_some (first_named before m) ≡ is_in m (names (named before)) → is_some (cond c (Some b.item) (first_named before m)) ≡ (c || is_in m (names (named before)))
    by_case true e = refl
    by_case false e = e

named_more : (before : List GlobalName) (d : GlobalName) → named (before ++ d ∷ []) ≡ named before ++ d.name ∷ []
named_more [] d = refl
named_more (b ∷ before) d = ap (λ l. b.name ∷ l) (named_more before d)

-- one entry
or-none : (o : Option Item) → o ≡ or_else o None
or-none (Some g) = refl
or-none None = refl

module _ (l : List (Option Item)) (before : List GlobalName) (d : GlobalName) (lt : d.name.name < length l) (agree : (m : ℕ) → item_at l m ≡ first_named before m) where
  known : (o : Option Item) → first_named before d.name.name ≡ o → is_some o ≡ true → (m : ℕ) (b : Bool) → (d.name.name == m) ≡ b → item_at l m ≡ or_else (first_named before m) (cond b (Some d.item) None)
  known (Some g) e h m true s =
      let same : d.name.name ≡ m = grind (arith, nat_tests) in
      let is : first_named before m ≡ Some g = subst (λ k. first_named before k ≡ Some g) same e in
      agree m ∙ is ∙ sym (ap (λ o. or_else o (Some d.item)) is)
  known o e h m false s = agree m ∙ or-none (first_named before m)
  known None e h m true s = cc

  fresh : first_named before d.name.name ≡ None → (m : ℕ) (b : Bool) → (d.name.name == m) ≡ b → item_at (slice_set l d.name.name (Some d.item)) m ≡ or_else (first_named before m) (cond b (Some d.item) None)
  fresh e m true s =
      let same : d.name.name ≡ m = grind (arith, nat_tests) in
      let is : first_named before m ≡ None = subst (λ k. first_named before k ≡ None) same e in
      let now : item_at (slice_set l d.name.name (Some d.item)) d.name.name ≡ Some d.item = get_or-set_same l d.name.name (Some d.item) None lt in
      subst (λ k. item_at (slice_set l d.name.name (Some d.item)) k ≡ Some d.item) same now ∙ sym (ap (λ o. or_else o (Some d.item)) is)
  fresh e m false s =
      let other : m ≢ d.name.name = grind (arith, nat_tests) in
      get_or-set_other l d.name.name m (Some d.item) None other ∙ agree m ∙ or-none (first_named before m)

  by_old : (o : Option Item) → first_named before d.name.name ≡ o → (m : ℕ) → item_at (entered (is_some o) l d.name.name d.item) m ≡ or_else (first_named before m) (cond (d.name.name == m) (Some d.item) None)
  by_old (Some g) e m = known (Some g) e refl m (d.name.name == m) refl
  by_old None e m = fresh e m (d.name.name == m) refl

  next : (m : ℕ) → item_at (entered (is_some (item_at l d.name.name)) l d.name.name d.item) m ≡ first_named (before ++ d ∷ []) m
  next m =
      ap (λ o. item_at (entered (is_some o) l d.name.name d.item) m) (agree d.name.name)
      ∙ by_old (first_named before d.name.name) refl m
      ∙ sym (first_more before d m)

entered_length : (b : Bool) (l : List (Option Item)) (n : ℕ) (g : Item) → length (entered b l n g) ≡ length l
entered_length true l n g = refl
entered_length false l n g = length-set l n (Some g)

pub record Along (n : ℕ) (before : List GlobalName) (start t : Items) (ds : List GlobalName) : Type 0 where
  pub agree : (m : ℕ) → item_at t.items m ≡ first_named (before ++ ds) m
  pub best : t.best ≡ keep_all start.best (each_from duplicate (named before) (named ds))

alongs : (n : ℕ) (before : List GlobalName) (t : Items) (ds : List GlobalName) → length t.items ≡ n → ((m : ℕ) → item_at t.items m ≡ first_named before m) → NamesWithin n ds → Along n before t (along t ds) ds
unfolding definitions meaning_definitions
alongs n before t [] len agree within = record { agree = λ m. agree m ∙ ap (λ ds. first_named ds m) (sym (append-nil before)); best = refl }
alongs n before t (d ∷ ds) len agree within =
    let x : Ident = d.name in
    let lt : x.name < length t.items = subst (λ m. x.name < m) (sym len) within.0 in
    let rest : Along n (before ++ d ∷ []) (enter t x d.item) (along (enter t x d.item) ds) ds = alongs n (before ++ d ∷ []) (enter t x d.item) ds (entered_length (is_some (item_at t.items x.name)) t.items x.name d.item ∙ len) (next t.items before d lt agree) within.1 in
    let there : is_some (item_at t.items x.name) ≡ is_in x.name (names (named before)) = ap is_some (agree x.name) ∙ there_is before x.name in
    record {
      agree = λ m. rest.agree m ∙ ap (λ xs. first_named xs m) (append_assoc before (d ∷ []) ds);
      best =
          rest.best
          ∙ ap (λ b. keep_all (keep_all t.best (when b (fault Duplicate x))) (each_from duplicate (named (before ++ d ∷ [])) (named ds))) there
          ∙ ap (λ xs. keep_all (keep_all t.best (duplicate (named before) x)) (each_from duplicate xs (named ds))) (named_more before d)
          ∙ sym (keep_all-append t.best (duplicate (named before) x) (each_from duplicate (named before ++ x ∷ []) (named ds)));
    }

no_item : (n m : ℕ) → item_at (replicate n None) m ≡ None
no_item zero m = refl
no_item (suc n) zero = refl
no_item (suc n) (suc m) = no_item n m

-- from an empty table
pub table_is : (n : ℕ) (best : Option Fault) (ds : List GlobalName) → NamesWithin n ds → Along n [] (record { items = replicate n None; best = best }) (along (record { items = replicate n None; best = best }) ds) ds
unfolding definitions meaning_definitions
table_is n best ds within = alongs n [] (record { items = replicate n None; best = best }) ds (length-replicate n None) (no_item n) within
