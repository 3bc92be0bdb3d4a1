-- Lists that are read item by item.
use Rattle.homeo_plan.specs.Key.{definitions as plan_definitions}
use Rattle.std.proofs.Common.{◌≡◌, ℕ, ℤ, Vec, Global, zero, suc, ◌+◌, ◌<◌, ◌≤◌, List, [], ◌∷◌, ◌++◌, map, length, take, slice_index_or, Option, Some, None, option_map, MatchOption, refl, sym, ap, ap₂, ◌∙◌, subst, arith}
use Rattle.std.proofs.lemmas.Fn.{chained_keeps}
use Rattle.std.proofs.lemmas.List.{map_more, map-append, take_all}
use Rattle.serde_json.specs.Data.{Data, null, boolean, number, string, array, object, Members, no_members, member, Items, no_items, item}
use Rattle.serde_json.specs.Find.{as_object}
use Rattle.serde_json.specs.View.{items_of}
use Rattle.homeo_lemmas.proofs.Lists.{cons_head, cons_tail}
use Rattle.homeo_plan.specs.Each.{Each}
use Rattle.homeo_certificate.specs.Json.{list_data, wholes_data}
use Rattle.homeo_certificate.specs.Shape.{IsWord}
use Rattle.homeo_certificate.proofs.OneCertificate.{same_wholes}
use Rattle.homeo_cert_reader.specs.Read.{IsRead, AreRead}
use Rattle.homeo_cert_reader.specs.inner.Reading.{Pushed, ListGave}

each_more : {A : Type 0} (P : A → Type 0) (xs : List A) (x : A) → Each P xs → P x → Each P (xs ++ x ∷ [])
unfolding plan_definitions
each_more P [] x h p = (p, tt)
each_more P (y ∷ xs) x h p = (h.0, each_more P xs x h.1 p)

-- the first n of the values have been read
module _ {A V : Type 0} (P : A → Type 0) (f : A → Data) (g : V → Data) (vs : List V) where
  pub record Front (n : ℕ) (xs : List A) : Type 0 where
    pub each : Each P xs
    pub same : map f xs ≡ map g (take n vs)

  pub front_more : (n : ℕ) (xs : List A) (x : A) (d : V) → n < length vs → Front n xs → P x → f x ≡ g (slice_index_or vs n d) → Front (n + 1) (xs ++ x ∷ [])
  front_more n xs x d l h p e =
      record {
        each = each_more P xs x h.each p;
        same = map-append f xs (x ∷ []) ∙ ap₂ ◌++◌ h.same (ap (λ y. y ∷ []) e) ∙ sym (map_more g vs n d l);
      }

  pub front_none : Front 0 []
  unfolding plan_definitions
  front_none = record { each = tt; same = refl }

  pub front_all : (n : ℕ) (xs : List A) → length vs ≤ n → Front n xs → Each P xs × (map f xs ≡ map g vs)
  front_all n xs l h = (h.each, h.same ∙ ap (map g) (take_all n vs (omega (arith, l))))

-- a value that can't be read stands in no list that can
pub none_if :
    {A V : Type 0} (P : A → Type 0) (f : A → Data) (g : V → Data) (vs : List V) (n : ℕ) (d : V) → n < length vs →
    ((x : A) → P x → f x ≡ g (slice_index_or vs n d) → ⊥) → (xs : List A) → Each P xs → map f xs ≡ map g vs → ⊥
unfolding plan_definitions
none_if P f g [] n d l h xs e q = absurd (omega (arith, l))
none_if P f g (v ∷ vs) n d l h [] e q = absurd cc
none_if P f g (v ∷ vs) zero d l h (x ∷ xs) e q = h x e.0 (cons_head (f x) (g v) (map f xs) (map g vs) q)
none_if P f g (v ∷ vs) (suc n) d l h (x ∷ xs) e q =
    none_if P f g vs n d (omega (arith, l)) h xs e.1 (cons_tail (f x) (g v) (map f xs) (map g vs) q)

-- ---- lists as JSON values
abbrev items_list : Items → List Data
items_list no_items = []
items_list (item d ds) = d ∷ items_list ds

items_back : (ds : List Data) → items_list (items_of ds) ≡ ds
items_back [] = refl
items_back (d ∷ ds) = ap (λ l. d ∷ l) (items_back ds)

pub same_list : (ds es : List Data) → list_data ds ≡ list_data es → ds ≡ es
same_list ds es e =
    let q : items_of ds ≡ items_of es = cc in
    sym (items_back ds) ∙ ap items_list q ∙ items_back es

-- a list that is read item by item is read as a whole
pub list_read :
    {A : Type 0} (P : A → Type 0) (f : A → Data) (ds : List Data) (d : Data) (r : Option (List A)) → list_data ds ≡ d →
    AreRead P f ds r → IsRead (Each P) (λ xs. list_data (map f xs)) d r
list_read P f ds d None e h = λ xs p q. h xs p (same_list (map f xs) ds (q ∙ sym e))
list_read P f ds d (Some xs) e h = (h.0, ap list_data h.1 ∙ e)

-- How items are seen: one of them, and all.
pub record View (X A : Type 0) : Type 0 where
  pub one : X → A
  pub all : List X → List A
  pub none : all [] ≡ []
  pub more : (xs : List X) (x : X) → all (xs ++ x ∷ []) ≡ all xs ++ one x ∷ []

-- each item by this view
abbrev pub each : {X A : Type 0} → (X → A) → View X A
each see = record { one = see; all = map see; none = refl; more = λ xs x. map-append see xs (x ∷ []) }

-- each item as it is
abbrev pub plain : {A : Type 0} → View A A
plain = record { one = λ x. x; all = λ xs. xs; none = refl; more = λ xs x. refl }

module _ {X A V : Type 0} (P : A → Type 0) (f : A → Data) (v : View X A) (g : V → Data) (Gave : V → Option X → Type 0)
    (some : (d : V) (x : X) → Gave d (Some x) → P (v.one x) × (f (v.one x) ≡ g d))
    (none : (d : V) → Gave d None → (a : A) → P a → f a ≡ g d → ⊥) where
  abbrev AreItems : List V → List X → Type 0
  AreItems ds xs = Each P (v.all xs) × (map f (v.all xs) ≡ map g ds)

  none_read : AreItems [] []
  unfolding plan_definitions
  none_read = (subst (Each P) (sym v.none) tt, ap (map f) v.none)

  one_more : (ds : List V) (xs : List X) (d : V) (ys : List X) → AreItems ds xs → Pushed Gave xs d ys → AreItems (ds ++ d ∷ []) ys
  one_more ds xs d ys h p =
      let got = some d p.item p.gave in
      let all = ap v.all p.is ∙ v.more xs p.item in (
        subst (Each P) (sym all) (each_more P (v.all xs) (v.one p.item) h.0 got.0),
        ap (map f) all ∙ map-append f (v.all xs) (v.one p.item ∷ []) ∙ ap₂ ◌++◌ h.1 (ap (λ e. e ∷ []) got.1) ∙ sym (map-append g ds (d ∷ [])),
      )

  -- a list whose items were read one by one is read as a whole
  pub list_gave : {L : Type 0} → (items : L → List X) (d : Data) (o : Option L) → ListGave g Gave d (option_map items o) →
      IsRead (Each P) (λ xs. list_data (map f xs)) d (option_map (λ l. v.all (items l)) o)
  list_gave items d None h = λ xs p q.
      let at = h (map f xs) q in
      let u = at.2 in
      none_if P f g at.0 u.place u.value u.within (none (slice_index_or at.0 u.place u.value) u.gave) xs p (sym at.1)
  list_gave items d (Some l) h =
      let all = chained_keeps (Pushed Gave) AreItems one_more h.0 [] (items l) none_read h.2 in
      (all.0, ap list_data all.1 ∙ h.1)

pub same_length : (ds es : List Data) (d : Data) → list_data ds ≡ d → list_data es ≡ d → length ds ≡ length es
same_length ds es d p q = ap length (same_list ds es (p ∙ sym q))

-- ---- what was read, or not
pub read_some : {A X : Type 0} (P : A → Type 0) (f : A → Data) (d : Data) (see : X → A) (o : Option X) (x : X) → o ≡ Some x → IsRead P f d (option_map see o) → P (see x) × (f (see x) ≡ d)
read_some P f d see o x e h = subst (λ q. IsRead P f d (option_map see q)) e h

pub read_none : {A X : Type 0} (P : A → Type 0) (f : A → Data) (d : Data) (see : X → A) (o : Option X) → o ≡ None → IsRead P f d (option_map see o) → (a : A) → P a → f a ≡ d → ⊥
read_none P f d see o e h = subst (λ q. IsRead P f d (option_map see q)) e h

-- nothing
pub is_none : {A : Type 0} (r : Option A) (P : Type 0) (Q : A → Type 0) → r ≡ None → P → MatchOption r P Q
is_none r P Q e p = subst (λ o. MatchOption o P Q) (sym e) p

pub object_is : (d : Data) (ms : Members) → Some ms ≡ as_object d → object ms ≡ d
object_is (object ns) ms e = cc
object_is null ms e = absurd cc
object_is (boolean b) ms e = absurd cc
object_is (number n) ms e = absurd cc
object_is (string s) ms e = absurd cc
object_is (array ds) ms e = absurd cc

-- the numbers of a list of the code
abbrev pub row : Vec ℤ Global → List ℤ
row b = b.items

-- numbers with the data of a list of the code are as many
pub same_count : (ns : List ℤ) (d : Data) (o : Option (Vec ℤ Global)) (b : Vec ℤ Global) → o ≡ Some b → IsRead (Each IsWord) wholes_data d (option_map row o) → wholes_data ns ≡ d →
    length ns ≡ length b.items
same_count ns d o b e h q = ap length (same_wholes ns b.items (q ∙ sym (read_some (Each IsWord) wholes_data d row o b e h).1))

-- ---- members of objects
abbrev members_in : Data → Members
members_in (object ms) = ms
members_in _ = no_members

abbrev after_two : Members → Members
after_two (member k d (member l e ms)) = ms
after_two _ = no_members

pub same_members : (ms ns : Members) (d : Data) → object ms ≡ d → object ns ≡ d → ms ≡ ns
same_members ms ns d p q = ap members_in (p ∙ sym q)

pub same_rest : (k l : List ℕ) (d e d' e' : Data) (ms ns all : Members) → member k d (member l e ms) ≡ all → member k d' (member l e' ns) ≡ all → ms ≡ ns
same_rest k l d e d' e' ms ns all p q = ap after_two (p ∙ sym q)
