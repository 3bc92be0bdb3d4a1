-- Texts that are read one by one, each distinct from those before it.
use Rattle.std.proofs.Common.{◌≡◌, ℕ, suc, ◌+◌, ◌<◌, ◌≤◌, Bool, true, false, ◌||◌, if◌then◌else◌, List, [], ◌∷◌, ◌++◌, map, length, drop, get_or, Option, Some, None, option_map, option_and_then, refl, sym, ap, ◌∙◌, subst, arith, append_assoc, append-nil}
use Rattle.std.specs.List.{list_any}
use Rattle.std.specs.Str.{bytes_eq}
use Rattle.serde_json.specs.Data.{Data}
use Rattle.serde_json.specs.Find.{as_str}
use Rattle.homeo_lemmas.proofs.Lists.{drop_past}
use Rattle.homeo_lines.specs.Read.{distinct}
use Rattle.homeo_lines.proofs.Lists.{next}

-- the first of the values, so many, are these texts
pub record AreDistinct {V : Type 0} (see : V → Data) (vs : List V) (i : ℕ) (done : List (List ℕ)) : Type 0 where
  pub is : distinct [] (map see vs) ≡ option_map (λ ts. done ++ ts) (distinct done (map see (drop i vs)))

in_front : (o : Option (List (List ℕ))) → o ≡ option_map (λ ts. [] ++ ts) o
in_front None = refl
in_front (Some ts) = refl

one_more : (done : List (List ℕ)) (t : List ℕ) (o : Option (List (List ℕ))) → option_map (λ ts. done ++ ts) (option_map (λ ts. t ∷ ts) o) ≡ option_map (λ ts. (done ++ t ∷ []) ++ ts) o
one_more done t None = refl
one_more done t (Some ts) = ap Some (sym (append_assoc done (t ∷ []) ts))

pub distinct_none : {V : Type 0} (see : V → Data) (vs : List V) → AreDistinct see vs 0 []
distinct_none see vs = record { is = in_front (distinct [] (map see vs)) }

module _ {V : Type 0} (see : V → Data) (vs : List V) (i : ℕ) (v : V) (done : List (List ℕ)) (within : i < length vs) (is : v ≡ get_or vs i v) (so_far : AreDistinct see vs i done) where
  here : distinct [] (map see vs) ≡ option_map (λ ts. done ++ ts) (distinct done (see v ∷ map see (drop (suc i) vs)))
  here = so_far.is ∙ ap (λ ws. option_map (λ ts. done ++ ts) (distinct done (map see ws))) (next vs i v within is)

  abbrev rest : List ℕ → Option (List (List ℕ))
  rest t = if list_any (λ other. bytes_eq other t) done then None else option_map (λ ts. t ∷ ts) (distinct (done ++ t ∷ []) (map see (drop (suc i) vs)))

  read : (o : Option (List ℕ)) → as_str (see v) ≡ o → distinct [] (map see vs) ≡ option_map (λ ts. done ++ ts) (option_and_then rest o)
  read o e = here ∙ ap (λ p. option_map (λ ts. done ++ ts) (option_and_then rest p)) e

  pub distinct_stops : as_str (see v) ≡ None → None ≡ distinct [] (map see vs)
  distinct_stops e = sym (read None e)

  pub distinct_again : (t : List ℕ) → as_str (see v) ≡ Some t → list_any (λ other. bytes_eq other t) done ≡ true → None ≡ distinct [] (map see vs)
  distinct_again t e h =
      sym
      (read (Some t) e
      ∙ ap (λ b. option_map (λ ts. done ++ ts) (if b then None else option_map (λ ts. t ∷ ts) (distinct (done ++ t ∷ []) (map see (drop (suc i) vs))))) h)

  pub distinct_more : (t : List ℕ) → as_str (see v) ≡ Some t → list_any (λ other. bytes_eq other t) done ≡ false → AreDistinct see vs (i + 1) (done ++ t ∷ [])
  distinct_more t e h =
      subst (λ j. AreDistinct see vs j (done ++ t ∷ [])) (let q : suc i ≡ i + 1 = omega arith in q)
      (record {
        is =
            read (Some t) e
            ∙ ap (λ b. option_map (λ ts. done ++ ts) (if b then None else option_map (λ ts. t ∷ ts) (distinct (done ++ t ∷ []) (map see (drop (suc i) vs))))) h
            ∙ one_more done t (distinct (done ++ t ∷ []) (map see (drop (suc i) vs)));
      })

pub distinct_all : {V : Type 0} (see : V → Data) (vs : List V) (i : ℕ) (done : List (List ℕ)) → length vs ≤ i → AreDistinct see vs i done → Some done ≡ distinct [] (map see vs)
distinct_all see vs i done l h =
    sym (h.is ∙ ap (λ ws. option_map (λ ts. done ++ ts) (distinct done (map see ws))) (drop_past vs i l) ∙ ap Some (append-nil done))

-- ---- whether one of a list passes
pub any_here : {A : Type 0} (test : A → Bool) (xs : List A) (i : ℕ) (x : A) → i < length xs → x ≡ get_or xs i x → test x ≡ true → list_any test (drop i xs) ≡ true
any_here test xs i x l e h = ap (list_any test) (next xs i x l e) ∙ ap (λ b. b || list_any test (drop (suc i) xs)) h

pub any_later : {A : Type 0} (test : A → Bool) (xs : List A) (i : ℕ) (x : A) → i < length xs → x ≡ get_or xs i x → test x ≡ false → list_any test (drop i xs) ≡ list_any test (drop (suc i) xs)
any_later test xs i x l e h = ap (list_any test) (next xs i x l e) ∙ ap (λ b. b || list_any test (drop (suc i) xs)) h

pub any_never : {A : Type 0} (test : A → Bool) (xs : List A) (i : ℕ) → length xs ≤ i → list_any test (drop i xs) ≡ false
any_never test xs i l = ap (list_any test) (drop_past xs i l)

pub ruleset distinct_steps = (distinct_none, distinct_stops, distinct_again, distinct_more, distinct_all)

pub ruleset any_steps = (any_here, any_later, any_never)
