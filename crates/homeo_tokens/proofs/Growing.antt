-- One more token is numbered.
use Rattle.std.proofs.Common.{◌≡◌, ℕ, List, [], ◌∷◌, ◌++◌, map, refl, sym, ap, ap₂, ◌∙◌}
use Rattle.std.specs.Prelude.{None, Ok, if◌then◌else◌}
use Rattle.std.specs.Result.{result_map_both}
use Rattle.std.proofs.lemmas.List.{map-append}
use Rattle.homeo_syntax.specs.Lexemes.{Lexeme, Name, Number, Fixed, look_up, word_as}
use Rattle.homeo_syntax.specs.Tokens.{Scanned, begins_second, version_of, lexeme_in, scanned_in, in_version, unversioned, scanned_of, with_lexeme, names_after, names_of, kind_in, token_in, tokens_in}
use Rattle.homeo_syntax.specs.declared.token.Kind.{Kind}
use Rattle.homeo_syntax.specs.declared.token.Token.{Token}
use Rattle.homeo_syntax.specs.declared.token.Version.{Version}
use Rattle.homeo_syntax.specs.declared.token.Version.TheVariants.{First, Second}
use Rattle.homeo_syntax.specs.Versions.{also_reserved}
use Rattle.homeo_tokens.specs.inner.Numbers.{kinds_second, version_by}
use Rattle.homeo_tokens.proofs.Names.{kind_after}

abbrev version_from : Lexeme → Lexeme → Version
version_from a b = if begins_second a b then Second else First

-- the two lexemes that tell the version are the same in it
first_two : (a b : Lexeme) (p q : ℕ) → map (scanned_in (version_from a b)) (record { lexeme = a; offset = p } ∷ record { lexeme = b; offset = q } ∷ []) ≡ record { lexeme = lexeme_in First a; offset = p } ∷ record { lexeme = lexeme_in First b; offset = q } ∷ []
first_two (Fixed m) (Number n) p q = refl
first_two (Fixed m) (Name w) p q = refl
first_two (Fixed m) (Fixed n) p q = refl
first_two (Name w) b p q = refl
first_two (Number n) b p q = refl

same_kinds : (names : List (List ℕ)) (a b : Lexeme) → (if kinds_second (kind_in names (lexeme_in (version_from a b) a)) (kind_in names (lexeme_in (version_from a b) b)) then Second else First) ≡ version_from a b
same_kinds names (Fixed m) (Number n) = refl
same_kinds names (Fixed m) (Name w) = refl
same_kinds names (Fixed m) (Fixed n) = refl
same_kinds names (Name w) b = refl
same_kinds names (Number n) b = refl

pub version-is : (names : List (List ℕ)) (ts : List Scanned) → version_by (tokens_in names (in_version ts)) ≡ version_of ts
version-is names [] = refl
version-is names (t ∷ []) = refl
version-is names (t ∷ (u ∷ ts)) = same_kinds names t.lexeme u.lexeme

grown : (ts : List Scanned) (t : Scanned) → in_version (ts ++ t ∷ []) ≡ in_version ts ++ scanned_in (version_of ts) t ∷ []
grown [] t = refl
grown (u ∷ []) t = first_two u.lexeme t.lexeme u.offset t.offset
grown (u ∷ (w ∷ ts)) t = map-append (scanned_in (version_of (u ∷ (w ∷ ts)))) (u ∷ (w ∷ ts)) (t ∷ [])

names_grown : (names : List (List ℕ)) (ts : List Scanned) (t : Scanned) → names_after names (ts ++ t ∷ []) ≡ with_lexeme (names_after names ts) t.lexeme
names_grown names [] t = refl
names_grown names (u ∷ ts) t = names_grown (with_lexeme names u.lexeme) ts t

-- tokens keep their numbers
kept : (names : List (List ℕ)) (ts : List Scanned) (t : Scanned) → tokens_in (names_after names (ts ++ t ∷ [])) ts ≡ tokens_in (names_after names ts) ts
kept names [] t = refl
kept names (u ∷ ts) t =
    ap₂ (λ (k : Kind) (l : List Token). record { kind = k; offset = u.offset } ∷ l) (kind_after names u.lexeme (ts ++ t ∷ []) ∙ sym (kind_after names u.lexeme ts))
    (kept (with_lexeme names u.lexeme) ts t)

tokens_grown : (ts : List Scanned) (t : Scanned) → tokens_in (names_of (ts ++ t ∷ [])) (ts ++ t ∷ []) ≡ tokens_in (names_of ts) ts ++ token_in (with_lexeme (names_of ts) t.lexeme) t ∷ []
tokens_grown ts t =
    map-append (token_in (names_of (ts ++ t ∷ []))) ts (t ∷ [])
    ∙ ap₂ (λ (l : List Token) (names : List (List ℕ)). l ++ token_in names t ∷ []) (kept [] ts t) (names_grown [] ts t)

-- a word that no version reserves is a name in each
pub name_stays : (v : Version) (w : List ℕ) → look_up (also_reserved Second) w ≡ None → lexeme_in v (Name w) ≡ Name w
name_stays First w e = refl
name_stays Second w e = ap (word_as w) e

-- a lexeme that comes behind others
module _ (ts : List Scanned) (l : Lexeme) (at : ℕ) (v : Version) (old new : List (List ℕ)) (o : old ≡ names_of (in_version ts)) (is : v ≡ version_of ts) (n : new ≡ with_lexeme old (lexeme_in v l)) where
  abbrev here : Scanned
  here = record { lexeme = l; offset = at }

  made : new ≡ with_lexeme (names_of (in_version ts)) (lexeme_in (version_of ts) l)
  made = n ∙ ap₂ (λ (names : List (List ℕ)) (v : Version). with_lexeme names (lexeme_in v l)) o is

  pub names-put : new ≡ names_of (in_version (ts ++ record { lexeme = l; offset = at } ∷ []))
  names-put = made ∙ sym (names_grown [] (in_version ts) (scanned_in (version_of ts) here)) ∙ ap names_of (sym (grown ts here))

  pub tokens-put : (tokens after : List Token) (k : Kind) → tokens ≡ tokens_in (names_of (in_version ts)) (in_version ts) → k ≡ kind_in new (lexeme_in v l) → after ≡ tokens ++ record { kind = k; offset = at } ∷ [] →
      after ≡ tokens_in (names_of (in_version (ts ++ record { lexeme = l; offset = at } ∷ []))) (in_version (ts ++ record { lexeme = l; offset = at } ∷ []))
  tokens-put tokens after k t e a =
      a ∙ ap₂ (λ (l : List Token) (k : Kind). l ++ record { kind = k; offset = at } ∷ []) t
      (e ∙ ap₂ (λ (names : List (List ℕ)) (v : Version). kind_in names (lexeme_in v l)) made is)
      ∙ sym (tokens_grown (in_version ts) (scanned_in (version_of ts) here))
      ∙ ap (λ (us : List Scanned). tokens_in (names_of us) us) (sym (grown ts here))

pub as_scanned : (text : List ℕ) (ts : List Scanned) → unversioned text ≡ Ok ts → scanned_of text ≡ Ok (in_version ts)
as_scanned text ts e = ap (result_map_both in_version (λ at. at)) e
