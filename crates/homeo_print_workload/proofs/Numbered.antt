-- Lexemes and the tokens with their names as places: each way, and the names that they have.
use Rattle.std.proofs.Common.{◌≡◌, ℕ, List, [], ◌∷◌, map, refl, sym, ap, subst, ◌∙◌}
use Rattle.homeo_syntax.specs.Key.{definitions as syntax_definitions}
use Rattle.homeo_syntax.specs.declared.token.Mark.{Mark}
use Rattle.homeo_syntax.specs.declared.token.Kind.{Kind}
use Rattle.homeo_syntax.specs.declared.token.Kind.TheVariants as kind
use Rattle.homeo_syntax.specs.declared.token.Token.{Token}
use Rattle.homeo_syntax.specs.declared.token.Version.{Version}
use Rattle.homeo_syntax.specs.Versions.{CanMark}
use Rattle.homeo_syntax.specs.Lexemes.{Lexeme, Name, Number, Fixed}
use Rattle.homeo_syntax.specs.Tokens.{Scanned, with_lexeme, names_after, names_of, kind_in, tokens_in}
use Rattle.homeo_syntax.specs.Rules.{is_natural_value}
use Rattle.homeo_syntax.specs.WellFormed.{IsName, Each}
use Rattle.homeo_syntax.proofs.Spelling.{IsSpelled, AllSpelled}
use Rattle.homeo_syntax.proofs.Names.{InAll, AllIn, all_among, place_below, at_place}
use Rattle.homeo_print_workload.specs.Printed.{lexeme_in, CanStand}
use Rattle.homeo_print_workload.proofs.Atoms.{kinds_of, with_atom, atoms, Natural, Fine}

-- ---- lexemes and kinds
pub lexeme_again : (names : List (List ℕ)) (l : Lexeme) → InAll names l → lexeme_in names (kind_in names l) ≡ l
lexeme_again names (Name w) h = ap (λ (w : List ℕ). Name w) (at_place w names h)
lexeme_again names (Number n) h = refl
lexeme_again names (Fixed m) h = refl

-- a token whose lexeme has it as its kind, and that can stand in a text
pub record Stands (v : Version) (names : List (List ℕ)) (k : Kind) : Type 0 where
  pub again : kind_in names (lexeme_in names k) ≡ k
  pub can : CanStand v names k

lexeme_stands : (v : Version) (names : List (List ℕ)) (l : Lexeme) → InAll names l → IsSpelled v l → CanStand v names (kind_in names l)
lexeme_stands v names (Name w) h k = (place_below w names h, subst (IsName v) (sym (at_place w names h)) k)
lexeme_stands v names (Number n) h k = k
lexeme_stands v names (Fixed m) h k = k

pub mark_stands : (v : Version) (names : List (List ℕ)) (m : Mark) → CanMark v m → Stands v names (kind.Fixed m)
mark_stands v names m can = record { again = refl; can = can }

each_stands : (v : Version) (names : List (List ℕ)) (ts : List Scanned) → AllIn names ts → AllSpelled v ts → Each (Stands v names) (kinds_of (tokens_in names ts))
unfolding syntax_definitions
each_stands v names [] h k = tt
each_stands v names (t ∷ ts) h k =
    (record { again = ap (kind_in names) (lexeme_again names t.lexeme h.0); can = lexeme_stands v names t.lexeme h.0 k.0 }, each_stands v names ts h.1 k.1)

-- the tokens of a text
pub text_stands : (v : Version) (ts : List Scanned) → AllSpelled v ts → Each (Stands v (names_of ts)) (kinds_of (tokens_in (names_of ts) ts))
text_stands v ts k = each_stands v (names_of ts) ts (all_among ts []) k

natural : (v : Version) (names : List (List ℕ)) (k : Kind) → CanStand v names k → Natural k
natural v names (kind.Name n) h = tt
natural v names (kind.Number n) h = ap is_natural_value h.value
natural v names (kind.Fixed m) h = tt

pub each_natural : (v : Version) (names : List (List ℕ)) (ts : List Token) → Each (Stands v names) (kinds_of ts) → Fine ts
unfolding syntax_definitions
each_natural v names [] h = tt
each_natural v names (t ∷ ts) h = (natural v names t.kind h.0.can, each_natural v names ts h.1)

-- ---- a fact of each name and number, and so of each token
atom_each : (P : Kind → Type 0) (k : Kind) (ks : List Kind) → P k → Each P ks → Each P (with_atom k ks)
unfolding syntax_definitions
atom_each P (kind.Name n) ks h r = (h, r)
atom_each P (kind.Number n) ks h r = (h, r)
atom_each P (kind.Fixed m) ks h r = r

pub each_atom : (P : Kind → Type 0) (ks : List Kind) → Each P ks → Each P (atoms ks)
unfolding syntax_definitions
each_atom P [] h = tt
each_atom P (k ∷ ks) h = atom_each P k (atoms ks) h.0 (each_atom P ks h.1)

atom_parts : (P Q : Kind → Type 0) (k : Kind) (ks : List Kind) → ((m : Mark) → Q (kind.Fixed m) → P (kind.Fixed m)) → Q k → Each P (with_atom k ks) → P k × Each P ks
unfolding syntax_definitions
atom_parts P Q (kind.Name n) ks m q h = (h.0, h.1)
atom_parts P Q (kind.Number n) ks m q h = (h.0, h.1)
atom_parts P Q (kind.Fixed f) ks m q h = (m f q, h)

pub each_of_atoms : (P Q : Kind → Type 0) (ks : List Kind) → ((m : Mark) → Q (kind.Fixed m) → P (kind.Fixed m)) → Each Q ks → Each P (atoms ks) → Each P ks
unfolding syntax_definitions
each_of_atoms P Q [] m q h = tt
each_of_atoms P Q (k ∷ ks) m q h =
    let r = atom_parts P Q k (atoms ks) m q.0 h in
    (r.0, each_of_atoms P Q ks m q.1 r.1)

pub each_can : (v : Version) (names : List (List ℕ)) (ks : List Kind) → Each (Stands v names) ks → Each (CanStand v names) ks
unfolding syntax_definitions
each_can v names [] h = tt
each_can v names (k ∷ ks) h = (h.0.can, each_can v names ks h.1)

pub kinds_again : (v : Version) (names : List (List ℕ)) (ks : List Kind) → Each (Stands v names) ks → map (kind_in names) (map (lexeme_in names) ks) ≡ ks
unfolding syntax_definitions
kinds_again v names [] h = refl
kinds_again v names (k ∷ ks) h = ap (λ (x : Kind). x ∷ map (kind_in names) (map (lexeme_in names) ks)) h.0.again ∙ ap (λ (x : List Kind). k ∷ x) (kinds_again v names ks h.1)

abbrev pub lexemes_of : List Scanned → List Lexeme
lexemes_of ts = map (λ (t : Scanned). t.lexeme) ts

pub kinds_are : (names : List (List ℕ)) (ts : List Scanned) → kinds_of (tokens_in names ts) ≡ map (kind_in names) (lexemes_of ts)
kinds_are names [] = refl
kinds_are names (t ∷ ts) = ap (λ (x : List Kind). kind_in names t.lexeme ∷ x) (kinds_are names ts)

lexemes_again : (names : List (List ℕ)) (ts : List Scanned) → AllIn names ts → map (lexeme_in names) (kinds_of (tokens_in names ts)) ≡ lexemes_of ts
lexemes_again names [] h = refl
lexemes_again names (t ∷ ts) h = ap (λ (x : Lexeme). x ∷ map (lexeme_in names) (kinds_of (tokens_in names ts))) (lexeme_again names t.lexeme h.0) ∙ ap (λ (x : List Lexeme). t.lexeme ∷ x) (lexemes_again names ts h.1)

-- ---- the names that lexemes have
abbrev names_over : List (List ℕ) → List Lexeme → List (List ℕ)
names_over names [] = names
names_over names (l ∷ ls) = names_over (with_lexeme names l) ls

over_is_after : (names : List (List ℕ)) (ts : List Scanned) → names_after names ts ≡ names_over names (lexemes_of ts)
over_is_after names [] = refl
over_is_after names (t ∷ ts) = over_is_after (with_lexeme names t.lexeme) ts

over_atom : (all names : List (List ℕ)) (k : Kind) (ks : List Kind) → names_over names (map (lexeme_in all) (with_atom k ks)) ≡ names_over (with_lexeme names (lexeme_in all k)) (map (lexeme_in all) ks)
over_atom all names (kind.Name n) ks = refl
over_atom all names (kind.Number n) ks = refl
over_atom all names (kind.Fixed m) ks = refl

over_atoms : (all names : List (List ℕ)) (ks : List Kind) → names_over names (map (lexeme_in all) (atoms ks)) ≡ names_over names (map (lexeme_in all) ks)
over_atoms all names [] = refl
over_atoms all names (k ∷ ks) = over_atom all names k (atoms ks) ∙ over_atoms all (with_lexeme names (lexeme_in all k)) ks

-- Lexemes of tokens with the names and numbers of a text's tokens have the text's names.
pub names_again : (scanned others : List Scanned) (ks : List Kind) → atoms ks ≡ atoms (kinds_of (tokens_in (names_of scanned) scanned)) → lexemes_of others ≡ map (lexeme_in (names_of scanned)) ks → names_of others ≡ names_of scanned
names_again scanned others ks same e =
    let all = names_of scanned in
    over_is_after [] others ∙ ap (names_over []) e ∙ sym (over_atoms all [] ks)
    ∙ ap (λ (x : List Kind). names_over [] (map (lexeme_in all) x)) same ∙ over_atoms all [] (kinds_of (tokens_in all scanned))
    ∙ ap (names_over []) (lexemes_again all scanned (all_among scanned [])) ∙ sym (over_is_after [] scanned)
