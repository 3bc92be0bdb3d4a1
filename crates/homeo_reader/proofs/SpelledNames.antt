-- The names of a text are distinct, and spelled as names.
use Rattle.std.proofs.Common.{◌≡◌, ◌≢◌, ◌<◌, ◌+◌, ℕ, zero, suc, Bool, true, false, List, [], ◌∷◌, ◌++◌, length, get_or, refl, sym, ap, subst, ◌∙◌, arith, inl, inr, length-append, true≢false}
use Rattle.std.specs.Prelude.{Ok, if◌then◌else◌, ◌||◌, AllPairs}
use Rattle.std.specs.List.{list_any}
use Rattle.std.specs.Str.{bytes_eq}
use Rattle.std.proofs.lemmas.Bool.{cases_lt}
use Rattle.std.proofs.Math.ListN.{get_or-append}
use Rattle.std.proofs.Math.Seq.{get_or-append_seam}
use Rattle.homeo_syntax.specs.Key.{definitions}
use Rattle.homeo_syntax.specs.Source as s
use Rattle.homeo_syntax.specs.declared.token.Version.{Version}
use Rattle.homeo_syntax.specs.Lexemes.{Lexeme, Name, Number, Fixed}
use Rattle.homeo_syntax.specs.Tokens.{Scanned, version_of, scanned_of, with_lexeme, names_after, names_of, kind_in, tokens_in}
use Rattle.homeo_syntax.specs.Rules.{IsWorkload}
use Rattle.homeo_syntax.specs.Reads.{Reads}
use Rattle.homeo_syntax.specs.WellFormed.{IsName, Each, EachIdent, IsBelow, IsWellFormed}
use Rattle.homeo_syntax.proofs.Spelling.{IsSpelled, AllSpelled, scanned_spelled}
use Rattle.homeo_syntax.proofs.Names.{bytes_same, InAll, AllIn, all_among, place_below}
use Rattle.homeo_reader.proofs.Aborts.{workload_aborts}
use Rattle.homeo_reader.proofs.Keeps.{Fine}
use Rattle.homeo_reader.proofs.Kept.{Named, IsKept, workload_named}

-- ---- spelling
each_last : (v : Version) (names : List (List ℕ)) (w : List ℕ) → Each (IsName v) names → IsName v w → Each (IsName v) (names ++ w ∷ [])
unfolding definitions
each_last v [] w h k = (k, tt)
each_last v (n ∷ names) w h k = (h.0, each_last v names w h.1 k)

spelled_name : (v : Version) (names : List (List ℕ)) (w : List ℕ) (b : Bool) → Each (IsName v) names → IsName v w → Each (IsName v) (if b then names else names ++ w ∷ [])
spelled_name v names w true h k = h
spelled_name v names w false h k = each_last v names w h k

spelled_lexeme : (v : Version) (names : List (List ℕ)) (l : Lexeme) → Each (IsName v) names → IsSpelled v l → Each (IsName v) (with_lexeme names l)
spelled_lexeme v names (Name w) h k = spelled_name v names w (list_any (bytes_eq w) names) h k
spelled_lexeme v names (Number n) h k = h
spelled_lexeme v names (Fixed m) h k = h

spelled_after : (v : Version) (ts : List Scanned) (names : List (List ℕ)) → Each (IsName v) names → AllSpelled v ts → Each (IsName v) (names_after names ts)
spelled_after v [] names h k = h
spelled_after v (t ∷ ts) names h k = spelled_after v ts (with_lexeme names t.lexeme) (spelled_lexeme v names t.lexeme h k.0) k.1

-- ---- distinct
abbrev Distinct : List (List ℕ) → Type 0
Distinct names = AllPairs (λ a b. a ≢ b) names

head_not : (w n : List ℕ) (b c : Bool) → bytes_eq w n ≡ b → (b || c) ≡ false → (n ≡ w → ⊥) × (c ≡ false)
head_not w n true c e h = absurd (true≢false h)
head_not w n false c e h = (λ z. true≢false (sym (bytes_same w) ∙ ap (bytes_eq w) (sym z) ∙ e), h)

not_among : (w : List ℕ) (names : List (List ℕ)) → list_any (bytes_eq w) names ≡ false → (i : ℕ) (d : List ℕ) → i < length names → get_or names i d ≡ w → ⊥
not_among w [] h i d k e = omega arith
not_among w (n ∷ names) h zero d k e = (head_not w n (bytes_eq w n) (list_any (bytes_eq w) names) refl h).0 e
not_among w (n ∷ names) h (suc i) d k e = not_among w names (head_not w n (bytes_eq w n) (list_any (bytes_eq w) names) refl h).1 i d (omega arith) e

distinct_last : (names : List (List ℕ)) (w : List ℕ) → Distinct names → list_any (bytes_eq w) names ≡ false → Distinct (names ++ w ∷ [])
distinct_last names w h k = λ i j d below within same.
    let len : length (names ++ w ∷ []) ≡ length names + 1 = length-append names (w ∷ []) in
    let before : i < length names = omega arith in
    let first : get_or (names ++ w ∷ []) i d ≡ get_or names i d = get_or-append names (w ∷ []) d i before in
    elim (cases_lt j (length names)) [
      | inl l ↦ h i j d below l (sym first ∙ same ∙ get_or-append names (w ∷ []) d j l)
      | inr g ↦
          let at : j ≡ length names = omega arith in
          not_among w names k i d before (sym first ∙ same ∙ ap (λ (n : ℕ). get_or (names ++ w ∷ []) n d) at ∙ get_or-append_seam names w [] d)
    ]

distinct_name : (names : List (List ℕ)) (w : List ℕ) (b : Bool) → list_any (bytes_eq w) names ≡ b → Distinct names → Distinct (if b then names else names ++ w ∷ [])
distinct_name names w true e h = h
distinct_name names w false e h = distinct_last names w h e

distinct_lexeme : (names : List (List ℕ)) (l : Lexeme) → Distinct names → Distinct (with_lexeme names l)
distinct_lexeme names (Name w) h = distinct_name names w (list_any (bytes_eq w) names) refl h
distinct_lexeme names (Number n) h = h
distinct_lexeme names (Fixed m) h = h

distinct_after : (ts : List Scanned) (names : List (List ℕ)) → Distinct names → Distinct (names_after names ts)
distinct_after [] names h = h
distinct_after (t ∷ ts) names h = distinct_after ts (with_lexeme names t.lexeme) (distinct_lexeme names t.lexeme h)

distinct_none : Distinct []
distinct_none = λ i j d below within. absurd (omega arith)

-- ---- numbers of names
fine_tokens : (all : List (List ℕ)) (ts : List Scanned) → AllIn all ts → Fine (λ t. Named (length all) t.kind) (tokens_in all ts)
fine_tokens all [] h = tt
fine_tokens all (t ∷ ts) h = (go t.lexeme h.0, fine_tokens all ts h.1)
  where
    go : (l : Lexeme) → InAll all l → Named (length all) (kind_in all l)
    go (Name w) h = place_below w all h
    go (Number n) h = tt
    go (Fixed m) h = tt

-- ---- well formed
names_ok : (text : List ℕ) (scanned : List Scanned) → scanned_of text ≡ Ok scanned → Each (IsName (version_of scanned)) (names_of scanned)
unfolding definitions
names_ok text scanned e = spelled_after (version_of scanned) scanned [] tt (scanned_spelled text scanned e)

kept : (text : List ℕ) (w : s.Workload) → (r : Reads text w) → IsKept (length (names_of r.scanned)) (version_of r.scanned) (names_of r.scanned) w
unfolding IsWorkload
kept text w r = (workload_named (length (names_of r.scanned)) (version_of r.scanned) (names_of r.scanned)).of w (tokens_in (names_of r.scanned) r.scanned) r.spells (fine_tokens (names_of r.scanned) r.scanned (all_among r.scanned []))

pub well_formed : (text : List ℕ) (w : s.Workload) → Reads text w → IsWellFormed w
well_formed text w r =
    let k = kept text w r in
    record {
      form = version_of r.scanned;
      version = k.version;
      distinct = subst Distinct (sym k.names_are) (distinct_after r.scanned [] distinct_none);
      spelled = subst (Each (IsName (version_of r.scanned))) (sym k.names_are) (names_ok text r.scanned r.lexemes);
      named = subst (λ (l : List (List ℕ)). EachIdent (IsBelow (length l)) w) (sym k.names_are) k.named;
      sites = k.sites;
      weights = k.weights;
      natural = k.natural;
      aborts = workload_aborts (version_of r.scanned) (names_of r.scanned) w (tokens_in (names_of r.scanned) r.scanned) r.spells;
    }
