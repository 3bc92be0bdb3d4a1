-- A text that was cut short has its first fault at its end.
use Rattle.std.proofs.Common.{◌≡◌, ℕ, Bool, true, false, List, [], ◌∷◌, ◌++◌, refl, sym, ap, subst, ◌∙◌, inr, length}
use Rattle.std.proofs.lemmas.List.{append-nil, map-append}
use Rattle.std.specs.Prelude.{Result, Ok, Err, ◌&&◌, if◌then◌else◌}
use Rattle.std.specs.List.{list_all}
use Rattle.homeo_syntax.specs.declared.token.Token.{Token}
use Rattle.homeo_syntax.specs.declared.token.Version.{Version}
use Rattle.homeo_syntax.specs.declared.token.Version.TheVariants.{First, Second}
use Rattle.homeo_syntax.specs.declared.token.Mark.{Mark}
use Rattle.homeo_syntax.specs.declared.token.Mark.TheVariants as mark
use Rattle.homeo_syntax.specs.Classes.{number_of}
use Rattle.homeo_syntax.specs.declared.token.Kind.TheVariants as kind
use Rattle.homeo_syntax.specs.Source as s
use Rattle.homeo_syntax.specs.Lexemes.{Lexeme, Name, Number, Fixed}
use Rattle.homeo_syntax.specs.Grammar.{Means, IsFault, takes, seq, as_value}
use Rattle.homeo_syntax.specs.Tokens.{is_good, IsClean, Scanned, version_of, scanned_of, with_lexeme, names_after, names_of, kind_in, token_in, tokens_in}
use Rattle.homeo_syntax.specs.Rules.{Rule, rule, number, lead, lead_number, weights, head, workload, limit, IsWorkload}
use Rattle.homeo_syntax.specs.Reads.{Reads, IsUnread}
use Rattle.homeo_syntax.proofs.Names.{InAll, AllIn, all_among}
use Rattle.homeo_tokens.proofs.Names.{place_after}
use Rattle.homeo_reader.specs.Cut.{IsCutShort}
use Rattle.homeo_reader.specs.inner.Engine.{Reading, ◌>>=◌, calls_at, read, goes_on}
use Rattle.homeo_reader.specs.inner.FirstTokens.{classes}
use Rattle.homeo_reader.specs.inner.Declarations.{top, workload_read}
use Rattle.homeo_reader.proofs.Top.{decided_whole, at_fault}
use Rattle.homeo_reader.proofs.Words.{Clear}
use Rattle.homeo_reader.proofs.Whole.{rest_of}
use Rattle.homeo_reader.proofs.Complete.{read_complete, known_at}
use Rattle.homeo_reader.proofs.Decided.{decided}

-- ---- the first tokens are numbered as in the whole text
names_behind : (names : List (List ℕ)) (ts more : List Scanned) → names_after names (ts ++ more) ≡ names_after (names_after names ts) more
names_behind names [] more = refl
names_behind names (t ∷ ts) more = names_behind (with_lexeme names t.lexeme) ts more

same_kind : (names : List (List ℕ)) (more : List Scanned) (l : Lexeme) → InAll names l → kind_in (names_after names more) l ≡ kind_in names l
same_kind names more (Name w) h = ap (λ (n : ℕ). kind.Name n) (place_after w more names h)
same_kind names more (Number n) h = refl
same_kind names more (Fixed m) h = refl

same_tokens : (names : List (List ℕ)) (more ts : List Scanned) → AllIn names ts → tokens_in (names_after names more) ts ≡ tokens_in names ts
same_tokens names more [] h = refl
same_tokens names more (t ∷ ts) h =
    ap (λ k. record { kind = k; offset = t.offset } ∷ tokens_in (names_after names more) ts) (same_kind names more t.lexeme h.0)
    ∙ ap (λ (us : List Token). token_in names t ∷ us) (same_tokens names more ts h.1)

-- the tokens of the whole text are those of its beginning, and others
pub whole_tokens : (ts more : List Scanned) → tokens_in (names_of (ts ++ more)) (ts ++ more) ≡ tokens_in (names_of ts) ts ++ tokens_in (names_of (ts ++ more)) more
whole_tokens ts more =
    map-append (token_in (names_of (ts ++ more))) ts more
    ∙ ap (λ (us : List Token). us ++ tokens_in (names_of (ts ++ more)) more)
    (ap (λ (names : List (List ℕ)). tokens_in names ts) (names_behind [] ts more) ∙ same_tokens (names_of ts) more ts (all_among ts []))

-- ---- a workload ends
-- tokens that are a workload are one with any names
with_names : (v : Version) (names others : List (List ℕ)) (w : s.Workload) (ts : List Token) → IsWorkload v names w ts → IsWorkload v others (record w { names = others }) ts
unfolding IsWorkload
with_names v names others w ts p = (p.0, p.1, ap (λ (w : s.Workload). record w { names = others }) p.2)

last_token : (v : Version) (names : List (List ℕ)) (ts : List Token) → Clear (goes_on classes (workload v names)) ts
last_token First names [] = tt
last_token Second names [] = tt
last_token First names (t ∷ ts) = λ h. cc
last_token Second names (t ∷ ts) = λ h. cc

nothing_left : (x : Reading s.Workload) (v w : s.Workload) (t : Token) (ts : List Token) → x ≡ Ok (v, t ∷ ts) → x ≡ Ok (w, []) → ⊥
nothing_left x v w t ts p q = empty (ap rest_of (sym q ∙ p))
  where
    empty : [] ≡ t ∷ ts → ⊥
    empty e = cc

-- no workload goes on behind a workload
workload_ends : (v : Version) (names : List (List ℕ)) (a w : s.Workload) (ts : List Token) (t : Token) (more : List Token) → IsWorkload v names a ts →
    IsWorkload v names w (ts ++ t ∷ more) → ⊥
unfolding IsWorkload
workload_ends v names a w ts t more p q =
    let calls = calls_at rule limit in
    let known = known_at classes rule decided limit in
    nothing_left (read calls (workload v names) (ts ++ t ∷ more)) a w t more
    (read_complete classes calls (Means rule limit) known (workload v names) (decided_whole v names) a ts (t ∷ more) p (last_token v names (t ∷ more)))
    (ap (read calls (workload v names)) (sym (append-nil (ts ++ t ∷ more)))
    ∙ read_complete classes calls (Means rule limit) known (workload v names) (decided_whole v names) w (ts ++ t ∷ more) [] q (last_token v names []))

-- ---- the bytes
pub clean_beginning : (cut rest : List ℕ) → IsClean (cut ++ rest) → IsClean cut
clean_beginning [] rest h = refl
clean_beginning (b ∷ cut) rest h = go (is_good b) (list_all is_good (cut ++ rest)) h (clean_beginning cut rest)
  where
    go : (good all : Bool) → (good && all) ≡ true → (all ≡ true → list_all is_good cut ≡ true) → (good && list_all is_good cut) ≡ true
    go true all h k = k h
    go false all h k = cc

same_lexemes : (a b : List Scanned) (x : Result (List Scanned) ℕ) → x ≡ Ok a → x ≡ Ok b → a ≡ b
same_lexemes a b x p q = cc

-- ---- the version of a beginning
-- Tokens that begin a workload, and need more to be one: a fault at their end.
fault_at_end : (v : Version) (names : List (List ℕ)) (kept more : List Token) (t : Token) (w : s.Workload) → IsWorkload v names w (kept ++ t ∷ more) → IsFault (IsWorkload v names) kept []
fault_at_end v names kept more t w whole = record {
  front = kept;
  cut = sym (append-nil kept);
  value = w;
  more = t ∷ more;
  goes_on = whole;
  stuck = λ a z s p. workload_ends v names a w kept t more
      (subst (IsWorkload v names a) (ap (λ (z : List Token). kept ++ z) s ∙ append-nil kept) p) whole;
}

-- each workload begins with the word `workload`
first_word : (v : Version) (names : List (List ℕ)) (w : s.Workload) (t : Token) (ts : List Token) → IsWorkload v names w (t ∷ ts) → takes (number_of mark.Workload ∷ []) (λ k. true) t.kind ≡ true
unfolding IsWorkload
first_word v names w t ts p =
    let h = p.1.3.1 in
    let all : t ∷ ts ≡ h.3.0 ∷ (h.1 ++ p.1.1) = p.1.2 ∙ ap (λ (l : List Token). l ++ p.1.1) (h.2 ∙ ap (λ (l : List Token). l ++ h.1) h.3.1) in
    let same : t ≡ h.3.0 = cc in
    subst (λ (u : Token). takes (number_of mark.Workload ∷ []) (λ k. true) u.kind ≡ true) (sym same) h.3.2

-- ---- what begins with a phrase that isn't read isn't read
seq_stops : {A B : Type 0} (g : Rule A) (h : Rule B) (ts fault : List Token) → read top g ts ≡ Err fault → read top (seq g h) ts ≡ Err fault
unfolding read
seq_stops g h ts fault e = ap (λ r. r >>= λ x. read top h x.1 >>= λ y. Ok ((x.0, y.0), y.1)) e

as_stops : {A B : Type 0} (f : A → B) (g : Rule A) (ts fault : List Token) → read top g ts ≡ Err fault → read top (as_value f g) ts ≡ Err fault
unfolding read
as_stops f g ts fault e = ap (λ r. r >>= λ x. Ok (f x.0, x.1)) e

-- a mark and then nothing
abbrev mark_read : Reading (Unit {0})
mark_read = Ok (tt, [])

abbrev behind_mark : {A : Type 0} → A × List Token → Reading (Unit {0} × A)
behind_mark y = Ok ((tt, y.0), y.1)

abbrev then_phrase : {A : Type 0} → Rule A → Unit {0} × List Token → Reading (Unit {0} × A)
then_phrase g x = read top g x.1 >>= λ y. Ok ((x.0, y.0), y.1)

abbrev phrase_of : {A : Type 0} → (Unit {0} × A) × List Token → Reading A
phrase_of x = Ok (x.0.1, x.1)

lead_stops : {A : Type 0} (m : Mark) (g : Rule A) (t : Token) → takes (number_of m ∷ []) (λ k. true) t.kind ≡ true → read top g [] ≡ Err [] → read top (lead m g) (t ∷ []) ≡ Err []
unfolding read
lead_stops {A} m g t e k = go (takes (number_of m ∷ []) (λ k. true) t.kind) e
  where
    go : (b : Bool) → b ≡ true → (((if b then mark_read else Err (t ∷ [])) >>= then_phrase g) >>= phrase_of) ≡ Err []
    go true e = ap (λ (r : Reading A). (r >>= behind_mark) >>= phrase_of) k
    go false e = cc

head_ends : (t : Token) → takes (number_of mark.Workload ∷ []) (λ k. true) t.kind ≡ true → read top (head First) (t ∷ []) ≡ Err []
unfolding read
head_ends t e = lead_stops mark.Workload (lead_number 1 (lead mark.Sites (seq number (weights First)))) t e refl

-- nothing, and that word alone, begin a workload of version 1
no_token : (names : List (List ℕ)) → IsFault (IsWorkload First names) [] []
unfolding workload_read read
no_token names = at_fault First names [] [] refl

one_token : (names : List (List ℕ)) (t : Token) → takes (number_of mark.Workload ∷ []) (λ k. true) t.kind ≡ true → IsFault (IsWorkload First names) (t ∷ []) []
unfolding workload_read
one_token names t e = at_fault First names (t ∷ []) [] (as_stops _ _ (t ∷ []) [] (seq_stops (head First) _ (t ∷ []) [] (head_ends t e)))

cut_fault :
    (kept others : List Scanned) (next : Scanned) (w : s.Workload) →
    IsWorkload (version_of (kept ++ next ∷ others)) (names_of (kept ++ next ∷ others)) w (tokens_in (names_of (kept ++ next ∷ others)) (kept ++ next ∷ others)) →
    IsFault (IsWorkload (version_of kept) (names_of kept)) (tokens_in (names_of kept) kept) []
cut_fault kept others next w spells =
    let scanned = kept ++ next ∷ others in
    let all = names_of scanned in
    let names = names_of kept in
    let more = tokens_in all others in
    let v = version_of scanned in
    let whole : IsWorkload v names (record w { names = names }) (tokens_in names kept ++ token_in all next ∷ more) =
    with_names v all names w (tokens_in names kept ++ token_in all next ∷ more) (subst (IsWorkload v all w) (whole_tokens kept (next ∷ others)) spells) in
    go kept whole (λ e. subst (λ (u : Version). IsFault (IsWorkload u names) (tokens_in names kept) []) e (fault_at_end v names (tokens_in names kept) more (token_in all next) (record w { names = names }) whole))
  where
    go :
        (kept : List Scanned) → IsWorkload (version_of (kept ++ next ∷ others)) (names_of kept) (record w { names = names_of kept }) (tokens_in (names_of kept) kept ++ token_in (names_of (kept ++ next ∷ others)) next ∷ tokens_in (names_of (kept ++ next ∷ others)) others) →
        (version_of (kept ++ next ∷ others) ≡ version_of kept → IsFault (IsWorkload (version_of kept) (names_of kept)) (tokens_in (names_of kept) kept) []) →
        IsFault (IsWorkload (version_of kept) (names_of kept)) (tokens_in (names_of kept) kept) []
    go [] p k = no_token (names_of [])
    go (t ∷ []) p k = one_token (names_of (t ∷ [])) (token_in (names_of (t ∷ [])) t) (first_word _ (names_of (t ∷ [])) _ (token_in (names_of (t ∷ [])) t) _ p)
    go (t ∷ (u ∷ ts)) p k = k refl

-- ---- the law
pub cut_texts : (text cut : List ℕ) (w : s.Workload) → Reads text w → IsCutShort text cut → IsUnread cut (record { code = 4; offset = length cut })
cut_texts text cut w r c =
    let scanned = c.kept ++ c.next ∷ c.others in
    let is : r.scanned ≡ scanned = same_lexemes r.scanned scanned (scanned_of text) r.lexemes c.all_are in
    let spells : IsWorkload (version_of scanned) (names_of scanned) w (tokens_in (names_of scanned) scanned) =
    subst (λ (ts : List Scanned). IsWorkload (version_of ts) (names_of ts) w (tokens_in (names_of ts) ts)) is r.spells in
    inr (inr (record {
      code = refl;
      clean = clean_beginning cut c.rest (subst IsClean c.begins r.clean);
      scanned = c.kept;
      lexemes = c.kept_are;
      fault = [];
      stuck = cut_fault c.kept c.others c.next w spells;
      at = refl;
    }))
