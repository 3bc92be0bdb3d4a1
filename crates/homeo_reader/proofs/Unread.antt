-- A text at fault reads as no workload, and a text reads as one at most.
use Rattle.std.proofs.Common.{◌≡◌, ℕ, Bool, true, false, List, [], ◌∷◌, refl, subst, ap, ◌∙◌, sym, inl, inr, not, ◌+◌, length, cond}
use Rattle.std.specs.Prelude.{Option, Some, None, Result, Ok, Err, IfOk, position, ◌&&◌}
use Rattle.std.specs.List.{list_all, position_from}
use Rattle.std.specs.Result.{result_map_both}
use Rattle.std.proofs.lemmas.Iterator.Adapters.{position_from-zero}
use Rattle.homeo_syntax.specs.declared.token.Token.{Token}
use Rattle.homeo_syntax.specs.declared.token.Version.{Version}
use Rattle.homeo_syntax.specs.declared.workload.Refusal.{Refusal}
use Rattle.homeo_syntax.specs.Source as s
use Rattle.homeo_syntax.specs.Tokens.{is_good, IsClean, Scanned, version_of, in_version, unversioned, scanned_of, names_of, tokens_in}
use Rattle.homeo_syntax.specs.Rules.{IsWorkload}
use Rattle.homeo_syntax.specs.Reads.{Reads, IsUnread, offset_at}
use Rattle.homeo_syntax.specs.WellFormed.{IsWellFormed}
use Rattle.homeo_syntax.specs.declared.workload.Workload.{Workload}
use Rattle.homeo_syntax.specs.SourceView.{plain_workload}
use Rattle.homeo_syntax.specs.Grammar.{IsFault}
use Rattle.homeo_tokens.specs.declared.numbering.Numbered.{Numbered}
use Rattle.homeo_tokens.specs.Scans.{IsScanned}
use Rattle.homeo_tokens.proofs.Clean.{clean}
use Rattle.homeo_reader.specs.declared.parser.Fault.{Fault}
use Rattle.homeo_reader.specs.declared.parser.Fault.TheVariants as fault
use Rattle.homeo_reader.specs.declared.reader.ReadRefusal.{ReadRefusal}
use Rattle.homeo_reader.specs.declared.reader.ReadRefusal.TheVariants.{Refused, Memory}
use Rattle.homeo_reader.specs.inner.Reading.{Gives}
use Rattle.homeo_reader.specs.inner.Exact.{ReadsExactly, ParsesExactly}
use Rattle.homeo_reader.proofs.Faults.{one_fault, no_phrase}
use Rattle.homeo_reader.specs.inner.Declarations.{workload_read}
use Rattle.homeo_reader.proofs.SpelledNames.{well_formed}
use Rattle.homeo_reader.proofs.Top.{one_workload, at_fault}

same_scan : (a b : List Scanned) (x : Result (List Scanned) ℕ) → x ≡ Ok a → x ≡ Ok b → a ≡ b
same_scan a b x p q = cc

pub one_reading : (text : List ℕ) (v w : s.Workload) → Reads text v → Reads text w → v ≡ w
one_reading text v w p q =
    let e = same_scan q.scanned p.scanned (scanned_of text) q.lexemes p.lexemes in
    one_workload (version_of p.scanned) (names_of p.scanned) (tokens_in (names_of p.scanned) p.scanned) v w p.spells
    (subst (λ (x : List Scanned). IsWorkload (version_of x) (names_of x) w (tokens_in (names_of x) x)) e q.spells)

abbrev is_bad : ℕ → Bool
is_bad b = not (is_good b)

no_bad : (g : Bool) (i : ℕ) (later : Option ℕ) (all : Bool) → cond (not g) (Some i) later ≡ None → (later ≡ None → all ≡ true) → (g && all) ≡ true
no_bad true i later all h k = k h
no_bad false i later all h k = let no : ⊥ = cc in absurd no

some_bad : (g : Bool) (i at : ℕ) (later : Option ℕ) (all : Bool) → cond (not g) (Some i) later ≡ Some at → (g && all) ≡ true →
    (later ≡ Some at → all ≡ true → ⊥) → ⊥
some_bad true i at later all h c k = k h c
some_bad false i at later all h c k = cc

-- there is no bad byte
clean_from : (text : List ℕ) (i : ℕ) → position_from is_bad i text ≡ None → list_all is_good text ≡ true
clean_from [] i h = refl
clean_from (b ∷ text) i h = no_bad (is_good b) i (position_from is_bad (i + 1) text) (list_all is_good text) h (λ e. clean_from text (i + 1) e)

bad_from : (text : List ℕ) (i at : ℕ) → position_from is_bad i text ≡ Some at → list_all is_good text ≡ true → ⊥
bad_from [] i at h c = cc
bad_from (b ∷ text) i at h c = some_bad (is_good b) i at (position_from is_bad (i + 1) text) (list_all is_good text) h c (λ e k. bad_from text (i + 1) at e k)

pub clean_text : (text : List ℕ) → position (λ b. not (is_good b)) text ≡ None → IsClean text
clean_text text h = clean_from text 0 (sym (position_from-zero is_bad text) ∙ h)

bad_text : (text : List ℕ) (at : ℕ) → position (λ b. not (is_good b)) text ≡ Some at → IsClean text → ⊥
bad_text text at h c = bad_from text 0 at (sym (position_from-zero is_bad text) ∙ h) c

pub unread : (text : List ℕ) (r : Refusal) (w : s.Workload) → IsUnread text r → Reads text w → ⊥
unread text r w (inl f) p = bad_text text r.offset f.at p.clean
unread text r w (inr (inl f)) p = let a = f.at in let b = p.lexemes in cc
unread text r w (inr (inr f)) p =
    let e = same_scan p.scanned f.scanned (scanned_of text) p.lexemes f.lexemes in
    no_phrase (IsWorkload (version_of f.scanned) (names_of f.scanned)) (tokens_in (names_of f.scanned) f.scanned) f.fault f.stuck w
    (subst (λ (x : List Scanned). IsWorkload (version_of x) (names_of x) w (tokens_in (names_of x) x)) e p.spells)

pub same_parts : (r q : Refusal) → r.code ≡ q.code → r.offset ≡ q.offset → r ≡ q
same_parts r q c o =
    ap (λ (n : ℕ). record { code = n; offset = r.offset }) c ∙ ap (λ (n : ℕ). record { code = q.code; offset = n }) o

same_offset : (x : Option ℕ) (a b : ℕ) → x ≡ Some a → x ≡ Some b → a ≡ b
same_offset x a b p q = cc

same_stop : (x : Result (List Scanned) ℕ) (a b : ℕ) → x ≡ Err a → x ≡ Err b → a ≡ b
same_stop x a b p q = cc

-- a text has one refusal
pub one_refusal : (text : List ℕ) (r q : Refusal) → IsUnread text r → IsUnread text q → r ≡ q
one_refusal text r q (inl f) (inl g) =
    same_parts r q (f.code ∙ sym g.code) (same_offset (position (λ b. not (is_good b)) text) r.offset q.offset f.at g.at)
one_refusal text r q (inl f) (inr (inl g)) = absurd (bad_text text r.offset f.at g.clean)
one_refusal text r q (inl f) (inr (inr g)) = absurd (bad_text text r.offset f.at g.clean)
one_refusal text r q (inr (inl f)) (inl g) = absurd (bad_text text q.offset g.at f.clean)
one_refusal text r q (inr (inr f)) (inl g) = absurd (bad_text text q.offset g.at f.clean)
one_refusal text r q (inr (inl f)) (inr (inl g)) =
    same_parts r q (f.code ∙ sym g.code) (same_stop (scanned_of text) r.offset q.offset f.at g.at)
one_refusal text r q (inr (inl f)) (inr (inr g)) = let a = f.at in let b = g.lexemes in let no : ⊥ = cc in absurd no
one_refusal text r q (inr (inr f)) (inr (inl g)) = let a = g.at in let b = f.lexemes in let no : ⊥ = cc in absurd no
one_refusal text r q (inr (inr f)) (inr (inr g)) =
    let e = same_scan g.scanned f.scanned (scanned_of text) g.lexemes f.lexemes in
    let k = one_fault (IsWorkload (version_of f.scanned) (names_of f.scanned)) (tokens_in (names_of f.scanned) f.scanned) f.fault g.fault f.stuck
    (subst (λ (x : List Scanned). IsFault (IsWorkload (version_of x) (names_of x)) (tokens_in (names_of x) x) g.fault) e g.stuck) in
    same_parts r q (f.code ∙ sym g.code) (f.at ∙ ap (offset_at (length text)) k ∙ sym g.at)

-- ---- what the functions of the reader return
pub read_well_formed : (text : List ℕ) (x : Result Workload ReadRefusal) → ReadsExactly text x → IfOk x (λ w. IsWellFormed (plain_workload w))
read_well_formed text (Ok w) p = well_formed text (plain_workload w) p
read_well_formed text (Err e) p = tt

pub refused_at : (v : Version) (names : List (List ℕ)) (ts rest : List Token) (end offset : ℕ) (x : ReadRefusal) → x ≡ Refused (record { code = 4; offset = offset }) →
    offset ≡ offset_at end rest → IsFault (IsWorkload v names) ts rest → ParsesExactly v names ts end (Err x)
refused_at v names ts rest end offset x e o f =
    subst (λ (x : ReadRefusal). ParsesExactly v names ts end (Err x)) (sym e) (rest, f, ap (λ (n : ℕ). record { code = 4; offset = n }) o)

pub fault_refused : (v : Version) (names : List (List ℕ)) (ts rest : List Token) (end offset : ℕ) (f : Fault) (x : ReadRefusal) →
    Gives plain_workload (Err f) rest (workload_read v names ts) → (f ≡ fault.Memory → x ≡ Memory) →
    (f ≡ fault.Stuck → x ≡ Refused (record { code = 4; offset = offset })) → offset ≡ offset_at end rest → ParsesExactly v names ts end (Err x)
fault_refused v names ts rest end offset fault.Memory x g m k o = subst (λ (x : ReadRefusal). ParsesExactly v names ts end (Err x)) (sym (m refl)) tt
fault_refused v names ts rest end offset fault.Stuck x g m k o = refused_at v names ts rest end offset x (k refl) o (at_fault v names ts rest g)

pub no_token : (text : List ℕ) (offset : ℕ) (x : ReadRefusal) → x ≡ Refused (record { code = 3; offset = offset }) → unversioned text ≡ Err offset →
    position (λ b. not (is_good b)) text ≡ None → ReadsExactly text (Err x)
no_token text offset x h stops clean =
    subst (λ (x : ReadRefusal). ReadsExactly text (Err x)) (sym h)
    (inr (inl (record { code = refl; clean = clean_text text clean; at = ap (result_map_both in_version (λ at. at)) stops })))

parsed_with : (text : List ℕ) (scanned : List Scanned) (x : Result Workload ReadRefusal) → IsClean text → scanned_of text ≡ Ok scanned →
    ParsesExactly (version_of scanned) (names_of scanned) (tokens_in (names_of scanned) scanned) (length text) x → ReadsExactly text x
parsed_with text scanned (Ok w) clean e p = record { clean = clean; scanned = scanned; lexemes = e; spells = p }
parsed_with text scanned (Err Memory) clean e p = tt
parsed_with text scanned (Err (Refused r)) clean e p =
    inr (inr (record {
      code = ap (λ (r : Refusal). r.code) p.2;
      clean = clean;
      scanned = scanned;
      lexemes = e;
      fault = p.0;
      stuck = p.1;
      at = ap (λ (r : Refusal). r.offset) p.2;
    }))

pub parsed : (text : List ℕ) (n : Numbered) (tokens : List Token) (x : Result Workload ReadRefusal) → IsScanned text n → tokens ≡ n.tokens.items →
    ParsesExactly n.version n.names.items tokens (length text) x → ReadsExactly text x
parsed text n tokens x is t p =
    parsed_with text is.scanned x (clean text is.scanned is.lexemes) is.lexemes
    (subst (λ (ts : List Token). ParsesExactly (version_of is.scanned) (names_of is.scanned) ts (length text) x) (t ∙ is.tokens)
    (subst (λ (l : List (List ℕ)). ParsesExactly (version_of is.scanned) l tokens (length text) x) is.names
    (subst (λ (v : Version). ParsesExactly v n.names.items tokens (length text) x) is.version p)))
