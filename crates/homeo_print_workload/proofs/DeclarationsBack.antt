-- Declarations and whole workloads are spelled again by what is printed for them.
use Rattle.std.proofs.Common.{◌≡◌, ℕ, zero, suc, ℤ, pos, Bool, true, List, [], ◌∷◌, ◌++◌, refl, sym, ap, map, ◌∙◌, inl, inr}
use Rattle.std.specs.Prelude.{◌&&◌, None, neg_ℤ}
use Rattle.std.proofs.lemmas.Bool.{eq-eqb}
use Rattle.homeo_syntax.specs.declared.token.Mark.TheVariants as mark
use Rattle.homeo_syntax.specs.declared.token.Kind.{Kind}
use Rattle.homeo_syntax.specs.declared.token.Kind.TheVariants as kind
use Rattle.homeo_syntax.specs.declared.token.Token.{Token}
use Rattle.homeo_syntax.specs.declared.phrase.Number.{Number}
use Rattle.homeo_syntax.specs.declared.token.Version.{Version}
use Rattle.homeo_syntax.specs.declared.token.Version.TheVariants.{First, Second}
use Rattle.homeo_syntax.specs.Versions.{version_number}
use Rattle.homeo_syntax.specs.Grammar.{alt, seq, as_value, Means, Spells}
use Rattle.homeo_syntax.specs.Rules as rules
use Rattle.homeo_syntax.specs.Rules.{Rule, rule, value_in, minus_number, offset_of}
use Rattle.homeo_print_workload.specs.Key.{definitions}
use Rattle.homeo_print_workload.specs.TokensOf.{Kinds, value_of, number_of, object_kinds, decl_kinds, relation_kinds, transaction_kinds, call_kinds, client_kinds, schedule_kinds, separated, weights_kinds, workload_kinds}
use Rattle.homeo_print_workload.specs.Offsets.{number_without, object_without, decl_without, relation_without, transaction_without, call_without, client_without, schedule_without, without_offsets}
use Rattle.homeo_print_workload.proofs.Atoms.{kinds_of, atoms, mark_skipped, number_taken, value_taken, mark_taken}
use Rattle.homeo_print_workload.proofs.Claims.{Meaning, Claim, Back, claim_token, claim_seq, claim_as, claim_left, claim_right, claim_part, claim_kinds, back_offset, back_seq, back_as, back_alt, back_part, back_nothing, back_lead, back_closed, back_many, back_listed, back_separated}
use Rattle.homeo_print_workload.proofs.NamesBack.{back_ident}
use Rattle.homeo_print_workload.proofs.PhrasesBack.{back_block}

-- ---- numbers
abbrev bare_number : ℤ → Number
bare_number n = record { value = n; offset = 0 }

-- a claim of a value that is the same apart from offsets
claim_same : {M : Meaning} {A : Type 0} {g : Rule A} {w : A → A} {a b : A} {ks : Kinds} {ts : List Token} → w a ≡ w b → Claim M g w a ks ts → Claim M g w b ks ts
claim_same e c = record {
  same_atoms = c.same_atoms;
  again = λ us i. let x = c.again us i in record { value = x.value; spells = x.spells; same = x.same ∙ e };
}

claim_number : {M : Meaning} → (n : ℕ) (ts : List Token) → atoms (kind.Number (pos n) ∷ []) ≡ atoms (kinds_of ts) → Claim M rules.number number_without (bare_number (pos n)) (kind.Number (pos n) ∷ []) ts
unfolding definitions
claim_number n ts e = claim_token _ _ _ _ number_without (bare_number (pos n)) (kind.Number (pos n)) ts refl (λ u h. ap (λ (k : Kind). bare_number (value_in k)) h) e

pub back_number : {M : Meaning} → Back M rules.number number_without number_of
unfolding definitions
back_number {M} = record {
  of = λ a ts x f.
      let k = number_taken x.0.kind x.2 in
      let value : pos k.size ≡ a.value = ap value_in (sym k.is) ∙ sym (ap (λ (n : Number). n.value) x.3) in
      let same : atoms (kind.Number (pos k.size) ∷ []) ≡ atoms (kinds_of ts) = ap (λ (k : Kind). atoms (k ∷ [])) (sym k.is) ∙ sym (ap (λ (z : List Token). atoms (kinds_of z)) x.1) in
      claim_same (ap bare_number value) (claim_kinds (ap value_of value) (claim_number k.size ts same));
}

abbrev minus_rule : Rule Number
minus_rule = as_value (λ p. minus_number p.0 p.1) (seq (offset_of mark.Minus) rules.number)

claim_minus : {M : Meaning} → (n : ℕ) (ts : List Token) → atoms (kind.Number (pos n) ∷ []) ≡ atoms (kinds_of ts) → Claim M (alt rules.number minus_rule) number_without (bare_number (neg_ℤ (pos n))) (value_of (neg_ℤ (pos n))) ts
unfolding definitions
claim_minus zero ts e = claim_left minus_rule (claim_number 0 ts e)
claim_minus (suc n) ts e =
    let o = claim_token _ _ _ _ (λ (o : ℕ). 0) 0 (kind.Fixed mark.Minus) [] (mark_taken mark.Minus (kind.Fixed mark.Minus) refl) (λ u h. refl) refl in
    claim_right rules.number (claim_as (λ p. minus_number p.0 p.1) number_without (λ x. refl) (claim_seq o (claim_number (suc n) ts e)))

pub back_signed : {M : Meaning} → Back M rules.signed number_without number_of
unfolding definitions
back_signed {M} = record {
  of = λ a ts x f. elim x [
    | inl l ↦ claim_part (claim_left minus_rule (back_number.of a ts l f))
    | inr r ↦
        let k = number_taken r.1.4.0.kind r.1.4.2 in
        let value : neg_ℤ (pos k.size) ≡ a.value = ap (λ (k : Kind). neg_ℤ (value_in k)) (sym k.is) ∙ sym (ap (λ (n : Number). neg_ℤ n.value) r.1.4.3) ∙ sym (ap (λ (n : Number). n.value) r.2) in
        let same : atoms (kind.Number (pos k.size) ∷ []) ≡ atoms (kinds_of ts) =
        ap (λ (k : Kind). atoms (k ∷ [])) (sym k.is)
        ∙ sym (ap (λ (z : List Token). atoms (kinds_of z)) r.1.2 ∙ ap (λ (z : List Token). atoms (kinds_of (z ++ r.1.1))) r.1.3.1 ∙ mark_skipped mark.Minus r.1.3.0.kind (kinds_of r.1.1) r.1.3.2 ∙ ap (λ (z : List Token). atoms (kinds_of z)) r.1.4.1) in
        claim_part (claim_same (ap bare_number value) (claim_kinds (ap value_of value) (claim_minus k.size ts same)))
  ];
}

back_value : {M : Meaning} → (n : ℕ) → Back M (rules.number_is n) (λ u. u) (λ u. kind.Number (pos n) ∷ [])
back_value n = record {
  of = λ a ts x f. claim_token _ _ _ _ (λ u. u) a (kind.Number (pos n)) ts (ap (λ (b : Bool). true && b) (eq-eqb n n refl)) (λ u e. refl)
      (ap (λ (k : Kind). atoms (k ∷ [])) (sym (value_taken n x.0.kind x.2)) ∙ sym (ap (λ (z : List Token). atoms (kinds_of z)) x.1));
}

back_lead_number : {M : Meaning} {A : Type 0} {g : Rule A} {w : A → A} {p : A → Kinds} → (n : ℕ) → Back M g w p → Back M (rules.lead_number n g) w (λ a. kind.Number (pos n) ∷ p a)
back_lead_number {w = w} {p = p} n x = back_as (λ p. p.1) w (λ a. kind.Number (pos n) ∷ p a) (λ x. refl) (λ x. refl) (back_seq (back_value n) x)

-- ---- declarations
back_range : {M : Meaning} → Back M rules.range (λ p. (number_without p.0, number_without p.1)) (λ p. number_of p.0 ++ kind.Fixed mark.Dots ∷ number_of p.1)
back_range = back_part (back_seq back_signed (back_lead mark.Dots back_signed))

back_object : {M : Meaning} → Back M rules.object object_without object_kinds
unfolding definitions
back_object = back_part (back_as _ object_without object_kinds (λ x. refl) (λ x. refl) (back_lead mark.Object (back_seq back_ident (back_lead mark.In (back_seq back_range (back_lead mark.Equal back_signed))))))

back_decl : {M : Meaning} → Back M rules.decl decl_without decl_kinds
unfolding definitions
back_decl = back_part (back_as _ decl_without decl_kinds (λ x. refl) (λ x. refl) (back_seq back_ident (back_lead mark.In back_range)))

back_relation : {M : Meaning} → Back M rules.relation relation_without relation_kinds
unfolding definitions
back_relation =
    back_part (back_as _ relation_without relation_kinds (λ x. refl) (λ x. refl)
    (back_lead mark.Relation (back_seq back_ident (back_lead mark.OpenBracket (back_seq back_number (back_lead mark.CloseBracket
    (back_lead mark.Open (back_closed mark.Close (back_part (back_listed mark.Comma back_decl))))))))))

back_transaction : (n : ℕ) (v : Version) → Back (Means rule n) (rules.transaction v) transaction_without transaction_kinds
unfolding definitions
back_transaction n v =
    back_part (back_as _ transaction_without transaction_kinds (λ x. refl) (λ x. refl)
    (back_lead mark.Transaction (back_seq back_ident (back_lead mark.Open (back_seq (back_closed mark.Close (back_part (back_separated mark.Comma back_decl))) (back_block n v))))))

back_invocation : {M : Meaning} → Back M rules.invocation call_without call_kinds
unfolding definitions
back_invocation =
    back_part (back_as _ call_without call_kinds (λ x. refl) (λ x. refl) (back_seq back_ident (back_lead mark.Open (back_closed mark.Close (back_part (back_separated mark.Comma back_signed))))))

back_client : {M : Meaning} → Back M rules.client client_without client_kinds
unfolding definitions
back_client =
    back_part (back_as _ client_without client_kinds (λ x. refl) (λ x. refl)
    (back_lead mark.Client (back_seq back_ident (back_lead mark.At (back_seq back_number
    (back_part (back_lead mark.OpenBrace (back_closed mark.CloseBrace (back_part (back_separated mark.Semicolon back_invocation))))))))))

back_schedule : {M : Meaning} → Back M rules.schedule schedule_without schedule_kinds
unfolding definitions
back_schedule =
    back_part (back_alt
    (back_as _ schedule_without schedule_kinds (λ x. refl) (λ x. refl) (back_lead mark.Schedule (back_many back_ident)))
    (back_nothing None schedule_without schedule_kinds refl))

-- what is printed may be told by what is spelled
back_kinds : {M : Meaning} {A : Type 0} {g : Rule A} {w : A → A} {p : A → Kinds} → (q : A → Kinds) → ((a : A) (ts : List Token) → Spells M g a ts → p a ≡ q a) → Back M g w p → Back M g w q
back_kinds q same x = record { of = λ a ts s f. claim_kinds (same a ts s) (x.of a ts s f) }

some_weights : (M : Meaning) (ns : List Number) (ts : List Token) → Spells M (rules.lead mark.Weights (rules.listed mark.Comma rules.number)) ns ts →
    kind.Fixed mark.Weights ∷ separated mark.Comma (map number_of ns) ≡ weights_kinds ns
unfolding definitions
some_weights M [] ts s = let e = s.2 ∙ s.1.4.2 in let no : ⊥ = cc in absurd no
some_weights M (n ∷ ns) ts s = refl

back_weights : {M : Meaning} → (v : Version) → Back M (rules.weights v) (map number_without) weights_kinds
unfolding definitions
back_weights {M} First = back_part (back_nothing [] (map number_without) weights_kinds refl)
back_weights {M} Second = back_part (back_kinds weights_kinds (some_weights M) (back_lead mark.Weights (back_listed mark.Comma back_number)))

back_head : {M : Meaning} → (v : Version) →
    Back M (rules.head v) (λ p. (number_without p.0, map number_without p.1)) (λ p. kind.Fixed mark.Workload ∷ kind.Number (pos (version_number v)) ∷ kind.Fixed mark.Sites ∷ (number_of p.0 ++ weights_kinds p.1))
back_head v = back_part (back_lead mark.Workload (back_lead_number (version_number v) (back_lead mark.Sites (back_seq back_number (back_weights v)))))

-- Each workload is spelled again by what is printed for it.
pub back_workload : (n : ℕ) (v : Version) (names : List (List ℕ)) → Back (Means rule n) (rules.workload v names) without_offsets workload_kinds
unfolding definitions
back_workload n v names =
    back_as _ without_offsets workload_kinds (λ x. refl) (λ x. refl)
    (back_seq (back_head v) (back_seq (back_many back_object) (back_seq (back_many back_relation) (back_seq (back_many (back_transaction n v)) (back_seq (back_many back_client) (back_seq back_schedule (back_offset mark.End)))))))
