-- The L forms of calls of an accepted workload that a text reads as nest at most 855 deep.
use Rattle.std.proofs.Common.{◌≡◌, ℕ, zero, suc, ◌≤◌, ◌+◌, ◌*◌, ◌==◌, Bool, true, false, cond, List, [], ◌∷◌, map, length, All, Option, Some, None, refl, subst, arith}
use Rattle.std.specs.Prelude.{slice_get}
use Rattle.homeo_syntax.specs.declared.token.Mark.TheVariants as mark
use Rattle.homeo_syntax.specs.declared.token.Token.{Token}
use Rattle.homeo_syntax.specs.declared.token.Version.{Version}
use Rattle.homeo_syntax.specs.Source as s
use Rattle.homeo_syntax.specs.Grammar.{call, Means}
use Rattle.homeo_syntax.specs.Reads.{Reads}
use Rattle.homeo_syntax.specs.Rules as rules
use Rattle.homeo_syntax.specs.Rules.{Deep, Rule, rule, limit, IsWorkload}
use Rattle.homeo_meaning.specs.Key.{definitions as meaning_definitions}
use Rattle.homeo_meaning.specs.Acceptance.{IsAccepted}
use Rattle.homeo_meaning.specs.CallForm.{body_form, ground_form}
use Rattle.homeo_meaning.specs.Context.{slots_from, find_slots, context}
use Rattle.homeo_meaning.specs.Ground.{Ground}
use Rattle.homeo_meaning.specs.Schema.{Declared, Relation, schema_of}
use Rattle.homeo_meaning.proofs.Sound.{sound}
use Rattle.homeo_meaning.proofs.SoundRelations.{SlotsFit}
use Rattle.homeo_certificate.specs.Key.{definitions}
use Rattle.homeo_certificate.specs.Nesting.{nesting}
use Rattle.homeo_reader.proofs.Keeps.{Sound, Every, Fine, sound_seq, sound_part, sound_as, sound_many, sound_lead}
use Rattle.homeo_certified.proofs.FormNesting.{AllFew, commands_depth, l_form_nests}
use Rattle.homeo_certified.proofs.TextDepth.{depth_of, means_within, block_within}

-- ---- the bodies of a text's transactions

pub fine : (ts : List Token) → Fine (λ t. Unit {0}) ts
fine [] = tt
fine (t ∷ ts) = (tt, fine ts)

within : (c : Deep) → Sound (Means rule limit) (λ t. Unit {0}) (call c) (λ x. depth_of c x ≤ 4 * limit)
within c = record { of = λ x ts m f. means_within limit c x ts m }

abbrev Shallow : s.Transaction → Type 0
Shallow t = commands_depth t.body ≤ 4 * limit

abbrev pub any : {X : Type 0} (g : Rule X) → Sound (Means rule limit) (λ t. Unit {0}) g (λ x. Unit {0})
any g = record { of = λ a ts h f. tt }

transaction_within : (v : Version) → Sound (Means rule limit) (λ t. Unit {0}) (rules.transaction v) Shallow
transaction_within v =
    sound_part _ _ _ _ (sound_as _ _ _ _ _ Shallow
    (sound_lead _ _ mark.Transaction _ _
    (sound_seq _ _ _ _ (λ x. Unit {0}) _ (any _)
    (sound_lead _ _ mark.Open _ _
    (sound_seq _ _ _ _ (λ x. Unit {0}) (λ cs. commands_depth cs ≤ 4 * limit) (any _) (block_within (4 * limit) (Means rule limit) within v)))))
    (λ p h. h.1.1))

workload_within : (v : Version) (names : List (List ℕ)) → Sound (Means rule limit) (λ t. Unit {0}) (rules.workload v names) (λ w. Every Shallow w.transactions)
workload_within v names =
    sound_as _ _ _ _ _ (λ w. Every Shallow w.transactions)
    (sound_seq _ _ _ _ (λ x. Unit {0}) _ (any _)
    (sound_seq _ _ _ _ (λ x. Unit {0}) _ (any _)
    (sound_seq _ _ _ _ (λ x. Unit {0}) _ (any _)
    (sound_seq _ _ _ _ (Every Shallow) (λ x. Unit {0}) (sound_many _ _ _ Shallow (transaction_within v)) (any _)))))
    (λ p h. h.1.1.1.0)

text_shallow : (text : List ℕ) (w : s.Workload) → Reads text w → Every Shallow w.transactions
unfolding IsWorkload
text_shallow text w r = (workload_within _ _).of w _ r.spells (fine _)

-- ---- relations have at most 64 slots
slots_length : (k first : ℕ) (fields : List Declared) (n : ℕ) → length (slots_from k first fields n) ≡ n
unfolding meaning_definitions
slots_length k first fields zero = refl
slots_length k first fields (suc n) = λ i. suc (slots_length (suc k) (first + (1 + length fields)) fields n i)

few_slots : (first : ℕ) (rs : List Relation) (n : ℕ) → All SlotsFit rs → length (find_slots first rs n) ≤ 64
unfolding meaning_definitions
few_slots first [] n h = omega arith
few_slots first (r ∷ rs) n h =
    go (r.name == n) (h 0 r (omega arith)) (few_slots (first + r.slots * (1 + length r.fields)) rs n (λ i d l. h (suc i) d (omega (arith, l))))
  where
    go :
        (v : Bool) → SlotsFit r → length (find_slots (first + r.slots * (1 + length r.fields)) rs n) ≤ 64 →
        length (cond v (slots_from 0 first r.fields r.slots) (find_slots (first + r.slots * (1 + length r.fields)) rs n)) ≤ 64
    go true f k = let e = slots_length 0 first r.fields r.slots in let m = f.most in omega (arith, e, m)
    go false f k = k

-- ---- ground calls
every_at : {X : Type 0} (P : X → Type 0) (xs : List X) (i : ℕ) (x : X) → Every P xs → slice_get xs i ≡ Some x → P x
every_at P [] i x h e = cc
every_at P (y ∷ ys) zero x h e = let same : y ≡ x = cc in subst P same h.0
every_at P (y ∷ ys) (suc i) x h e = every_at P ys i x h.1 e

pub ground_nests : (text : List ℕ) (w : s.Workload) (g : Ground) → Reads text w → IsAccepted w → nesting (ground_form w g) ≤ 855
unfolding definitions meaning_definitions AllFew limit
ground_nests text w g r accepted = by_case (slice_get w.transactions g.transaction) refl
  where
    by_case : (o : Option s.Transaction) → slice_get w.transactions g.transaction ≡ o → nesting (body_form w o g.args) ≤ 855
    by_case None e = omega arith
    by_case (Some t) e =
        let d : commands_depth t.body ≤ 4 * limit = every_at Shallow w.transactions g.transaction t (text_shallow text w r) e in
        let few : AllFew (context (schema_of w) (map (λ p. p.name.name) t.params) g.args) = λ q. few_slots (length (schema_of w).objects) (schema_of w).relations q (sound w accepted).slots in
        let n = l_form_nests (schema_of w) (map (λ p. p.name.name) t.params) g.args t.body few in
        omega (arith, d, n)
