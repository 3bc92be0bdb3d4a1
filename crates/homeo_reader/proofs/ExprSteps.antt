-- What is read, step by step.
use Rattle.std.proofs.Common.{◌≡◌, ℕ, zero, suc, ◌-◌, ◌<◌, List, [], ◌∷◌, refl, ap, ◌∙◌, sym, arith}
use Rattle.std.specs.Prelude.{Option, Some, None, Ok, Err, nat_lt, if◌then◌else◌}
use Rattle.homeo_syntax.specs.declared.token.Mark.TheVariants as mark
use Rattle.homeo_syntax.specs.declared.token.Kind.{Kind}
use Rattle.homeo_syntax.specs.declared.token.Kind.TheVariants as kind
use Rattle.homeo_syntax.specs.declared.token.Token.{Token}
use Rattle.homeo_reader.specs.inner.Engine.{Reading, ◌>>=◌, read, calls_at}
use Rattle.homeo_syntax.specs.Grammar.{alt}
use Rattle.homeo_syntax.specs.Rules.{rule, factor, test, product_of, sum_of}
use Rattle.homeo_syntax.specs.declared.phrase.Ident.{Ident}
use Rattle.homeo_reader.specs.inner.Reading.{factor_read, factors_read, term_read, terms_read, expr_read, visit_read, visit_do, field_rest, after_name_read, after_name_by, after_name_do, count_rest, total_rest, factor_by, factor_do, next_factor_read, after_factor, term_do, next_term_read, after_term, expr_do, with_front}
use Rattle.homeo_syntax.specs.Source as s
use Rattle.homeo_syntax.specs.SourceView.{exprs}
use Rattle.homeo_reader.specs.inner.Reading.{ident_read, mark_read, cond_read, cond_do, test_read, tests_read, test_do, comparison_read, comparison_do}
use Rattle.std.proofs.lemmas.Bool.{lt-ltb}
use Rattle.homeo_syntax.specs.declared.phrase.Compare.{Compare}
use Rattle.homeo_reader.proofs.Bools.{if_true}
use Rattle.homeo_reader.proofs.Lists.{star_factor, plus_term, minus_term, no_more, one_more, none_stuck}
use Rattle.homeo_reader.proofs.Flat.{read_then, reads, reads_part, flat_part, bind_same}

more_factors : (first second : s.Expr) (r : Reading (List s.Expr)) → (with_front (second ∷ []) r >>= λ y. Ok (product_of first y.0, y.1)) ≡ (with_front (first ∷ second ∷ []) r >>= λ x. Ok (s.Product (exprs x.0), x.1))
more_factors first second (Ok x) = refl
more_factors first second (Err e) = refl

factors_do : (room : ℕ) (first : s.Expr) (ts : List Token) → (factors_read room ts >>= λ y. Ok (product_of first y.0, y.1)) ≡ (next_factor_read room ts >>= λ y. after_factor room first y.0 y.1)
unfolding factors_read next_factor_read after_factor
factors_do room first ts = go (next_factor_read room ts) refl
  where
    go : (r : Reading (Option s.Expr)) → next_factor_read room ts ≡ r → (factors_read room ts >>= λ y. Ok (product_of first y.0, y.1)) ≡ (r >>= λ y. after_factor room first y.0 y.1)
    go (Ok (None, rest)) e = ap (λ r. r >>= λ y. Ok (product_of first y.0, y.1)) (no_more room star_factor refl ts rest e)
    go (Ok (Some second, rest)) e = ap (λ r. r >>= λ y. Ok (product_of first y.0, y.1)) (one_more room star_factor refl ts rest second e) ∙ more_factors first second (factors_read room rest)
    go (Err rest) e = ap (λ r. r >>= λ y. Ok (product_of first y.0, y.1)) (none_stuck room star_factor refl ts rest e)

term_parts : (room : ℕ) (ts : List Token) → term_read room ts ≡ (factor_read room ts >>= λ x. factors_read room x.1 >>= λ y. Ok (product_of x.0 y.0, y.1))
unfolding term_read factor_read factors_read read_then
term_parts room ts = reads_part (calls_at rule room) _ ts

pub term_reads : (room : ℕ) (ts : List Token) → term_read room ts ≡ term_do room ts
unfolding term_do
term_reads room ts = term_parts room ts ∙ bind_same (factor_read room ts) _ _ (λ x. factors_do room x.0 x.1)

more_terms : (first second : s.Expr) (r : Reading (List s.Expr)) → (with_front (second ∷ []) r >>= λ y. Ok (sum_of first y.0, y.1)) ≡ (with_front (first ∷ second ∷ []) r >>= λ x. Ok (s.Sum (exprs x.0), x.1))
more_terms first second (Ok x) = refl
more_terms first second (Err e) = refl

terms_do : (room : ℕ) (first : s.Expr) (ts : List Token) → (terms_read room ts >>= λ y. Ok (sum_of first y.0, y.1)) ≡ (next_term_read room ts >>= λ y. after_term room first y.0 y.1)
unfolding terms_read next_term_read after_term
terms_do room first ts = go (next_term_read room ts) refl
  where
    go : (r : Reading (Option s.Expr)) → next_term_read room ts ≡ r → (terms_read room ts >>= λ y. Ok (sum_of first y.0, y.1)) ≡ (r >>= λ y. after_term room first y.0 y.1)
    go (Ok (None, rest)) e = ap (λ r. r >>= λ y. Ok (sum_of first y.0, y.1)) (no_more room (alt plus_term minus_term) refl ts rest e)
    go (Ok (Some second, rest)) e = ap (λ r. r >>= λ y. Ok (sum_of first y.0, y.1)) (one_more room (alt plus_term minus_term) refl ts rest second e) ∙ more_terms first second (terms_read room rest)
    go (Err rest) e = ap (λ r. r >>= λ y. Ok (sum_of first y.0, y.1)) (none_stuck room (alt plus_term minus_term) refl ts rest e)

expr_parts : (room : ℕ) (ts : List Token) → expr_read room ts ≡ (term_read room ts >>= λ x. terms_read room x.1 >>= λ y. Ok (sum_of x.0 y.0, y.1))
unfolding expr_read term_read terms_read read_then
expr_parts room ts = reads_part (calls_at rule room) _ ts

pub expr_reads : (room : ℕ) (ts : List Token) → expr_read room ts ≡ expr_do room ts
unfolding expr_do
expr_reads room ts = expr_parts room ts ∙ bind_same (term_read room ts) _ _ (λ x. terms_do room x.0 x.1)

pub visit_reads : (room : ℕ) (ts : List Token) → visit_read room ts ≡ visit_do room ts
unfolding visit_read visit_do cond_read read_then
visit_reads room ts = reads_part (calls_at rule room) _ ts

after_name_kind_0 : (x : Ident) (k : Kind) (o : ℕ) (ts : List Token) →
    after_name_read 0 x (record { kind = k; offset = o } ∷ ts) ≡ after_name_by 0 x k (record { kind = k; offset = o }) ts
unfolding after_name_read after_name_by read_then calls_at
after_name_kind_0 x (kind.Fixed mark.OpenBracket) o ts =
    flat_part (calls_at rule 0) _ (record { kind = kind.Fixed mark.OpenBracket; offset = o } ∷ ts) (λ y. Ok (y.0 x, y.1))
after_name_kind_0 x k o ts = flat_part (calls_at rule 0) _ (record { kind = k; offset = o } ∷ ts) (λ y. Ok (y.0 x, y.1))

after_name_kind_1 : (n : ℕ) (x : Ident) (k : Kind) (o : ℕ) (ts : List Token) →
    after_name_read (suc n) x (record { kind = k; offset = o } ∷ ts) ≡ after_name_by (suc n) x k (record { kind = k; offset = o }) ts
unfolding after_name_read after_name_by field_rest expr_read read_then calls_at
after_name_kind_1 n x (kind.Fixed mark.OpenBracket) o ts =
    flat_part (calls_at rule (suc n)) _ (record { kind = kind.Fixed mark.OpenBracket; offset = o } ∷ ts) (λ y. Ok (y.0 x, y.1))
    ∙ sym (if_true (nat_lt 0 (suc n)) (field_rest (suc n) x ts) (Ok (s.Name x, record { kind = kind.Fixed mark.OpenBracket; offset = o } ∷ ts))
    (lt-ltb 0 (suc n) (omega arith)))
after_name_kind_1 n x k o ts = flat_part (calls_at rule (suc n)) _ (record { kind = k; offset = o } ∷ ts) (λ y. Ok (y.0 x, y.1))

after_name_nil : (room : ℕ) (x : Ident) → after_name_read room x [] ≡ Ok (s.Name x, [])
unfolding after_name_read read_then
after_name_nil room x = flat_part (calls_at rule room) _ [] (λ y. Ok (y.0 x, y.1))

pub after_name_reads : (room : ℕ) (x : Ident) (ts : List Token) → after_name_read room x ts ≡ after_name_do room x ts
unfolding after_name_do
after_name_reads room x [] = after_name_nil room x
after_name_reads zero x (t ∷ ts) = after_name_kind_0 x t.kind t.offset ts
after_name_reads (suc n) x (t ∷ ts) = after_name_kind_1 n x t.kind t.offset ts

factor_kind_1 : (k : Kind) (o : ℕ) (ts : List Token) →
    factor_read 1 (record { kind = k; offset = o } ∷ ts) ≡ factor_by 1 k (record { kind = k; offset = o }) ts
unfolding factor_read factor_by after_name_read read_then calls_at
factor_kind_1 (kind.Fixed mark.Read) o ts = reads (calls_at rule 0) factor (record { kind = kind.Fixed mark.Read; offset = o } ∷ ts)
factor_kind_1 k o ts = reads (calls_at rule 0) factor (record { kind = k; offset = o } ∷ ts)

pub room_minus : {A : Type 0} → (n : ℕ) (f : ℕ → A) (e : A) → f (suc n) ≡ (if nat_lt 1 (suc (suc n)) then f (suc (suc n) - 1) else e)
room_minus n f e = sym (if_true (nat_lt 1 (suc (suc n))) (f (suc (suc n) - 1)) e (lt-ltb _ _ (omega arith)) ∙ ap f (omega arith))

factor_kind_2 : (n : ℕ) (k : Kind) (o : ℕ) (ts : List Token) →
    factor_read (suc (suc n)) (record { kind = k; offset = o } ∷ ts) ≡ factor_by (suc (suc n)) k (record { kind = k; offset = o }) ts
unfolding factor_read factor_by after_name_read count_rest total_rest read_then calls_at expr_read visit_read
factor_kind_2 n (kind.Name v) o ts =
    reads (calls_at rule (suc n)) factor (record { kind = kind.Name v; offset = o } ∷ ts)
    ∙ (let less : suc n ≡ suc (suc n) - 1 = omega arith in
    ap (λ (m : ℕ). ident_read (record { kind = kind.Name v; offset = o } ∷ ts) >>= λ x. after_name_read m x.0 x.1) less)
factor_kind_2 n (kind.Fixed mark.Count) o ts =
    reads (calls_at rule (suc n)) factor (record { kind = kind.Fixed mark.Count; offset = o } ∷ ts)
    ∙ room_minus n (λ m. count_rest m ts) (Err (record { kind = kind.Fixed mark.Count; offset = o } ∷ ts))
factor_kind_2 n (kind.Fixed mark.Sum) o ts =
    reads (calls_at rule (suc n)) factor (record { kind = kind.Fixed mark.Sum; offset = o } ∷ ts)
    ∙ room_minus n (λ m. total_rest m ts) (Err (record { kind = kind.Fixed mark.Sum; offset = o } ∷ ts))
factor_kind_2 n (kind.Fixed mark.Minus) o ts =
    reads (calls_at rule (suc n)) factor (record { kind = kind.Fixed mark.Minus; offset = o } ∷ ts)
    ∙ room_minus n (λ m. factor_read m ts >>= λ x. Ok (s.Neg x.0, x.1)) (Err (record { kind = kind.Fixed mark.Minus; offset = o } ∷ ts))
factor_kind_2 n (kind.Fixed mark.Open) o ts =
    reads (calls_at rule (suc n)) factor (record { kind = kind.Fixed mark.Open; offset = o } ∷ ts)
    ∙ room_minus n (λ m. expr_read m ts >>= λ x. mark_read mark.Close x.1 >>= λ y. Ok (x.0, y.1))
    (Err (record { kind = kind.Fixed mark.Open; offset = o } ∷ ts))
factor_kind_2 n k o ts = reads (calls_at rule (suc n)) factor (record { kind = k; offset = o } ∷ ts)

pub factor_reads : (room : ℕ) (ts : List Token) → 0 < room → factor_read room ts ≡ factor_do room ts
unfolding factor_read factor_do read calls_at
factor_reads zero ts h = absurd (omega arith)
factor_reads (suc zero) [] h = refl
factor_reads (suc (suc n)) [] h = refl
factor_reads (suc zero) (t ∷ ts) h = factor_kind_1 t.kind t.offset ts
factor_reads (suc (suc n)) (t ∷ ts) h = factor_kind_2 n t.kind t.offset ts

pub cond_reads : (room : ℕ) (ts : List Token) → cond_read room ts ≡ cond_do room ts
unfolding cond_read cond_do test_read tests_read read_then
cond_reads room ts = reads_part (calls_at rule room) _ ts

comparison_kind : (room : ℕ) (k : Kind) (o : ℕ) (ts : List Token) →
    comparison_read room (record { kind = k; offset = o } ∷ ts) ≡ comparison_do (record { kind = k; offset = o } ∷ ts)
unfolding comparison_read comparison_do read
comparison_kind room (kind.Fixed mark.Less) o ts = refl
comparison_kind room k o ts = refl

pub comparison_reads : (room : ℕ) (ts : List Token) → comparison_read room ts ≡ comparison_do ts
unfolding comparison_read comparison_do read
comparison_reads room [] = refl
comparison_reads room (t ∷ ts) = comparison_kind room t.kind t.offset ts

abbrev compare_do : ℕ → List Token → Reading s.Test
compare_do m ts = expr_read m ts >>= λ a. comparison_do a.1 >>= λ b. expr_read m b.1 >>= λ c. Ok (s.Comparison b.0 a.0 c.0, c.1)

compared : (m : ℕ) (ts : List Token) → (expr_read m ts >>= λ a. comparison_read m a.1 >>= λ b. expr_read m b.1 >>= λ c. Ok (s.Comparison b.0 a.0 c.0, c.1))
    ≡ compare_do m ts
compared m ts = bind_same (expr_read m ts) _ _ (λ a. ap (then_right m a.0) (comparison_reads m a.1))
  where
    then_right : ℕ → s.Expr → Reading Compare → Reading s.Test
    then_right m left r = r >>= λ b. expr_read m b.1 >>= λ c. Ok (s.Comparison b.0 left c.0, c.1)

test_kind_1 : (k : Kind) (o : ℕ) (ts : List Token) → test_read 1 (record { kind = k; offset = o } ∷ ts) ≡ test_do 1 (record { kind = k; offset = o } ∷ ts)
unfolding test_read test_do read calls_at
test_kind_1 (kind.Fixed mark.True) o ts = refl
test_kind_1 k o ts = refl

test_kind_2 : (n : ℕ) (k : Kind) (o : ℕ) (ts : List Token) →
    test_read (suc (suc n)) (record { kind = k; offset = o } ∷ ts) ≡ test_do (suc (suc n)) (record { kind = k; offset = o } ∷ ts)
unfolding test_read test_do read_then calls_at expr_read cond_read comparison_read
test_kind_2 n (kind.Fixed mark.True) o ts = reads (calls_at rule (suc n)) test (record { kind = kind.Fixed mark.True; offset = o } ∷ ts)
test_kind_2 n (kind.Fixed mark.Not) o ts =
    reads (calls_at rule (suc n)) test (record { kind = kind.Fixed mark.Not; offset = o } ∷ ts)
    ∙ room_minus n (λ m. mark_read mark.Open ts >>= λ a. cond_read m a.1 >>= λ b. mark_read mark.Close b.1 >>= λ c. Ok (s.Not b.0, c.1))
    (Err (record { kind = kind.Fixed mark.Not; offset = o } ∷ ts))
test_kind_2 n k o ts =
    reads (calls_at rule (suc n)) test (record { kind = k; offset = o } ∷ ts)
    ∙ compared (suc n) (record { kind = k; offset = o } ∷ ts)
    ∙ room_minus n (λ m. compare_do m (record { kind = k; offset = o } ∷ ts)) (Err (record { kind = k; offset = o } ∷ ts))

test_nil_2 : (n : ℕ) → test_read (suc (suc n)) [] ≡ test_do (suc (suc n)) []
unfolding test_read test_do read_then calls_at expr_read cond_read comparison_read
test_nil_2 n = reads (calls_at rule (suc n)) test [] ∙ compared (suc n) [] ∙ room_minus n (λ m. compare_do m []) (Err [])

test_nil_1 : test_read 1 [] ≡ test_do 1 []
unfolding test_read test_do read calls_at
test_nil_1 = refl

pub test_reads : (room : ℕ) (ts : List Token) → 0 < room → test_read room ts ≡ test_do room ts
test_reads zero ts h = absurd (omega arith)
test_reads (suc zero) [] h = test_nil_1
test_reads (suc (suc n)) [] h = test_nil_2 n
test_reads (suc zero) (t ∷ ts) h = test_kind_1 t.kind t.offset ts
test_reads (suc (suc n)) (t ∷ ts) h = test_kind_2 n t.kind t.offset ts
