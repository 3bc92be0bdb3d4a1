-- Expressions are spelled again by what is printed for them.
use Rattle.std.proofs.Common.{◌≡◌, ℕ, zero, suc, pos, List, [], ◌∷◌, ◌++◌, map, refl, sym, ap, subst, ◌∙◌, inl, inr}
use Rattle.std.specs.List.{flat_map}
use Rattle.std.proofs.lemmas.List.{append-nil, map-append}
use Rattle.homeo_syntax.specs.Key.{definitions as syntax_definitions}
use Rattle.homeo_syntax.specs.declared.token.Mark.{Mark}
use Rattle.homeo_syntax.specs.declared.token.Mark.TheVariants as mark
use Rattle.homeo_syntax.specs.declared.token.Kind.{Kind}
use Rattle.homeo_syntax.specs.declared.token.Kind.TheVariants as kind
use Rattle.homeo_syntax.specs.declared.token.Token.{Token}
use Rattle.homeo_syntax.specs.declared.phrase.Ident.{Ident}
use Rattle.homeo_syntax.specs.Source as s
use Rattle.homeo_syntax.specs.SourceView.{exprs}
use Rattle.homeo_syntax.specs.Grammar.{call, seq, alt, as_value, Repeats, Spells, Means}
use Rattle.homeo_syntax.specs.Rules as rules
use Rattle.homeo_syntax.specs.Rules.{Factor, Test, Rule, rule, lead, closed, value_in, product_of, sum_of}
use Rattle.homeo_print_workload.specs.Key.{definitions}
use Rattle.homeo_print.specs.Parentheses.{Alone, AsTerm, AsFactor}
use Rattle.homeo_print_workload.specs.TokensOf.{Kinds, parenthesised, expr_at, sum_kinds, later_terms, product_kinds, later_factors, test_kinds, cond_kinds}
use Rattle.homeo_print_workload.specs.Offsets.{expr_without, exprs_without, test_without, cond_without}
use Rattle.homeo_print_workload.proofs.Atoms.{kinds_of, atoms, atoms_append, mark_skipped, literal_taken, Fine, fine_split}
use Rattle.homeo_print_workload.proofs.Claims.{Meaning, Claim, Back, claim_token, claim_lead, claim_closed, claim_as, claim_left, claim_right, claim_part, claim_at, claim_kinds, back_seq, back_many, back_lead, back_closed}
use Rattle.homeo_print_workload.proofs.Deeper.{claim_deeper, claim_called, back_called, never}
use Rattle.homeo_print_workload.proofs.NamesBack.{Tail, back_ident, tail_alt, tail_part, tail_nothing, tail_as, back_named}
use Rattle.homeo_print_workload.proofs.TestsBack.{cond_step, test_step, back_visit}

-- ---- what stands between marks
pub record Inner (M : Meaning) {A : Type 0} (g : Rule A) (a : A) (ts : List Token) : Type 0 where
  pub rest : List Token
  pub spelled : Spells M g a rest
  pub same_atoms : atoms (kinds_of rest) ≡ atoms (kinds_of ts)
  pub fine : Fine ts → Fine rest

pub inner_lead : (M : Meaning) {A : Type 0} → (m : Mark) (g : Rule A) (a : A) (ts : List Token) → Spells M (lead m g) a ts → Inner M g a ts
inner_lead M m g a ts x = record {
  rest = x.1.1;
  spelled = subst (λ b. Spells M g b x.1.1) (sym x.2) x.1.4;
  same_atoms =
      sym (ap (λ (z : List Token). atoms (kinds_of z)) x.1.2 ∙ ap (λ (z : List Token). atoms (kinds_of (z ++ x.1.1))) x.1.3.1 ∙ mark_skipped m x.1.3.0.kind (kinds_of x.1.1) x.1.3.2);
  fine = λ f. (fine_split x.1.0 x.1.1 (subst Fine x.1.2 f)).1;
}

last_atoms : (u v ts : List Token) (t : Token) → ts ≡ u ++ v → v ≡ t ∷ [] → atoms (t.kind ∷ []) ≡ [] → atoms (kinds_of u) ≡ atoms (kinds_of ts)
last_atoms u v ts t h k e =
    let whole : kinds_of ts ≡ kinds_of u ++ t.kind ∷ [] = ap (λ (z : List Token). kinds_of z) (h ∙ ap (λ (z : List Token). u ++ z) k) ∙ map-append (λ (t : Token). t.kind) u (t ∷ []) in
    sym (ap atoms whole ∙ atoms_append (kinds_of u) (t.kind ∷ []) ∙ ap (λ (z : Kinds). atoms (kinds_of u) ++ z) e ∙ append-nil (atoms (kinds_of u)))

pub inner_closed : (M : Meaning) {A : Type 0} → (m : Mark) (g : Rule A) (a : A) (ts : List Token) → Spells M (closed g m) a ts → Inner M g a ts
inner_closed M m g a ts x = record {
  rest = x.1.0;
  spelled = subst (λ b. Spells M g b x.1.0) (sym x.2) x.1.3;
  same_atoms = last_atoms x.1.0 x.1.1 ts x.1.4.0 x.1.2 x.1.4.1 (mark_skipped m x.1.4.0.kind [] x.1.4.2);
  fine = λ f. (fine_split x.1.0 x.1.1 (subst Fine x.1.2 f)).0;
}

-- ---- claims of expressions
-- a negation's inside, as a term
abbrev pub Negated : Meaning → s.Expr → List Token → Type 0
Negated M (s.Neg e) ts = Claim M rules.term expr_without e (expr_at AsTerm e) ts
Negated M _ ts = Unit {0}

-- the expression as a factor, as a term and by itself
pub record Claims (F T E : Meaning) (e : s.Expr) (ts : List Token) : Type 0 where
  pub factor : Claim F (call Factor) expr_without e (expr_at AsFactor e) ts
  pub term : Claim T rules.term expr_without e (expr_at AsTerm e) ts
  pub alone : Claim E rules.expr expr_without e (expr_at Alone e) ts
  pub negated : Negated E e ts

negated_at : (M : Meaning) (e : s.Expr) (ts us : List Token) → atoms (kinds_of ts) ≡ atoms (kinds_of us) → Negated M e ts → Negated M e us
negated_at M (s.Neg e) ts us h c = claim_at h c
negated_at M e ts us h c = tt

negated_deeper : (n : ℕ) (e : s.Expr) (ts : List Token) → Negated (Means rule n) e ts → Negated (Means rule (suc n)) e ts
negated_deeper n (s.Neg e) ts c = claim_deeper n c
negated_deeper n e ts c = tt

claims_at : {F T E : Meaning} {e : s.Expr} {ts us : List Token} → atoms (kinds_of ts) ≡ atoms (kinds_of us) → Claims F T E e ts → Claims F T E e us
claims_at {E = E} {e = e} {ts = ts} {us = us} h c = record { factor = claim_at h c.factor; term = claim_at h c.term; alone = claim_at h c.alone; negated = negated_at E e ts us h c.negated }

-- a factor is a term, and a term an expression
term_of : {M : Meaning} {e : s.Expr} {ks : Kinds} {ts : List Token} → Claim M (call Factor) expr_without e ks ts → Claim M rules.term expr_without e ks ts
term_of c = record {
  same_atoms = c.same_atoms;
  again = λ us i.
      let x = c.again us i in
      record { value = x.value; spells = ((x.value, []), (us, [], sym (append-nil us), x.spells, refl), refl); same = x.same };
}

expr_of : {M : Meaning} {e : s.Expr} {ks : Kinds} {ts : List Token} → Claim M rules.term expr_without e ks ts → Claim M rules.expr expr_without e ks ts
expr_of c = record {
  same_atoms = c.same_atoms;
  again = λ us i.
      let x = c.again us i in
      record { value = x.value; spells = ((x.value, []), (us, [], sym (append-nil us), x.spells, refl), refl); same = x.same };
}

-- an expression in parentheses is a factor, one deeper
in_parentheses : (n : ℕ) {e : s.Expr} {ks : Kinds} {ts : List Token} → Claim (Means rule n) rules.expr expr_without e ks ts → Claim (Means rule (suc n)) (call Factor) expr_without e (parenthesised ks) ts
in_parentheses n c = claim_called n Factor (claim_right _ (claim_right _ (claim_left _ (claim_lead mark.Open (claim_closed mark.Close c)))))

-- an expression that is printed the same wherever it stands
plain_claims : {M : Meaning} → (e : s.Expr) (ks : Kinds) (ts : List Token) → ks ≡ expr_at AsFactor e → ks ≡ expr_at AsTerm e → ks ≡ expr_at Alone e → Negated M e ts → Claim M (call Factor) expr_without e ks ts → Claims M M M e ts
plain_claims e ks ts f t a n c = record { factor = claim_kinds f c; term = claim_kinds t (term_of c); alone = claim_kinds a (expr_of (term_of c)); negated = n }

-- An expression that is printed the same wherever it stands, and is no negation.
record Plain (M : Meaning) (e : s.Expr) : Type 0 where
  term : expr_at AsFactor e ≡ expr_at AsTerm e
  alone : expr_at AsFactor e ≡ expr_at Alone e
  negated : (ts : List Token) → Negated M e ts

-- what begins with a name is such an expression
plain_named : (M N : Meaning) (x : Ident) (k : Ident → s.Expr) (ts : List Token) → Spells M rules.after_name k ts → Plain N (k x)
unfolding definitions
plain_named M N x k ts a = elim a [
  | inl l ↦ subst (λ (h : Ident → s.Expr). Plain N (h x)) (sym l.2) (record { term = refl; alone = refl; negated = λ ts. tt })
  | inr a ↦ elim a [
    | inl l ↦ subst (λ (h : Ident → s.Expr). Plain N (h x)) (sym l.2) (record { term = refl; alone = refl; negated = λ ts. tt })
    | inr l ↦ subst (λ (h : Ident → s.Expr). Plain N (h x)) (sym l.1) (record { term = refl; alone = refl; negated = λ ts. tt })
  ]
]

-- ---- lists of expressions
exprs_same : (es : List s.Expr) → exprs_without (exprs es) ≡ exprs (map expr_without es)
unfolding definitions syntax_definitions
exprs_same [] = refl
exprs_same (e ∷ es) = ap (s.MoreExpr (expr_without e)) (exprs_same es)

product_same : (e : s.Expr) (es : List s.Expr) → expr_without (product_of e es) ≡ product_of (expr_without e) (map expr_without es)
unfolding definitions syntax_definitions
product_same e [] = refl
product_same e (f ∷ es) = ap s.Product (exprs_same (e ∷ f ∷ es))

sum_same : (e : s.Expr) (es : List s.Expr) → expr_without (sum_of e es) ≡ sum_of (expr_without e) (map expr_without es)
unfolding definitions syntax_definitions
sum_same e [] = refl
sum_same e (f ∷ es) = ap s.Sum (exprs_same (e ∷ f ∷ es))

abbrev later_factor : s.Expr → Kinds
later_factor e = kind.Fixed mark.Star ∷ expr_at AsFactor e

factors_are : (es : List s.Expr) → flat_map later_factor es ≡ later_factors (exprs es)
unfolding definitions syntax_definitions
factors_are [] = refl
factors_are (e ∷ es) = ap (λ (x : Kinds). later_factor e ++ x) (factors_are es)

-- a term behind others
abbrev later_term : s.Expr → Kinds
unfolding definitions
later_term (s.Neg e) = kind.Fixed mark.Minus ∷ expr_at AsTerm e
later_term e = kind.Fixed mark.Plus ∷ expr_at AsTerm e

terms_front : (e : s.Expr) (es : s.Exprs) → later_term e ++ later_terms es ≡ later_terms (s.MoreExpr e es)
unfolding definitions
terms_front (s.Neg e) es = refl
terms_front e es = refl

terms_are : (es : List s.Expr) → flat_map later_term es ≡ later_terms (exprs es)
unfolding definitions syntax_definitions
terms_are [] = refl
terms_are (e ∷ es) = ap (λ (x : Kinds). later_term e ++ x) (terms_are es) ∙ terms_front e (exprs es)

abbrev plus_term : Rule s.Expr
plus_term = lead mark.Plus rules.term

abbrev minus_term : Rule s.Expr
minus_term = as_value s.Neg (lead mark.Minus rules.term)

plus_claim : {M : Meaning} {ts : List Token} → (e : s.Expr) → Claim M rules.term expr_without e (expr_at AsTerm e) ts → Negated M e ts → Claim M (alt plus_term minus_term) expr_without e (later_term e) ts
unfolding definitions
plus_claim (s.Neg e) c n = claim_right plus_term (claim_as s.Neg expr_without (λ x. refl) (claim_lead mark.Minus n))
plus_claim e c n = claim_left minus_term (claim_lead mark.Plus c)

-- ---- one deeper
abbrev Hypothesis : ℕ → Type 0
Hypothesis n = (e : s.Expr) (ts : List Token) → Means rule n Factor e ts → Fine ts → Claims (Means rule n) (Means rule n) (Means rule n) e ts

module _ (n : ℕ) (hyp : Hypothesis n) (cond : Back (Means rule n) rules.cond cond_without cond_kinds) where
  abbrev M : Meaning
  M = Means rule n

  abbrev N : Meaning
  N = Means rule (suc n)

  back_factor : Back M (call Factor) expr_without (expr_at AsFactor)
  back_factor = record { of = λ e ts x f. (hyp e ts x f).factor }

  term_claims : (e : s.Expr) (es : List s.Expr) (u v ts : List Token) → ts ≡ u ++ v → M Factor e u → Repeats (Spells M (lead mark.Star (call Factor))) es v → Fine ts → Claims N M M (product_of e es) ts
  unfolding definitions syntax_definitions
  term_claims e [] u v ts cut x y f =
      let c = hyp e u x (fine_split u v (subst Fine cut f)).0 in
      let same : atoms (kinds_of u) ≡ atoms (kinds_of ts) = ap (λ (z : List Token). atoms (kinds_of z)) (sym (cut ∙ ap (λ (z : List Token). u ++ z) y ∙ append-nil u)) in
      claims_at same (record { factor = claim_deeper n c.factor; term = c.term; alone = c.alone; negated = c.negated })
  term_claims e (d ∷ es) u v ts cut x y f =
      let c = (back_seq back_factor (back_many (back_lead mark.Star back_factor))).of (e, d ∷ es) ts (u, v, cut, x, y) f in
      let t : Claim M rules.term expr_without (product_of e (d ∷ es)) (product_kinds (exprs (e ∷ d ∷ es))) ts =
      claim_kinds (ap (λ (z : Kinds). expr_at AsFactor e ++ z) (factors_are (d ∷ es))) (claim_part (claim_as (λ p. product_of p.0 p.1) expr_without (λ p. product_same p.0 p.1) c)) in
      record { factor = in_parentheses n (expr_of t); term = t; alone = expr_of t; negated = tt }

  pub of_term : (e : s.Expr) (ts : List Token) → Spells M rules.term e ts → Fine ts → Claims N M M e ts
  of_term e ts x f = subst (λ (y : s.Expr). Claims N M M y ts) (sym x.2) (term_claims x.0.0 x.0.1 x.1.0 x.1.1 ts x.1.2 x.1.3 x.1.4 f)

  back_term : Back M rules.term expr_without (expr_at AsTerm)
  back_term = record { of = λ e ts x f. (of_term e ts x f).term }

  back_later : Back M (alt plus_term minus_term) expr_without later_term
  unfolding definitions
  back_later = record {
    of = λ e ts x f. elim x [
      | inl l ↦
          let i = inner_lead M mark.Plus rules.term e ts l in
          let c = of_term e i.rest i.spelled (i.fine f) in
          plus_claim e (claim_at i.same_atoms c.term) (negated_at M e i.rest ts i.same_atoms c.negated)
      | inr r ↦
          let i = inner_lead M mark.Minus rules.term r.0 ts r.1 in
          let c = of_term r.0 i.rest i.spelled (i.fine f) in
          subst (λ (y : s.Expr). Claim M (alt plus_term minus_term) expr_without y (later_term y) ts) (sym r.2)
          (claim_right plus_term (claim_as s.Neg expr_without (λ x. refl) (claim_lead mark.Minus (claim_at i.same_atoms c.term))))
    ];
  }

  expr_claims : (e : s.Expr) (es : List s.Expr) (u v ts : List Token) → ts ≡ u ++ v → Spells M rules.term e u → Repeats (Spells M (alt plus_term minus_term)) es v → Fine ts → Claims N N M (sum_of e es) ts
  unfolding definitions syntax_definitions
  expr_claims e [] u v ts cut x y f =
      let c = of_term e u x (fine_split u v (subst Fine cut f)).0 in
      let same : atoms (kinds_of u) ≡ atoms (kinds_of ts) = ap (λ (z : List Token). atoms (kinds_of z)) (sym (cut ∙ ap (λ (z : List Token). u ++ z) y ∙ append-nil u)) in
      claims_at same (record { factor = c.factor; term = claim_deeper n c.term; alone = c.alone; negated = c.negated })
  expr_claims e (d ∷ es) u v ts cut x y f =
      let c = (back_seq back_term (back_many back_later)).of (e, d ∷ es) ts (u, v, cut, x, y) f in
      let a : Claim M rules.expr expr_without (sum_of e (d ∷ es)) (sum_kinds (exprs (e ∷ d ∷ es))) ts =
      claim_kinds (ap (λ (z : Kinds). expr_at AsTerm e ++ z) (terms_are (d ∷ es))) (claim_part (claim_as (λ p. sum_of p.0 p.1) expr_without (λ p. sum_same p.0 p.1) c)) in
      let b = in_parentheses n a in
      record { factor = b; term = term_of b; alone = a; negated = tt }

  pub of_expr : (e : s.Expr) (ts : List Token) → Spells M rules.expr e ts → Fine ts → Claims N N M e ts
  of_expr e ts x f = subst (λ (y : s.Expr). Claims N N M y ts) (sym x.2) (expr_claims x.0.0 x.0.1 x.1.0 x.1.1 ts x.1.2 x.1.3 x.1.4 f)

  back_alone : Back M rules.expr expr_without (expr_at Alone)
  back_alone = record { of = λ e ts x f. (of_expr e ts x f).alone }

  of_literal : (e : s.Expr) (ts : List Token) → Spells M rules.literal e ts → Fine ts → Claims N N N e ts
  unfolding definitions
  of_literal e ts x f =
      let fine : Fine (x.0 ∷ []) = subst Fine x.1 f in
      let k = literal_taken x.0.kind x.2 fine.0 in
      let l : Kind = kind.Number (pos k.size) in
      let same : atoms (l ∷ []) ≡ atoms (kinds_of ts) = ap (λ (k : Kind). atoms (k ∷ [])) (sym k.is) ∙ sym (ap (λ (z : List Token). atoms (kinds_of z)) x.1) in
      subst (λ (y : s.Expr). Claims N N N y ts) (sym (x.3 ∙ ap (λ (k : Kind). s.Literal (value_in k)) k.is))
      (plain_claims (s.Literal (pos k.size)) (l ∷ []) ts refl refl refl tt
      (claim_called n Factor (claim_left _ (claim_token _ _ _ _ expr_without (s.Literal (pos k.size)) l ts refl (λ u h. ap (λ (k : Kind). s.Literal (value_in k)) h) same))))

  of_minus : (e : s.Expr) (ts : List Token) → Spells M (as_value s.Neg (lead mark.Minus (call Factor))) e ts → Fine ts → Claims N N N e ts
  unfolding definitions
  of_minus e ts x f =
      let i = inner_lead M mark.Minus (call Factor) x.0 ts x.1 in
      let c = claims_at i.same_atoms (hyp x.0 i.rest i.spelled (i.fine f)) in
      subst (λ (y : s.Expr). Claims N N N y ts) (sym x.2)
      (plain_claims (s.Neg x.0) (kind.Fixed mark.Minus ∷ expr_at AsFactor x.0) ts refl refl refl (claim_deeper n c.term)
      (claim_called n Factor (claim_right _ (claim_left _ (claim_as s.Neg expr_without (λ x. refl) (claim_lead mark.Minus c.factor))))))

  of_parentheses : (e : s.Expr) (ts : List Token) → Spells M (lead mark.Open (closed rules.expr mark.Close)) e ts → Fine ts → Claims N N N e ts
  of_parentheses e ts x f =
      let i = inner_lead M mark.Open (closed rules.expr mark.Close) e ts x in
      let j = inner_closed M mark.Close rules.expr e i.rest i.spelled in
      let c = claims_at (j.same_atoms ∙ i.same_atoms) (of_expr e j.rest j.spelled (j.fine (i.fine f))) in
      record { factor = c.factor; term = c.term; alone = claim_deeper n c.alone; negated = negated_deeper n e ts c.negated }

  of_read : (e : s.Expr) (ts : List Token) → Spells M (as_value s.Read (lead mark.Read (lead mark.Open (closed rules.ident mark.Close)))) e ts → Fine ts → Claims N N N e ts
  unfolding definitions
  of_read e ts x f =
      let c = (back_lead mark.Read (back_lead mark.Open (back_closed mark.Close back_ident))).of x.0 ts x.1 f in
      subst (λ (y : s.Expr). Claims N N N y ts) (sym x.2)
      (plain_claims (s.Read x.0) (expr_at AsFactor (s.Read x.0)) ts refl refl refl tt
      (claim_called n Factor (claim_right _ (claim_right _ (claim_right _ (claim_left _ (claim_as s.Read expr_without (λ x. refl) c)))))))

  of_count : (e : s.Expr) (ts : List Token) → Spells M (as_value (λ p. s.Count p.0 p.1.0 p.1.1) (lead mark.Count (lead mark.Open (closed rules.visit mark.Close)))) e ts → Fine ts → Claims N N N e ts
  unfolding definitions
  of_count e ts x f =
      let c = (back_lead mark.Count (back_lead mark.Open (back_closed mark.Close (back_visit cond)))).of x.0 ts x.1 f in
      subst (λ (y : s.Expr). Claims N N N y ts) (sym x.2)
      (plain_claims (s.Count x.0.0 x.0.1.0 x.0.1.1) (expr_at AsFactor (s.Count x.0.0 x.0.1.0 x.0.1.1)) ts refl refl refl tt
      (claim_called n Factor (claim_right _ (claim_right _ (claim_right _ (claim_right _ (claim_left _ (claim_as (λ p. s.Count p.0 p.1.0 p.1.1) expr_without (λ x. refl) c))))))))

  of_total : (e : s.Expr) (ts : List Token) → Spells M (as_value (λ p. s.Total p.0 p.1.0 p.1.1.0 p.1.1.1) (lead mark.Sum (lead mark.Open (seq rules.ident (lead mark.Dot (closed rules.visit mark.Close)))))) e ts → Fine ts → Claims N N N e ts
  unfolding definitions
  of_total e ts x f =
      let c = (back_lead mark.Sum (back_lead mark.Open (back_seq back_ident (back_lead mark.Dot (back_closed mark.Close (back_visit cond)))))).of x.0 ts x.1 f in
      subst (λ (y : s.Expr). Claims N N N y ts) (sym x.2)
      (plain_claims (s.Total x.0.0 x.0.1.0 x.0.1.1.0 x.0.1.1.1) (expr_at AsFactor (s.Total x.0.0 x.0.1.0 x.0.1.1.0 x.0.1.1.1)) ts refl refl refl tt
      (claim_called n Factor (claim_right _ (claim_right _ (claim_right _ (claim_right _ (claim_right _ (claim_left _ (claim_as (λ p. s.Total p.0 p.1.0 p.1.1.0 p.1.1.1) expr_without (λ x. refl) c)))))))))

  after_name_back : Tail M rules.after_name expr_without (expr_at AsFactor)
  unfolding definitions
  after_name_back =
      tail_part
      (tail_alt (tail_as (λ p x. s.Field x p.0 p.1) (λ a. refl) (λ a. refl)
      (back_seq back_ident (back_lead mark.OpenBracket (back_seq back_alone (back_lead mark.CloseBracket (back_lead mark.Dot back_ident))))))
      (tail_alt (tail_as (λ p x. s.Row x p) (λ a. refl) (λ a. refl) (back_seq back_ident (back_lead mark.Dot back_ident)))
      (tail_nothing s.Name (λ x. refl) (λ x. refl))))

  of_name : (e : s.Expr) (ts : List Token) → Spells M (as_value (λ p. p.1 p.0) (seq rules.ident rules.after_name)) e ts → Fine ts → Claims N N N e ts
  of_name e ts x f =
      let c = (back_named after_name_back).of e ts x f in
      let plain : Plain N e = subst (Plain N) (sym x.2) (plain_named M N x.0.0 x.0.1 x.1.1 x.1.4) in
      plain_claims e (expr_at AsFactor e) ts refl plain.term plain.alone (plain.negated ts)
      (claim_called n Factor (claim_right _ (claim_right _ (claim_right _ (claim_right _ (claim_right _ (claim_right _ c)))))))

  pub of_factor : (e : s.Expr) (ts : List Token) → Spells M rules.factor e ts → Fine ts → Claims N N N e ts
  of_factor e ts x f = elim x [
    | inl y ↦ of_literal e ts y f
    | inr x ↦ elim x [
      | inl y ↦ of_minus e ts y f
      | inr x ↦ elim x [
        | inl y ↦ of_parentheses e ts y f
        | inr x ↦ elim x [
          | inl y ↦ of_read e ts y f
          | inr x ↦ elim x [
            | inl y ↦ of_count e ts y f
            | inr x ↦ elim x [ inl y ↦ of_total e ts y f | inr y ↦ of_name e ts y f ]
          ]
        ]
      ]
    ]
  ]

-- What is known of factors and tests that go a depth deep.
record Known (n : ℕ) : Type 0 where
  factors : Hypothesis n
  test : Back (Means rule n) (call Test) test_without test_kinds

known : (n : ℕ) → Known n
known zero = record { factors = λ e ts x f. absurd x; test = never Test test_without test_kinds }
known (suc n) =
    let k = known n in
    record {
      factors = λ e ts x f. of_factor n k.factors (cond_step k.test) e ts x f;
      test = back_called n Test (test_step (back_alone n k.factors (cond_step k.test)) k.test);
    }

pub back_expr : (n : ℕ) → Back (Means rule n) rules.expr expr_without (expr_at Alone)
back_expr n = back_alone n (known n).factors (cond_step (known n).test)

pub back_cond : (n : ℕ) → Back (Means rule n) rules.cond cond_without cond_kinds
back_cond n = cond_step (known n).test
