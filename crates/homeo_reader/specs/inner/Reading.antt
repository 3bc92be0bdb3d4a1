-- What the parser reads of expressions and conditions, and the words for all that it reads.
use Rattle.std.specs.Prelude.{◌≡◌, ℕ, Bool, true, false, ◌++◌, List, [], ◌∷◌, ◌-◌, nat_lt, if◌then◌else◌, map, Option, Some, None, Result, Ok, Err}
use Rattle.homeo_syntax.specs.declared.token.Mark.{Mark}
use Rattle.homeo_syntax.specs.declared.token.Mark.TheVariants as mark
use Rattle.homeo_syntax.specs.declared.token.Kind.{Kind}
use Rattle.homeo_syntax.specs.declared.token.Kind.TheVariants as kind
use Rattle.homeo_syntax.specs.declared.token.Token.{Token}
use Rattle.homeo_syntax.specs.declared.phrase.Ident.{Ident}
use Rattle.homeo_syntax.specs.declared.phrase.Number.{Number}
use Rattle.homeo_syntax.specs.declared.phrase.Compare.{Compare}
use Rattle.homeo_syntax.specs.declared.phrase.Compare.TheVariants as compare
use Rattle.homeo_syntax.specs.declared.phrase.Expr.{Expr}
use Rattle.homeo_syntax.specs.declared.phrase.Test.{Test as Test_}
use Rattle.homeo_syntax.specs.Source as s
use Rattle.homeo_syntax.specs.SourceView.{exprs, tests, plain_expr, plain_test, plain_cond}
use Rattle.homeo_syntax.specs.Classes.{number_of, name_class, number_class}
use Rattle.homeo_syntax.specs.Grammar.{call, many, alt, as_value}
use Rattle.homeo_syntax.specs.Rules as rules
use Rattle.homeo_syntax.specs.Rules.{Deep, Factor, Test, Tree, Rule, rule, lead, ident_at, number_at, value_in, is_natural, is_value}
use Rattle.homeo_reader.specs.declared.conditions.Visit.{Visit}
use Rattle.homeo_reader.specs.declared.parser.Fault.{Fault}
use Rattle.homeo_reader.specs.declared.parser.Fault.TheVariants.{Memory, Stuck}
use Rattle.homeo_reader.specs.inner.Engine.{Calls, begins, first_is, Reading, ◌>>=◌, read_token, read, calls_at}

-- What was returned, seen by a view, and the tokens that are left are what the reading gives, unless there was not
-- enough memory.
abbrev pub Gives : {X Y : Type 0} → (X → Y) → Result X Fault → List Token → Reading Y → Type 0
Gives view (Ok x) rest reading = reading ≡ Ok (view x, rest)
Gives view (Err Memory) rest reading = Unit {0}
Gives view (Err Stuck) rest reading = reading ≡ Err rest

abbrev pub same : {X : Type 0} → X → X
same x = x

abbrev pub expr_views : List Expr → List s.Expr
expr_views es = map plain_expr es

abbrev pub test_views : List Test_ → List s.Test
test_views ts = map plain_test ts

abbrev pub visit_view : Visit → Ident × (Ident × s.Cond)
visit_view v = (v.name, (v.relation, plain_cond v.test))

-- ---- single tokens
abbrev pub mark_read : Mark → List Token → Reading (Unit {0})
mark_read m ts = read_token (number_of m ∷ []) (λ k. true) (λ t. tt) ts

abbrev pub offset_read : Mark → List Token → Reading ℕ
offset_read m ts = read_token (number_of m ∷ []) (λ k. true) (λ t. t.offset) ts

abbrev pub ident_read : List Token → Reading Ident
ident_read ts = read_token (name_class ∷ []) (λ k. true) ident_at ts

abbrev pub number_read : List Token → Reading Number
number_read ts = read_token (number_class ∷ []) is_natural number_at ts

abbrev pub number_is_read : ℕ → List Token → Reading (Unit {0})
number_is_read n ts = read_token (number_class ∷ []) (λ k. is_value n (value_in k)) (λ t. tt) ts

-- it was this mark that came first, and the tokens after it are left; or it was not, and all are
abbrev pub TakesMark : Bool → Mark → List Token → List Token → Type 0
TakesMark true m old new = mark_read m old ≡ Ok (tt, new)
TakesMark false m old new = (mark_read m old ≡ Err old) × (new ≡ old)

abbrev pub on_marked : {A : Type 0} → Reading (Unit {0}) → (List Token → Reading A) → Reading A → Reading A
on_marked (Ok x) go other = go x.1
on_marked (Err e) go other = other

-- goes on after the mark if it comes first, and the other way if not
abbrev pub if_marked : {A : Type 0} → Mark → List Token → (List Token → Reading A) → Reading A → Reading A
if_marked m ts go other = on_marked (mark_read m ts) go other

-- ---- repetitions
-- what was read, if this holds
abbrev pub opt_of : {X : Type 0} → Bool → Reading X → List Token → Reading (Option X)
opt_of b x ts = if b then (x >>= λ x. Ok (Some x.0, x.1)) else Ok (None, ts)

-- a phrase, if one begins here
abbrev pub opt_read : {X : Type 0} → Calls Deep Tree → Rule X → List Token → Reading (Option X)
opt_read cs g ts = opt_of (first_is (begins cs g) ts) (read cs g ts) ts

-- these in front of what is read
abbrev pub with_front : {A : Type 0} → List A → Reading (List A) → Reading (List A)
with_front front reading = reading >>= λ x. Ok (front ++ x.0, x.1)

-- ---- what the engine reads by each rule
unfoldable pub factor_read : ℕ → List Token → Reading s.Expr
factor_read room ts = (calls_at rule room).reads Factor ts

unfoldable pub term_read : ℕ → List Token → Reading s.Expr
term_read room ts = read (calls_at rule room) rules.term ts

unfoldable pub factors_read : ℕ → List Token → Reading (List s.Expr)
factors_read room ts = read (calls_at rule room) (many (lead mark.Star (call Factor))) ts

unfoldable pub next_factor_read : ℕ → List Token → Reading (Option s.Expr)
next_factor_read room ts = opt_read (calls_at rule room) (lead mark.Star (call Factor)) ts

unfoldable pub expr_read : ℕ → List Token → Reading s.Expr
expr_read room ts = read (calls_at rule room) rules.expr ts

unfoldable pub terms_read : ℕ → List Token → Reading (List s.Expr)
terms_read room ts = read (calls_at rule room) (many (alt (lead mark.Plus rules.term) (as_value s.Neg (lead mark.Minus rules.term)))) ts

unfoldable pub next_term_read : ℕ → List Token → Reading (Option s.Expr)
next_term_read room ts = opt_read (calls_at rule room) (alt (lead mark.Plus rules.term) (as_value s.Neg (lead mark.Minus rules.term))) ts

unfoldable pub comparison_read : ℕ → List Token → Reading Compare
comparison_read room ts = read (calls_at rule room) rules.comparison ts

unfoldable pub test_read : ℕ → List Token → Reading s.Test
test_read room ts = (calls_at rule room).reads Test ts

unfoldable pub tests_read : ℕ → List Token → Reading (List s.Test)
tests_read room ts = read (calls_at rule room) (many (lead mark.And (call Test))) ts

unfoldable pub next_test_read : ℕ → List Token → Reading (Option s.Test)
next_test_read room ts = opt_read (calls_at rule room) (lead mark.And (call Test)) ts

unfoldable pub cond_read : ℕ → List Token → Reading s.Cond
cond_read room ts = read (calls_at rule room) rules.cond ts

unfoldable pub visit_read : ℕ → List Token → Reading (Ident × (Ident × s.Cond))
visit_read room ts = read (calls_at rule room) rules.visit ts

-- behind the name x
unfoldable pub after_name_read : ℕ → Ident → List Token → Reading s.Expr
after_name_read room x ts = read (calls_at rule room) rules.after_name ts >>= λ y. Ok (y.0 x, y.1)

-- ---- the same, step by step
-- what follows a name and `[`
unfoldable pub field_rest : ℕ → Ident → List Token → Reading s.Expr
field_rest room x ts =
    expr_read room ts >>= λ a. mark_read mark.CloseBracket a.1 >>= λ b. mark_read mark.Dot b.1 >>= λ c. ident_read c.1 >>= λ d. Ok (s.Field x a.0 d.0, d.1)

unfoldable pub after_name_by : ℕ → Ident → Kind → Token → List Token → Reading s.Expr
after_name_by room x (kind.Fixed mark.OpenBracket) t ts = if nat_lt 0 room then field_rest room x ts else Ok (s.Name x, t ∷ ts)
after_name_by room x (kind.Fixed mark.Dot) t ts = ident_read ts >>= λ a. Ok (s.Row x a.0, a.1)
after_name_by room x _ t ts = Ok (s.Name x, t ∷ ts)

unfoldable pub after_name_do : ℕ → Ident → List Token → Reading s.Expr
after_name_do room x [] = Ok (s.Name x, [])
after_name_do room x (t ∷ ts) = after_name_by room x t.kind t ts

-- what follows `count`
unfoldable pub count_rest : ℕ → List Token → Reading s.Expr
count_rest room ts = mark_read mark.Open ts >>= λ a. visit_read room a.1 >>= λ b. mark_read mark.Close b.1 >>= λ c. Ok (s.Count b.0.0 b.0.1.0 b.0.1.1, c.1)

-- what follows `sum`
unfoldable pub total_rest : ℕ → List Token → Reading s.Expr
total_rest room ts =
    mark_read mark.Open ts >>= λ a. ident_read a.1 >>= λ b. mark_read mark.Dot b.1 >>= λ c. visit_read room c.1 >>= λ d. mark_read mark.Close d.1 >>= λ e.
    Ok (s.Total b.0 d.0.0 d.0.1.0 d.0.1.1, e.1)

unfoldable pub factor_by : ℕ → Kind → Token → List Token → Reading s.Expr
factor_by room (kind.Number n) t ts = Ok (s.Literal n, ts)
factor_by room (kind.Name n) t ts = ident_read (t ∷ ts) >>= λ x. after_name_read (room - 1) x.0 x.1
factor_by room (kind.Fixed mark.Read) t ts = mark_read mark.Open ts >>= λ x. ident_read x.1 >>= λ y. mark_read mark.Close y.1 >>= λ z. Ok (s.Read y.0, z.1)
factor_by room (kind.Fixed mark.Minus) t ts = if nat_lt 1 room then (factor_read (room - 1) ts >>= λ x. Ok (s.Neg x.0, x.1)) else Err (t ∷ ts)
factor_by room (kind.Fixed mark.Open) t ts =
    if nat_lt 1 room then (expr_read (room - 1) ts >>= λ x. mark_read mark.Close x.1 >>= λ y. Ok (x.0, y.1)) else Err (t ∷ ts)
factor_by room (kind.Fixed mark.Count) t ts = if nat_lt 1 room then count_rest (room - 1) ts else Err (t ∷ ts)
factor_by room (kind.Fixed mark.Sum) t ts = if nat_lt 1 room then total_rest (room - 1) ts else Err (t ∷ ts)
factor_by room _ t ts = Err (t ∷ ts)

unfoldable pub factor_do : ℕ → List Token → Reading s.Expr
factor_do room [] = Err []
factor_do room (t ∷ ts) = factor_by room t.kind t ts

unfoldable pub next_factor_do : ℕ → List Token → Reading (Option s.Expr)
next_factor_do room ts = if_marked mark.Star ts (λ r. factor_read room r >>= λ x. Ok (Some x.0, x.1)) (Ok (None, ts))

-- a factor alone, or a product that begins with two
unfoldable pub after_factor : ℕ → s.Expr → Option s.Expr → List Token → Reading s.Expr
after_factor room first None ts = Ok (first, ts)
after_factor room first (Some second) ts = with_front (first ∷ second ∷ []) (factors_read room ts) >>= λ x. Ok (s.Product (exprs x.0), x.1)

unfoldable pub term_do : ℕ → List Token → Reading s.Expr
term_do room ts = factor_read room ts >>= λ x. next_factor_read room x.1 >>= λ y. after_factor room x.0 y.0 y.1

unfoldable pub next_term_do : ℕ → List Token → Reading (Option s.Expr)
next_term_do room ts =
    if_marked mark.Plus ts (λ r. term_read room r >>= λ x. Ok (Some x.0, x.1))
    (if_marked mark.Minus ts (λ r. term_read room r >>= λ x. Ok (Some (s.Neg x.0), x.1)) (Ok (None, ts)))

-- a term alone, or a sum that begins with two
unfoldable pub after_term : ℕ → s.Expr → Option s.Expr → List Token → Reading s.Expr
after_term room first None ts = Ok (first, ts)
after_term room first (Some second) ts = with_front (first ∷ second ∷ []) (terms_read room ts) >>= λ x. Ok (s.Sum (exprs x.0), x.1)

unfoldable pub expr_do : ℕ → List Token → Reading s.Expr
expr_do room ts = term_read room ts >>= λ x. next_term_read room x.1 >>= λ y. after_term room x.0 y.0 y.1

unfoldable pub comparison_do : List Token → Reading Compare
comparison_do ts =
    if_marked mark.Less ts (λ r. Ok (compare.Less, r))
    (if_marked mark.LessEqual ts (λ r. Ok (compare.LessEqual, r))
    (if_marked mark.Equal ts (λ r. Ok (compare.Equal, r)) (Err ts)))

unfoldable pub next_test_do : ℕ → List Token → Reading (Option s.Test)
next_test_do room ts = if_marked mark.And ts (λ r. test_read room r >>= λ x. Ok (Some x.0, x.1)) (Ok (None, ts))

unfoldable pub cond_do : ℕ → List Token → Reading s.Cond
cond_do room ts = test_read room ts >>= λ x. tests_read room x.1 >>= λ y. Ok (tests (x.0 ∷ y.0), y.1)

unfoldable pub visit_do : ℕ → List Token → Reading (Ident × (Ident × s.Cond))
visit_do room ts =
    ident_read ts >>= λ a. mark_read mark.Of a.1 >>= λ b. ident_read b.1 >>= λ c. mark_read mark.When c.1 >>= λ d. cond_read room d.1 >>= λ e.
    Ok ((a.0, (c.0, e.0)), e.1)

unfoldable pub test_do : ℕ → List Token → Reading s.Test
test_do room ts =
    if_marked mark.True ts (λ r. Ok (s.True, r))
    (if nat_lt 1 room then
    if_marked mark.Not ts
    (λ r. mark_read mark.Open r >>= λ a. cond_read (room - 1) a.1 >>= λ b. mark_read mark.Close b.1 >>= λ c. Ok (s.Not b.0, c.1))
    (expr_read (room - 1) ts >>= λ a. comparison_do a.1 >>= λ b. expr_read (room - 1) b.1 >>= λ c. Ok (s.Comparison b.0 a.0 c.0, c.1))
    else Err ts)
