-- The places of each kind of phrase, and following them.
use Rattle.std.proofs.Common.{◌≡◌, ℕ, ℤ, List, [], ◌∷◌, ◌++◌, map, drop, length, ◌≤◌, Box, Global, refl, sym, ap, ◌∙◌}
use Rattle.std.proofs.lemmas.List.{drop_all}
use Rattle.homeo_syntax.specs.Key.{definitions as syntax_definitions}
use Rattle.homeo_syntax.specs.Listed.{Listed}
use Rattle.homeo_syntax.specs.Source as s
use Rattle.homeo_syntax.specs.SourceView.{plain_expr, plain_test, plain_cond, plain_command}
use Rattle.homeo_syntax.specs.declared.phrase.Ident.{Ident}
use Rattle.homeo_syntax.specs.declared.phrase.Compare.{Compare}
use Rattle.homeo_syntax.specs.declared.phrase.Expr.{Expr}
use Rattle.homeo_syntax.specs.declared.phrase.Expr as E
use Rattle.homeo_syntax.specs.declared.phrase.Test.{Test}
use Rattle.homeo_syntax.specs.declared.phrase.Cond.{Cond, out-Cond}
use Rattle.homeo_syntax.specs.declared.command.FieldValue.{FieldValue}
use Rattle.homeo_syntax.specs.declared.command.Command.{Command}
use Rattle.homeo_syntax.specs.declared.command.Command as C
use Rattle.homeo_syntax.proofs.SourceViews as v
use Rattle.homeo_meaning.specs.Key.{definitions as meaning_definitions}
use Rattle.homeo_meaning.specs.Bindings.{Row, Scope}
use Rattle.homeo_meaning.specs.Occurrences.{Occurrence, at, within, in_expr, in_exprs, in_test, in_cond, in_fields, in_command, in_commands, DeclaresRow, TakesObject, TakesRelation, TakesValue, TakesField, NamesField, FillsFields, Assigns}
use Rattle.homeo_rules.specs.inner.Key.{definitions}
use Rattle.homeo_rules.specs.inner.Follow.{Standing, step, follow}
use Rattle.homeo_rules.specs.inner.Plain.{plain_exprs, plain_tests, plain_fields, named_fields, plain_commands}
use Rattle.homeo_rules.specs.inner.Along.{along_exprs, along_tests, along_values, along_commands}

-- ---- the views, with lists of phrases as one word each
pub plain-Sum : (es : Listed Expr) → plain_expr (E.Sum es) ≡ s.Sum (plain_exprs es.items)
unfolding definitions
plain-Sum es = v.plain_Sum es

pub plain-Product : (es : Listed Expr) → plain_expr (E.Product es) ≡ s.Product (plain_exprs es.items)
unfolding definitions
plain-Product es = v.plain_Product es

pub plain-Cond : (c : Cond) → plain_cond c ≡ plain_tests (out-Cond c).tests.items
unfolding definitions
plain-Cond c = v.plain_conjunction c

pub plain-Foreach : (r q : Ident) (test : Box Cond Global) (body : Listed Command) → plain_command (C.Foreach r q test body) ≡ s.Foreach r q (plain_cond test.value) (plain_commands body.items)
unfolding definitions
plain-Foreach r q test body = v.plain_Foreach r q test body

pub plain-Insert : (q : Ident) (fs : Listed FieldValue) (into : Ident) → plain_command (C.Insert q fs into) ≡ s.Insert q (plain_fields fs.items) into
unfolding definitions
plain-Insert q fs into = v.plain_Insert q fs into

pub plain-Block : (cs : Listed Command) → plain_command (C.Block cs) ≡ s.Block (plain_commands cs.items)
unfolding definitions
plain-Block cs = v.plain_Block cs

pub ruleset views = (v.plain_Literal, v.plain_Name, v.plain_Read, plain-Sum, plain-Product, v.plain_Neg, v.plain_Field, v.plain_Row, v.plain_Count, v.plain_Total, v.plain_True, v.plain_Not, v.plain_Compare, plain-Cond, v.plain_Skip, v.plain_Assign, v.plain_Write, v.plain_Print, v.plain_If, plain-Block, v.plain_SetField, v.plain_SetRow, plain-Foreach, plain-Insert, v.plain_Delete, v.plain_Update, v.plain_Abort)

-- the fields that an insert names
pub named-plain : (fs : List FieldValue) → map (λ f. f.field) (plain_fields fs) ≡ named_fields fs
unfolding definitions syntax_definitions
named-plain [] = refl
named-plain (f ∷ fs) = ap (λ l. f.field ∷ l) (named-plain fs)

-- ---- following
pub follow-none : (s : Scope) (k : Standing) → follow s k [] ≡ k
unfolding definitions
follow-none s k = refl

pub follow-one : (s : Scope) (k : Standing) (p : Occurrence) (ps : List Occurrence) → follow s k (p ∷ ps) ≡ follow s (step s k p) ps
unfolding definitions
follow-one s k p ps = refl

pub follow-append : (s : Scope) (k : Standing) (ps qs : List Occurrence) → follow s k (ps ++ qs) ≡ follow s (follow s k ps) qs
unfolding definitions
follow-append s k [] qs = refl
follow-append s k (p ∷ ps) qs = follow-append s (step s k p) ps qs

pub in-Literal : (rows : List Row) (n : ℤ) → in_expr rows (s.Literal n) ≡ []
unfolding meaning_definitions
in-Literal rows n = refl

pub in-Name : (rows : List Row) (x : Ident) → in_expr rows (s.Name x) ≡ at rows (TakesValue x) ∷ []
unfolding meaning_definitions
in-Name rows x = refl

pub in-Read : (rows : List Row) (x : Ident) → in_expr rows (s.Read x) ≡ at rows (TakesObject x) ∷ []
unfolding meaning_definitions
in-Read rows x = refl

pub in-Sum : (rows : List Row) (es : s.Exprs) → in_expr rows (s.Sum es) ≡ in_exprs rows es
unfolding meaning_definitions
in-Sum rows es = refl

pub in-Product : (rows : List Row) (es : s.Exprs) → in_expr rows (s.Product es) ≡ in_exprs rows es
unfolding meaning_definitions
in-Product rows es = refl

pub in-Neg : (rows : List Row) (e : s.Expr) → in_expr rows (s.Neg e) ≡ in_expr rows e
unfolding meaning_definitions
in-Neg rows e = refl

pub in-Field : (rows : List Row) (q : Ident) (e : s.Expr) (f : Ident) → in_expr rows (s.Field q e f) ≡ at rows (TakesRelation q) ∷ at rows (NamesField q f) ∷ in_expr rows e
unfolding meaning_definitions
in-Field rows q e f = refl

pub in-Row : (rows : List Row) (r f : Ident) → in_expr rows (s.Row r f) ≡ at rows (TakesField r f) ∷ []
unfolding meaning_definitions
in-Row rows r f = refl

pub in-Count : (rows : List Row) (r q : Ident) (c : s.Cond) → in_expr rows (s.Count r q c) ≡ at rows (DeclaresRow r) ∷ at (within r q rows) (TakesRelation q) ∷ in_cond (within r q rows) c
unfolding meaning_definitions
in-Count rows r q c = refl

pub in-Total : (rows : List Row) (r f q : Ident) (c : s.Cond) → in_expr rows (s.Total r f q c) ≡ at rows (DeclaresRow r) ∷ at (within r q rows) (TakesRelation q) ∷ at (within r q rows) (NamesField q f) ∷ in_cond (within r q rows) c
unfolding meaning_definitions
in-Total rows r f q c = refl

pub in-True : (rows : List Row) → in_test rows s.True ≡ []
unfolding meaning_definitions
in-True rows = refl

pub in-Not : (rows : List Row) (c : s.Cond) → in_test rows (s.Not c) ≡ in_cond rows c
unfolding meaning_definitions
in-Not rows c = refl

pub in-Comparison : (rows : List Row) (op : Compare) (d e : s.Expr) → in_test rows (s.Comparison op d e) ≡ in_expr rows d ++ in_expr rows e
unfolding meaning_definitions
in-Comparison rows op d e = refl

pub in-Skip : (rows : List Row) → in_command rows s.Skip ≡ []
unfolding meaning_definitions
in-Skip rows = refl

pub in-Assign : (rows : List Row) (t : Ident) (e : s.Expr) → in_command rows (s.Assign t e) ≡ in_expr rows e ++ at rows (Assigns t) ∷ []
unfolding meaning_definitions
in-Assign rows t e = refl

pub in-Write : (rows : List Row) (x : Ident) (e : s.Expr) → in_command rows (s.Write x e) ≡ at rows (TakesObject x) ∷ in_expr rows e
unfolding meaning_definitions
in-Write rows x e = refl

pub in-Print : (rows : List Row) (e : s.Expr) → in_command rows (s.Print e) ≡ in_expr rows e
unfolding meaning_definitions
in-Print rows e = refl

pub in-If : (rows : List Row) (t : s.Cond) (c d : s.Command) → in_command rows (s.If t c d) ≡ in_cond rows t ++ in_command rows c ++ in_command rows d
unfolding meaning_definitions
in-If rows t c d = refl

pub in-Block : (rows : List Row) (cs : s.Commands) → in_command rows (s.Block cs) ≡ in_commands rows cs
unfolding meaning_definitions
in-Block rows cs = refl

pub in-SetField : (rows : List Row) (q : Ident) (i : s.Expr) (f : Ident) (e : s.Expr) → in_command rows (s.SetField q i f e) ≡ at rows (TakesRelation q) ∷ at rows (NamesField q f) ∷ in_expr rows i ++ in_expr rows e
unfolding meaning_definitions
in-SetField rows q i f e = refl

pub in-SetRow : (rows : List Row) (r f : Ident) (e : s.Expr) → in_command rows (s.SetRow r f e) ≡ at rows (TakesField r f) ∷ in_expr rows e
unfolding meaning_definitions
in-SetRow rows r f e = refl

pub in-Foreach : (rows : List Row) (r q : Ident) (t : s.Cond) (cs : s.Commands) → in_command rows (s.Foreach r q t cs) ≡ at rows (DeclaresRow r) ∷ at rows (TakesRelation q) ∷ in_cond (within r q rows) t ++ in_commands (within r q rows) cs
unfolding meaning_definitions
in-Foreach rows r q t cs = refl

pub in-Insert : (rows : List Row) (q : Ident) (fs : List s.FieldValue) (t : Ident) → in_command rows (s.Insert q fs t) ≡ at rows (TakesRelation q) ∷ at rows (FillsFields q (map (λ f. f.field) fs)) ∷ in_fields rows fs ++ at rows (Assigns t) ∷ []
unfolding meaning_definitions
in-Insert rows q fs t = refl

pub in-Delete : (rows : List Row) (r q : Ident) (t : s.Cond) → in_command rows (s.Delete r q t) ≡ at rows (DeclaresRow r) ∷ at rows (TakesRelation q) ∷ in_cond (within r q rows) t
unfolding meaning_definitions
in-Delete rows r q t = refl

pub in-Update : (rows : List Row) (r q : Ident) (t : s.Cond) (f : Ident) (e : s.Expr) → in_command rows (s.Update r q t f e) ≡ at rows (DeclaresRow r) ∷ at rows (TakesRelation q) ∷ at rows (NamesField q f) ∷ in_cond (within r q rows) t ++ in_expr (within r q rows) e
unfolding meaning_definitions
in-Update rows r q t f e = refl

pub in-Abort : (rows : List Row) → in_command rows s.Abort ≡ []
unfolding meaning_definitions
in-Abort rows = refl

-- a list of exprs
pub along-exprs : (s : Scope) (rows : List Row) (k : Standing) (xs : List Expr) → follow s k (in_exprs rows (plain_exprs xs)) ≡ along_exprs s rows k xs
unfolding definitions syntax_definitions meaning_definitions
along-exprs s rows k [] = refl
along-exprs s rows k (x ∷ xs) = follow-append s k (in_expr rows (plain_expr x)) (in_exprs rows (plain_exprs xs)) ∙ along-exprs s rows (follow s k (in_expr rows (plain_expr x))) xs

pub end-exprs : (s : Scope) (rows : List Row) (k start : Standing) (xs : List Expr) (i : ℕ) → length xs ≤ i → along_exprs s rows k (drop i xs) ≡ along_exprs s rows start xs → k ≡ follow s start (in_exprs rows (plain_exprs xs))
end-exprs s rows k start xs i h e = ap (along_exprs s rows k) (sym (drop_all i xs h)) ∙ e ∙ sym (along-exprs s rows start xs)

-- a list of tests
pub along-tests : (s : Scope) (rows : List Row) (k : Standing) (xs : List Test) → follow s k (in_cond rows (plain_tests xs)) ≡ along_tests s rows k xs
unfolding definitions syntax_definitions meaning_definitions
along-tests s rows k [] = refl
along-tests s rows k (x ∷ xs) = follow-append s k (in_test rows (plain_test x)) (in_cond rows (plain_tests xs)) ∙ along-tests s rows (follow s k (in_test rows (plain_test x))) xs

pub end-tests : (s : Scope) (rows : List Row) (k start : Standing) (xs : List Test) (i : ℕ) → length xs ≤ i → along_tests s rows k (drop i xs) ≡ along_tests s rows start xs → k ≡ follow s start (in_cond rows (plain_tests xs))
end-tests s rows k start xs i h e = ap (along_tests s rows k) (sym (drop_all i xs h)) ∙ e ∙ sym (along-tests s rows start xs)

-- a list of values
pub along-values : (s : Scope) (rows : List Row) (k : Standing) (xs : List FieldValue) → follow s k (in_fields rows (plain_fields xs)) ≡ along_values s rows k xs
unfolding definitions syntax_definitions meaning_definitions
along-values s rows k [] = refl
along-values s rows k (x ∷ xs) = follow-append s k (in_expr rows (plain_expr x.value)) (in_fields rows (plain_fields xs)) ∙ along-values s rows (follow s k (in_expr rows (plain_expr x.value))) xs

pub end-values : (s : Scope) (rows : List Row) (k start : Standing) (xs : List FieldValue) (i : ℕ) → length xs ≤ i → along_values s rows k (drop i xs) ≡ along_values s rows start xs → k ≡ follow s start (in_fields rows (plain_fields xs))
end-values s rows k start xs i h e = ap (along_values s rows k) (sym (drop_all i xs h)) ∙ e ∙ sym (along-values s rows start xs)

-- a list of commands
pub along-commands : (s : Scope) (rows : List Row) (k : Standing) (xs : List Command) → follow s k (in_commands rows (plain_commands xs)) ≡ along_commands s rows k xs
unfolding definitions syntax_definitions meaning_definitions
along-commands s rows k [] = refl
along-commands s rows k (x ∷ xs) = follow-append s k (in_command rows (plain_command x)) (in_commands rows (plain_commands xs)) ∙ along-commands s rows (follow s k (in_command rows (plain_command x))) xs

pub end-commands : (s : Scope) (rows : List Row) (k start : Standing) (xs : List Command) (i : ℕ) → length xs ≤ i → along_commands s rows k (drop i xs) ≡ along_commands s rows start xs → k ≡ follow s start (in_commands rows (plain_commands xs))
end-commands s rows k start xs i h e = ap (along_commands s rows k) (sym (drop_all i xs h)) ∙ e ∙ sym (along-commands s rows start xs)

pub ruleset walks = (views, follow-none, follow-one, follow-append, in-Literal, in-Name, in-Read, in-Sum, in-Product, in-Neg, in-Field, in-Row, in-Count, in-Total, in-True, in-Not, in-Comparison, in-Skip, in-Assign, in-Write, in-Print, in-If, in-Block, in-SetField, in-SetRow, in-Foreach, in-Insert, in-Delete, in-Update, in-Abort, along-exprs, along-tests, along-values, along-commands, named-plain)
