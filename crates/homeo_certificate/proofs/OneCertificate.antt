-- A JSON value is that of at most one certificate in shape.
use Rattle.homeo_plan.specs.Key.{definitions as plan_definitions}
use Rattle.homeo_certificate.specs.Key.{definitions}
use Rattle.std.proofs.Common.{◌≡◌, ℕ, zero, suc, Bool, cond, List, [], ◌∷◌, map, length, ℤ, pos, negsuc, refl, sym, ap, ap₂, ◌∙◌, subst}
use Rattle.std.specs.Prelude.{codes}
use Rattle.std.specs.Str.{bytes_eq}
use Rattle.serde_json.specs.Data.{Num, unsigned, negative, float, Data, null, number, string, array, object, Items, no_items, item, Members, no_members, member}
use Rattle.serde_json.specs.View.{items_of}
use Rattle.homeo_lemmas.proofs.Lists.{cons_head, cons_tail}
use Rattle.homeo_syntax.specs.declared.phrase.Compare.TheVariants.{Less, LessEqual, Equal}
use Rattle.homeo_syntax.specs.declared.low.Temp.TheVariants.{Named, Fresh}
use Rattle.homeo_meaning.specs.Schema.{nat_of}
use Rattle.homeo_plan.specs.Each.{Each}
use Rattle.homeo_plan.specs.declared.forms.Delta.{Delta}
use Rattle.homeo_plan.specs.declared.forms.Term.{Term}
use Rattle.homeo_plan.specs.Template.{Clause}
use Rattle.homeo_certificate.specs.declared.nodes.Node.{Node}
use Rattle.homeo_certificate.specs.declared.nodes.Node.TheVariants as node
use Rattle.homeo_certificate.specs.Certificate.{Call, Certificate}
use Rattle.homeo_certificate.specs.Json.{whole_data, list_data, wholes_data, named, node_data}
use Rattle.homeo_certificate.specs.Nodes.{command_nodes}
use Rattle.homeo_certificate.specs.Shape.{CallInShape, InShape}
use Rattle.homeo_certificate.specs.Text.{delta_data, term_data, clause_data, call_data, certificate_data}
use Rattle.homeo_certificate.proofs.Unique.{one_command}

-- ---- numbers and lists, read back
pub num_back : Num → ℤ
num_back (unsigned n) = pos n
num_back (negative z) = z
num_back (float x) = pos 0

abbrev pub whole_back : Data → ℤ
unfolding num_back
whole_back (number n) = num_back n
whole_back _ = pos 0

abbrev pub items_back : Items → List Data
items_back no_items = []
items_back (item d ds) = d ∷ items_back ds

abbrev pub list_back : Data → List Data
list_back (array ds) = items_back ds
list_back _ = []

pub whole_same : (n : ℤ) → whole_back (whole_data n) ≡ n
unfolding num_back
whole_same (pos n) = refl
whole_same (negsuc n) = refl

items_same : (ds : List Data) → items_back (items_of ds) ≡ ds
items_same [] = refl
items_same (d ∷ ds) = ap (λ l. d ∷ l) (items_same ds)

-- a list whose items read back
pub each_same : {A : Type 0} (back : Data → A) (f : A → Data) → ((a : A) → back (f a) ≡ a) → (xs : List A) → map back (list_back (list_data (map f xs))) ≡ xs
each_same back f h xs = ap (map back) (items_same (map f xs)) ∙ go xs
  where
    go : (xs : List _) → map back (map f xs) ≡ xs
    go [] = refl
    go (x ∷ xs) = ap₂ ◌∷◌ (h x) (go xs)

abbrev pub wholes_back : Data → List ℤ
wholes_back d = map whole_back (list_back d)

pub wholes_same : (ns : List ℤ) → wholes_back (wholes_data ns) ≡ ns
wholes_same ns = each_same whole_back whole_data whole_same ns

pub same_naturals : (m n : ℕ) → whole_data (pos m) ≡ whole_data (pos n) → m ≡ n
unfolding num_back
same_naturals m n e = ap (λ d. nat_of (whole_back d)) e

pub same_wholes : (ns ms : List ℤ) → wholes_data ns ≡ wholes_data ms → ns ≡ ms
same_wholes ns ms e = sym (wholes_same ns) ∙ ap wholes_back e ∙ wholes_same ms

-- ---- nodes
abbrev pub text_back : Data → List ℕ
text_back (string s) = s
text_back _ = []

abbrev pub head_or : Data → List Data → Data
head_or d [] = d
head_or d (e ∷ es) = e

abbrev pub rest_of : List Data → List Data
rest_of [] = []
rest_of (d ∷ ds) = ds

abbrev pub first_of_two : List ℤ → ℕ
first_of_two [] = 0
first_of_two (n ∷ ns) = nat_of n

abbrev pub second_of_two : List ℤ → ℕ
second_of_two [] = 0
second_of_two (n ∷ ns) = first_of_two ns

abbrev pub whole_of_one : List ℤ → ℤ
whole_of_one [] = pos 0
whole_of_one (n ∷ ns) = n

abbrev pub is : List ℕ → List ℕ → Bool
is name s = bytes_eq name s

-- a node by its name and its numbers
abbrev pub node_from : List ℕ → List ℤ → Node
node_from name ns =
    cond (is name (codes "skip")) node.Skip
    (cond (is name (codes "assign")) node.Assign
    (cond (is name (codes "write")) (node.Write (first_of_two ns) (second_of_two ns))
    (cond (is name (codes "print")) node.Print
    (cond (is name (codes "seq")) (node.Seq (first_of_two ns))
    (cond (is name (codes "if")) (node.If (first_of_two ns))
    (cond (is name (codes "true")) node.True
    (cond (is name (codes "not")) (node.Not (first_of_two ns))
    (cond (is name (codes "<")) (node.Comparison Less)
    (cond (is name (codes "<=")) (node.Comparison LessEqual)
    (cond (is name (codes "=")) (node.Comparison Equal)
    (cond (is name (codes "named")) (node.Temp (Named (first_of_two ns)))
    (cond (is name (codes "fresh")) (node.Temp (Fresh (first_of_two ns)))
    (cond (is name (codes "lit")) (node.Literal (whole_of_one ns))
    (cond (is name (codes "base")) (node.Base (first_of_two ns))
    (cond (is name (codes "delta")) (node.Delta (first_of_two ns) (second_of_two ns))
    (cond (is name (codes "sum")) (node.Sum (first_of_two ns))
    (cond (is name (codes "product")) (node.Product (first_of_two ns)) node.Neg)))))))))))))))))

abbrev pub node_back : Data → Node
node_back d = node_from (text_back (head_or null (list_back d))) (map whole_back (rest_of (list_back d)))

two_back : (name : List ℕ) (x j : ℕ) → node_back (named name (pos x ∷ pos j ∷ [])) ≡ node_from name (pos x ∷ pos j ∷ [])
unfolding num_back
two_back name x j = refl

one_back : (name : List ℕ) (n : ℤ) → node_back (named name (n ∷ [])) ≡ node_from name (n ∷ [])
one_back name n = ap (λ m. node_from name (m ∷ [])) (whole_same n)

pub node_same : (m : Node) → node_back (node_data m) ≡ m
unfolding definitions num_back
node_same node.Skip = refl
node_same node.Assign = refl
node_same (node.Write x j) = refl
node_same node.Print = refl
node_same (node.Seq n) = refl
node_same (node.If n) = refl
node_same node.True = refl
node_same (node.Not n) = refl
node_same (node.Comparison Less) = refl
node_same (node.Comparison LessEqual) = refl
node_same (node.Comparison Equal) = refl
node_same (node.Temp (Named n)) = refl
node_same (node.Temp (Fresh n)) = refl
node_same (node.Literal n) = one_back (codes "lit") n
node_same (node.Base x) = refl
node_same (node.Delta x j) = refl
node_same (node.Sum n) = refl
node_same (node.Product n) = refl
node_same node.Neg = refl

-- ---- the parts of a certificate
abbrev number_at : ℕ → List ℤ → ℤ
number_at n [] = pos 0
number_at zero (m ∷ ms) = m
number_at (suc n) (m ∷ ms) = number_at n ms

abbrev delta_from : List ℤ → Delta
delta_from ns = record { object = nat_of (number_at 0 ns); site = nat_of (number_at 1 ns) }

delta_same : (d : Delta) → delta_from (wholes_back (delta_data d)) ≡ d
delta_same d = ap delta_from (wholes_same (pos d.object ∷ pos d.site ∷ []))

abbrev term_from : List ℤ → Term
term_from ns = record { delta = delta_from ns; factor = number_at 2 ns }

term_same : (t : Term) → term_from (wholes_back (term_data t)) ≡ t
term_same t = ap term_from (wholes_same (pos t.delta.object ∷ pos t.delta.site ∷ t.factor ∷ []))

-- lists with the same data
module _ {A : Type 0} (back : Data → A) (f : A → Data) (h : (a : A) → back (f a) ≡ a) where
  pub same_items : (xs ys : List A) → list_data (map f xs) ≡ list_data (map f ys) → xs ≡ ys
  same_items xs ys e = sym (each_same back f h xs) ∙ ap (λ d. map back (list_back d)) e ∙ each_same back f h ys

pub same_deltas : (ds es : List Delta) → list_data (map delta_data ds) ≡ list_data (map delta_data es) → ds ≡ es
same_deltas = same_items (λ d. delta_from (wholes_back d)) delta_data delta_same

pub same_terms : (ts us : List Term) → list_data (map term_data ts) ≡ list_data (map term_data us) → ts ≡ us
same_terms = same_items (λ d. term_from (wholes_back d)) term_data term_same

pub same_nodes : (ms ns : List Node) → list_data (map node_data ms) ≡ list_data (map node_data ns) → ms ≡ ns
same_nodes = same_items node_back node_data node_same

abbrev pub member_at : ℕ → Members → Data
member_at n no_members = null
member_at zero (member k d ms) = d
member_at (suc n) (member k d ms) = member_at n ms

abbrev pub value_at : ℕ → Data → Data
value_at n (object ms) = member_at n ms
value_at n _ = null

abbrev clause_back : Data → Clause
clause_back d = record {
  terms = map (λ e. term_from (wholes_back e)) (list_back (value_at 1 d));
  slack = whole_back (value_at 0 d);
}

clause_same : (c : Clause) → clause_back (clause_data c) ≡ c
clause_same c =
    let x = each_same (λ e. term_from (wholes_back e)) term_data term_same c.terms in
    let y = whole_same c.slack in
    λ i. record { terms = x i; slack = y i }

-- a call with its nodes
record Listed : Type 0 where
  pub site : ℕ
  pub nodes : List Node

abbrev listed : Call → Listed
listed g = record { site = g.site; nodes = command_nodes g.command }

abbrev call_back : Data → Listed
call_back d = record { site = nat_of (whole_back (value_at 1 d)); nodes = map node_back (list_back (value_at 0 d)) }

call_same : (g : Call) → call_back (call_data g) ≡ listed g
unfolding num_back
call_same g = let x = each_same node_back node_data node_same (command_nodes g.command) in λ i. record { site = g.site; nodes = x i }

map_same : {A B : Type 0} (f : A → Data) (back : Data → B) (g : A → B) → ((a : A) → back (f a) ≡ g a) → (xs : List A) → map back (list_back (list_data (map f xs))) ≡ map g xs
map_same f back g h xs = ap (map back) (items_same (map f xs)) ∙ go xs
  where
    go : (xs : List _) → map back (map f xs) ≡ map g xs
    go [] = refl
    go (x ∷ xs) = ap₂ ◌∷◌ (h x) (go xs)

one_call : (n k : ℕ) (g h : Call) → CallInShape n k g → CallInShape n k h → listed g ≡ listed h → g ≡ h
one_call n k g h p q e =
    let site = ap (λ (l : Listed). l.site) e in
    let command = one_command n k 1000 g.command h.command p.command q.command p.nesting q.nesting (ap (λ (l : Listed). l.nodes) e) in
    λ i. record { site = site i; command = command i }

one_list : (n k : ℕ) (gs hs : List Call) → Each (CallInShape n k) gs → Each (CallInShape n k) hs → map listed gs ≡ map listed hs → gs ≡ hs
unfolding plan_definitions
one_list n k [] [] p q e = refl
one_list n k [] (h ∷ hs) p q e = absurd cc
one_list n k (g ∷ gs) [] p q e = absurd cc
one_list n k (g ∷ gs) (h ∷ hs) p q e =
    ap₂ ◌∷◌ (one_call n k g h p.0 q.0 (cons_head (listed g) (listed h) _ _ e)) (one_list n k gs hs p.1 q.1 (cons_tail (listed g) (listed h) _ _ e))

pub one_certificate : (c d : Certificate) → InShape c → InShape d → certificate_data c ≡ certificate_data d → c ≡ d
unfolding num_back
one_certificate c d p q e =
    let base : c.base ≡ d.base = sym (wholes_same c.base) ∙ ap (λ x. wholes_back (value_at 0 x)) e ∙ wholes_same d.base in
    let bounds : c.bounds ≡ d.bounds =
    sym (each_same wholes_back wholes_data wholes_same c.bounds) ∙ ap (λ x. map wholes_back (list_back (value_at 1 x))) e
    ∙ each_same wholes_back wholes_data wholes_same d.bounds in
    let clauses : c.clauses ≡ d.clauses =
    sym (each_same clause_back clause_data clause_same c.clauses) ∙ ap (λ x. map clause_back (list_back (value_at 3 x))) e
    ∙ each_same clause_back clause_data clause_same d.clauses in
    let freezes : c.freezes ≡ d.freezes =
    sym (each_same (λ x. delta_from (wholes_back x)) delta_data delta_same c.freezes)
    ∙ ap (λ x. map (λ y. delta_from (wholes_back y)) (list_back (value_at 4 x))) e
    ∙ each_same (λ x. delta_from (wholes_back x)) delta_data delta_same d.freezes in
    let sites : c.sites ≡ d.sites = ap (λ x. nat_of (whole_back (value_at 5 x))) e in
    let calls : map listed c.calls ≡ map listed d.calls =
    sym (map_same call_data call_back listed call_same c.calls) ∙ ap (λ x. map call_back (list_back (value_at 2 x))) e
    ∙ map_same call_data call_back listed call_same d.calls in
    let there = subst (λ k. Each (CallInShape (length d.base) k) d.calls) (sym sites) q.calls in
    let same = one_list (length c.base) c.sites c.calls d.calls p.calls (subst (λ (b : List ℤ). Each (CallInShape (length b) c.sites) d.calls) (sym base) there) calls in
    λ i. record { sites = sites i; base = base i; clauses = clauses i; bounds = bounds i; freezes = freezes i; calls = same i }
