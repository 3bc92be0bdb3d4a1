-- The text of a certificate in shape reads back as its JSON value.
use Rattle.homeo_plan.specs.Key.{definitions as plan_definitions}
use Rattle.homeo_certificate.specs.Key.{definitions}
use Rattle.std.proofs.Common.{◌≡◌, ℕ, suc, ◌<◌, ◌≤◌, ◌^◌, Bool, true, false, List, [], ◌∷◌, map, length, ℤ, pos, negsuc, neg_ℤ, Some, option_and_then, option_map, IsUtf8, refl, sym, ap, ◌∙◌, subst, arith, append-nil, ◌⊎◌, inl, inr}
use Rattle.std.specs.Prelude.{codes}
use Rattle.std.proofs.lemmas.Int.{ints}
use Rattle.std.proofs.lemmas.Bool.{cases_lt}
use Rattle.std.specs.Fmt.{signed_decimal, digits}
use Rattle.std.proofs.lemmas.Fmt.{IsAscii-decimal, IsAscii-signed}
use Rattle.std.proofs.lemmas.Str.{IsUtf8-append, IsUtf8-from_ascii}
use Rattle.json.specs.Json as json
use Rattle.json.specs.Print.{IsNumber, quoted}
use Rattle.json.specs.Tree as tree
use Rattle.json.proofs.OnLiterals.{json_on_literals}
use Rattle.json.proofs.Printed.Decimals.{IsNumber-decimal, IsNumber-signed_decimal}
use Rattle.json.proofs.Printed.Tokens.{tokens-print}
use Rattle.json.proofs.Printed.Trees.{value-json_tokens, ArePrintable-json_tokens}
use Rattle.json.proofs.Printed.Utf8.{are_ascii, IsUtf8-are_ascii, IsUtf8-quoted}
use Rattle.serde_json.specs.Data.{negative, Data, number, string, array, object, Items, item, Members, no_members, member, put}
use Rattle.serde_json.specs.Read.{of_json, of_items, of_members, read, max_depth}
use Rattle.serde_json.specs.View.{items_of}
use Rattle.serde_json.specs.Written.{outline, items_outline, members_outline, comma_if, compact_text, items_text, members_text}
use Rattle.serde_json.proofs.Numbers.{number_of-decimal, number_of-negative}
use Rattle.serde_json.proofs.Texts.{print-outline}
use Rattle.homeo_plan.specs.Each.{Each}
use Rattle.homeo_syntax.specs.declared.phrase.Compare.{Compare}
use Rattle.homeo_syntax.specs.declared.phrase.Compare.TheVariants.{Less, LessEqual, Equal}
use Rattle.homeo_syntax.specs.declared.low.Temp.{Temp}
use Rattle.homeo_syntax.specs.declared.low.Temp.TheVariants.{Named, Fresh}
use Rattle.homeo_certificate.specs.Certificate.{Call, Certificate}
use Rattle.homeo_certificate.specs.declared.nodes.Node.{Node}
use Rattle.homeo_certificate.specs.declared.nodes.Node.TheVariants as node
use Rattle.homeo_certificate.specs.Json.{whole_data, list_data, wholes_data, named, temp_data, compare_data, node_data}
use Rattle.homeo_certificate.specs.Nodes.{command_nodes}
use Rattle.homeo_certificate.proofs.NodesInShape.{nodes_in_shape}
use Rattle.homeo_plan.specs.declared.forms.Delta.{Delta}
use Rattle.homeo_plan.specs.declared.forms.Term.{Term}
use Rattle.homeo_plan.specs.Template.{Clause}
use Rattle.homeo_certificate.specs.Shape.{IsWord, DeltaInShape, TermInShape, ClauseInShape, TempInShape, CallInShape, InShape}
use Rattle.homeo_certificate.specs.Text.{delta_data, term_data, clause_data, call_data, certificate_data, text_of, IsJsonOf}
use Rattle.homeo_certificate.specs.NodeShapes.{NodeInShape}

-- a value whose text can be written and read back, and nests at most n deep
pub record Plain (n : ℕ) (d : Data) : Type 0 where
  pub reads : of_json (outline d) ≡ Some d
  pub numbers : tree.HasNumbers (outline d)
  pub deep : tree.depth (outline d) ≤ n
  pub utf8 : IsUtf8 (compact_text d)

record PlainItems (n : ℕ) (ds : Items) : Type 0 where
  pub reads : of_items (items_outline ds) ≡ Some ds
  pub numbers : tree.ItemsHaveNumbers (items_outline ds)
  pub deep : tree.items_depth (items_outline ds) ≤ n
  pub utf8 : (later : Bool) → IsUtf8 (items_text later ds)

pub comma_utf8 : (later : Bool) → IsUtf8 (comma_if later)
comma_utf8 true = IsUtf8-are_ascii (44 ∷ []) refl
comma_utf8 false = IsUtf8-are_ascii [] refl

plain_items : (n : ℕ) (ds : List Data) → Each (Plain n) ds → PlainItems n (items_of ds)
unfolding plan_definitions
plain_items n [] h =
    record { reads = refl; numbers = tt; deep = omega arith; utf8 = λ later. IsUtf8-are_ascii (93 ∷ []) refl }
plain_items n (d ∷ ds) h =
    let k = plain_items n ds h.1 in
    let p = h.0 in
    record {
      reads =
          ap (option_and_then (λ a. option_map (item a) (of_items (items_outline (items_of ds))))) p.reads
          ∙ ap (option_map (item d)) k.reads;
      numbers = (p.numbers, k.numbers);
      deep = omega (arith, p.deep, k.deep);
      utf8 = λ later. IsUtf8-append (comma_if later) _ (comma_utf8 later) (IsUtf8-append (compact_text d) _ p.utf8 (k.utf8 true));
    }

pub plain_list : (n : ℕ) (ds : List Data) → Each (Plain n) ds → Plain (suc n) (list_data ds)
plain_list n ds h =
    let k = plain_items n ds h in
    record {
      reads = ap (option_map array) k.reads;
      numbers = k.numbers;
      deep = omega (arith, k.deep);
      utf8 = IsUtf8-append (91 ∷ []) (items_text false (items_of ds)) (IsUtf8-are_ascii (91 ∷ []) refl) (k.utf8 false);
    }

-- ---- numbers
least : ℤ
least = neg_ℤ (pos (2 ^ 63))

plain_negative : (n : ℕ) → n < 2 ^ 63 → (suc n < 2 ^ 63) ⊎ (suc n ≡ 2 ^ 63) → Plain 0 (number (negative (negsuc n)))
unfolding digits json_on_literals
plain_negative n h (inl q) =
    record {
      reads = ap (option_map number) (number_of-negative n h);
      numbers = IsNumber-signed_decimal (negsuc n) (omega arith);
      deep = omega arith;
      utf8 = IsUtf8-from_ascii _ (IsAscii-signed (negsuc n) (omega arith));
    }
plain_negative n h (inr q) =
    record {
      reads = ap (option_map number) (number_of-negative n h);
      numbers = subst (λ m. IsNumber (signed_decimal (negsuc m))) (sym e) refl;
      deep = omega arith;
      utf8 = subst (λ m. IsUtf8 (signed_decimal (negsuc m))) (sym e) (IsUtf8-are_ascii _ refl);
    }
  where
    e : n ≡ 9223372036854775807
    e = omega (arith, q)

small_or_least : (n : ℕ) → n < 2 ^ 63 → (suc n < 2 ^ 63) ⊎ (suc n ≡ 2 ^ 63)
small_or_least n h = elim (cases_lt (suc n) (2 ^ 63)) [ inl l ↦ inl l | inr l ↦ inr (omega arith) ]

pub plain_whole : (n : ℤ) → IsWord n → Plain 0 (whole_data n)
plain_whole (pos n) h =
    let q : n < 2 ^ 64 = grind (arith, ints, h.high) in
    record {
      reads = ap (option_map number) (number_of-decimal n q);
      numbers = IsNumber-decimal n q;
      deep = omega arith;
      utf8 = IsUtf8-from_ascii _ (IsAscii-decimal n q);
    }
plain_whole (negsuc n) h =
    let q : n < 2 ^ 63 = grind (arith, ints, h.low) in
    plain_negative n q (small_or_least n q)

each_of_map : {X : Type 0} (P : X → Type 0) (Q : Data → Type 0) (f : X → Data) → ((x : X) → P x → Q (f x)) → (xs : List X) → Each P xs → Each Q (map f xs)
unfolding plan_definitions
each_of_map P Q f g [] h = tt
each_of_map P Q f g (x ∷ xs) h = (g x h.0, each_of_map P Q f g xs h.1)

pub plain_wholes : (ns : List ℤ) → Each IsWord ns → Plain 1 (wholes_data ns)
plain_wholes ns h = plain_list 0 (map whole_data ns) (each_of_map IsWord (Plain 0) whole_data plain_whole ns h)

pub plain_string : (s : List ℕ) → IsUtf8 s → Plain 0 (string s)
plain_string s u = record { reads = refl; numbers = tt; deep = omega arith; utf8 = IsUtf8-quoted s u }

-- ---- objects
-- the members put into others, one after another
abbrev put_each : Members → Members → Members
put_each no_members found = found
put_each (member k d ms) found = put_each ms (put k d found)

record PlainMembers (n : ℕ) (ms : Members) : Type 0 where
  pub reads : (found : Members) → of_members (members_outline ms) found ≡ Some (put_each ms found)
  pub numbers : tree.MembersHaveNumbers (members_outline ms)
  pub deep : tree.members_depth (members_outline ms) ≤ n
  pub utf8 : (later : Bool) → IsUtf8 (members_text later ms)

no_more : (n : ℕ) → PlainMembers n no_members
no_more n =
    record { reads = λ found. refl; numbers = tt; deep = omega arith; utf8 = λ later. IsUtf8-are_ascii (125 ∷ []) refl }

one_more : (n : ℕ) (k : List ℕ) (d : Data) (ms : Members) → are_ascii k ≡ true → Plain n d → PlainMembers n ms → PlainMembers n (member k d ms)
one_more n k d ms u p h =
    record {
      reads = λ found.
          ap (option_and_then (λ e. of_members (members_outline ms) (put k e found))) p.reads ∙ h.reads (put k d found);
      numbers = (p.numbers, h.numbers);
      deep = omega (arith, p.deep, h.deep);
      utf8 = λ later.
          IsUtf8-append (comma_if later) _ (comma_utf8 later)
          (IsUtf8-append (quoted k) _ (IsUtf8-quoted k (IsUtf8-are_ascii k u))
          (IsUtf8-append (58 ∷ []) _ (IsUtf8-are_ascii (58 ∷ []) refl) (IsUtf8-append (compact_text d) _ p.utf8 (h.utf8 true))));
    }

-- of which the keys stand in order
plain_object : (n : ℕ) (ms : Members) → put_each ms no_members ≡ ms → PlainMembers n ms → Plain (suc n) (object ms)
plain_object n ms e h =
    record {
      reads = ap (option_map object) (h.reads no_members ∙ ap Some e);
      numbers = h.numbers;
      deep = omega (arith, h.deep);
      utf8 = IsUtf8-append (123 ∷ []) (members_text false ms) (IsUtf8-are_ascii (123 ∷ []) refl) (h.utf8 false);
    }

word_of : (n : ℕ) → n < 2 ^ 63 → IsWord (pos n)
word_of n h = record { low = grind (arith, ints); high = grind (arith, ints, h) }

-- ---- certificates in shape
wider : (m n : ℕ) (d : Data) → m ≤ n → Plain m d → Plain n d
wider m n d l p = record { reads = p.reads; numbers = p.numbers; deep = omega (arith, l, p.deep); utf8 = p.utf8 }

plain_term : (n k : ℕ) → n ≤ 1024 → k ≤ 16 → (t : Term) → TermInShape n k t → Plain 1 (term_data t)
unfolding plan_definitions
plain_term n k l m t h =
    plain_wholes (pos t.delta.object ∷ pos t.delta.site ∷ t.factor ∷ [])
    (word_of t.delta.object (omega (arith, h.delta.object)), (word_of t.delta.site (omega (arith, h.delta.site)), (h.factor, tt)))

plain_delta : (n k : ℕ) → n ≤ 1024 → k ≤ 16 → (d : Delta) → DeltaInShape n k d → Plain 1 (delta_data d)
unfolding plan_definitions
plain_delta n k l m d h =
    plain_wholes (pos d.object ∷ pos d.site ∷ [])
    (word_of d.object (omega (arith, h.object)), (word_of d.site (omega (arith, h.site)), tt))

plain_clause : (n k : ℕ) → n ≤ 1024 → k ≤ 16 → (c : Clause) → ClauseInShape n k c → Plain 3 (clause_data c)
plain_clause n k l m c h =
    plain_object 2 _ refl
    (one_more 2 (codes "slack") _ _ refl (wider 0 2 _ (omega arith) (plain_whole c.slack h.slack))
    (one_more 2 (codes "terms") _ _ refl
    (plain_list 1 (map term_data c.terms) (each_of_map _ (Plain 1) term_data (plain_term n k l m) c.terms h.terms)) (no_more 2)))

-- ---- commands
plain_named : (name : List ℕ) (ns : List ℤ) → are_ascii name ≡ true → Each IsWord ns → Plain 1 (named name ns)
unfolding plan_definitions
plain_named name ns e h =
    plain_list 0 (string name ∷ map whole_data ns)
    (plain_string name (IsUtf8-are_ascii name e), each_of_map IsWord (Plain 0) whole_data plain_whole ns h)

counted : (name : List ℕ) (m : ℕ) → are_ascii name ≡ true → m < 2 ^ 63 → Plain 1 (named name (pos m ∷ []))
unfolding plan_definitions
counted name m e h = plain_named name (pos m ∷ []) e (word_of m h, tt)

placed : (name : List ℕ) (x j : ℕ) → are_ascii name ≡ true → x < 2 ^ 63 → j < 2 ^ 63 → Plain 1 (named name (pos x ∷ pos j ∷ []))
unfolding plan_definitions
placed name x j e h k = plain_named name (pos x ∷ pos j ∷ []) e (word_of x h, (word_of j k, tt))

alone : (name : List ℕ) → are_ascii name ≡ true → Plain 1 (named name [])
unfolding plan_definitions
alone name e = plain_named name [] e tt

module _ (n k : ℕ) (few : n ≤ 1024) (sites : k ≤ 16) where
  plain_temp : (t : Temp) → TempInShape n k t → Plain 1 (temp_data t)
  unfolding definitions
  plain_temp (Named m) h = counted (codes "named") m refl (omega (arith, h))
  plain_temp (Fresh m) h = counted (codes "fresh") m refl (omega (arith, h))

  plain_compare : (op : Compare) → Plain 1 (compare_data op)
  unfolding definitions
  plain_compare Less = alone (codes "<") refl
  plain_compare LessEqual = alone (codes "<=") refl
  plain_compare Equal = alone (codes "=") refl

  plain_node : (m : Node) → NodeInShape n k m → Plain 1 (node_data m)
  unfolding definitions plan_definitions
  plain_node node.Skip h = alone (codes "skip") refl
  plain_node node.Assign h = alone (codes "assign") refl
  plain_node (node.Write x j) h = placed (codes "write") x j refl (omega (arith, h.0, few)) (omega (arith, h.1, sites))
  plain_node node.Print h = alone (codes "print") refl
  plain_node (node.Seq m) h = counted (codes "seq") m refl h
  plain_node (node.If m) h = counted (codes "if") m refl h
  plain_node node.True h = alone (codes "true") refl
  plain_node (node.Not m) h = counted (codes "not") m refl h
  plain_node (node.Comparison op) h = plain_compare op
  plain_node (node.Temp t) h = plain_temp t h
  plain_node (node.Literal m) h = plain_named (codes "lit") (m ∷ []) refl (h, tt)
  plain_node (node.Base x) h = counted (codes "base") x refl (omega (arith, h, few))
  plain_node (node.Delta x j) h = placed (codes "delta") x j refl (omega (arith, h.0, few)) (omega (arith, h.1, sites))
  plain_node (node.Sum m) h = counted (codes "sum") m refl h
  plain_node (node.Product m) h = counted (codes "product") m refl h
  plain_node node.Neg h = alone (codes "neg") refl

  plain_call : (g : Call) → CallInShape n k g → Plain 3 (call_data g)
  plain_call g h =
      plain_object 2 _ refl
      (one_more 2 (codes "command") _ _ refl (plain_list 1 (map node_data (command_nodes g.command)) (each_of_map (NodeInShape n k) (Plain 1) node_data plain_node (command_nodes g.command) (nodes_in_shape n k g.command h.command)))
      (one_more 2 (codes "site") _ _ refl (wider 0 2 _ (omega arith) (plain_whole (pos g.site) (word_of g.site (omega (arith, h.site, sites))))) (no_more 2)))

plain_certificate : (c : Certificate) → InShape c → Plain 5 (certificate_data c)
plain_certificate c h =
    let n = length c.base in
    let l = h.few_objects in
    let m = h.few_sites in
    plain_object 4 _ refl
    (one_more 4 (codes "base") _ _ refl (wider 1 4 _ (omega arith) (plain_wholes c.base h.base))
    (one_more 4 (codes "bounds") _ _ refl
    (wider 2 4 _ (omega arith) (plain_list 1 (map wholes_data c.bounds) (each_of_map _ (Plain 1) wholes_data (λ b q. plain_wholes b q.words) c.bounds h.bounds)))
    (one_more 4 (codes "calls") _ _ refl (plain_list 3 (map call_data c.calls) (each_of_map _ (Plain 3) call_data (plain_call n c.sites l m) c.calls h.calls))
    (one_more 4 (codes "clauses") _ _ refl (plain_list 3 (map clause_data c.clauses) (each_of_map _ (Plain 3) clause_data (plain_clause n c.sites l m) c.clauses h.clauses))
    (one_more 4 (codes "freezes") _ _ refl
    (wider 2 4 _ (omega arith) (plain_list 1 (map delta_data c.freezes) (each_of_map _ (Plain 1) delta_data (plain_delta n c.sites l m) c.freezes h.freezes)))
    (one_more 4 (codes "sites") _ _ refl (wider 0 4 _ (omega arith) (plain_whole (pos c.sites) (word_of c.sites (omega (arith, m)))))
    (one_more 4 (codes "version") _ _ refl (wider 0 4 _ (omega arith) (plain_whole (pos 1) (word_of 1 (omega arith)))) (no_more 4))))))))

-- ---- texts
pub plain_reads : (n : ℕ) (d : Data) → n ≤ max_depth → Plain n d → IsJsonOf (compact_text d) d
plain_reads n d l p =
    record {
      utf8 = p.utf8;
      reads =
          ap read (sym (print-outline d))
          ∙ ap (λ ts. option_and_then of_json (option_and_then (λ q. json.if_last q.0 q.1) (json.value max_depth ts)))
          (tokens-print (tree.json_tokens (outline d)) (ArePrintable-json_tokens (outline d) p.numbers) ∙ sym (append-nil (tree.json_tokens (outline d))))
          ∙ ap (λ o. option_and_then of_json (option_and_then (λ q. json.if_last q.0 q.1) o))
          (value-json_tokens (outline d) max_depth [] (omega (arith, l, p.deep)))
          ∙ p.reads;
    }

pub text_reads : (c : Certificate) → InShape c → IsJsonOf (text_of c) (certificate_data c)
text_reads c h = plain_reads 5 (certificate_data c) (omega arith) (plain_certificate c h)
