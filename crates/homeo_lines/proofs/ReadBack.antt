-- What is written of packets is read back.
use Rattle.homeo_plan.specs.Key.{definitions as plan_definitions}
use Rattle.std.proofs.Common.{◌≡◌, ℕ, suc, ◌+◌, ◌<◌, ◌≤◌, ◌^◌, nat_lt, nat_le, Bool, true, false, ◌&&◌, if◌then◌else◌, List, [], ◌∷◌, ◌++◌, map, length, ℤ, pos, negsuc, Option, Some, None, option_map, option_and_then, slice_get, IsUtf8, refl, sym, ap, ap₂, ◌∙◌, arith, append-nil, le-leb}
use Rattle.std.specs.Prelude.{codes}
use Rattle.std.proofs.lemmas.Bool.{lt-ltb, eq-eqb}
use Rattle.std.proofs.lemmas.Int.{ints}
use Rattle.std.proofs.lemmas.List.{length-map}
use Rattle.std.proofs.lemmas.Str.{IsUtf8-append}
use Rattle.json.specs.Json as json
use Rattle.json.specs.Print.{quoted}
use Rattle.json.specs.Tree as tree
use Rattle.json.proofs.Printed.Tokens.{tokens-print}
use Rattle.json.proofs.Printed.Trees.{value-json_tokens, ArePrintable-json_tokens}
use Rattle.json.proofs.Printed.Utf8.{are_ascii, IsUtf8-are_ascii, IsUtf8-quoted}
use Rattle.serde_json.specs.Data.{Data, null, string, array, object, Items, item, Members, no_members, put}
use Rattle.serde_json.specs.Find.{get, as_str}
use Rattle.serde_json.specs.Read.{of_json, of_items, of_members, read, max_depth}
use Rattle.serde_json.specs.View.{items_of}
use Rattle.serde_json.specs.Written.{outline, items_outline, members_outline, comma_if, compact_text, items_text, members_text}
use Rattle.serde_json.proofs.Texts.{print-outline}
use Rattle.homeo_syntax.specs.Source as s
use Rattle.homeo_meaning.specs.declared.call.CallId.{CallId}
use Rattle.homeo_plan.specs.declared.treaty.Broken.{Broken}
use Rattle.homeo_plan.specs.Each.{Each}
use Rattle.homeo_plan.specs.Planned.{sites_of}
use Rattle.homeo_plan.proofs.Covering.{each_map}
use Rattle.homeo_nodes.specs.declared.breach.Breach.{Breach}
use Rattle.homeo_nodes.specs.Nodes.{Said, Past, Packet, Want, Stop, State}
use Rattle.homeo_print.specs.Names.{object_names}
use Rattle.homeo_certificate.specs.Json.{whole_data, list_data, wholes_data}
use Rattle.homeo_certificate.specs.Text.{IsJsonOf}
use Rattle.homeo_certificate.proofs.TextReads.{Plain, plain_list, plain_whole, plain_string, comma_utf8}
use Rattle.homeo_lines.specs.Laws.{IsText}
use Rattle.homeo_lines.specs.SmallNumbers.{AreNamed, IsSmallCall, IsSmallFinding, IsSmallBreach, IsValue, IsSmallSaid, IsSmallState, IsSmall, AllSmall, IsSmallPast}
use Rattle.homeo_lines.specs.Lines as l
use Rattle.homeo_lines.specs.Members.{list, whole, integer, below, kept, value_of, text_at, list_at, number_at, small_at, each_from}
use Rattle.homeo_lines.specs.Named.{client_name, client_called, call_in, call_at}
use Rattle.homeo_lines.specs.Read.{finding_of, call_of, named_call_of, breach_of, values_of, database_at, calls_of, calls_in, said_of, stopped_of, all_said, past_of, message_by, message_of, line_of, or_malformed, IsReadAs}
use Rattle.homeo_lines.specs.Written.{Field, members_of, object_of, count_data, maybe_data, finding_data, call_data, breach_fields, calls_fields, said_fields, said_data, past_fields, body_data, line_data, line_json}
use Rattle.homeo_lines.proofs.Lists.{list_of-items_of}

-- ---- values whose text reads as another value: their members in order
pub record Becomes (n : ℕ) (d e : Data) : Type 0 where
  pub reads : of_json (outline d) ≡ Some e
  pub numbers : tree.HasNumbers (outline d)
  pub deep : tree.depth (outline d) ≤ n
  pub utf8 : IsUtf8 (compact_text d)

pub stays : (m n : ℕ) (d : Data) → m ≤ n → Plain m d → Becomes n d d
stays m n d l p = record { reads = p.reads; numbers = p.numbers; deep = omega (arith, l, p.deep); utf8 = p.utf8 }

pub deeper : (m n : ℕ) (d e : Data) → m ≤ n → Becomes m d e → Becomes n d e
deeper m n d e l p = record { reads = p.reads; numbers = p.numbers; deep = omega (arith, l, p.deep); utf8 = p.utf8 }

pub null_stays : (n : ℕ) → Becomes n null null
null_stays n = record { reads = refl; numbers = tt; deep = omega arith; utf8 = IsUtf8-are_ascii _ refl }

-- the text is JSON of the other value
pub becomes_json : (n : ℕ) (d e : Data) → n ≤ max_depth → Becomes n d e → IsJsonOf (compact_text d) e
becomes_json n d e l p =
    record {
      utf8 = p.utf8;
      reads =
          ap read (sym (print-outline d))
          ∙ ap (λ ts. option_and_then of_json (option_and_then (λ q. json.if_last q.0 q.1) (json.value max_depth ts)))
          (tokens-print (tree.json_tokens (outline d)) (ArePrintable-json_tokens (outline d) p.numbers) ∙ sym (append-nil (tree.json_tokens (outline d))))
          ∙ ap (λ o. option_and_then of_json (option_and_then (λ q. json.if_last q.0 q.1) o))
          (value-json_tokens (outline d) max_depth [] (omega (arith, l, p.deep)))
          ∙ p.reads;
    }

-- ---- lists
record ItemsBecome (n : ℕ) (ds es : Items) : Type 0 where
  pub reads : of_items (items_outline ds) ≡ Some es
  pub numbers : tree.ItemsHaveNumbers (items_outline ds)
  pub deep : tree.items_depth (items_outline ds) ≤ n
  pub utf8 : (later : Bool) → IsUtf8 (items_text later ds)

items_become : {X : Type 0} (n : ℕ) (f g : X → Data) (xs : List X) → Each (λ x. Becomes n (f x) (g x)) xs → ItemsBecome n (items_of (map f xs)) (items_of (map g xs))
unfolding plan_definitions
items_become n f g [] h =
    record { reads = refl; numbers = tt; deep = omega arith; utf8 = λ later. IsUtf8-are_ascii (93 ∷ []) refl }
items_become n f g (x ∷ xs) h =
    let k = items_become n f g xs h.1 in
    let p = h.0 in
    record {
      reads =
          ap (option_and_then (λ a. option_map (item a) (of_items (items_outline (items_of (map f xs)))))) p.reads
          ∙ ap (option_map (item (g x))) k.reads;
      numbers = (p.numbers, k.numbers);
      deep = omega (arith, p.deep, k.deep);
      utf8 = λ later. IsUtf8-append (comma_if later) _ (comma_utf8 later) (IsUtf8-append (compact_text (f x)) _ p.utf8 (k.utf8 true));
    }

pub list_becomes : {X : Type 0} (n : ℕ) (f g : X → Data) (xs : List X) → Each (λ x. Becomes n (f x) (g x)) xs → Becomes (suc n) (list_data (map f xs)) (list_data (map g xs))
list_becomes n f g xs h =
    let k = items_become n f g xs h in
    record {
      reads = ap (option_map array) k.reads;
      numbers = k.numbers;
      deep = omega (arith, k.deep);
      utf8 = IsUtf8-append (91 ∷ []) (items_text false (items_of (map f xs))) (IsUtf8-are_ascii (91 ∷ []) refl) (k.utf8 false);
    }

-- ---- objects
abbrev pub put_fields : List Field → Members → Members
put_fields [] found = found
put_fields (f ∷ fs) found = put_fields fs (put f.0 f.1 found)

-- the members in order
abbrev pub settled : List Field → Data
settled fs = object (put_fields fs no_members)

pub record FieldsBecome (n : ℕ) (fs gs : List Field) : Type 0 where
  pub reads : (found : Members) → of_members (members_outline (members_of fs)) found ≡ Some (put_fields gs found)
  pub numbers : tree.MembersHaveNumbers (members_outline (members_of fs))
  pub deep : tree.members_depth (members_outline (members_of fs)) ≤ n
  pub utf8 : (later : Bool) → IsUtf8 (members_text later (members_of fs))

pub no_fields : (n : ℕ) → FieldsBecome n [] []
no_fields n = record { reads = λ found. refl; numbers = tt; deep = omega arith; utf8 = λ later. IsUtf8-are_ascii (125 ∷ []) refl }

pub more_fields :
    (n : ℕ) (k : List ℕ) (d e : Data) (fs gs : List Field) → are_ascii k ≡ true → Becomes n d e → FieldsBecome n fs gs →
    FieldsBecome n ((k, d) ∷ fs) ((k, e) ∷ gs)
more_fields n k d e fs gs u p h =
    record {
      reads = λ found.
          ap (option_and_then (λ a. of_members (members_outline (members_of fs)) (put k a found))) p.reads ∙ h.reads (put k e found);
      numbers = (p.numbers, h.numbers);
      deep = omega (arith, p.deep, h.deep);
      utf8 = λ later.
          IsUtf8-append (comma_if later) _ (comma_utf8 later)
          (IsUtf8-append (quoted k) _ (IsUtf8-quoted k (IsUtf8-are_ascii k u))
          (IsUtf8-append (58 ∷ []) _ (IsUtf8-are_ascii (58 ∷ []) refl) (IsUtf8-append (compact_text d) _ p.utf8 (h.utf8 true))));
    }

pub object_becomes : (n : ℕ) (fs gs : List Field) → FieldsBecome n fs gs → Becomes (suc n) (object_of fs) (settled gs)
object_becomes n fs gs h =
    record {
      reads = ap (option_map object) (h.reads no_members);
      numbers = h.numbers;
      deep = omega (arith, h.deep);
      utf8 = IsUtf8-append (123 ∷ []) (members_text false (members_of fs)) (IsUtf8-are_ascii (123 ∷ []) refl) (h.utf8 false);
    }

-- ---- numbers
below_is : (end n : ℕ) → n < end → below end n ≡ Some n
below_is end n h = ap (λ b. if b then Some n else None) (lt-ltb n end h)

pub count_stays : (n : ℕ) → n < 2 ^ 63 → Plain 0 (count_data n)
count_stays n h = plain_whole (pos n) (record { low = grind (arith, ints); high = grind (arith, ints, h) })

value_stays : (n : ℤ) → IsValue n → Plain 0 (whole_data n)
value_stays n h =
    let low = h.low in
    let high = h.high in
    plain_whole n (record { low = grind (arith, ints, low); high = grind (arith, ints, high) })

pub number_is : (key : List ℕ) (d : Data) (n : ℕ) → get key d ≡ Some (count_data n) → n < 2 ^ 53 → number_at key d ≡ Some n
number_is key d n e h = ap (λ o. option_and_then (below (2 ^ 53)) (option_and_then whole o)) e ∙ below_is (2 ^ 53) n h

pub small_is : (key : List ℕ) (d : Data) (n : ℕ) → get key d ≡ Some (count_data n) → n < 2 ^ 32 → small_at key d ≡ Some n
small_is key d n e h = ap (option_and_then (below (2 ^ 32))) (number_is key d n e (omega (arith, h))) ∙ below_is (2 ^ 32) n h

integer_is : (n : ℤ) → integer (whole_data n) ≡ Some n
integer_is (pos n) = refl
integer_is (negsuc n) = refl

kept_is : (n : ℤ) → IsValue n → kept n ≡ Some n
kept_is n h = ap₂ (λ a b. if a && b then Some n else None) h.low h.high

value_is : (n : ℤ) → IsValue n → value_of (whole_data n) ≡ Some n
value_is (pos n) h =
    let high = h.high in
    ap (λ b. option_and_then kept (if b then Some (pos n) else None)) (lt-ltb n (2 ^ 63) (grind (arith, ints, high))) ∙ kept_is (pos n) h
value_is (negsuc n) h = kept_is (negsuc n) h

values_are : (k : ℕ) (ns : List ℤ) → Each IsValue ns → each_from (λ _. value_of) k (map whole_data ns) ≡ Some ns
unfolding plan_definitions
values_are k [] h = refl
values_are k (n ∷ ns) h =
    ap (option_and_then (λ y. option_map (λ ys. y ∷ ys) (each_from (λ _. value_of) (suc k) (map whole_data ns)))) (value_is n h.0)
    ∙ ap (option_map (λ ys. n ∷ ys)) (values_are (suc k) ns h.1)

pub list_is : (ds : List Data) → list (list_data ds) ≡ Some ds
list_is ds = ap Some (list_of-items_of ds)

-- ---- findings and calls
pub finding_stays : (b : Broken) → IsSmallFinding b → Plain 1 (finding_data b)
unfolding plan_definitions
finding_stays b h =
    plain_list 0 (count_data b.clause ∷ whole_data b.sum ∷ whole_data b.bound ∷ [])
    (count_stays b.clause (omega (arith, h.clause)), (plain_whole b.sum h.sum, (plain_whole b.bound h.bound, tt)))

abbrev found : ℕ → ℤ → ℤ → Option Broken
found clause sum bound = Some (record { clause = clause; sum = sum; bound = bound })

pub finding_is : (b : Broken) → IsSmallFinding b → finding_of (finding_data b) ≡ Some b
finding_is b h =
    ap (option_and_then (λ clause. option_and_then (λ sum. option_and_then (λ bound. found clause sum bound) (integer (whole_data b.bound))) (integer (whole_data b.sum))))
    (below_is (2 ^ 32) b.clause h.clause)
    ∙ ap (option_and_then (λ sum. option_and_then (λ bound. found b.clause sum bound) (integer (whole_data b.bound)))) (integer_is b.sum)
    ∙ ap (option_and_then (λ bound. found b.clause b.sum bound)) (integer_is b.bound)

module _ (w : s.Workload) (names : AreNamed w) where
  call_stays : (site : ℕ) (c : CallId) → IsSmallCall w site c → Plain 1 (call_data w c)
  unfolding plan_definitions
  call_stays site c h =
      plain_list 0 (string (client_name w c.client) ∷ count_data c.seq ∷ [])
      (plain_string (client_name w c.client) (names.text c.client), (count_stays c.seq (omega (arith, h.small)), tt))

  client_is : (site : ℕ) (c : CallId) → call_at w site c.client c.seq ≡ Some c → client_called w (client_name w c.client) ≡ Some c.client
  client_is site c e = go (slice_get w.clients c.client) refl
    where
      go : (o : Option s.Client) → slice_get w.clients c.client ≡ o → client_called w (client_name w c.client) ≡ Some c.client
      go None q = let never : None ≡ Some c = sym (ap (option_and_then (call_in site c.client c.seq)) q) ∙ e in absurd cc
      go (Some x) q = names.first c.client x q

  called_is :
      (site : ℕ) (c : CallId) (seq : Option ℕ) → IsSmallCall w site c → seq ≡ Some c.seq →
      option_and_then (λ client. option_and_then (call_at w site client) seq) (client_called w (client_name w c.client)) ≡ Some c
  called_is site c seq h e =
      ap (option_and_then (λ client. option_and_then (call_at w site client) seq)) (client_is site c h.listed)
      ∙ ap (option_and_then (call_at w site c.client)) e ∙ h.listed

  pub named_call_is :
      (site : ℕ) (c : CallId) (d : Data) → IsSmallCall w site c → get (codes "client") d ≡ Some (string (client_name w c.client)) →
      get (codes "call") d ≡ Some (count_data c.seq) → named_call_of w site d ≡ Some c
  named_call_is site c d h e f =
      ap (λ o. option_and_then (λ name. option_and_then (λ client. option_and_then (call_at w site client) (number_at (codes "call") d)) (client_called w name)) (option_and_then as_str o)) e
      ∙ called_is site c (number_at (codes "call") d) h (number_is (codes "call") d c.seq f h.small)

  call_is : (site : ℕ) (c : CallId) → IsSmallCall w site c → call_of w site (call_data w c) ≡ Some c
  call_is site c h = called_is site c (Some c.seq) h refl

  calls_are : (site k : ℕ) (cs : List CallId) → Each (IsSmallCall w site) cs → each_from (λ _. call_of w site) k (map (call_data w) cs) ≡ Some cs
  unfolding plan_definitions
  calls_are site k [] h = refl
  calls_are site k (c ∷ cs) h =
      ap (option_and_then (λ y. option_map (λ ys. y ∷ ys) (each_from (λ _. call_of w site) (suc k) (map (call_data w) cs)))) (call_is site c h.0)
      ∙ ap (option_map (λ ys. c ∷ ys)) (calls_are site (suc k) cs h.1)

  -- ---- breaches
  pub breach_is :
      (b : Breach) (d : Data) → IsSmallBreach w b → get (codes "round") d ≡ Some (count_data b.round) → get (codes "site") d ≡ Some (count_data b.site) →
      get (codes "client") d ≡ Some (string (client_name w b.call.client)) → get (codes "call") d ≡ Some (count_data b.call.seq) →
      get (codes "finding") d ≡ Some (finding_data b.broken) → breach_of w d ≡ Some b
  breach_is b d h e1 e2 e3 e4 e5 =
      ap (option_and_then (λ round. option_and_then (λ site. option_and_then (λ call. option_and_then (λ broken. made round site call broken) (option_and_then finding_of (get (codes "finding") d))) (named_call_of w site d)) (small_at (codes "site") d)))
      (number_is (codes "round") d b.round e1 h.round)
      ∙ ap (option_and_then (λ site. option_and_then (λ call. option_and_then (λ broken. made b.round site call broken) (option_and_then finding_of (get (codes "finding") d))) (named_call_of w site d)))
      (small_is (codes "site") d b.site e2 h.site)
      ∙ ap (option_and_then (λ call. option_and_then (λ broken. made b.round b.site call broken) (option_and_then finding_of (get (codes "finding") d))))
      (named_call_is b.site b.call d h.call e3 e4)
      ∙ ap (λ o. option_and_then (λ broken. made b.round b.site b.call broken) (option_and_then finding_of o)) e5
      ∙ ap (option_and_then (λ broken. made b.round b.site b.call broken)) (finding_is b.broken h.broken)
    where
      made : ℕ → ℕ → CallId → Broken → Option Breach
      made round site call broken = Some (record { round = round; site = site; call = call; broken = broken })

  pub breach_stays : (n : ℕ) (b : Breach) (fs gs : List Field) → IsSmallBreach w b → 1 ≤ n → FieldsBecome n fs gs → FieldsBecome n (breach_fields w b ++ fs) (breach_fields w b ++ gs)
  breach_stays n b fs gs h few rest =
      more_fields n (codes "round") _ _ _ _ refl (stays 0 n _ (omega arith) (count_stays b.round (omega (arith, h.round))))
      (more_fields n (codes "site") _ _ _ _ refl (stays 0 n _ (omega arith) (count_stays b.site (omega (arith, h.site))))
      (more_fields n (codes "client") _ _ _ _ refl (stays 0 n _ (omega arith) (plain_string (client_name w b.call.client) (names.text b.call.client)))
      (more_fields n (codes "call") _ _ _ _ refl (stays 0 n _ (omega arith) (count_stays b.call.seq (omega (arith, h.call.small))))
      (more_fields n (codes "finding") _ _ _ _ refl (stays 1 n _ few (finding_stays b.broken h.broken)) rest))))

  -- ---- what sites say
  abbrev calls_got : List CallId → Option Data
  calls_got [] = None
  calls_got (c ∷ cs) = Some (list_data (map (call_data w) (c ∷ cs)))

  calls_in_are : (site : ℕ) (cs : List CallId) → length cs ≤ 64 → Each (IsSmallCall w site) cs → calls_in w site (calls_got cs) ≡ Some cs
  calls_in_are site [] few h = refl
  calls_in_are site (c ∷ cs) few h =
      let all = c ∷ cs in
      ap (option_and_then (calls_of w site)) (list_is (map (call_data w) all))
      ∙ ap (λ b. if b then each_from (λ _. call_of w site) 0 (map (call_data w) all) else None)
      (ap (λ n. nat_le n 64) (length-map all (call_data w)) ∙ le-leb (length all) 64 few)
      ∙ calls_are site 0 all h

  pub database_is :
      (key : List ℕ) (d : Data) (ns : List ℤ) → length ns ≡ length (object_names w) → Each IsValue ns → get key d ≡ Some (wholes_data ns) →
      database_at w key d ≡ Some ns
  database_is key d ns all h e =
      ap (λ o. option_and_then (values_of w) (option_and_then list o)) e
      ∙ ap (option_and_then (values_of w)) (list_is (map whole_data ns))
      ∙ ap (λ b. if b then each_from (λ _. value_of) 0 (map whole_data ns) else None)
      (eq-eqb (length (map whole_data ns)) (length (object_names w)) (length-map ns whole_data ∙ all))
      ∙ values_are 0 ns h

  pub said_is :
      (site : ℕ) (x : Said) (d : Data) → IsSmallSaid w site x → get (codes "deltas") d ≡ Some (wholes_data x.deltas) →
      get (codes "calls") d ≡ calls_got x.calls → said_of w site d ≡ Some x
  said_is site x d h e f =
      ap (option_and_then (λ deltas. option_and_then (λ calls. made deltas calls) (calls_in w site (get (codes "calls") d))))
      (database_is (codes "deltas") d x.deltas h.deltas h.values e)
      ∙ ap (λ o. option_and_then (λ calls. made x.deltas calls) (calls_in w site o)) f
      ∙ ap (option_and_then (λ calls. made x.deltas calls)) (calls_in_are site x.calls h.few h.calls)
    where
      made : List ℤ → List CallId → Option Said
      made deltas calls = Some (record { deltas = deltas; calls = calls })

  pub deltas_stay : (ns : List ℤ) → Each IsValue ns → Becomes 1 (wholes_data ns) (wholes_data ns)
  deltas_stay ns h = list_becomes 0 whole_data whole_data ns (each_map IsValue (λ n. Becomes 0 (whole_data n) (whole_data n)) (λ n v. stays 0 0 (whole_data n) (omega arith) (value_stays n v)) ns h)

  calls_stay : (n site : ℕ) (cs : List CallId) → Each (IsSmallCall w site) cs → 2 ≤ n → FieldsBecome n (calls_fields w cs) (calls_fields w cs)
  calls_stay n site [] h few = no_fields n
  calls_stay n site (c ∷ cs) h few =
      more_fields n (codes "calls") _ _ _ _ refl
      (deeper 2 n _ _ few
      (list_becomes 1 (call_data w) (call_data w) (c ∷ cs) (each_map (IsSmallCall w site) (λ x. Becomes 1 (call_data w x) (call_data w x)) (λ x k. stays 1 1 (call_data w x) (omega arith) (call_stays site x k)) (c ∷ cs) h)))
      (no_fields n)

  pub said_stays : (n site : ℕ) (x : Said) → IsSmallSaid w site x → 2 ≤ n → FieldsBecome n (said_fields w x) (said_fields w x)
  said_stays n site x h few = more_fields n (codes "deltas") _ _ _ _ refl (deeper 1 n _ _ (omega (arith, few)) (deltas_stay x.deltas h.values)) (calls_stay n site x.calls h.calls few)

  abbrev pub settled_said : Said → Data
  settled_said x = settled (said_fields w x)

  pub said_got : (deltas : Data) (cs : List CallId) → (get (codes "deltas") (settled ((codes "deltas", deltas) ∷ calls_fields w cs)) ≡ Some deltas) × (get (codes "calls") (settled ((codes "deltas", deltas) ∷ calls_fields w cs)) ≡ calls_got cs)
  said_got deltas [] = (refl, refl)
  said_got deltas (c ∷ cs) = (refl, refl)

  all_are : (k : ℕ) (xs : List Said) → AllSmall w k xs → each_from (said_of w) k (map settled_said xs) ≡ Some xs
  all_are k [] h = refl
  all_are k (x ∷ xs) h =
      let got = said_got (wholes_data x.deltas) x.calls in
      ap (option_and_then (λ y. option_map (λ ys. y ∷ ys) (each_from (said_of w) (suc k) (map settled_said xs)))) (said_is k x (settled_said x) h.0 got.0 got.1)
      ∙ ap (option_map (λ ys. x ∷ ys)) (all_are (suc k) xs h.1)

  pub each_said : (k : ℕ) (xs : List Said) → AllSmall w k xs → Each (λ x. Becomes 3 (said_data w x) (settled_said x)) xs
  unfolding plan_definitions
  each_said k [] h = tt
  each_said k (x ∷ xs) h = (object_becomes 2 (said_fields w x) (said_fields w x) (said_stays 2 k x h.0 (omega arith)), each_said (suc k) xs h.1)

  -- ---- lines
  pub name_stays : (name : Option (List ℕ)) → IsText name → Becomes 0 (maybe_data string name) (maybe_data string name)
  name_stays None h = null_stays 0
  name_stays (Some name) h = stays 0 0 (string name) (omega arith) (plain_string name h)

  abbrev pub line_with : Option (List ℕ) → Option (List ℕ) → Data → Data
  line_with from to body = settled ((codes "src", maybe_data string from) ∷ (codes "dest", maybe_data string to) ∷ (codes "body", body) ∷ [])

  pub line_becomes :
      (n : ℕ) (from to : Option (List ℕ)) (b : l.Body) (body : Data) → IsText from → IsText to → n ≤ 100 → Becomes n (body_data w b) body →
      IsJsonOf (line_json w from to b) (line_with from to body)
  line_becomes n from to b body f t few h =
      becomes_json (suc n) (line_data w from to b) (line_with from to body) (omega (arith, few))
      (object_becomes n _ _
      (more_fields n (codes "src") _ _ _ _ refl (deeper 0 n _ _ (omega arith) (name_stays from f))
      (more_fields n (codes "dest") _ _ _ _ refl (deeper 0 n _ _ (omega arith) (name_stays to t))
      (more_fields n (codes "body") _ _ _ _ refl h (no_fields n)))))

  name_got : (from to : Option (List ℕ)) (body : Data) → text_at (codes "src") (line_with from to body) ≡ from
  name_got None to body = refl
  name_got (Some name) to body = refl

  line_means :
      (from to : Option (List ℕ)) (body : Data) (m : l.Message) → number_at (codes "msg_id") body ≡ None → message_of w body ≡ m →
      line_of w (line_with from to body) ≡ record { from = from; number = None; message = m }
  line_means from to body m e h =
      let name = name_got from to body in
      λ i. record { from = name i; number = e i; message = h i }

  -- ---- packets that name a call
  abbrev breach_body : List ℕ → Breach → Data
  breach_body name b = settled ((codes "type", string name) ∷ breach_fields w b)

  breach_body_is : (name : List ℕ) (b : Breach) → IsSmallBreach w b → breach_of w (breach_body name b) ≡ Some b
  breach_body_is name b h = breach_is b (breach_body name b) h refl refl refl refl refl

  breach_body_becomes :
      (name : List ℕ) (b : Breach) → are_ascii name ≡ true → IsSmallBreach w b →
      Becomes 2 (object_of ((codes "type", string name) ∷ breach_fields w b)) (breach_body name b)
  breach_body_becomes name b u h =
      object_becomes 1 _ _
      (more_fields 1 (codes "type") _ _ _ _ refl (stays 0 1 _ (omega arith) (plain_string name (IsUtf8-are_ascii name u)))
      (breach_stays 1 b [] [] h (omega arith) (no_fields 1)))

  -- ---- what a site says
  abbrev state_body : ℕ → ℕ → List ℤ → List CallId → Data
  state_body round site deltas calls =
      settled
      ((codes "type", string (codes "state")) ∷ (codes "round", count_data round) ∷ (codes "site", count_data site)
      ∷ (codes "deltas", wholes_data deltas) ∷ calls_fields w calls)

  record StateGot (round site : ℕ) (deltas : List ℤ) (calls : List CallId) (d : Data) : Type 0 where
    pub typed : text_at (codes "type") d ≡ Some (codes "state")
    pub unnumbered : number_at (codes "msg_id") d ≡ None
    pub of_round : get (codes "round") d ≡ Some (count_data round)
    pub of_site : get (codes "site") d ≡ Some (count_data site)
    pub of_deltas : get (codes "deltas") d ≡ Some (wholes_data deltas)
    pub of_calls : get (codes "calls") d ≡ calls_got calls

  state_got : (round site : ℕ) (deltas : List ℤ) (calls : List CallId) → StateGot round site deltas calls (state_body round site deltas calls)
  state_got round site deltas [] =
      record { typed = refl; unnumbered = refl; of_round = refl; of_site = refl; of_deltas = refl; of_calls = refl }
  state_got round site deltas (c ∷ cs) =
      record { typed = refl; unnumbered = refl; of_round = refl; of_site = refl; of_deltas = refl; of_calls = refl }

  stopped_is : (round site : ℕ) (x : Said) → IsSmallState w round site x → stopped_of w (state_body round site x.deltas x.calls) ≡ Some (State round site x)
  stopped_is round site x h =
      let d = state_body round site x.deltas x.calls in
      let got = state_got round site x.deltas x.calls in
      ap (option_and_then (λ r. option_and_then (λ k. if nat_lt k (sites_of w) then option_map (State r k) (said_of w k d) else None) (small_at (codes "site") d)))
      (number_is (codes "round") d round got.of_round h.small_round)
      ∙ ap (option_and_then (λ k. if nat_lt k (sites_of w) then option_map (State round k) (said_of w k d) else None)) (small_is (codes "site") d site got.of_site h.small_site)
      ∙ ap (λ b. if b then option_map (State round site) (said_of w site d) else None) (lt-ltb site (sites_of w) h.there)
      ∙ ap (option_map (State round site)) (said_is site x d h.said got.of_deltas got.of_calls)

  state_body_becomes : (round site : ℕ) (x : Said) → IsSmallState w round site x → Becomes 3 (body_data w (l.Sent (State round site x))) (state_body round site x.deltas x.calls)
  state_body_becomes round site x h =
      object_becomes 2 _ _
      (more_fields 2 (codes "type") _ _ _ _ refl (stays 0 2 _ (omega arith) (plain_string (codes "state") (IsUtf8-are_ascii _ refl)))
      (more_fields 2 (codes "round") _ _ _ _ refl (stays 0 2 _ (omega arith) (count_stays round (omega (arith, h.small_round))))
      (more_fields 2 (codes "site") _ _ _ _ refl (stays 0 2 _ (omega arith) (count_stays site (omega (arith, h.small_site))))
      (said_stays 2 site x h.said (omega arith)))))

  -- ---- how a round was closed
  abbrev past_body : Past → Data
  past_body p = settled ((codes "type", string (codes "left")) ∷ (breach_fields w p.breach ++ (codes "states", list_data (map settled_said p.states)) ∷ []))

  pub past_is :
      (p : Past) (d : Data) → IsSmallPast w p → get (codes "round") d ≡ Some (count_data p.breach.round) → get (codes "site") d ≡ Some (count_data p.breach.site) →
      get (codes "client") d ≡ Some (string (client_name w p.breach.call.client)) → get (codes "call") d ≡ Some (count_data p.breach.call.seq) →
      get (codes "finding") d ≡ Some (finding_data p.breach.broken) → get (codes "states") d ≡ Some (list_data (map settled_said p.states)) →
      past_of w d ≡ Some p
  past_is p d h e1 e2 e3 e4 e5 e6 =
      let xs = p.states in
      ap (option_and_then (λ b. option_and_then (λ ys. made b ys) (option_and_then (all_said w) (list_at (codes "states") d)))) (breach_is p.breach d h.breach e1 e2 e3 e4 e5)
      ∙ ap (λ o. option_and_then (λ ys. made p.breach ys) (option_and_then (all_said w) (option_and_then list o))) e6
      ∙ ap (λ o. option_and_then (λ ys. made p.breach ys) (option_and_then (all_said w) o)) (list_is (map settled_said xs))
      ∙ ap (λ b. option_and_then (λ ys. made p.breach ys) (if b then each_from (said_of w) 0 (map settled_said xs) else None))
      (eq-eqb (length (map settled_said xs)) (sites_of w) (length-map xs settled_said ∙ h.sites))
      ∙ ap (option_and_then (λ ys. made p.breach ys)) (all_are 0 xs h.states)
    where
      made : Breach → List Said → Option Past
      made b ys = Some (record { breach = b; states = ys })

  pub past_stays :
      (p : Past) → IsSmallPast w p →
      FieldsBecome 4 (past_fields w p) (breach_fields w p.breach ++ (codes "states", list_data (map settled_said p.states)) ∷ [])
  past_stays p h =
      breach_stays 4 p.breach _ _ h.breach (omega arith)
      (more_fields 4 (codes "states") _ _ _ _ refl (list_becomes 3 (said_data w) settled_said p.states (each_said 0 p.states h.states)) (no_fields 4))

  past_body_becomes : (p : Past) → IsSmallPast w p → Becomes 5 (body_data w (l.Left p)) (past_body p)
  past_body_becomes p h =
      object_becomes 4 _ _ (more_fields 4 (codes "type") _ _ _ _ refl (stays 0 4 _ (omega arith) (plain_string (codes "left") (IsUtf8-are_ascii _ refl))) (past_stays p h))

  -- ---- lines of packets
  module _ (from to : Option (List ℕ)) (f : IsText from) (t : IsText to) where
    pub packet_read_back : (p : Packet) → IsSmall w p → IsReadAs w (line_json w from to (l.Sent p)) (record { from = from; number = None; message = l.Came p })
    packet_read_back (Want b) h =
        let body = breach_body (codes "want") b in
        record {
          value = line_with from to body;
          json = line_becomes 2 from to (l.Sent (Want b)) body f t (omega arith) (breach_body_becomes (codes "want") b refl h);
          meant = line_means from to body (l.Came (Want b)) refl (ap (or_malformed (λ x. l.Came (Want x))) (breach_body_is (codes "want") b h));
        }
    packet_read_back (Stop b) h =
        let body = breach_body (codes "stop") b in
        record {
          value = line_with from to body;
          json = line_becomes 2 from to (l.Sent (Stop b)) body f t (omega arith) (breach_body_becomes (codes "stop") b refl h);
          meant = line_means from to body (l.Came (Stop b)) refl (ap (or_malformed (λ x. l.Came (Stop x))) (breach_body_is (codes "stop") b h));
        }
    packet_read_back (State round site x) h =
        let body = state_body round site x.deltas x.calls in
        let got = state_got round site x.deltas x.calls in
        record {
          value = line_with from to body;
          json = line_becomes 3 from to (l.Sent (State round site x)) body f t (omega arith) (state_body_becomes round site x h);
          meant =
              line_means from to body (l.Came (State round site x)) got.unnumbered
              (ap (or_malformed (message_by w body)) got.typed ∙ ap (or_malformed l.Came) (stopped_is round site x h));
        }

    pub past_read_back : (p : Past) → IsSmallPast w p → IsReadAs w (line_json w from to (l.Left p)) (record { from = from; number = None; message = l.HasLeft p })
    past_read_back p h =
        let body = past_body p in
        record {
          value = line_with from to body;
          json = line_becomes 5 from to (l.Left p) body f t (omega arith) (past_body_becomes p h);
          meant = line_means from to body (l.HasLeft p) refl (ap (or_malformed l.HasLeft) (past_is p body h refl refl refl refl refl refl));
        }
