-- What nodes in shape are read as has these nodes, is in shape, and nests no deeper than allowed.
use Rattle.homeo_syntax.specs.Key.{definitions as syntax_definitions}
use Rattle.homeo_plan.specs.Key.{definitions as plan_definitions}
use Rattle.homeo_certificate.specs.Key.{definitions}
use Rattle.std.proofs.Common.{◌≡◌, ℕ, zero, suc, ◌<◌, ◌≤◌, ◌^◌, List, [], ◌∷◌, ◌++◌, length, Option, Some, None, refl, sym, ap, ap₂, ◌∙◌, subst, arith, append_assoc}
use Rattle.std.proofs.lemmas.Option.{same_Some}
use Rattle.homeo_syntax.specs.declared.low.SplitName.TheVariants as split
use Rattle.homeo_syntax.specs.declared.low.Temp.{Temp}
use Rattle.homeo_syntax.specs.Low.{Expr, Exprs, Literal, OfTemp, Read, Sum, Product, Neg, Test, True, Not, Comparison, Command, Skip, Assign, Write, Print, Seq, If}
use Rattle.homeo_syntax.specs.LowView.{low_exprs, low_tests, low_commands}
use Rattle.homeo_plan.specs.Each.{Each}
use Rattle.homeo_certificate.specs.declared.nodes.Node.{Node}
use Rattle.homeo_certificate.specs.declared.nodes.Node.TheVariants as node
use Rattle.homeo_certificate.specs.Nesting.{expr_nesting, exprs_nesting, test_nesting, cond_nesting, nesting, all_nesting}
use Rattle.homeo_certificate.specs.Nodes.{expr_count, test_count, command_count, expr_nodes, exprs_nodes, test_nodes, cond_nodes, command_nodes, commands_nodes}
use Rattle.homeo_certificate.specs.Shape.{TempInShape, ExprInShape, ExprsInShape, TestInShape, CondInShape, CommandInShape, CommandsInShape}
use Rattle.homeo_certificate.specs.Parse.{Parse, then, seen, many, parse_expr, parse_test, parse_temp, parse_command}
use Rattle.homeo_certificate.specs.NodeShapes.{NodeInShape}

abbrev answer : {A : Type 0} → A → List Node → Option (A × List Node)
answer a ns = Some (a, ns)

-- ---- what was read behind something
record Then {A B : Type 0} (r : Option (A × List Node)) (f : A → Parse B) (b : B) (rest : List Node) : Type 0 where
  pub first : A
  pub left : List Node
  pub is : r ≡ Some (first, left)
  pub then : f first left ≡ Some (b, rest)

then_parts : {A B : Type 0} (r : Option (A × List Node)) (f : A → Parse B) (b : B) (rest : List Node) → then r f ≡ Some (b, rest) → Then r f b rest
then_parts None f b rest e = absurd cc
then_parts (Some p) f b rest e = record { first = p.0; left = p.1; is = refl; then = e }

record Seen {A B : Type 0} (f : A → B) (r : Option (A × List Node)) (b : B) (rest : List Node) : Type 0 where
  pub value : A
  pub is : r ≡ Some (value, rest)
  pub same : f value ≡ b

seen_parts : {A B : Type 0} (f : A → B) (r : Option (A × List Node)) (b : B) (rest : List Node) → seen f r ≡ Some (b, rest) → Seen f r b rest
seen_parts f None b rest e = absurd cc
seen_parts f (Some p) b rest e =
    let both = same_Some (f p.0, p.1) (b, rest) e in
    let same : f p.0 ≡ b = ap (λ x. x.0) both in
    let left : p.1 ≡ rest = ap (λ x. x.1) both in
    record { value = p.0; is = λ i. Some (p.0, left i); same = same }

-- a phrase that was read, with its nodes
pub record Got {A : Type 0} (nodes : A → List Node) (Good : A → Type 0) (P : Node → Type 0) (ns : List Node) (a : A) (rest : List Node) : Type 0 where
  pub is : ns ≡ nodes a ++ rest
  pub good : Good a
  pub left : Each P rest

-- ---- so many
abbrev all_nodes : {A : Type 0} → (A → List Node) → List A → List Node
unfolding definitions
all_nodes nodes [] = []
all_nodes nodes (a ∷ xs) = nodes a ++ all_nodes nodes xs

many_sound :
    {A : Type 0} (f : Parse A) (nodes : A → List Node) (Good : A → Type 0) (P : Node → Type 0) →
    ((ns : List Node) (a : A) (rest : List Node) → Each P ns → f ns ≡ Some (a, rest) → Got nodes Good P ns a rest) →
    (n : ℕ) (ns : List Node) (xs : List A) (rest : List Node) → Each P ns → many f n ns ≡ Some (xs, rest) →
    Got (all_nodes nodes) (λ ys. Each Good ys × (length ys ≡ n)) P ns xs rest
unfolding definitions plan_definitions
many_sound f nodes Good P h zero ns xs rest p e =
    let both = same_Some ([], ns) (xs, rest) e in
    let q : [] ≡ xs = ap (λ x. x.0) both in
    let r : ns ≡ rest = ap (λ x. x.1) both in
    subst (λ ys. Got (all_nodes nodes) (λ zs. Each Good zs × (length zs ≡ 0)) P ns ys rest) q
    (record { is = r; good = (tt, refl); left = subst (Each P) r p })
many_sound f nodes Good P h (suc n) ns xs rest p e =
    let t = then_parts (f ns) (λ a left. seen (λ more. a ∷ more) (many f n left)) xs rest e in
    let a = h ns t.first t.left p t.is in
    let s = seen_parts (λ more. t.first ∷ more) (many f n t.left) xs rest t.then in
    let m = many_sound f nodes Good P h n t.left s.value rest a.left s.is in
    subst (λ ys. Got (all_nodes nodes) (λ zs. Each Good zs × (length zs ≡ suc n)) P ns ys rest) s.same
    (record {
      is = a.is ∙ ap (λ l. nodes t.first ++ l) m.is ∙ sym (append_assoc (nodes t.first) (all_nodes nodes s.value) rest);
      good = ((a.good, m.good.0), ap suc m.good.1);
      left = m.left;
    })

module _ (n k : ℕ) where
  abbrev pub GoodExpr : ℕ → Expr → Type 0
  GoodExpr m e = ExprInShape n k e × (expr_nesting e ≤ m)

  exprs_are : (m : ℕ) (es : List Expr) → Each (GoodExpr m) es →
      (ExprsInShape n k (low_exprs es) × (exprs_nesting (low_exprs es) ≤ m)) × (expr_count (low_exprs es) ≡ length es) × (exprs_nodes (low_exprs es) ≡ all_nodes expr_nodes es)
  unfolding definitions plan_definitions syntax_definitions
  exprs_are m [] h = ((tt, omega arith), refl, refl)
  exprs_are m (e ∷ es) h =
      let r = exprs_are m es h.1 in
      (((h.0.0, r.0.0), omega (arith, h.0.1, r.0.1)), ap suc r.1, ap (λ l. expr_nodes e ++ l) r.2)

  -- a sum or a product
  many_exprs : (m c : ℕ) (make : Exprs → Expr) (named : ℕ → Node) (ns rest : List Node) (es : List Expr) →
      ((xs : Exprs) → expr_nodes (make xs) ≡ named (expr_count xs) ∷ exprs_nodes xs) →
      ((xs : Exprs) → expr_count xs < 2 ^ 63 → ExprsInShape n k xs → ExprInShape n k (make xs)) →
      ((xs : Exprs) → expr_nesting (make xs) ≡ suc (exprs_nesting xs)) → c < 2 ^ 63 →
      Got (all_nodes expr_nodes) (λ zs. Each (GoodExpr m) zs × (length zs ≡ c)) (NodeInShape n k) ns es rest →
      Got expr_nodes (GoodExpr (suc m)) (NodeInShape n k) (named c ∷ ns) (make (low_exprs es)) rest
  many_exprs m c make named ns rest es nodes shape nests small g =
      let r = exprs_are m es g.good.0 in
      let count : expr_count (low_exprs es) ≡ c = r.1 ∙ g.good.1 in
      record {
        is =
            ap₂ ◌∷◌ (ap named (sym count)) (g.is ∙ ap (λ l. l ++ rest) (sym r.2)) ∙ ap (λ l. l ++ rest) (sym (nodes (low_exprs es)));
        good = (shape (low_exprs es) (subst (λ d. d < 2 ^ 63) (sym count) small) r.0.0, subst (λ d. d ≤ suc m) (sym (nests (low_exprs es))) (omega (arith, r.0.1)));
        left = g.left;
      }

  leaf : (m : ℕ) (k' : Node) (a : Expr) (ns rest : List Node) (e : Expr) → expr_nodes a ≡ k' ∷ [] → ExprInShape n k a → expr_nesting a ≡ 1 → Each (NodeInShape n k) ns → answer a ns ≡ answer e rest →
      Got expr_nodes (GoodExpr (suc m)) (NodeInShape n k) (k' ∷ ns) e rest
  leaf m k' a ns rest e nodes shape nests p q =
      let both = same_Some (a, ns) (e, rest) q in
      let same : a ≡ e = ap (λ x. x.0) both in
      let left : ns ≡ rest = ap (λ x. x.1) both in
      subst (λ x. Got expr_nodes (GoodExpr (suc m)) (NodeInShape n k) (k' ∷ ns) x rest) same
      (subst (λ l. Got expr_nodes (GoodExpr (suc m)) (NodeInShape n k) (k' ∷ ns) a l) left
      (record { is = ap (λ l. l ++ ns) (sym nodes); good = (shape, subst (λ d. d ≤ suc m) (sym nests) (omega arith)); left = p }))

  none : {A X : Type 0} (a : A) (rest : List Node) → None ≡ answer a rest → X
  none a rest e = absurd cc

  expr_sound : (m : ℕ) (ns : List Node) (e : Expr) (rest : List Node) → Each (NodeInShape n k) ns → parse_expr m ns ≡ Some (e, rest) → Got expr_nodes (GoodExpr m) (NodeInShape n k) ns e rest
  unfolding definitions plan_definitions
  expr_sound zero ns e rest p q = none e rest q
  expr_sound (suc m) [] e rest p q = none e rest q
  expr_sound (suc m) (node.Literal x ∷ ns) e rest p q = leaf m (node.Literal x) (Literal x) ns rest e refl p.0 refl p.1 q
  expr_sound (suc m) (node.Temp t ∷ ns) e rest p q = leaf m (node.Temp t) (OfTemp t) ns rest e refl p.0 refl p.1 q
  expr_sound (suc m) (node.Base x ∷ ns) e rest p q = leaf m (node.Base x) (Read (split.Base x)) ns rest e refl p.0 refl p.1 q
  expr_sound (suc m) (node.Delta x j ∷ ns) e rest p q = leaf m (node.Delta x j) (Read (split.Delta x j)) ns rest e refl p.0 refl p.1 q
  expr_sound (suc m) (node.Sum c ∷ ns) e rest p q =
      let s = seen_parts (λ es. Sum (low_exprs es)) (many (parse_expr m) c ns) e rest q in
      subst (λ x. Got expr_nodes (GoodExpr (suc m)) (NodeInShape n k) (node.Sum c ∷ ns) x rest) s.same
      (many_exprs m c Sum node.Sum ns rest s.value (λ xs. refl) (λ xs l h. (l, h)) (λ xs. refl) p.0
      (many_sound (parse_expr m) expr_nodes (GoodExpr m) (NodeInShape n k) (expr_sound m) c ns s.value rest p.1 s.is))
  expr_sound (suc m) (node.Product c ∷ ns) e rest p q =
      let s = seen_parts (λ es. Product (low_exprs es)) (many (parse_expr m) c ns) e rest q in
      subst (λ x. Got expr_nodes (GoodExpr (suc m)) (NodeInShape n k) (node.Product c ∷ ns) x rest) s.same
      (many_exprs m c Product node.Product ns rest s.value (λ xs. refl) (λ xs l h. (l, h)) (λ xs. refl) p.0
      (many_sound (parse_expr m) expr_nodes (GoodExpr m) (NodeInShape n k) (expr_sound m) c ns s.value rest p.1 s.is))
  expr_sound (suc m) (node.Neg ∷ ns) e rest p q =
      let s = seen_parts Neg (parse_expr m ns) e rest q in
      let g = expr_sound m ns s.value rest p.1 s.is in
      subst (λ x. Got expr_nodes (GoodExpr (suc m)) (NodeInShape n k) (node.Neg ∷ ns) x rest) s.same
      (record { is = ap (λ l. node.Neg ∷ l) g.is; good = (g.good.0, omega (arith, g.good.1)); left = g.left })
  expr_sound (suc m) (other ∷ ns) e rest p q = none e rest q

  -- ---- tests
  abbrev pub GoodTest : ℕ → Test → Type 0
  GoodTest m t = TestInShape n k t × (test_nesting t ≤ m)

  tests_are : (m : ℕ) (ts : List Test) → Each (GoodTest m) ts →
      (CondInShape n k (low_tests ts) × (cond_nesting (low_tests ts) ≤ m)) × (test_count (low_tests ts) ≡ length ts) × (cond_nodes (low_tests ts) ≡ all_nodes test_nodes ts)
  unfolding definitions plan_definitions syntax_definitions
  tests_are m [] h = ((tt, omega arith), refl, refl)
  tests_are m (t ∷ ts) h =
      let r = tests_are m ts h.1 in
      (((h.0.0, r.0.0), omega (arith, h.0.1, r.0.1)), ap suc r.1, ap (λ l. test_nodes t ++ l) r.2)

  test_sound : (m : ℕ) (ns : List Node) (t : Test) (rest : List Node) → Each (NodeInShape n k) ns → parse_test m ns ≡ Some (t, rest) → Got test_nodes (GoodTest m) (NodeInShape n k) ns t rest
  unfolding definitions plan_definitions
  test_sound zero ns t rest p q = none t rest q
  test_sound (suc m) [] t rest p q = none t rest q
  test_sound (suc m) (node.True ∷ ns) t rest p q =
      let both = same_Some (True, ns) (t, rest) q in
      subst (λ x. Got test_nodes (GoodTest (suc m)) (NodeInShape n k) (node.True ∷ ns) x rest) (ap (λ x. x.0) both)
      (record { is = ap (λ l. node.True ∷ l) (ap (λ x. x.1) both); good = (tt, omega arith); left = subst (Each (NodeInShape n k)) (ap (λ x. x.1) both) p.1 })
  test_sound (suc m) (node.Not c ∷ ns) t rest p q =
      let s = seen_parts (λ ts. Not (low_tests ts)) (many (parse_test m) c ns) t rest q in
      let g = many_sound (parse_test m) test_nodes (GoodTest m) (NodeInShape n k) (test_sound m) c ns s.value rest p.1 s.is in
      let r = tests_are m s.value g.good.0 in
      let count : test_count (low_tests s.value) ≡ c = r.1 ∙ g.good.1 in
      subst (λ x. Got test_nodes (GoodTest (suc m)) (NodeInShape n k) (node.Not c ∷ ns) x rest) s.same
      (record {
        is = ap₂ ◌∷◌ (ap node.Not (sym count)) (g.is ∙ ap (λ l. l ++ rest) (sym r.2));
        good = ((subst (λ d. d < 2 ^ 63) (sym count) p.0, r.0.0), omega (arith, r.0.1));
        left = g.left;
      })
  test_sound (suc m) (node.Comparison op ∷ ns) t rest p q =
      let h = then_parts (parse_expr m ns) (λ a left. seen (Comparison op a) (parse_expr m left)) t rest q in
      let a = expr_sound m ns h.first h.left p.1 h.is in
      let s = seen_parts (Comparison op h.first) (parse_expr m h.left) t rest h.then in
      let b = expr_sound m h.left s.value rest a.left s.is in
      subst (λ x. Got test_nodes (GoodTest (suc m)) (NodeInShape n k) (node.Comparison op ∷ ns) x rest) s.same
      (record {
        is = ap (λ l. node.Comparison op ∷ l) (a.is ∙ ap (λ l. expr_nodes h.first ++ l) b.is ∙ sym (append_assoc (expr_nodes h.first) (expr_nodes s.value) rest));
        good = ((a.good.0, b.good.0), omega (arith, a.good.1, b.good.1));
        left = b.left;
      })
  test_sound (suc m) (other ∷ ns) t rest p q = none t rest q

  -- ---- commands
  abbrev pub GoodCommand : ℕ → Command → Type 0
  GoodCommand m c = CommandInShape n k c × (nesting c ≤ m)

  commands_are : (m : ℕ) (cs : List Command) → Each (GoodCommand m) cs →
      (CommandsInShape n k (low_commands cs) × (all_nesting (low_commands cs) ≤ m)) × (command_count (low_commands cs) ≡ length cs) × (commands_nodes (low_commands cs) ≡ all_nodes command_nodes cs)
  unfolding definitions plan_definitions syntax_definitions
  commands_are m [] h = ((tt, omega arith), refl, refl)
  commands_are m (c ∷ cs) h =
      let r = commands_are m cs h.1 in
      (((h.0.0, r.0.0), omega (arith, h.0.1, r.0.1)), ap suc r.1, ap (λ l. command_nodes c ++ l) r.2)

  temp_sound : (m : ℕ) (ns : List Node) (t : Temp) (rest : List Node) → Each (NodeInShape n k) ns → parse_temp m ns ≡ Some (t, rest) → Got (λ u. node.Temp u ∷ []) (TempInShape n k) (NodeInShape n k) ns t rest
  unfolding definitions plan_definitions
  temp_sound zero ns t rest p q = none t rest q
  temp_sound (suc m) [] t rest p q = none t rest q
  temp_sound (suc m) (node.Temp u ∷ ns) t rest p q =
      let both = same_Some (u, ns) (t, rest) q in
      subst (λ x. Got (λ u. node.Temp u ∷ []) (TempInShape n k) (NodeInShape n k) (node.Temp u ∷ ns) x rest) (ap (λ x. x.0) both)
      (record { is = ap (λ l. node.Temp u ∷ l) (ap (λ x. x.1) both); good = p.0; left = subst (Each (NodeInShape n k)) (ap (λ x. x.1) both) p.1 })
  temp_sound (suc m) (other ∷ ns) t rest p q = none t rest q

  pub command_sound : (m : ℕ) (ns : List Node) (c : Command) (rest : List Node) → Each (NodeInShape n k) ns → parse_command m ns ≡ Some (c, rest) → Got command_nodes (GoodCommand m) (NodeInShape n k) ns c rest
  unfolding definitions plan_definitions
  command_sound zero ns c rest p q = none c rest q
  command_sound (suc m) [] c rest p q = none c rest q
  command_sound (suc m) (node.Skip ∷ ns) c rest p q =
      let both = same_Some (Skip, ns) (c, rest) q in
      subst (λ x. Got command_nodes (GoodCommand (suc m)) (NodeInShape n k) (node.Skip ∷ ns) x rest) (ap (λ x. x.0) both)
      (record { is = ap (λ l. node.Skip ∷ l) (ap (λ x. x.1) both); good = (tt, omega arith); left = subst (Each (NodeInShape n k)) (ap (λ x. x.1) both) p.1 })
  command_sound (suc m) (node.Assign ∷ ns) c rest p q =
      let h = then_parts (parse_temp m ns) (λ t left. seen (Assign t) (parse_expr m left)) c rest q in
      let t = temp_sound m ns h.first h.left p.1 h.is in
      let s = seen_parts (Assign h.first) (parse_expr m h.left) c rest h.then in
      let e = expr_sound m h.left s.value rest t.left s.is in
      subst (λ x. Got command_nodes (GoodCommand (suc m)) (NodeInShape n k) (node.Assign ∷ ns) x rest) s.same
      (record {
        is = ap (λ l. node.Assign ∷ l) (t.is ∙ ap (λ l. node.Temp h.first ∷ l) e.is);
        good = ((t.good, e.good.0), omega (arith, e.good.1));
        left = e.left;
      })
  command_sound (suc m) (node.Write x j ∷ ns) c rest p q =
      let s = seen_parts (Write (split.Delta x j)) (parse_expr m ns) c rest q in
      let e = expr_sound m ns s.value rest p.1 s.is in
      subst (λ y. Got command_nodes (GoodCommand (suc m)) (NodeInShape n k) (node.Write x j ∷ ns) y rest) s.same
      (record { is = ap (λ l. node.Write x j ∷ l) e.is; good = ((p.0, e.good.0), omega (arith, e.good.1)); left = e.left })
  command_sound (suc m) (node.Print ∷ ns) c rest p q =
      let s = seen_parts Print (parse_expr m ns) c rest q in
      let e = expr_sound m ns s.value rest p.1 s.is in
      subst (λ y. Got command_nodes (GoodCommand (suc m)) (NodeInShape n k) (node.Print ∷ ns) y rest) s.same
      (record { is = ap (λ l. node.Print ∷ l) e.is; good = (e.good.0, omega (arith, e.good.1)); left = e.left })
  command_sound (suc m) (node.Seq d ∷ ns) c rest p q =
      let s = seen_parts (λ cs. Seq (low_commands cs)) (many (parse_command m) d ns) c rest q in
      let g = many_sound (parse_command m) command_nodes (GoodCommand m) (NodeInShape n k) (command_sound m) d ns s.value rest p.1 s.is in
      let r = commands_are m s.value g.good.0 in
      let count : command_count (low_commands s.value) ≡ d = r.1 ∙ g.good.1 in
      subst (λ x. Got command_nodes (GoodCommand (suc m)) (NodeInShape n k) (node.Seq d ∷ ns) x rest) s.same
      (record {
        is = ap₂ ◌∷◌ (ap node.Seq (sym count)) (g.is ∙ ap (λ l. l ++ rest) (sym r.2));
        good = ((subst (λ x. x < 2 ^ 63) (sym count) p.0, r.0.0), omega (arith, r.0.1));
        left = g.left;
      })
  command_sound (suc m) (node.If d ∷ ns) c rest p q =
      let h = then_parts (many (parse_test m) d ns) (λ ts left. then (parse_command m left) (λ x last. seen (If (low_tests ts) x) (parse_command m last))) c rest q in
      let g = many_sound (parse_test m) test_nodes (GoodTest m) (NodeInShape n k) (test_sound m) d ns h.first h.left p.1 h.is in
      let r = tests_are m h.first g.good.0 in
      let count : test_count (low_tests h.first) ≡ d = r.1 ∙ g.good.1 in
      let u = then_parts (parse_command m h.left) (λ x last. seen (If (low_tests h.first) x) (parse_command m last)) c rest h.then in
      let x = command_sound m h.left u.first u.left g.left u.is in
      let s = seen_parts (If (low_tests h.first) u.first) (parse_command m u.left) c rest u.then in
      let y = command_sound m u.left s.value rest x.left s.is in
      subst (λ z. Got command_nodes (GoodCommand (suc m)) (NodeInShape n k) (node.If d ∷ ns) z rest) s.same
      (record {
        is =
            ap₂ ◌∷◌ (ap node.If (sym count))
            (g.is ∙ ap₂ ◌++◌ (sym r.2) (x.is ∙ ap (λ l. command_nodes u.first ++ l) y.is ∙ sym (append_assoc (command_nodes u.first) (command_nodes s.value) rest))
            ∙ sym (append_assoc (cond_nodes (low_tests h.first)) (command_nodes u.first ++ command_nodes s.value) rest));
        good = ((subst (λ z. z < 2 ^ 63) (sym count) p.0, r.0.0, x.good.0, y.good.0), omega (arith, r.0.1, x.good.1, y.good.1));
        left = y.left;
      })
  command_sound (suc m) (other ∷ ns) c rest p q = none c rest q
