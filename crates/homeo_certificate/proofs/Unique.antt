-- The nodes of a command in shape read as that command alone.
use Rattle.homeo_syntax.specs.Key.{definitions as syntax_definitions}
use Rattle.homeo_certificate.specs.Key.{definitions}
use Rattle.std.proofs.Common.{◌≡◌, ℕ, zero, suc, ◌≤◌, List, [], ◌∷◌, ◌++◌, Option, Some, refl, sym, ap, ◌∙◌, arith, append_assoc}
use Rattle.homeo_syntax.specs.declared.low.SplitName.TheVariants as split
use Rattle.homeo_syntax.specs.Low.{Expr, Exprs, Literal, OfTemp, Read, Sum, Product, Neg, NoExpr, MoreExpr, Test, Cond, True, Not, Comparison, NoTest, MoreTest, Command, Commands, Skip, Assign, Write, Print, Seq, If, NoCommand, MoreCommand}
use Rattle.homeo_syntax.specs.LowView.{low_exprs, low_tests, low_commands}
use Rattle.homeo_certificate.specs.declared.nodes.Node.{Node}
use Rattle.homeo_certificate.specs.declared.nodes.Node.TheVariants as node
use Rattle.homeo_certificate.specs.Nesting.{expr_nesting, exprs_nesting, test_nesting, cond_nesting, nesting, all_nesting}
use Rattle.homeo_certificate.specs.Nodes.{expr_count, test_count, command_count, expr_nodes, exprs_nodes, test_nodes, cond_nodes, command_nodes, commands_nodes}
use Rattle.homeo_certificate.specs.Shape.{ExprInShape, ExprsInShape, TestInShape, CondInShape, CommandInShape, CommandsInShape}
use Rattle.homeo_certificate.specs.Parse.{Parse, then, seen, many, parse_expr, parse_test, parse_temp, parse_command}

-- phrases as lists
abbrev expr_list : Exprs → List Expr
expr_list NoExpr = []
expr_list (MoreExpr e es) = e ∷ expr_list es

abbrev test_list : Cond → List Test
test_list NoTest = []
test_list (MoreTest t c) = t ∷ test_list c

abbrev command_list : Commands → List Command
command_list NoCommand = []
command_list (MoreCommand c cs) = c ∷ command_list cs

exprs_back : (es : Exprs) → low_exprs (expr_list es) ≡ es
unfolding syntax_definitions
exprs_back NoExpr = refl
exprs_back (MoreExpr e es) = ap (MoreExpr e) (exprs_back es)

tests_back : (c : Cond) → low_tests (test_list c) ≡ c
unfolding syntax_definitions
tests_back NoTest = refl
tests_back (MoreTest t c) = ap (MoreTest t) (tests_back c)

commands_back : (cs : Commands) → low_commands (command_list cs) ≡ cs
unfolding syntax_definitions
commands_back NoCommand = refl
commands_back (MoreCommand c cs) = ap (MoreCommand c) (commands_back cs)

-- one phrase, and then the others
one_more :
    {A : Type 0} (f : Parse A) (n : ℕ) (a : A) (xs : List A) (here there rest : List Node) → f (here ++ (there ++ rest)) ≡ Some (a, there ++ rest) →
    many f n (there ++ rest) ≡ Some (xs, rest) → many f (suc n) ((here ++ there) ++ rest) ≡ Some (a ∷ xs, rest)
unfolding definitions
one_more f n a xs here there rest h k =
    ap (many f (suc n)) (append_assoc here there rest)
    ∙ ap (λ r. then r (λ b left. seen (λ more. b ∷ more) (many f n left))) h
    ∙ ap (seen (λ more. a ∷ more)) k

module _ (n k : ℕ) where
  mutual
    unfolding definitions

    read_expr : (m : ℕ) (e : Expr) (rest : List Node) → ExprInShape n k e → expr_nesting e ≤ m → parse_expr m (expr_nodes e ++ rest) ≡ Some (e, rest)
    read_expr zero (Literal x) rest h l = absurd (omega (arith, l))
    read_expr zero (OfTemp t) rest h l = absurd (omega (arith, l))
    read_expr zero (Read x) rest h l = absurd (omega (arith, l))
    read_expr zero (Sum es) rest h l = absurd (omega (arith, l))
    read_expr zero (Product es) rest h l = absurd (omega (arith, l))
    read_expr zero (Neg e) rest h l = absurd (omega (arith, l))
    read_expr (suc m) (Literal x) rest h l = refl
    read_expr (suc m) (OfTemp t) rest h l = refl
    read_expr (suc m) (Read (split.Whole x)) rest h l = absurd h
    read_expr (suc m) (Read (split.Base x)) rest h l = refl
    read_expr (suc m) (Read (split.Delta x j)) rest h l = refl
    read_expr (suc m) (Sum es) rest h l =
        ap (seen (λ xs. Sum (low_exprs xs))) (read_exprs m es rest h.1 (omega (arith, l)))
        ∙ ap (λ xs. Some (Sum xs, rest)) (exprs_back es)
    read_expr (suc m) (Product es) rest h l =
        ap (seen (λ xs. Product (low_exprs xs))) (read_exprs m es rest h.1 (omega (arith, l)))
        ∙ ap (λ xs. Some (Product xs, rest)) (exprs_back es)
    read_expr (suc m) (Neg e) rest h l = ap (seen Neg) (read_expr m e rest h (omega (arith, l)))

    read_exprs : (m : ℕ) (es : Exprs) (rest : List Node) → ExprsInShape n k es → exprs_nesting es ≤ m → many (parse_expr m) (expr_count es) (exprs_nodes es ++ rest) ≡ Some (expr_list es, rest)
    read_exprs m NoExpr rest h l = refl
    read_exprs m (MoreExpr e es) rest h l =
        one_more (parse_expr m) (expr_count es) e (expr_list es) (expr_nodes e) (exprs_nodes es) rest
        (read_expr m e (exprs_nodes es ++ rest) h.0 (omega (arith, l))) (read_exprs m es rest h.1 (omega (arith, l)))

  mutual
    unfolding definitions

    read_test : (m : ℕ) (t : Test) (rest : List Node) → TestInShape n k t → test_nesting t ≤ m → parse_test m (test_nodes t ++ rest) ≡ Some (t, rest)
    read_test zero True rest h l = absurd (omega (arith, l))
    read_test zero (Not c) rest h l = absurd (omega (arith, l))
    read_test zero (Comparison op a b) rest h l = absurd (omega (arith, l))
    read_test (suc m) True rest h l = refl
    read_test (suc m) (Not c) rest h l =
        ap (seen (λ xs. Not (low_tests xs))) (read_cond m c rest h.1 (omega (arith, l)))
        ∙ ap (λ xs. Some (Not xs, rest)) (tests_back c)
    read_test (suc m) (Comparison op a b) rest h l =
        ap (λ ns. then (parse_expr m ns) (λ x left. seen (Comparison op x) (parse_expr m left))) (append_assoc (expr_nodes a) (expr_nodes b) rest)
        ∙ ap (λ r. then r (λ x left. seen (Comparison op x) (parse_expr m left))) (read_expr m a (expr_nodes b ++ rest) h.0 (omega (arith, l)))
        ∙ ap (seen (Comparison op a)) (read_expr m b rest h.1 (omega (arith, l)))

    read_cond : (m : ℕ) (c : Cond) (rest : List Node) → CondInShape n k c → cond_nesting c ≤ m → many (parse_test m) (test_count c) (cond_nodes c ++ rest) ≡ Some (test_list c, rest)
    read_cond m NoTest rest h l = refl
    read_cond m (MoreTest t c) rest h l =
        one_more (parse_test m) (test_count c) t (test_list c) (test_nodes t) (cond_nodes c) rest
        (read_test m t (cond_nodes c ++ rest) h.0 (omega (arith, l))) (read_cond m c rest h.1 (omega (arith, l)))

  -- an expression has a node
  expr_nests : (e : Expr) → 1 ≤ expr_nesting e
  unfolding definitions
  expr_nests (Literal x) = omega arith
  expr_nests (OfTemp t) = omega arith
  expr_nests (Read x) = omega arith
  expr_nests (Sum es) = omega arith
  expr_nests (Product es) = omega arith
  expr_nests (Neg e) = omega arith

  assign_read : (m : ℕ) (t : _) (e : Expr) (rest : List Node) → ExprInShape n k e → expr_nesting e ≤ m → then (parse_temp m (node.Temp t ∷ (expr_nodes e ++ rest))) (λ u left. seen (Assign u) (parse_expr m left)) ≡ Some (Assign t e, rest)
  unfolding definitions
  assign_read zero t e rest h l = absurd (omega (arith, l, expr_nests e))
  assign_read (suc m) t e rest h l = ap (seen (Assign t)) (read_expr (suc m) e rest h l)

  mutual
    unfolding definitions

    pub read_command : (m : ℕ) (c : Command) (rest : List Node) → CommandInShape n k c → nesting c ≤ m → parse_command m (command_nodes c ++ rest) ≡ Some (c, rest)
    read_command zero Skip rest h l = absurd (omega (arith, l))
    read_command zero (Assign t e) rest h l = absurd (omega (arith, l))
    read_command zero (Write x e) rest h l = absurd (omega (arith, l))
    read_command zero (Print e) rest h l = absurd (omega (arith, l))
    read_command zero (Seq cs) rest h l = absurd (omega (arith, l))
    read_command zero (If b c d) rest h l = absurd (omega (arith, l))
    read_command (suc m) Skip rest h l = refl
    read_command (suc m) (Assign t e) rest h l = assign_read m t e rest h.1 (omega (arith, l))
    read_command (suc m) (Write (split.Whole x) e) rest h l = absurd h.0
    read_command (suc m) (Write (split.Base x) e) rest h l = absurd h.0
    read_command (suc m) (Write (split.Delta x j) e) rest h l = ap (seen (Write (split.Delta x j))) (read_expr m e rest h.1 (omega (arith, l)))
    read_command (suc m) (Print e) rest h l = ap (seen Print) (read_expr m e rest h (omega (arith, l)))
    read_command (suc m) (Seq cs) rest h l =
        ap (seen (λ xs. Seq (low_commands xs))) (read_all m cs rest h.1 (omega (arith, l)))
        ∙ ap (λ xs. Some (Seq xs, rest)) (commands_back cs)
    read_command (suc m) (If b c d) rest h l =
        ap if_read (append_assoc (cond_nodes b) (command_nodes c ++ command_nodes d) rest)
        ∙ ap (λ r. then r after_tests) (read_cond m b ((command_nodes c ++ command_nodes d) ++ rest) h.1 (omega (arith, l)))
        ∙ ap (after_tests (test_list b)) (append_assoc (command_nodes c) (command_nodes d) rest)
        ∙ ap (λ r. then r (after_first (test_list b))) (read_command m c (command_nodes d ++ rest) h.2 (omega (arith, l)))
        ∙ ap (seen (If (low_tests (test_list b)) c)) (read_command m d rest h.3 (omega (arith, l)))
        ∙ ap (λ t. Some (If t c d, rest)) (tests_back b)
      where
        after_first : List Test → Command → Parse Command
        after_first ts x left = seen (If (low_tests ts) x) (parse_command m left)

        after_tests : List Test → Parse Command
        after_tests ts left = then (parse_command m left) (after_first ts)

        if_read : List Node → Option (Command × List Node)
        if_read ns = then (many (parse_test m) (test_count b) ns) after_tests

    read_all : (m : ℕ) (cs : Commands) (rest : List Node) → CommandsInShape n k cs → all_nesting cs ≤ m → many (parse_command m) (command_count cs) (commands_nodes cs ++ rest) ≡ Some (command_list cs, rest)
    read_all m NoCommand rest h l = refl
    read_all m (MoreCommand c cs) rest h l =
        one_more (parse_command m) (command_count cs) c (command_list cs) (command_nodes c) (commands_nodes cs) rest
        (read_command m c (commands_nodes cs ++ rest) h.0 (omega (arith, l))) (read_all m cs rest h.1 (omega (arith, l)))

  some_first : {A B : Type 0} (p q : A × B) → Some p ≡ Some q → p.0 ≡ q.0
  some_first p q e = cc

  -- two commands in shape with the same nodes are the same
  pub one_command : (m : ℕ) (c d : Command) → CommandInShape n k c → CommandInShape n k d → nesting c ≤ m → nesting d ≤ m → command_nodes c ≡ command_nodes d → c ≡ d
  one_command m c d h k l o e =
      some_first (c, []) (d, [])
      (sym (read_command m c [] h l) ∙ ap (λ ns. parse_command m (ns ++ [])) e ∙ read_command m d [] k o)
