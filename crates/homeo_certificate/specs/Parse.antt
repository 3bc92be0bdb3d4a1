-- Reading nodes as a command whose nodes nest at most so deep: the command, and the nodes that are left.
use Rattle.std.specs.Prelude.{◌≡◌, ℕ, zero, suc, List, [], ◌∷◌, Option, Some, None, option_map, MatchOption}
use Rattle.std.specs.Option.{option_and_then}
use Rattle.homeo_syntax.specs.declared.low.SplitName.TheVariants as split
use Rattle.homeo_syntax.specs.declared.low.Temp.{Temp}
use Rattle.homeo_syntax.specs.Low.{Expr, Literal, OfTemp, Read, Sum, Product, Neg, Test, True, Not, Comparison, Command, Skip, Assign, Write, Print, Seq, If}
use Rattle.homeo_syntax.specs.LowView.{low_exprs, low_tests, low_commands}
use Rattle.homeo_certificate.specs.declared.nodes.Node.{Node}
use Rattle.homeo_certificate.specs.declared.nodes.Node.TheVariants as node
use Rattle.homeo_certificate.specs.Key.{definitions}

abbrev pub Parse : Type 0 → Type 0
Parse A = List Node → Option (A × List Node)

-- what was read, and then more
abbrev pub then : {A B : Type 0} → Option (A × List Node) → (A → Parse B) → Option (B × List Node)
then r f = option_and_then (λ p. f p.0 p.1) r

-- what was read, seen as something else
abbrev pub seen : {A B : Type 0} → (A → B) → Option (A × List Node) → Option (B × List Node)
seen f r = option_map (λ p. (f p.0, p.1)) r

-- so many phrases
abbrev pub many : {A : Type 0} → Parse A → ℕ → Parse (List A)
unfolding definitions
many f zero ns = Some ([], ns)
many f (suc n) ns = then (f ns) (λ a rest. seen (λ more. a ∷ more) (many f n rest))

abbrev pub parse_expr : ℕ → Parse Expr
unfolding definitions
parse_expr zero ns = None
parse_expr (suc m) (node.Literal n ∷ ns) = Some (Literal n, ns)
parse_expr (suc m) (node.Temp t ∷ ns) = Some (OfTemp t, ns)
parse_expr (suc m) (node.Base x ∷ ns) = Some (Read (split.Base x), ns)
parse_expr (suc m) (node.Delta x j ∷ ns) = Some (Read (split.Delta x j), ns)
parse_expr (suc m) (node.Sum n ∷ ns) = seen (λ es. Sum (low_exprs es)) (many (parse_expr m) n ns)
parse_expr (suc m) (node.Product n ∷ ns) = seen (λ es. Product (low_exprs es)) (many (parse_expr m) n ns)
parse_expr (suc m) (node.Neg ∷ ns) = seen Neg (parse_expr m ns)
parse_expr (suc m) _ = None

abbrev pub parse_test : ℕ → Parse Test
unfolding definitions
parse_test zero ns = None
parse_test (suc m) (node.True ∷ ns) = Some (True, ns)
parse_test (suc m) (node.Not n ∷ ns) = seen (λ ts. Not (low_tests ts)) (many (parse_test m) n ns)
parse_test (suc m) (node.Comparison op ∷ ns) =
    then (parse_expr m ns) (λ a rest. seen (Comparison op a) (parse_expr m rest))
parse_test (suc m) _ = None

-- a temporary, alone
abbrev pub parse_temp : ℕ → Parse Temp
unfolding definitions
parse_temp zero ns = None
parse_temp (suc m) (node.Temp t ∷ ns) = Some (t, ns)
parse_temp (suc m) _ = None

abbrev pub parse_command : ℕ → Parse Command
unfolding definitions
parse_command zero ns = None
parse_command (suc m) (node.Skip ∷ ns) = Some (Skip, ns)
parse_command (suc m) (node.Assign ∷ ns) = then (parse_temp m ns) (λ t rest. seen (Assign t) (parse_expr m rest))
parse_command (suc m) (node.Write x j ∷ ns) = seen (Write (split.Delta x j)) (parse_expr m ns)
parse_command (suc m) (node.Print ∷ ns) = seen Print (parse_expr m ns)
parse_command (suc m) (node.Seq n ∷ ns) = seen (λ cs. Seq (low_commands cs)) (many (parse_command m) n ns)
parse_command (suc m) (node.If n ∷ ns) =
    then (many (parse_test m) n ns)
    (λ ts rest. then (parse_command m rest) (λ c last. seen (If (low_tests ts) c) (parse_command m last)))
parse_command (suc m) _ = None

-- what was read is what the nodes are read as, and the nodes that are left are those behind it
abbrev pub Gives : {A : Type 0} → Option (A × List Node) → Option A → List Node → Type 0
Gives p r rest = MatchOption r (p ≡ None) (λ a. p ≡ Some (a, rest))

-- the command that the nodes are read as, with none left
abbrev pub IsWhole : List Node → Option Command → Type 0
IsWhole ns o = MatchOption o ((c : Command) → parse_command 1000 ns ≡ Some (c, []) → ⊥) (λ c. parse_command 1000 ns ≡ Some (c, []))
