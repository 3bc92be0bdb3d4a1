-- One more command or test of a row in the making.
use Rattle.std.proofs.Common.{◌≡◌, Option, Some, None, List, [], ◌∷◌, ◌++◌, map, take, length, Bor, refl, sym, ap, ap₂, ◌∙◌, arith}
use Rattle.std.proofs.lemmas.List.{map_push, map-append, take-append-le}
use Rattle.homeo_lemmas.proofs.Lists.{take_whole}
use Rattle.homeo_syntax.specs.Key.{definitions as syntax_definitions}
use Rattle.homeo_syntax.specs.declared.low.LTest.{LTest}
use Rattle.homeo_syntax.specs.declared.low.LCommand.{LCommand}
use Rattle.homeo_syntax.specs.Low.{Expr, Test, Cond, Not, NoTest, MoreTest, Command, Commands, NoCommand, MoreCommand}
use Rattle.homeo_syntax.specs.LowView.{low_tests, low_commands, plain_ltest, plain_lcommand}
use Rattle.homeo_meaning.specs.LowMeaning.{Location, put}
use Rattle.homeo_plan.specs.Key.{definitions as plan_definitions}
use Rattle.homeo_plan.specs.Table.{Row, both, set_before, test_before, otherwise, clear_row, last_row}
use Rattle.homeo_table.specs.inner.Key.{definitions}
use Rattle.homeo_table.specs.inner.Partings.{and_then, row_with}
use Rattle.homeo_table.specs.inner.Makings.{command_before}
use Rattle.homeo_substitution.specs.Key.{definitions as substitution_definitions}
use Rattle.homeo_substitution.specs.Substitution.{substituted, substituted_test, substituted_cond}
use Rattle.homeo_substitution.proofs.Equations.{substituted-tests}
use Rattle.homeo_table.proofs.Substituted.{put-cond, substituted-both, none-cond}

abbrev pub row_of : Cond → Commands → Row
row_of c cs = record { formula = c; residual = cs }

-- ---- lists of tests and commands
both-append : (ts us : List Test) (c : Cond) → both (low_tests (ts ++ us)) c ≡ both (low_tests ts) (both (low_tests us) c)
unfolding plan_definitions syntax_definitions
both-append [] us c = refl
both-append (t ∷ ts) us c = ap (MoreTest t) (both-append ts us c)

both-none : (c : Cond) → both c NoTest ≡ c
unfolding plan_definitions
both-none NoTest = refl
both-none (MoreTest t c) = ap (MoreTest t) (both-none c)

pub then-push : (cs : List Command) (c : Command) (ds : Commands) → and_then (cs ++ c ∷ []) ds ≡ and_then cs (MoreCommand c ds)
unfolding definitions
then-push [] c ds = refl
then-push (d ∷ cs) c ds = ap (MoreCommand d) (then-push cs c ds)

pub then-none : (cs : List Command) → and_then cs NoCommand ≡ low_commands cs
unfolding definitions syntax_definitions
then-none [] = refl
then-none (c ∷ cs) = ap (MoreCommand c) (then-none cs)

-- ---- rows
pub row-new : (ts : List Test) (cs : List Command) (s : Location → Option Expr) → ts ≡ [] → cs ≡ [] → s ≡ (λ l. None) → row_with ts cs s ≡ clear_row
unfolding definitions plan_definitions syntax_definitions
row-new ts cs s e f h =
    ap₂ (λ ts cs. row_with ts cs s) e f ∙ ap (row_with [] []) h
    ∙ (λ i r. row_of (none-cond r.formula i) r.residual)

pub row-same :
    (ts ts' : List Test) (cs cs' : List Command) (s s' : Location → Option Expr) → ts ≡ ts' → cs ≡ cs' → s ≡ s' → row_with ts cs s ≡ row_with ts' cs' s'
row-same ts ts' cs cs' s s' e f h = ap₂ (λ ts cs. row_with ts cs s) e f ∙ ap (row_with ts' cs') h

row-put :
    (ts : List Test) (cs : List Command) (s : Location → Option Expr) (c : Command) (p : Location) (e : Expr) →
    row_with ts (cs ++ c ∷ []) (put s p (Some (substituted s e))) ≡ (λ r. row_with ts cs s (set_before c p e r))
unfolding plan_definitions
row-put ts cs s c p e = λ i r. row_of (both (low_tests ts) (put-cond s p e r.formula i)) (then-push cs c r.residual i)

commands-more :
    (xs ys : List (Bor LCommand)) (x : Bor LCommand) → ys ≡ xs ++ x ∷ [] →
    map (λ c. plain_lcommand c.now) ys ≡ map (λ c. plain_lcommand c.now) xs ++ plain_lcommand x.now ∷ []
commands-more xs ys x h = ap (map (λ c. plain_lcommand c.now)) h ∙ map_push (λ c. plain_lcommand c.now) xs x

pub row-set :
    (ts : List Test) (xs ys : List (Bor LCommand)) (s s' : Location → Option Expr) (x : Bor LCommand) (p : Location) (e v : Expr) →
    ys ≡ xs ++ x ∷ [] → s' ≡ put s p (Some v) → v ≡ substituted s e →
    row_with ts (map (λ c. plain_lcommand c.now) ys) s' ≡ (λ r. row_with ts (map (λ c. plain_lcommand c.now) xs) s (set_before (plain_lcommand x.now) p e r))
row-set ts xs ys s s' x p e v h k w =
    ap₂ (λ cs s. row_with ts cs s) (commands-more xs ys x h) (k ∙ ap (λ v. put s p (Some v)) w)
    ∙ row-put ts (map (λ c. plain_lcommand c.now) xs) s (plain_lcommand x.now) p e

pub row-command :
    (ts : List Test) (xs ys : List (Bor LCommand)) (s : Location → Option Expr) (x : Bor LCommand) → ys ≡ xs ++ x ∷ [] →
    row_with ts (map (λ c. plain_lcommand c.now) ys) s ≡ (λ r. row_with ts (map (λ c. plain_lcommand c.now) xs) s (command_before (plain_lcommand x.now) r))
unfolding command_before
row-command ts xs ys s x h =
    ap (λ cs. row_with ts cs s) (commands-more xs ys x h)
    ∙ (λ i r. row_of (both (low_tests ts) (substituted_cond s r.formula)) (then-push (map (λ c. plain_lcommand c.now) xs) (plain_lcommand x.now) r.residual i))

-- tests that are those of a condition with what stands there put in
pub row-asked :
    (ts ts' us : List Test) (cs : List Command) (s : Location → Option Expr) (b : Cond) → ts' ≡ ts ++ us → low_tests us ≡ substituted_cond s b →
    row_with ts' cs s ≡ (λ r. row_with ts cs s (test_before b r))
unfolding plan_definitions
row-asked ts ts' us cs s b e h =
    ap (λ ts. row_with ts cs s) e
    ∙ (λ i r. row_of
    ((both-append ts us (substituted_cond s r.formula)
    ∙ ap (λ c. both (low_tests ts) (both c (substituted_cond s r.formula))) h
    ∙ ap (both (low_tests ts)) (sym (substituted-both s b r.formula))) i)
    (and_then cs r.residual))

pub row-tests :
    (ts ts' us : List Test) (cs : List Command) (s : Location → Option Expr) (b : Cond) → ts' ≡ ts ++ map (substituted_test s) us → b ≡ low_tests us →
    row_with ts' cs s ≡ (λ r. row_with ts cs s (test_before b r))
row-tests ts ts' us cs s b e h =
    row-asked ts ts' (map (substituted_test s) us) cs s b e (sym (substituted-tests s us) ∙ ap (substituted_cond s) (sym h))

pub row-fails :
    (xs ys : List LTest) (cs : List Command) (s : Location → Option Expr) (x : LTest) (b : Cond) → ys ≡ xs ++ x ∷ [] →
    plain_ltest x ≡ Not (substituted_cond s b) → row_with (map plain_ltest ys) cs s ≡ (λ r. row_with (map plain_ltest xs) cs s (test_before (otherwise b) r))
unfolding substitution_definitions plan_definitions syntax_definitions
row-fails xs ys cs s x b e h =
    row-tests (map plain_ltest xs) (map plain_ltest ys) (Not b ∷ []) cs s (otherwise b)
    (ap (map plain_ltest) e ∙ map_push plain_ltest xs x ∙ ap (λ t. map plain_ltest xs ++ t ∷ []) h) refl

pub row-last : (ts : List Test) (cs : List Command) (s : Location → Option Expr) → row_of (low_tests ts) (low_commands cs) ≡ row_with ts cs s last_row
unfolding substitution_definitions plan_definitions
row-last ts cs s = ap₂ row_of (sym (both-none (low_tests ts))) (sym (then-none cs))

-- ---- what stands in front stays
pub begins-append : {X : Type 0} (xs ys us : List X) → ys ≡ xs ++ us → take (length xs) ys ≡ xs
begins-append xs ys us h = ap (take (length xs)) h ∙ take-append-le (length xs) xs us (omega arith) ∙ take_whole xs

pub begins-more : {X Y : Type 0} (f : X → Y) (xs ys us : List X) → ys ≡ xs ++ us → take (length (map f xs)) (map f ys) ≡ map f xs
begins-more f xs ys us h = begins-append (map f xs) (map f ys) (map f us) (ap (map f) h ∙ map-append f xs us)
