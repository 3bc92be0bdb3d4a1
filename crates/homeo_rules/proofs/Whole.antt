-- A transaction as a whole: parameters, then the body.
use Rattle.std.proofs.Common.{◌≡◌, ◌≢◌, ℕ, zero, suc, ◌<◌, Bool, true, false, cond, ◌||◌, ◌==◌, List, [], ◌∷◌, ◌++◌, map, replicate, Option, is_some, length, refl, sym, ap, subst, ◌∙◌, arith, append-nil, append_assoc, slice_set, get_or-set_same, get_or-set_other}
use Rattle.std.specs.List.{flat_map}
use Rattle.std.proofs.lemmas.List.{length-set, length-replicate}
use Rattle.std.proofs.lemmas.Bool.Decides.{nat_tests}
use Rattle.homeo_lemmas.proofs.Bools.{or_nothing, or_true}
use Rattle.homeo_syntax.specs.Key.{definitions as syntax_definitions}
use Rattle.homeo_syntax.specs.Source as s
use Rattle.homeo_syntax.specs.SourceView.{plain_transaction}
use Rattle.homeo_syntax.specs.WellFormed.{Each, IsBelow, EachInCommand, EachInCommands}
use Rattle.homeo_syntax.specs.declared.phrase.Ident.{Ident}
use Rattle.homeo_syntax.specs.declared.workload.RangeDecl.{RangeDecl}
use Rattle.homeo_syntax.specs.declared.workload.Transaction.{Transaction}
use Rattle.homeo_syntax.specs.declared.command.Command.{Command}
use Rattle.homeo_meaning.specs.Key.{definitions as meaning_definitions}
use Rattle.homeo_meaning.specs.Bindings as m
use Rattle.homeo_meaning.specs.Occurrences.{Occurrence, within, in_expr, in_exprs, in_test, in_cond, in_fields, in_command, in_commands}
use Rattle.homeo_meaning.specs.NameRules.{when, fault}
use Rattle.homeo_meaning.specs.NumberRules.{range_bounds}
use Rattle.homeo_meaning.specs.TransactionRules.{is_in, each_from, each, local_of, body_faults, parameter_fault, transaction_faults}
use Rattle.homeo_meaning.specs.Faults.{of_transaction}
use Rattle.homeo_rules.specs.inner.Deciding.{keep_all}
use Rattle.homeo_meaning.specs.declared.rules.Fault.{Fault}
use Rattle.homeo_meaning.specs.declared.rules.Phase.TheVariants.{Duplicate}
use Rattle.homeo_meaning.specs.declared.rules.Local.{Local}
use Rattle.homeo_meaning.specs.declared.rules.Local.TheVariants as L
use Rattle.homeo_rules.specs.inner.Key.{definitions}
use Rattle.homeo_rules.specs.inner.Follow.{Standing, local_at, follow}
use Rattle.homeo_rules.specs.inner.Params.{is_parameter, enter_param, enter_params}
use Rattle.homeo_rules.specs.inner.Plain.{plain_commands}
use Rattle.homeo_rules.specs.inner.Listwise.{along_all}
use Rattle.homeo_rules.specs.inner.Within.{IsNamed}
use Rattle.homeo_rules.proofs.Steps.{keep_all-append}
use Rattle.homeo_rules.proofs.Listing.{all-along}
use Rattle.homeo_rules.proofs.Agrees.{TargetsWithin, in_more, follows}

-- ---- targets are names where all identifiers are
both : (n : ℕ) (ps qs : List Occurrence) → TargetsWithin n ps → TargetsWithin n qs → TargetsWithin n (ps ++ qs)
both n [] qs h k = k
both n (p ∷ ps) qs h k = (h.0, both n ps qs h.1 k)

mutual
  unfolding meaning_definitions

  no_targets : (n : ℕ) (rows : List m.Row) (e : s.Expr) → TargetsWithin n (in_expr rows e)
  no_targets n rows (s.Literal v) = tt
  no_targets n rows (s.Name x) = (tt, tt)
  no_targets n rows (s.Read x) = (tt, tt)
  no_targets n rows (s.Sum es) = no_targets_in n rows es
  no_targets n rows (s.Product es) = no_targets_in n rows es
  no_targets n rows (s.Neg e) = no_targets n rows e
  no_targets n rows (s.Field q e f) = (tt, (tt, no_targets n rows e))
  no_targets n rows (s.Row r f) = (tt, tt)
  no_targets n rows (s.Count r q c) = (tt, (tt, no_targets_cond n (within r q rows) c))
  no_targets n rows (s.Total r f q c) = (tt, (tt, (tt, no_targets_cond n (within r q rows) c)))

  no_targets_in : (n : ℕ) (rows : List m.Row) (es : s.Exprs) → TargetsWithin n (in_exprs rows es)
  no_targets_in n rows s.NoExpr = tt
  no_targets_in n rows (s.MoreExpr e es) = both n (in_expr rows e) (in_exprs rows es) (no_targets n rows e) (no_targets_in n rows es)

  no_targets_test : (n : ℕ) (rows : List m.Row) (t : s.Test) → TargetsWithin n (in_test rows t)
  no_targets_test n rows s.True = tt
  no_targets_test n rows (s.Not c) = no_targets_cond n rows c
  no_targets_test n rows (s.Comparison op d e) = both n (in_expr rows d) (in_expr rows e) (no_targets n rows d) (no_targets n rows e)

  no_targets_cond : (n : ℕ) (rows : List m.Row) (c : s.Cond) → TargetsWithin n (in_cond rows c)
  no_targets_cond n rows s.NoTest = tt
  no_targets_cond n rows (s.MoreTest t c) = both n (in_test rows t) (in_cond rows c) (no_targets_test n rows t) (no_targets_cond n rows c)

no_targets_values : (n : ℕ) (rows : List m.Row) (fs : List s.FieldValue) → TargetsWithin n (in_fields rows fs)
unfolding meaning_definitions
no_targets_values n rows [] = tt
no_targets_values n rows (f ∷ fs) = both n (in_expr rows f.value) (in_fields rows fs) (no_targets n rows f.value) (no_targets_values n rows fs)

mutual
  unfolding meaning_definitions syntax_definitions

  targets_of : (n : ℕ) (rows : List m.Row) (c : s.Command) → EachInCommand (IsBelow n) c → TargetsWithin n (in_command rows c)
  targets_of n rows s.Skip h = tt
  targets_of n rows (s.Assign t e) h = both n (in_expr rows e) _ (no_targets n rows e) (h.0, tt)
  targets_of n rows (s.Write x e) h = (tt, no_targets n rows e)
  targets_of n rows (s.Print e) h = no_targets n rows e
  targets_of n rows (s.If t c d) h =
      both n (in_cond rows t ++ in_command rows c) (in_command rows d) (both n (in_cond rows t) (in_command rows c) (no_targets_cond n rows t) (targets_of n rows c h.1)) (targets_of n rows d h.2)
  targets_of n rows (s.Block cs) h = targets n rows cs h
  targets_of n rows (s.SetField q i f e) h = (tt, (tt, both n (in_expr rows i) (in_expr rows e) (no_targets n rows i) (no_targets n rows e)))
  targets_of n rows (s.SetRow r f e) h = (tt, no_targets n rows e)
  targets_of n rows (s.Foreach r q t cs) h =
      (tt, (tt, both n (in_cond (within r q rows) t) (in_commands (within r q rows) cs) (no_targets_cond n (within r q rows) t) (targets n (within r q rows) cs h.3)))
  targets_of n rows (s.Insert q fs t) h = (tt, (tt, both n (in_fields rows fs) _ (no_targets_values n rows fs) (h.2, tt)))
  targets_of n rows (s.Delete r q t) h = (tt, (tt, no_targets_cond n (within r q rows) t))
  targets_of n rows (s.Update r q t f e) h =
      (tt, (tt, (tt, both n (in_cond (within r q rows) t) (in_expr (within r q rows) e) (no_targets_cond n (within r q rows) t) (no_targets n (within r q rows) e))))
  targets_of n rows s.Abort h = tt

  targets : (n : ℕ) (rows : List m.Row) (cs : s.Commands) → EachInCommands (IsBelow n) cs → TargetsWithin n (in_commands rows cs)
  targets n rows s.NoCommand h = tt
  targets n rows (s.MoreCommand c cs) h = both n (in_command rows c) (in_commands rows cs) (targets_of n rows c h.0) (targets n rows cs h.1)

-- ---- parameters
abbrev pub names : List Ident → List ℕ
names xs = map (λ x. x.name) xs

abbrev of_params : Bool → Local
of_params b = cond b L.Parameter L.Absent

params-is : (ps : List ℕ) (m : ℕ) → local_of ps [] m ≡ of_params (is_in m ps)
unfolding definitions meaning_definitions syntax_definitions
params-is ps m = refl

enter_case : (l : List Local) (ps : List ℕ) (n : ℕ) → n < length l → ((m : ℕ) → local_at l m ≡ local_of ps [] m) → (m : ℕ) (b : Bool) → (n == m) ≡ b → local_at (slice_set l n L.Parameter) m ≡ of_params (is_in m ps || b)
enter_case l ps n lt agree m true e =
    let same : n ≡ m = grind (arith, nat_tests) in
    let now : local_at (slice_set l n L.Parameter) n ≡ L.Parameter = get_or-set_same l n L.Parameter L.Absent lt in
    subst (λ k. local_at (slice_set l n L.Parameter) k ≡ L.Parameter) same now ∙ sym (ap of_params (or_true (is_in m ps)))
enter_case l ps n lt agree m false e =
    let other : m ≢ n = grind (arith, nat_tests) in
    get_or-set_other l n m L.Parameter L.Absent other ∙ agree m ∙ params-is ps m ∙ ap of_params (or_nothing (is_in m ps))

entered : (l : List Local) (ps : List ℕ) (n : ℕ) → n < length l → ((m : ℕ) → local_at l m ≡ local_of ps [] m) → (m : ℕ) → local_at (slice_set l n L.Parameter) m ≡ local_of (ps ++ n ∷ []) [] m
entered l ps n lt agree m = enter_case l ps n lt agree m (n == m) refl ∙ sym (params-is (ps ++ n ∷ []) m ∙ ap of_params (in_more ps n m))

parameter_is : (b : Bool) → is_parameter (of_params b) ≡ b
parameter_is true = refl
parameter_is false = refl

pub names_more : (before : List Ident) (x : Ident) → names (before ++ x ∷ []) ≡ names before ++ x.name ∷ []
names_more [] x = refl
names_more (y ∷ before) x = ap (λ l. y.name ∷ l) (names_more before x)

record Entered (sc : m.Scope) (n : ℕ) (before : List Ident) (start k : Standing) (ds : List RangeDecl) : Type 0 where
  long : length k.locals ≡ n
  agree : (m : ℕ) → local_at k.locals m ≡ local_of (names (before ++ map (λ d. d.name) ds)) [] m
  best : k.best ≡ keep_all start.best (each_from (parameter_fault sc) before (map (λ d. d.name) ds))

enters : (sc : m.Scope) (n : ℕ) (before : List Ident) (k : Standing) (ds : List RangeDecl) → length k.locals ≡ n → ((m : ℕ) → local_at k.locals m ≡ local_of (names before) [] m) → Each (λ d. IsBelow n d.name) ds → Entered sc n before k (enter_params sc k ds) ds
unfolding definitions meaning_definitions syntax_definitions
enters sc n before k [] len agree within = record { long = len; agree = λ m. agree m ∙ ap (λ xs. local_of (names xs) [] m) (sym (append-nil before)); best = refl }
enters sc n before k (d ∷ ds) len agree within =
    let x : Ident = d.name in
    let lt : x.name < length k.locals = subst (λ m. x.name < m) (sym len) within.0 in
    let next : (m : ℕ) → local_at (slice_set k.locals x.name L.Parameter) m ≡ local_of (names (before ++ x ∷ [])) [] m = λ m. entered k.locals (names before) x.name lt agree m ∙ ap (λ ps. local_of ps [] m) (sym (names_more before x)) in
    let rest : Entered sc n (before ++ x ∷ []) (enter_param sc k x) (enter_params sc (enter_param sc k x) ds) ds = enters sc n (before ++ x ∷ []) (enter_param sc k x) ds (length-set k.locals x.name L.Parameter ∙ len) next within.1 in
    let known : is_parameter (local_at k.locals x.name) ≡ is_in x.name (names before) = ap is_parameter (agree x.name ∙ params-is (names before) x.name) ∙ parameter_is (is_in x.name (names before)) in
    record {
      long = rest.long;
      agree = λ m. rest.agree m ∙ ap (λ xs. local_of (names xs) [] m) (append_assoc before (x ∷ []) (map (λ d. d.name) ds));
      best =
          rest.best
          ∙ ap (λ b. keep_all (keep_all k.best (when (is_some (sc.item x.name) || b) (fault Duplicate x))) (each_from (parameter_fault sc) (before ++ x ∷ []) (map (λ d. d.name) ds))) known
          ∙ sym (keep_all-append k.best (parameter_fault sc before x) (each_from (parameter_fault sc) (before ++ x ∷ []) (map (λ d. d.name) ds)));
    }

blank : (n m : ℕ) → local_at (replicate n L.Absent) m ≡ L.Absent
blank zero m = refl
blank (suc n) zero = refl
blank (suc n) (suc m) = blank n m

pub whole : (sc : m.Scope) (n : ℕ) (best : Option Fault) (t : s.Transaction) → IsNamed n t → (follow sc (enter_params sc (record { locals = replicate n L.Absent; best = best }) t.params) (in_commands [] t.body)).best ≡ keep_all best (transaction_faults sc t)
unfolding definitions meaning_definitions syntax_definitions
whole sc n best t within =
    let params : List Ident = map (λ d. d.name) t.params in
    let ps : List ℕ = names params in
    let places : List Occurrence = in_commands [] t.body in
    let k : Standing = record { locals = replicate n L.Absent; best = best } in
    let e : Entered sc n [] k (enter_params sc k t.params) t.params = enters sc n [] k t.params (length-replicate n L.Absent) (blank n) within.0 in
    follows sc ps n (enter_params sc k t.params) [] places e.long (λ i m. e.agree m i) (targets n [] t.body within.1)
    ∙ ap (λ b. keep_all b (body_faults sc ps places)) e.best
    ∙ sym (keep_all-append best (each (parameter_fault sc) params) (body_faults sc ps places))

-- with the bounds of the parameters before
pub in_all : (sc : m.Scope) (n : ℕ) (best bounds : Option Fault) (t : Transaction) (k0 k1 k2 : Standing) (ds es : List RangeDecl) (cs : List Command) → ds ≡ t.params.items → bounds ≡ along_all range_bounds best ds → es ≡ t.params.items → k0 ≡ record { locals = replicate n L.Absent; best = bounds } → k1 ≡ enter_params sc k0 es → cs ≡ t.body.items → k2 ≡ follow sc k1 (in_commands [] (plain_commands cs)) → IsNamed n (plain_transaction t) → k2.best ≡ keep_all best (of_transaction sc (plain_transaction t))
unfolding definitions meaning_definitions syntax_definitions
in_all sc n best bounds t k0 k1 k2 ds es cs params checked same at_start first body second within =
    let start : Option Fault → Standing = λ b. record { locals = replicate n L.Absent; best = b } in
    ap (λ k. k.best) (second ∙ (λ i. follow sc (first i) (in_commands [] (plain_commands (body i)))))
    ∙ (λ i. (follow sc (enter_params sc (at_start i) (same i)) (in_commands [] (plain_commands t.body.items))).best)
    ∙ whole sc n bounds (plain_transaction t) within
    ∙ ap (λ b. keep_all b (transaction_faults sc (plain_transaction t))) (checked ∙ (λ i. along_all range_bounds best (params i)) ∙ sym (all-along range_bounds best t.params.items))
    ∙ sym (keep_all-append best (flat_map range_bounds t.params.items) (transaction_faults sc (plain_transaction t)))
