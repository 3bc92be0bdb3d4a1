-- The L form of what is called.
use Rattle.std.proofs.Common.{◌≡◌, ℕ, zero, suc, ◌+◌, ◌^◌, ◌<◌, ◌≤◌, true, false, ℤ, Some, List, [], ◌∷◌, map, length, sym, ap, ◌∙◌, subst, arith}
use Rattle.std.specs.Prelude.{slice_get, IsSome}
use Rattle.std.proofs.lemmas.Bool.{false≢true}
use Rattle.homeo_syntax.specs.Key.{definitions as syntax_definitions}
use Rattle.homeo_syntax.specs.Source as s
use Rattle.homeo_syntax.specs.Low as L
use Rattle.homeo_syntax.specs.SourceView.{commands, plain_command, plain_transaction, plain_workload}
use Rattle.homeo_syntax.specs.declared.command.Command.{Command}
use Rattle.homeo_syntax.specs.declared.workload.RangeDecl.{RangeDecl}
use Rattle.homeo_syntax.specs.declared.workload.Transaction.{Transaction}
use Rattle.homeo_syntax.specs.declared.workload.Workload.{Workload}
use Rattle.homeo_meaning.specs.Key.{definitions}
use Rattle.homeo_meaning.specs.Acceptance.{IsAccepted}
use Rattle.homeo_meaning.specs.Context.{Context, context, arguments_of}
use Rattle.homeo_meaning.specs.Declarations.{Declarations}
use Rattle.homeo_meaning.specs.Ground.{Ground}
use Rattle.homeo_context.specs.Contexts.{call_context}
use Rattle.homeo_context.specs.declared.arguments.Argument.{Argument}
use Rattle.homeo_meaning.specs.Aborts.{hold_abort}
use Rattle.homeo_meaning.specs.LowWrites.{all_written}
use Rattle.homeo_meaning.specs.LForm.{forms, saved_in, undoing, body_by, l_form}
use Rattle.homeo_meaning.specs.Schema.{Schema, schema_of}
use Rattle.homeo_meaning.specs.NumberRules.{limit_faults}
use Rattle.homeo_meaning.specs.declared.call.Purpose.TheVariants.{Run}
use Rattle.homeo_meaning.proofs.FaultParts.{parts}
use Rattle.homeo_meaning.proofs.SoundRelations.{objects-fit}
use Rattle.homeo_desugar.specs.inner.Key.{definitions as desugar_definitions}
use Rattle.homeo_meaning.specs.CallForm.{body_form, ground_form}
use Rattle.homeo_desugar.specs.inner.Made.{AreFormed}
use Rattle.homeo_desugar.specs.SchemaFits.{SchemaFits}

-- ---- a transaction by its number
in_list : (ts : List Transaction) (n : ℕ) → IsSome (slice_get (map plain_transaction ts) n) → n < length ts
in_list [] n h = absurd (false≢true h)
in_list (t ∷ ts) zero h = omega arith
in_list (t ∷ ts) (suc n) h = omega (arith, in_list ts n h)

pub number_within : (w : Workload) (ts : List Transaction) (n : ℕ) → ts ≡ w.transactions.items → IsSome (slice_get (plain_workload w).transactions n) → n < length ts
unfolding syntax_definitions
number_within w ts n e h = in_list ts n (subst (λ l. IsSome (slice_get (map plain_transaction l) n)) (sym e) h)

-- ---- the schema of a workload
-- an accepted workload has few objects
pub schema_fits : (w : Workload) (x : Schema) → x ≡ schema_of (plain_workload w) → IsAccepted (plain_workload w) → SchemaFits x
schema_fits w x e accepted =
    let limits : limit_faults (plain_workload w) ≡ [] = (parts Run (plain_workload w) accepted.rules).text.limits in
    subst SchemaFits (sym e) (few_fit (objects-fit (plain_workload w) limits))
  where
    few_fit : {n : ℕ} → n ≤ 1024 → n + 1 < 2 ^ 32
    few_fit h = omega arith

-- ---- its form
-- a body that can't end its call
pub plain_body : (x y : Context) (body : s.Commands) (after : ℕ) (made : L.Commands) → y ≡ x → hold_abort body ≡ false → AreFormed after (forms y false body 0) made → L.Seq made ≡ body_by (hold_abort body) x body
unfolding definitions
plain_body x y body after made e none formed =
    ap L.Seq (formed.commands ∙ ap (λ z. (forms z false body 0).commands) e) ∙ sym (ap (λ v. body_by v x body) none)

-- one that can: its objects are found in its form, and saved before it
pub undone_body : (x y : Context) (body : s.Commands) (first after : ℕ) (plain made : L.Commands) (saved : List ℕ) (r : L.Command) → y ≡ x → hold_abort body ≡ true → AreFormed first (forms y false body 0) plain → saved ≡ all_written plain [] →
    AreFormed after (forms y false body (1 + length saved)) made → r ≡ undoing saved made → r ≡ body_by (hold_abort body) x body
unfolding definitions
undone_body x y body first after plain made saved r e some found is formed undone =
    let same : saved ≡ saved_in x body = is ∙ ap (λ p. all_written p []) (found.commands ∙ ap (λ z. (forms z false body 0).commands) e) in
    undone
    ∙ ap (undoing saved) (formed.commands ∙ ap (λ z. (forms z false body (1 + length saved)).commands) e)
    ∙ ap (λ xs. undoing xs (forms x false body (1 + length xs)).commands) same
    ∙ sym (ap (λ v. body_by v x body) some)

pub transaction_formed : (t : Transaction) (d : Declarations) (bound given : List Argument) (params : List RangeDecl) (args : List ℤ) (body : List Command) (r : L.Command) → params ≡ t.params.items → body ≡ t.body.items → given ≡ bound →
    arguments_of (map (λ a. a.name) bound) (map (λ a. a.value) bound) ≡ arguments_of (map (λ p. p.name.name) params) args → r ≡ body_by (hold_abort (commands (map plain_command body))) (call_context d given) (commands (map plain_command body)) →
    r ≡ l_form d.schema (map (λ p. p.name.name) t.params.items) args (plain_transaction t).body
unfolding definitions syntax_definitions desugar_definitions
transaction_formed t d bound given params args body r p b g a formed =
    let form : Context → List Command → L.Command = λ x cs. body_by (hold_abort (commands (map plain_command cs))) x (commands (map plain_command cs)) in
    formed
    ∙ (λ i. form (call_context d (g i)) body)
    ∙ (λ i. form (record { schema = d.schema; arguments = a i; rows = (call_context d given).rows }) body)
    ∙ (λ i. form (context d.schema (map (λ p. p.name.name) (p i)) args) (b i))

-- what a ground call calls
pub call_formed : (w own : Workload) (g : Ground) (t : Transaction) (x : Schema) (args : List ℤ) (r : L.Command) → own ≡ w → slice_get (plain_workload own).transactions g.transaction ≡ Some (plain_transaction t) → x ≡ schema_of (plain_workload w) → args ≡ g.args →
    r ≡ l_form x (map (λ p. p.name.name) t.params.items) args (plain_transaction t).body → r ≡ ground_form (plain_workload w) g
unfolding definitions desugar_definitions syntax_definitions
call_formed w own g t x args r e at o a is =
    let here : slice_get (plain_workload w).transactions g.transaction ≡ Some (plain_transaction t) = ap (λ w. slice_get (plain_workload w).transactions g.transaction) (sym e) ∙ at in
    let form : Schema → List ℤ → s.Transaction → L.Command = λ x args t. l_form x (map (λ p. p.name.name) t.params) args t.body in
    let same : r ≡ form (schema_of (plain_workload w)) g.args (plain_transaction t) = is ∙ (λ i. form (o i) (a i) (plain_transaction t)) in
    same ∙ sym (ap (λ o. body_form (plain_workload w) o g.args) here)
