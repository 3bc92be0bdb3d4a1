-- Commands are spelled again by what is printed for them.
use Rattle.std.proofs.Common.{◌≡◌, ℕ, zero, suc, List, [], ◌∷◌, ◌++◌, append_assoc, map, refl, sym, ap}
use Rattle.std.specs.List.{flat_map}
use Rattle.homeo_syntax.specs.Key.{definitions as syntax_definitions}
use Rattle.homeo_syntax.specs.declared.token.Mark.TheVariants as mark
use Rattle.homeo_syntax.specs.declared.token.Kind.TheVariants as kind
use Rattle.homeo_syntax.specs.declared.token.Version.{Version}
use Rattle.homeo_syntax.specs.declared.token.Version.TheVariants.{First, Second}
use Rattle.homeo_syntax.specs.declared.phrase.Ident.{Ident}
use Rattle.homeo_syntax.specs.Source as s
use Rattle.homeo_syntax.specs.SourceView.{commands}
use Rattle.homeo_syntax.specs.Grammar.{call, Means}
use Rattle.homeo_syntax.specs.Rules as rules
use Rattle.homeo_syntax.specs.Rules.{Command, rule}
use Rattle.homeo_print_workload.specs.Key.{definitions}
use Rattle.homeo_print.specs.Parentheses.{Alone}
use Rattle.homeo_print_workload.specs.TokensOf.{Kinds, name_of, parenthesised, separated, braced, expr_at, cond_kinds, setting_kinds, command_kinds, commands_kinds, later_commands}
use Rattle.homeo_print_workload.specs.Offsets.{expr_without, cond_without, field_without, command_without, commands_without}
use Rattle.homeo_print_workload.proofs.Claims.{Meaning, Back, back_fixed, back_seq, back_as, back_alt, back_part, back_nothing, back_lead, back_closed, back_many, back_listed}
use Rattle.homeo_print_workload.proofs.Deeper.{back_called, never}
use Rattle.homeo_print_workload.proofs.NamesBack.{Tail, back_ident, tail_alt, tail_part, tail_as, back_named}
use Rattle.homeo_print_workload.proofs.TestsBack.{back_visit}
use Rattle.homeo_print_workload.proofs.ExpressionsBack.{back_expr, back_cond}

-- ---- lists
commands_same : (cs : List s.Command) → commands_without (commands cs) ≡ commands (map command_without cs)
unfolding definitions syntax_definitions
commands_same [] = refl
commands_same (c ∷ cs) = ap (s.MoreCommand (command_without c)) (commands_same cs)

commands_are : (cs : List s.Command) → flat_map (λ c. kind.Fixed mark.Semicolon ∷ command_kinds c) cs ≡ later_commands (commands cs)
unfolding definitions syntax_definitions
commands_are [] = refl
commands_are (c ∷ cs) = ap (λ (x : Kinds). kind.Fixed mark.Semicolon ∷ (command_kinds c ++ x)) (commands_are cs)

-- ---- settings
setting_step : {M : Meaning} → Back M rules.expr expr_without (expr_at Alone) → Tail M rules.setting command_without command_kinds
unfolding definitions
setting_step expr =
    tail_part
    (tail_alt (tail_as (λ p x. s.Assign x p) (λ a. refl) (λ a. refl) (back_seq back_ident (back_lead mark.Assign expr)))
    (tail_alt (tail_as (λ p x. s.SetField x p.0 p.1.0 p.1.1) (λ a. refl) (λ a. refl)
    (back_seq back_ident (back_lead mark.OpenBracket (back_seq expr (back_lead mark.CloseBracket (back_lead mark.Dot (back_seq back_ident (back_lead mark.Assign expr))))))))
    (tail_as (λ p x. s.SetRow x p.0 p.1) (λ a. refl) (λ a. refl) (back_seq back_ident (back_lead mark.Dot (back_seq back_ident (back_lead mark.Assign expr)))))))

field_value_step : {M : Meaning} → Back M rules.expr expr_without (expr_at Alone) → Back M rules.field_value field_without setting_kinds
unfolding definitions
field_value_step expr = back_part (back_as _ field_without setting_kinds (λ x. refl) (λ x. refl) (back_seq back_ident (back_lead mark.Equal expr)))

-- ---- commands
block_step : {M : Meaning} → (v : Version) → Back M (call (Command v)) command_without command_kinds → Back M (rules.block v) commands_without (λ cs. braced (commands_kinds cs))
unfolding definitions syntax_definitions
block_step v command =
    back_part (back_lead mark.OpenBrace (back_closed mark.CloseBrace
    (back_alt
    (back_as (λ p. commands (p.0 ∷ p.1)) commands_without commands_kinds (λ p. commands_same (p.0 ∷ p.1)) (λ p. ap (λ (x : Kinds). command_kinds p.0 ++ x) (commands_are p.1))
    (back_seq command (back_many (back_lead mark.Semicolon command))))
    (back_nothing s.NoCommand commands_without commands_kinds refl))))

-- the mark that closes the values of an insert stands before what comes then
insert_kinds : (relation into : Ident) (fields : List s.FieldValue) →
    name_of relation ++ kind.Fixed mark.Open ∷ (separated mark.Comma (map setting_kinds fields) ++ kind.Fixed mark.Close ∷ kind.Fixed mark.Into ∷ name_of into)
    ≡ name_of relation ++ (parenthesised (separated mark.Comma (map setting_kinds fields)) ++ kind.Fixed mark.Into ∷ name_of into)
insert_kinds relation into fields =
    ap (λ (x : Kinds). name_of relation ++ kind.Fixed mark.Open ∷ x)
    (sym (append_assoc (separated mark.Comma (map setting_kinds fields)) (kind.Fixed mark.Close ∷ []) (kind.Fixed mark.Into ∷ name_of into)))

common_step : {M : Meaning} → (v : Version) → Back M rules.expr expr_without (expr_at Alone) → Back M rules.cond cond_without cond_kinds → Back M (call (Command v)) command_without command_kinds → Back M (rules.common_command v) command_without command_kinds
unfolding definitions syntax_definitions
common_step v expr cond command =
    back_alt (back_as (λ p. s.Skip) command_without command_kinds (λ x. refl) (λ x. refl) (back_fixed mark.Skip))
    (back_alt (back_as s.Block command_without command_kinds (λ x. refl) (λ x. refl) (block_step v command))
    (back_alt (back_named (setting_step expr))
    (back_alt (back_as (λ p. s.Write p.0 p.1) command_without command_kinds (λ x. refl) (λ x. refl) (back_lead mark.Write (back_lead mark.Open (back_seq back_ident (back_lead mark.Equal (back_closed mark.Close expr))))))
    (back_alt (back_as s.Print command_without command_kinds (λ x. refl) (λ x. refl) (back_lead mark.Print (back_lead mark.Open (back_closed mark.Close expr))))
    (back_alt (back_as (λ p. s.If p.0 p.1.0 p.1.1) command_without command_kinds (λ x. refl) (λ x. refl) (back_lead mark.If (back_seq cond (back_lead mark.Then (back_seq command (back_lead mark.Else command))))))
    (back_alt (back_as (λ p. s.Foreach p.0.0 p.0.1.0 p.0.1.1 p.1) command_without command_kinds (λ x. refl) (λ x. refl) (back_lead mark.Foreach (back_seq (back_visit cond) (block_step v command))))
    (back_alt (back_as (λ p. s.Insert p.0 p.1.0 p.1.1) command_without command_kinds (λ x. refl) (λ x. ap (λ (k : Kinds). kind.Fixed mark.Insert ∷ k) (insert_kinds x.0 x.1.1 x.1.0))
    (back_lead mark.Insert (back_seq back_ident (back_lead mark.Open (back_seq (back_part (back_listed mark.Comma (field_value_step expr))) (back_lead mark.Close (back_lead mark.Into back_ident)))))))
    (back_alt (back_as (λ p. s.Delete p.0 p.1.0 p.1.1) command_without command_kinds (λ x. refl) (λ x. refl) (back_lead mark.Delete (back_visit cond)))
    (back_as (λ p. s.Update p.0.0 p.0.1.0 p.0.1.1 p.1.field p.1.value) command_without command_kinds (λ x. refl) (λ x. refl) (back_lead mark.Update (back_seq (back_visit cond) (back_lead mark.Set (field_value_step expr)))))))))))))

command_step : {M : Meaning} → (v : Version) → Back M rules.expr expr_without (expr_at Alone) → Back M rules.cond cond_without cond_kinds → Back M (call (Command v)) command_without command_kinds → Back M (rules.command v) command_without command_kinds
unfolding definitions
command_step First expr cond command = common_step First expr cond command
command_step Second expr cond command = back_alt (back_as (λ p. s.Abort) command_without command_kinds (λ x. refl) (λ x. refl) (back_fixed mark.Abort)) (common_step Second expr cond command)

pub back_command : (n : ℕ) (v : Version) → Back (Means rule n) (call (Command v)) command_without command_kinds
back_command zero v = never (Command v) command_without command_kinds
back_command (suc n) v = back_called n (Command v) (command_step v (back_expr n) (back_cond n) (back_command n v))

pub back_block : (n : ℕ) (v : Version) → Back (Means rule n) (rules.block v) commands_without (λ cs. braced (commands_kinds cs))
back_block n v = block_step v (back_command n v)
