-- The texts of each kind of command of a residual, as they are made.
use Rattle.std.proofs.Common.{◌≡◌, ℕ, ◌+◌, ◌<◌, List, [], ◌∷◌, ◌++◌, Bor, length, map, take, get_or, append_assoc, append-nil, refl, ap, arith}
use Rattle.std.specs.Prelude.{codes}
use Rattle.std.specs.List.{flat_map}
use Rattle.homeo_syntax.specs.Key.{definitions as syntax_definitions}
use Rattle.homeo_syntax.specs.Source as s
use Rattle.homeo_syntax.specs.Low as l
use Rattle.homeo_syntax.specs.LowView.{low_commands, plain_lcommand}
use Rattle.homeo_syntax.specs.declared.low.Temp.{Temp}
use Rattle.homeo_syntax.specs.declared.low.SplitName.{SplitName}
use Rattle.homeo_syntax.specs.declared.low.LCommand.{LCommand}
use Rattle.homeo_print.specs.declared.position.Position.TheVariants as position
use Rattle.homeo_print.specs.Key.{definitions}
use Rattle.homeo_print.specs.Tables.{temp_text, split_name_text, command_text, later_commands, commands_text, residual_text}
use Rattle.homeo_print.specs.inner.Walk.{expr_text_in}
use Rattle.homeo_print.proofs.Listed.{flat_more}

-- ---- commands
pub of_Assign : (w : s.Workload) (t : Temp) (e : l.Expr) → command_text w (l.Assign t e) ≡ temp_text w t ++ codes " := " ++ expr_text_in w position.Alone e
unfolding definitions
of_Assign w t e = refl

pub of_Write : (w : s.Workload) (x : SplitName) (e : l.Expr) → command_text w (l.Write x e) ≡ codes "write(" ++ split_name_text w x ++ codes " = " ++ expr_text_in w position.Alone e ++ codes ")"
unfolding definitions
of_Write w x e = refl

pub of_Print : (w : s.Workload) (e : l.Expr) → command_text w (l.Print e) ≡ codes "print(" ++ expr_text_in w position.Alone e ++ codes ")"
unfolding definitions
of_Print w e = refl

pub of_Skip : (w : s.Workload) → command_text w l.Skip ≡ []
unfolding definitions
of_Skip w = refl

pub of_Seq : (w : s.Workload) (cs : l.Commands) → command_text w (l.Seq cs) ≡ []
unfolding definitions
of_Seq w cs = refl

pub of_If : (w : s.Workload) (test : l.Cond) (c d : l.Command) → command_text w (l.If test c d) ≡ []
unfolding definitions
of_If w test c d = refl

abbrev pub commands_behind : s.Workload → List (Bor LCommand) → List ℕ
unfolding definitions
commands_behind w cs = flat_map (λ c. codes "; " ++ command_text w (plain_lcommand c.now)) cs

pub no_commands : (w : s.Workload) → commands_behind w [] ≡ []
unfolding definitions
no_commands w = refl

pub no_command : (w : s.Workload) → commands_text w (low_commands (map (λ (c : Bor LCommand). plain_lcommand c.now) [])) ≡ []
unfolding definitions syntax_definitions
no_command w = refl

commands_all : (w : s.Workload) (cs : List (Bor LCommand)) → later_commands w (low_commands (map (λ c. plain_lcommand c.now) cs)) ≡ commands_behind w cs
unfolding definitions syntax_definitions
commands_all w [] = refl
commands_all w (c ∷ cs) = ap (λ l. (codes "; " ++ command_text w (plain_lcommand c.now)) ++ l) (commands_all w cs)

pub commands_are : (w : s.Workload) (c : Bor LCommand) (cs : List (Bor LCommand)) → commands_text w (low_commands (map (λ c. plain_lcommand c.now) (c ∷ cs))) ≡ command_text w (plain_lcommand c.now) ++ commands_behind w cs
unfolding definitions syntax_definitions
commands_are w c cs = ap (λ l. command_text w (plain_lcommand c.now) ++ l) (commands_all w cs)

pub commands_more : (w : s.Workload) (cs : List (Bor LCommand)) (i : ℕ) (c : Bor LCommand) → i < length cs → c ≡ get_or cs i c → commands_behind w (take (i + 1) cs) ≡ commands_behind w (take i cs) ++ (codes "; " ++ command_text w (plain_lcommand c.now))
unfolding definitions
commands_more w cs i c within is = flat_more (λ (c : Bor LCommand). codes "; " ++ command_text w (plain_lcommand c.now)) cs i c within is

-- ---- residuals
pub no_residual : (w : s.Workload) (cs : List (Bor LCommand)) → length cs < 1 → residual_text w (low_commands (map (λ c. plain_lcommand c.now) cs)) ≡ codes "{}"
unfolding definitions syntax_definitions
no_residual w [] empty = refl
no_residual w (c ∷ cs) empty = absurd (omega arith)

pub residual_is : (w : s.Workload) (cs : List (Bor LCommand)) → 0 < length cs → residual_text w (low_commands (map (λ c. plain_lcommand c.now) cs)) ≡ codes "{ " ++ commands_text w (low_commands (map (λ c. plain_lcommand c.now) cs)) ++ codes " }"
unfolding definitions syntax_definitions
residual_is w [] some = absurd (omega arith)
residual_is w (c ∷ cs) some = refl

pub ruleset table_steps = (append_assoc, of_Assign, of_Write, of_Print, of_Skip, of_Seq, of_If, append-nil, commands_more, no_residual, residual_is)
