-- What the parser reads of commands.
use Rattle.std.specs.Prelude.{ℕ, List, [], ◌∷◌, ◌-◌, nat_lt, if◌then◌else◌, map, Option, Some, None, Ok, Err}
use Rattle.homeo_syntax.specs.declared.token.Mark.TheVariants as mark
use Rattle.homeo_syntax.specs.declared.token.Kind.{Kind}
use Rattle.homeo_syntax.specs.declared.token.Kind.TheVariants as kind
use Rattle.homeo_syntax.specs.declared.token.Token.{Token}
use Rattle.homeo_syntax.specs.declared.token.Version.{Version}
use Rattle.homeo_syntax.specs.declared.token.Version.TheVariants.{First, Second}
use Rattle.homeo_syntax.specs.declared.phrase.Ident.{Ident}
use Rattle.homeo_syntax.specs.declared.command.Command.{Command as Command_}
use Rattle.homeo_syntax.specs.declared.command.FieldValue.{FieldValue}
use Rattle.homeo_syntax.specs.Listed.{Listed}
use Rattle.homeo_syntax.specs.Source as s
use Rattle.homeo_syntax.specs.SourceView.{commands, plain_command, plain_field}
use Rattle.homeo_syntax.specs.Grammar.{call, many}
use Rattle.homeo_syntax.specs.Rules as rules
use Rattle.homeo_syntax.specs.Rules.{Command, rule, lead}
use Rattle.homeo_reader.specs.inner.Engine.{Reading, ◌>>=◌, read, calls_at}
use Rattle.homeo_reader.specs.inner.Reading.{mark_read, ident_read, if_marked, opt_read, with_front, expr_read, cond_read, visit_read}

abbrev pub command_views : List Command_ → List s.Command
command_views cs = map plain_command cs

abbrev pub block_view : Listed Command_ → s.Commands
block_view l = commands (command_views l.items)

abbrev pub field_views : List FieldValue → List s.FieldValue
field_views fs = map plain_field fs

-- ---- what the engine reads by each rule
unfoldable pub command_read : Version → ℕ → List Token → Reading s.Command
command_read v room ts = (calls_at rule room).reads (Command v) ts

unfoldable pub commands_read : Version → ℕ → List Token → Reading (List s.Command)
commands_read v room ts = read (calls_at rule room) (many (lead mark.Semicolon (call (Command v)))) ts

unfoldable pub next_command_read : Version → ℕ → List Token → Reading (Option s.Command)
next_command_read v room ts = opt_read (calls_at rule room) (lead mark.Semicolon (call (Command v))) ts

unfoldable pub block_read : Version → ℕ → List Token → Reading s.Commands
block_read v room ts = read (calls_at rule room) (rules.block v) ts

-- behind the name x
unfoldable pub setting_read : ℕ → Ident → List Token → Reading s.Command
setting_read room x ts = read (calls_at rule room) rules.setting ts >>= λ y. Ok (y.0 x, y.1)

unfoldable pub field_value_read : ℕ → List Token → Reading s.FieldValue
field_value_read room ts = read (calls_at rule room) rules.field_value ts

unfoldable pub next_field_value_read : ℕ → List Token → Reading (Option s.FieldValue)
next_field_value_read room ts = opt_read (calls_at rule room) (lead mark.Comma rules.field_value) ts

unfoldable pub other_field_values_read : ℕ → List Token → Reading (List s.FieldValue)
other_field_values_read room ts = read (calls_at rule room) (many (lead mark.Comma rules.field_value)) ts

unfoldable pub field_values_read : ℕ → List Token → Reading (List s.FieldValue)
field_values_read room ts = read (calls_at rule room) rules.field_values ts

-- ---- the same, step by step
-- what follows a name and `[`
unfoldable pub field_setting_rest : ℕ → Ident → List Token → Reading s.Command
field_setting_rest room x ts =
    expr_read room ts >>= λ a. mark_read mark.CloseBracket a.1 >>= λ b. mark_read mark.Dot b.1 >>= λ c. ident_read c.1 >>= λ d.
    mark_read mark.Assign d.1 >>= λ e. expr_read room e.1 >>= λ f. Ok (s.SetField x a.0 d.0 f.0, f.1)

-- what follows a name and `.`
unfoldable pub row_setting_rest : ℕ → Ident → List Token → Reading s.Command
row_setting_rest room x ts = ident_read ts >>= λ a. mark_read mark.Assign a.1 >>= λ b. expr_read room b.1 >>= λ c. Ok (s.SetRow x a.0 c.0, c.1)

unfoldable pub setting_by : ℕ → Ident → Kind → Token → List Token → Reading s.Command
setting_by room x (kind.Fixed mark.Assign) t ts = expr_read room ts >>= λ a. Ok (s.Assign x a.0, a.1)
setting_by room x (kind.Fixed mark.OpenBracket) t ts = field_setting_rest room x ts
setting_by room x (kind.Fixed mark.Dot) t ts = row_setting_rest room x ts
setting_by room x _ t ts = Err (t ∷ ts)

unfoldable pub setting_do : ℕ → Ident → List Token → Reading s.Command
setting_do room x [] = Err []
setting_do room x (t ∷ ts) = setting_by room x t.kind t ts

unfoldable pub field_value_do : ℕ → List Token → Reading s.FieldValue
field_value_do room ts = ident_read ts >>= λ a. mark_read mark.Equal a.1 >>= λ b. expr_read room b.1 >>= λ c. Ok (record { field = a.0; value = c.0 }, c.1)

unfoldable pub next_field_value_do : ℕ → List Token → Reading (Option s.FieldValue)
next_field_value_do room ts = if_marked mark.Comma ts (λ r. field_value_read room r >>= λ x. Ok (Some x.0, x.1)) (Ok (None, ts))

unfoldable pub field_values_do : ℕ → List Token → Reading (List s.FieldValue)
field_values_do room ts = field_value_read room ts >>= λ x. other_field_values_read room x.1 >>= λ y. Ok (x.0 ∷ y.0, y.1)

unfoldable pub next_command_do : Version → ℕ → List Token → Reading (Option s.Command)
next_command_do v room ts = if_marked mark.Semicolon ts (λ r. command_read v room r >>= λ x. Ok (Some x.0, x.1)) (Ok (None, ts))

unfoldable pub block_do : Version → ℕ → List Token → Reading s.Commands
block_do v room ts =
    mark_read mark.OpenBrace ts >>= λ a.
    if_marked mark.CloseBrace a.1 (λ r. Ok (s.NoCommand, r))
    (if nat_lt 0 room then
    (command_read v room a.1 >>= λ b. with_front (b.0 ∷ []) (commands_read v room b.1) >>= λ c. mark_read mark.CloseBrace c.1 >>= λ d. Ok (commands c.0, d.1)) else Err a.1)

-- what follows `if`
unfoldable pub if_read : Version → ℕ → List Token → Reading s.Command
if_read v room ts =
    cond_read room ts >>= λ a. mark_read mark.Then a.1 >>= λ b. command_read v room b.1 >>= λ c. mark_read mark.Else c.1 >>= λ d. command_read v room d.1 >>= λ e.
    Ok (s.If a.0 c.0 e.0, e.1)

-- what follows `foreach`
unfoldable pub foreach_read : Version → ℕ → List Token → Reading s.Command
foreach_read v room ts = visit_read room ts >>= λ a. block_read v room a.1 >>= λ b. Ok (s.Foreach a.0.0 a.0.1.0 a.0.1.1 b.0, b.1)

-- what follows `insert`
unfoldable pub insert_read : ℕ → List Token → Reading s.Command
insert_read room ts =
    ident_read ts >>= λ a. mark_read mark.Open a.1 >>= λ b. field_values_read room b.1 >>= λ c. mark_read mark.Close c.1 >>= λ d.
    mark_read mark.Into d.1 >>= λ e. ident_read e.1 >>= λ f. Ok (s.Insert a.0 c.0 f.0, f.1)

-- what follows `delete`
unfoldable pub delete_read : ℕ → List Token → Reading s.Command
delete_read room ts = visit_read room ts >>= λ a. Ok (s.Delete a.0.0 a.0.1.0 a.0.1.1, a.1)

-- what follows `update`
unfoldable pub update_read : ℕ → List Token → Reading s.Command
update_read room ts =
    visit_read room ts >>= λ a. mark_read mark.Set a.1 >>= λ b. field_value_read room b.1 >>= λ c.
    Ok (s.Update a.0.0 a.0.1.0 a.0.1.1 c.0.field c.0.value, c.1)

-- at `abort`
unfoldable pub abort_read : Version → List Token → Reading s.Command
abort_read First ts = Err ts
abort_read Second ts = mark_read mark.Abort ts >>= λ a. Ok (s.Abort, a.1)

unfoldable pub command_by : Version → ℕ → Kind → Token → List Token → Reading s.Command
command_by v room (kind.Name n) t ts =
    if nat_lt 1 room then (ident_read (t ∷ ts) >>= λ a. setting_read (room - 1) a.0 a.1) else Err (t ∷ ts)
command_by v room (kind.Fixed mark.Skip) t ts = Ok (s.Skip, ts)
command_by v room (kind.Fixed mark.Abort) t ts = abort_read v (t ∷ ts)
command_by v room (kind.Fixed mark.OpenBrace) t ts = block_read v (room - 1) (t ∷ ts) >>= λ a. Ok (s.Block a.0, a.1)
command_by v room (kind.Fixed mark.Write) t ts =
    if nat_lt 1 room then
    (mark_read mark.Open ts >>= λ a. ident_read a.1 >>= λ b. mark_read mark.Equal b.1 >>= λ c.
    expr_read (room - 1) c.1 >>= λ d. mark_read mark.Close d.1 >>= λ e. Ok (s.Write b.0 d.0, e.1)) else Err (t ∷ ts)
command_by v room (kind.Fixed mark.Print) t ts =
    if nat_lt 1 room then (mark_read mark.Open ts >>= λ a. expr_read (room - 1) a.1 >>= λ b. mark_read mark.Close b.1 >>= λ c. Ok (s.Print b.0, c.1))
    else Err (t ∷ ts)
command_by v room (kind.Fixed mark.If) t ts = if nat_lt 1 room then if_read v (room - 1) ts else Err (t ∷ ts)
command_by v room (kind.Fixed mark.Foreach) t ts = if nat_lt 1 room then foreach_read v (room - 1) ts else Err (t ∷ ts)
command_by v room (kind.Fixed mark.Insert) t ts = if nat_lt 1 room then insert_read (room - 1) ts else Err (t ∷ ts)
command_by v room (kind.Fixed mark.Delete) t ts = if nat_lt 1 room then delete_read (room - 1) ts else Err (t ∷ ts)
command_by v room (kind.Fixed mark.Update) t ts = if nat_lt 1 room then update_read (room - 1) ts else Err (t ∷ ts)
command_by v room _ t ts = Err (t ∷ ts)

unfoldable pub command_do : Version → ℕ → List Token → Reading s.Command
command_do v room [] = Err []
command_do v room (t ∷ ts) = command_by v room t.kind t ts
