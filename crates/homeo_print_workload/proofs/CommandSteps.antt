-- The tokens of each kind of command as it is made.
use Rattle.std.proofs.Common.{◌≡◌, ℕ, ◌+◌, ◌<◌, List, [], ◌∷◌, ◌++◌, length, map, take, get_or, append_assoc, Box, Global, refl, ap, ◌∙◌}
use Rattle.homeo_syntax.specs.Key.{definitions as syntax_definitions}
use Rattle.homeo_syntax.specs.Listed.{Listed}
use Rattle.homeo_syntax.specs.SourceView.{commands, plain_expr, plain_cond, plain_field, plain_command}
use Rattle.homeo_syntax.specs.declared.token.Mark.{Mark}
use Rattle.homeo_syntax.specs.declared.token.Mark.TheVariants as mark
use Rattle.homeo_syntax.specs.declared.token.Kind.TheVariants as kind
use Rattle.homeo_syntax.specs.declared.phrase.Ident.{Ident}
use Rattle.homeo_syntax.specs.declared.phrase.Expr.{Expr}
use Rattle.homeo_syntax.specs.declared.phrase.Cond.{Cond}
use Rattle.homeo_syntax.specs.declared.command.FieldValue.{FieldValue}
use Rattle.homeo_syntax.specs.declared.command.Command.{Command, Skip, Assign, Write, Print, If, Block, SetField, SetRow, Foreach, Insert, Delete, Update, Abort}
use Rattle.homeo_syntax.proofs.SourceViews as v
use Rattle.homeo_print.specs.declared.position.Position.TheVariants as position
use Rattle.homeo_print_workload.specs.Key.{definitions}
use Rattle.homeo_print_workload.specs.TokensOf.{Kinds, mark_of, led, separated, cond_kinds, setting_kinds, rows_kinds, command_kinds, commands_kinds, later_commands}
use Rattle.homeo_print_workload.specs.inner.Walk.{expr_in, row_field, chosen_of}
use Rattle.homeo_print_workload.proofs.Behind.{led_items, settings_behind, commands_behind}
use Rattle.homeo_print.proofs.Listed.{flat_more}

-- an expression by itself
abbrev pub whole : Expr → Kinds
whole e = expr_in position.Alone (plain_expr e)

-- ---- what stands behind a name that is set
pub setting_is : (f : FieldValue) → setting_kinds (plain_field f) ≡ kind.Name f.field.name ∷ kind.Fixed mark.Equal ∷ whole f.value
unfolding definitions syntax_definitions
setting_is f = refl

pub rows_are : (row relation : Ident) (test : Cond) → rows_kinds row relation (plain_cond test) ≡ kind.Name row.name ∷ (chosen_of relation ++ cond_kinds (plain_cond test))
unfolding definitions
rows_are row relation test = refl

-- ---- commands
pub of_Skip : command_kinds (plain_command Skip) ≡ mark_of mark.Skip
unfolding definitions
of_Skip = ap command_kinds v.plain_Skip

pub of_Abort : command_kinds (plain_command Abort) ≡ mark_of mark.Abort
unfolding definitions
of_Abort = ap command_kinds v.plain_Abort

pub of_Assign : (x : Ident) (e : Expr) → command_kinds (plain_command (Assign x e)) ≡ kind.Name x.name ∷ kind.Fixed mark.Assign ∷ whole e
unfolding definitions
of_Assign x e = ap command_kinds (v.plain_Assign x e)

pub of_Write : (x : Ident) (e : Expr) → command_kinds (plain_command (Write x e)) ≡ kind.Fixed mark.Write ∷ kind.Fixed mark.Open ∷ kind.Name x.name ∷ kind.Fixed mark.Equal ∷ (whole e ++ kind.Fixed mark.Close ∷ [])
unfolding definitions
of_Write x e = ap command_kinds (v.plain_Write x e)

pub of_Print : (e : Expr) → command_kinds (plain_command (Print e)) ≡ kind.Fixed mark.Print ∷ kind.Fixed mark.Open ∷ (whole e ++ kind.Fixed mark.Close ∷ [])
unfolding definitions
of_Print e = ap command_kinds (v.plain_Print e)

pub of_If : (test : Cond) (c d : Box Command Global) → command_kinds (plain_command (If test c d))
    ≡ kind.Fixed mark.If ∷ (cond_kinds (plain_cond test) ++ kind.Fixed mark.Then ∷ (command_kinds (plain_command c.value) ++ kind.Fixed mark.Else ∷ command_kinds (plain_command d.value)))
unfolding definitions
of_If test c d = ap command_kinds (v.plain_If test c d)

pub of_Block : (cs : Listed Command) → command_kinds (plain_command (Block cs)) ≡ kind.Fixed mark.OpenBrace ∷ (commands_kinds (commands (map plain_command cs.items)) ++ kind.Fixed mark.CloseBrace ∷ [])
unfolding definitions
of_Block cs = ap command_kinds (v.plain_Block cs)

pub of_SetField : (relation : Ident) (index : Box Expr Global) (field : Ident) (e : Box Expr Global) → command_kinds (plain_command (SetField relation index field e))
    ≡ kind.Name relation.name ∷ kind.Fixed mark.OpenBracket ∷ (whole index.value ++ kind.Fixed mark.CloseBracket ∷ kind.Fixed mark.Dot ∷ kind.Name field.name ∷ kind.Fixed mark.Assign ∷ whole e.value)
unfolding definitions
of_SetField relation index field e = ap command_kinds (v.plain_SetField relation index field e)

pub of_SetRow : (row field : Ident) (e : Box Expr Global) → command_kinds (plain_command (SetRow row field e)) ≡ row_field row field ++ kind.Fixed mark.Assign ∷ whole e.value
unfolding definitions
of_SetRow row field e = ap command_kinds (v.plain_SetRow row field e)

pub of_Foreach : (row relation : Ident) (test : Box Cond Global) (body : Listed Command) → command_kinds (plain_command (Foreach row relation test body))
    ≡ kind.Fixed mark.Foreach ∷ (rows_kinds row relation (plain_cond test.value) ++ kind.Fixed mark.OpenBrace ∷ (commands_kinds (commands (map plain_command body.items)) ++ kind.Fixed mark.CloseBrace ∷ []))
unfolding definitions
of_Foreach row relation test body = ap command_kinds (v.plain_Foreach row relation test body)

pub of_Insert : (relation : Ident) (fields : Listed FieldValue) (into : Ident) → command_kinds (plain_command (Insert relation fields into))
    ≡ kind.Fixed mark.Insert ∷ kind.Name relation.name ∷ kind.Fixed mark.Open ∷ (separated mark.Comma (map setting_kinds (map plain_field fields.items)) ++ kind.Fixed mark.Close ∷ kind.Fixed mark.Into ∷ kind.Name into.name ∷ [])
unfolding definitions
of_Insert relation fields into =
    ap command_kinds (v.plain_Insert relation fields into)
    ∙ ap (λ ks. kind.Fixed mark.Insert ∷ kind.Name relation.name ∷ kind.Fixed mark.Open ∷ ks) (append_assoc (separated mark.Comma (map setting_kinds (map plain_field fields.items))) (kind.Fixed mark.Close ∷ []) (kind.Fixed mark.Into ∷ kind.Name into.name ∷ []))

pub of_Delete : (row relation : Ident) (test : Cond) → command_kinds (plain_command (Delete row relation test)) ≡ kind.Fixed mark.Delete ∷ rows_kinds row relation (plain_cond test)
unfolding definitions
of_Delete row relation test = ap command_kinds (v.plain_Delete row relation test)

pub of_Update : (row relation : Ident) (test : Box Cond Global) (field : Ident) (e : Box Expr Global) → command_kinds (plain_command (Update row relation test field e))
    ≡ kind.Fixed mark.Update ∷ (rows_kinds row relation (plain_cond test.value) ++ kind.Fixed mark.Set ∷ kind.Name field.name ∷ kind.Fixed mark.Equal ∷ whole e.value)
unfolding definitions
of_Update row relation test field e = ap command_kinds (v.plain_Update row relation test field e)

-- ---- lists
pub led_all : {X : Type 0} (m : Mark) (f : X → Kinds) (xs : List X) → led m (map f xs) ≡ led_items m f xs
led_all m f [] = refl
led_all m f (x ∷ xs) = ap (λ l. kind.Fixed m ∷ (f x ++ l)) (led_all m f xs)

pub led_viewed : {X Y : Type 0} (m : Mark) (g : X → Y) (f : Y → Kinds) (xs : List X) → led m (map f (map g xs)) ≡ led_items m (λ x. f (g x)) xs
led_viewed m g f [] = refl
led_viewed m g f (x ∷ xs) = ap (λ l. kind.Fixed m ∷ (f (g x) ++ l)) (led_viewed m g f xs)

pub led_more : {X : Type 0} (m : Mark) (f : X → Kinds) (xs : List X) (i : ℕ) (x : X) → i < length xs → x ≡ get_or xs i x → led_items m f (take (i + 1) xs) ≡ led_items m f (take i xs) ++ kind.Fixed m ∷ f x
led_more {X} m f xs i x within is = flat_more (λ (x : X). kind.Fixed m ∷ f x) xs i x within is

pub no_settings : settings_behind [] ≡ []
unfolding definitions
no_settings = refl

pub no_setting : separated mark.Comma (map setting_kinds (map plain_field [])) ≡ []
unfolding definitions
no_setting = refl

pub settings_are : (f : FieldValue) (fs : List FieldValue) → separated mark.Comma (map setting_kinds (map plain_field (f ∷ fs))) ≡ setting_kinds (plain_field f) ++ settings_behind fs
unfolding definitions
settings_are f fs = ap (λ l. setting_kinds (plain_field f) ++ l) (led_viewed mark.Comma plain_field setting_kinds fs)

pub settings_more : (fs : List FieldValue) (i : ℕ) (f : FieldValue) → i < length fs → f ≡ get_or fs i f → settings_behind (take (i + 1) fs) ≡ settings_behind (take i fs) ++ kind.Fixed mark.Comma ∷ setting_kinds (plain_field f)
unfolding definitions
settings_more fs i f within is = led_more mark.Comma (λ (f : FieldValue). setting_kinds (plain_field f)) fs i f within is

pub no_commands : commands_behind [] ≡ []
unfolding definitions
no_commands = refl

pub no_command : commands_kinds (commands (map plain_command [])) ≡ []
unfolding definitions syntax_definitions
no_command = refl

commands_all : (cs : List Command) → later_commands (commands (map plain_command cs)) ≡ commands_behind cs
unfolding definitions syntax_definitions
commands_all [] = refl
commands_all (c ∷ cs) = ap (λ l. kind.Fixed mark.Semicolon ∷ (command_kinds (plain_command c) ++ l)) (commands_all cs)

pub commands_are : (c : Command) (cs : List Command) → commands_kinds (commands (map plain_command (c ∷ cs))) ≡ command_kinds (plain_command c) ++ commands_behind cs
unfolding definitions syntax_definitions
commands_are c cs = ap (λ l. command_kinds (plain_command c) ++ l) (commands_all cs)

pub commands_more : (cs : List Command) (i : ℕ) (c : Command) → i < length cs → c ≡ get_or cs i c → commands_behind (take (i + 1) cs) ≡ commands_behind (take i cs) ++ kind.Fixed mark.Semicolon ∷ command_kinds (plain_command c)
unfolding definitions
commands_more cs i c within is = led_more mark.Semicolon (λ (c : Command). command_kinds (plain_command c)) cs i c within is

pub ruleset command_steps = (append_assoc, setting_is, rows_are, of_Skip, of_Assign, of_Write, of_Print, of_If, of_Block, of_SetField, of_SetRow, of_Foreach, of_Insert, of_Delete, of_Update, of_Abort, settings_more, commands_more)
