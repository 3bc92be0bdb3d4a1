-- Whatever a body names, its form names whole objects, names of temporaries and the fresh temporaries that it takes, and no others.
use Rattle.std.proofs.Common.{ℕ, ◌<◌, ◌≤◌, Bool, List, [], ◌∷◌}
use Rattle.homeo_syntax.specs.declared.low.Temp.{Temp}
use Rattle.homeo_syntax.specs.declared.low.Temp.TheVariants as temp
use Rattle.homeo_syntax.specs.declared.low.SplitName.{SplitName}
use Rattle.homeo_syntax.specs.declared.low.SplitName.TheVariants as split
use Rattle.homeo_syntax.specs.Source as s
use Rattle.homeo_syntax.specs.Key.{definitions as syntax_definitions}
use Rattle.homeo_syntax.specs.WellFormed.{EachInExpr, EachInExprs, EachInTest, EachInCond, EachInFields, EachInCommand, EachInCommands}
use Rattle.homeo_meaning.specs.Context.{Slot, Context, spot, cell, field_cell, object, slots, fields}
use Rattle.homeo_meaning.specs.Occurrences.{in_commands}
use Rattle.homeo_meaning.specs.LowWrites.{object_in}
use Rattle.homeo_meaning.specs.LForm.{body_by}
use Rattle.homeo_meaning.specs.Everywhere.{Everywhere}
use Rattle.homeo_lform.proofs.ObjectBounds.{Each}
use Rattle.homeo_lform.proofs.Assigned.{assigns}
use Rattle.homeo_lform.proofs.Bodies.{last_number, body_in, body_count}
use Rattle.homeo_lform.proofs.Gives.{Gives}

each_any : {X : Type 0} (xs : List X) → Each (λ x. Unit {0}) xs
each_any [] = tt
each_any (x ∷ xs) = (tt, each_any xs)

mutual
  unfolding syntax_definitions

  any_in_expr : (e : s.Expr) → EachInExpr (λ x. Unit {0}) e
  any_in_expr (s.Literal v) = tt
  any_in_expr (s.Name t) = tt
  any_in_expr (s.Read o) = tt
  any_in_expr (s.Sum es) = any_in_exprs es
  any_in_expr (s.Product es) = any_in_exprs es
  any_in_expr (s.Neg e) = any_in_expr e
  any_in_expr (s.Field q e f) = (tt, any_in_expr e, tt)
  any_in_expr (s.Row r f) = (tt, tt)
  any_in_expr (s.Count r q t) = (tt, tt, any_in_cond t)
  any_in_expr (s.Total r f q t) = (tt, tt, tt, any_in_cond t)

  any_in_exprs : (es : s.Exprs) → EachInExprs (λ x. Unit {0}) es
  any_in_exprs s.NoExpr = tt
  any_in_exprs (s.MoreExpr e es) = (any_in_expr e, any_in_exprs es)

  any_in_test : (t : s.Test) → EachInTest (λ x. Unit {0}) t
  any_in_test s.True = tt
  any_in_test (s.Not c) = any_in_cond c
  any_in_test (s.Comparison op d e) = (any_in_expr d, any_in_expr e)

  any_in_cond : (t : s.Cond) → EachInCond (λ x. Unit {0}) t
  any_in_cond s.NoTest = tt
  any_in_cond (s.MoreTest t ts) = (any_in_test t, any_in_cond ts)

any_in_fields : (fs : List s.FieldValue) → EachInFields (λ x. Unit {0}) fs
unfolding syntax_definitions
any_in_fields [] = tt
any_in_fields (f ∷ fs) = (tt, any_in_expr f.value, any_in_fields fs)

mutual
  unfolding syntax_definitions

  any_in_command : (c : s.Command) → EachInCommand (λ x. Unit {0}) c
  any_in_command s.Skip = tt
  any_in_command (s.Assign t e) = (tt, any_in_expr e)
  any_in_command (s.Write o e) = (tt, any_in_expr e)
  any_in_command (s.Print e) = any_in_expr e
  any_in_command (s.If t c d) = (any_in_cond t, any_in_command c, any_in_command d)
  any_in_command (s.Block cs) = any_in_commands cs
  any_in_command (s.SetField q i f e) = (tt, any_in_expr i, tt, any_in_expr e)
  any_in_command (s.SetRow r f e) = (tt, tt, any_in_expr e)
  any_in_command (s.Foreach r q t cs) = (tt, tt, any_in_cond t, any_in_commands cs)
  any_in_command (s.Insert q fs t) = (tt, any_in_fields fs, tt)
  any_in_command (s.Delete r q t) = (tt, tt, any_in_cond t)
  any_in_command (s.Update r q t f e) = (tt, tt, any_in_cond t, tt, any_in_expr e)
  any_in_command s.Abort = tt

  any_in_commands : (cs : s.Commands) → EachInCommands (λ x. Unit {0}) cs
  any_in_commands s.NoCommand = tt
  any_in_commands (s.MoreCommand c cs) = (any_in_command c, any_in_commands cs)

module _ (P : SplitName → Type 0) (Q : Temp → Type 0) (objects : (y : ℕ) → P (split.Whole y)) (names : (t : ℕ) → Q (temp.Named t)) where
  any_filled : (x : Context) (q : ℕ) (fs : List s.FieldValue) →
      Each (λ (f : s.FieldValue). (slot : Slot) → Unit {0} → P (split.Whole (cell slot (spot (fields x q) f.field.name)))) fs
  any_filled x q [] = tt
  any_filled x q (f ∷ fs) = (λ slot r. objects (cell slot (spot (fields x q) f.field.name)), any_filled x q fs)

  any_gives : Gives P Q (λ rows x. Unit {0}) (λ o. Unit {0}) (λ t. Unit {0}) (λ x q slot. Unit {0})
  any_gives =
      record {
        named = λ t h. names t.name;
        one_object = λ rows x o h c. objects (object x o.name).place;
        row_field = λ rows x r f h c. objects (field_cell (x.rows r.name) f.name);
        all_slots = λ rows x q h. each_any (slots x q);
        used = λ x q slot r. objects slot.used;
        field = λ rows inner x q f h c d slot r. (objects (cell slot (spot (fields x q.name) f.name)), objects (field_cell slot f.name));
        filled = λ rows x q fs h c d. any_filled x q.name fs;
        bound = λ rows inner x r q slot h c i. tt;
      }

  -- so what holds of all these holds everywhere in the form
  pub any_body_in : (v : Bool) (x : Context) (cs : s.Commands) (b : ℕ) → 0 < b → ((m : ℕ) → m < b → Q (temp.Fresh m)) → last_number v x cs ≤ b →
      Everywhere P Q (body_by v x cs)
  any_body_in v x cs =
      body_in P Q (λ rows x. Unit {0}) (λ o. Unit {0}) (λ t. Unit {0}) (λ x q slot. Unit {0}) any_gives (λ y h. objects (object_in y)) x cs tt
      (each_any (in_commands [] cs)) (any_in_commands cs) v

pub any_body_count : (v : Bool) (x : Context) (cs : s.Commands) → last_number v x cs ≤ assigns (body_by v x cs)
any_body_count v x cs =
    body_count (λ y. Unit {0}) (λ t. Unit {0}) (λ rows x. Unit {0}) (λ o. Unit {0}) (λ t. Unit {0}) (λ x q slot. Unit {0})
    (any_gives (λ y. Unit {0}) (λ t. Unit {0}) (λ y. tt) (λ t. tt)) (λ y h. tt) x cs tt (each_any (in_commands [] cs)) (any_in_commands cs) v
