-- Which commands hold an abort, form by form and along lists, as equations, which code rewrites by.
use Rattle.std.proofs.Common.{◌≡◌, true, false, ◌||◌, List, [], ◌∷◌, refl}
use Rattle.homeo_lemmas.proofs.Bools.{or_false, or_unassoc}
use Rattle.homeo_syntax.specs.Key.{definitions as syntax_definitions}
use Rattle.homeo_syntax.specs.Source as s
use Rattle.homeo_syntax.specs.SourceView.{commands}
use Rattle.homeo_syntax.specs.declared.phrase.Ident.{Ident}
use Rattle.homeo_meaning.specs.Key.{definitions}
use Rattle.homeo_meaning.specs.Aborts.{holds_abort, hold_abort}

pub holds_Skip : holds_abort s.Skip ≡ false
unfolding definitions
holds_Skip = refl

pub holds_Assign : (t : Ident) (e : s.Expr) → holds_abort (s.Assign t e) ≡ false
unfolding definitions
holds_Assign t e = refl

pub holds_Write : (o : Ident) (e : s.Expr) → holds_abort (s.Write o e) ≡ false
unfolding definitions
holds_Write o e = refl

pub holds_Print : (e : s.Expr) → holds_abort (s.Print e) ≡ false
unfolding definitions
holds_Print e = refl

pub holds_If : (q : s.Cond) (c d : s.Command) → holds_abort (s.If q c d) ≡ holds_abort c || holds_abort d
unfolding definitions
holds_If q c d = refl

pub holds_Block : (cs : s.Commands) → holds_abort (s.Block cs) ≡ hold_abort cs
unfolding definitions
holds_Block cs = refl

pub holds_SetField : (q : Ident) (i : s.Expr) (f : Ident) (e : s.Expr) → holds_abort (s.SetField q i f e) ≡ false
unfolding definitions
holds_SetField q i f e = refl

pub holds_SetRow : (r f : Ident) (e : s.Expr) → holds_abort (s.SetRow r f e) ≡ false
unfolding definitions
holds_SetRow r f e = refl

pub holds_Foreach : (r q : Ident) (c : s.Cond) (cs : s.Commands) → holds_abort (s.Foreach r q c cs) ≡ hold_abort cs
unfolding definitions
holds_Foreach r q c cs = refl

pub holds_Insert : (q : Ident) (fs : List s.FieldValue) (t : Ident) → holds_abort (s.Insert q fs t) ≡ false
unfolding definitions
holds_Insert q fs t = refl

pub holds_Delete : (r q : Ident) (c : s.Cond) → holds_abort (s.Delete r q c) ≡ false
unfolding definitions
holds_Delete r q c = refl

pub holds_Update : (r q : Ident) (c : s.Cond) (f : Ident) (e : s.Expr) → holds_abort (s.Update r q c f e) ≡ false
unfolding definitions
holds_Update r q c f e = refl

pub holds_Abort : holds_abort s.Abort ≡ true
unfolding definitions
holds_Abort = refl

pub hold_end : hold_abort (commands []) ≡ false
unfolding definitions syntax_definitions
hold_end = refl

pub hold_more : (c : s.Command) (cs : List s.Command) → hold_abort (commands (c ∷ cs)) ≡ holds_abort c || hold_abort (commands cs)
unfolding definitions syntax_definitions
hold_more c cs = refl

pub ruleset holds = (holds_Skip, holds_Assign, holds_Write, holds_Print, holds_If, holds_Block, holds_SetField, holds_SetRow, holds_Foreach, holds_Insert, holds_Delete, holds_Update, holds_Abort)

pub ruleset lists = (hold_end, hold_more, or_unassoc, or_false)
