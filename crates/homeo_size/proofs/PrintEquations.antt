-- The counts of prints form by form and along lists, as equations, which code rewrites by.
use Rattle.std.proofs.Common.{◌≡◌, ℕ, ◌+◌, ◌*◌, List, [], ◌∷◌, length, refl}
use Rattle.homeo_syntax.specs.Key.{definitions as syntax_definitions}
use Rattle.homeo_syntax.specs.Source as s
use Rattle.homeo_syntax.specs.SourceView.{commands}
use Rattle.homeo_syntax.specs.declared.phrase.Ident.{Ident}
use Rattle.homeo_meaning.specs.Context.{Context, slots}
use Rattle.homeo_size.specs.inner.Key.{definitions}
use Rattle.homeo_size.specs.inner.Prints.{print_cap, prints, all_prints}

pub prints_Skip : (x : Context) → prints x s.Skip ≡ 0
unfolding definitions
prints_Skip x = refl

pub prints_Assign : (x : Context) (t : Ident) (e : s.Expr) → prints x (s.Assign t e) ≡ 0
unfolding definitions
prints_Assign x t e = refl

pub prints_Write : (x : Context) (o : Ident) (e : s.Expr) → prints x (s.Write o e) ≡ 0
unfolding definitions
prints_Write x o e = refl

pub prints_Print : (x : Context) (e : s.Expr) → prints x (s.Print e) ≡ 1
unfolding definitions
prints_Print x e = refl

pub prints_If : (x : Context) (q : s.Cond) (c d : s.Command) → prints x (s.If q c d) ≡ print_cap (prints x c + prints x d)
unfolding definitions
prints_If x q c d = refl

pub prints_Block : (x : Context) (cs : s.Commands) → prints x (s.Block cs) ≡ all_prints x cs 0
unfolding definitions
prints_Block x cs = refl

pub prints_SetField : (x : Context) (q : Ident) (i : s.Expr) (f : Ident) (e : s.Expr) → prints x (s.SetField q i f e) ≡ 0
unfolding definitions
prints_SetField x q i f e = refl

pub prints_SetRow : (x : Context) (r f : Ident) (e : s.Expr) → prints x (s.SetRow r f e) ≡ 0
unfolding definitions
prints_SetRow x r f e = refl

pub prints_Foreach : (x : Context) (r q : Ident) (c : s.Cond) (cs : s.Commands) → prints x (s.Foreach r q c cs) ≡ print_cap (length (slots x q.name) * all_prints x cs 0)
unfolding definitions
prints_Foreach x r q c cs = refl

pub prints_Insert : (x : Context) (q : Ident) (fs : List s.FieldValue) (t : Ident) → prints x (s.Insert q fs t) ≡ 0
unfolding definitions
prints_Insert x q fs t = refl

pub prints_Delete : (x : Context) (r q : Ident) (c : s.Cond) → prints x (s.Delete r q c) ≡ 0
unfolding definitions
prints_Delete x r q c = refl

pub prints_Update : (x : Context) (r q : Ident) (c : s.Cond) (f : Ident) (e : s.Expr) → prints x (s.Update r q c f e) ≡ 0
unfolding definitions
prints_Update x r q c f e = refl

pub prints_Abort : (x : Context) → prints x s.Abort ≡ 0
unfolding definitions
prints_Abort x = refl

pub all_end : (x : Context) (n : ℕ) → all_prints x (commands []) n ≡ n
unfolding definitions syntax_definitions
all_end x n = refl

pub all_more : (x : Context) (n : ℕ) (c : s.Command) (cs : List s.Command) → all_prints x (commands (c ∷ cs)) n ≡ all_prints x (commands cs) (print_cap (n + prints x c))
unfolding definitions syntax_definitions
all_more x n c cs = refl

pub ruleset steps = (prints_Skip, prints_Assign, prints_Write, prints_Print, prints_If, prints_Block, prints_SetField, prints_SetRow, prints_Foreach, prints_Insert, prints_Delete, prints_Update, prints_Abort)

pub ruleset lists = (all_end, all_more)
