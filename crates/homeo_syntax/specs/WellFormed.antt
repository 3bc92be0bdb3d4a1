-- What is true of each workload that a text reads as.
use Rattle.std.specs.Prelude.{◌≡◌, ◌≢◌, ◌<◌, ◌≤◌, ◌^◌, ℕ, ℤ, pos, ◌≤ℤ◌, ⊤, IsTrue, List, [], ◌∷◌, length, AllPairs, Option, Some, None}
use Rattle.std.specs.List.{list_all}
use Rattle.homeo_syntax.specs.declared.phrase.Ident.{Ident}
use Rattle.homeo_syntax.specs.declared.phrase.Number.{Number}
use Rattle.homeo_syntax.specs.declared.token.Version.{Version}
use Rattle.homeo_syntax.specs.declared.token.Version.TheVariants.{First, Second}
use Rattle.homeo_syntax.specs.declared.workload.ObjectDecl.{ObjectDecl}
use Rattle.homeo_syntax.specs.declared.workload.RangeDecl.{RangeDecl}
use Rattle.homeo_syntax.specs.Key.{definitions}
use Rattle.homeo_syntax.specs.Source as s
use Rattle.homeo_syntax.specs.Lexemes.{is_letter, is_word, reserved, look_up}
use Rattle.homeo_syntax.specs.Versions.{version_number, also_reserved}

abbrev pub BeginsWithLetter : List ℕ → Type 0
BeginsWithLetter [] = ⊥
BeginsWithLetter (b ∷ bytes) = IsTrue (is_letter b)

-- A letter, and then letters, digits and _; of at most 32 bytes, and no word that the version reserves.
pub record IsName (v : Version) (w : List ℕ) : Type 0 where
  pub first : BeginsWithLetter w
  pub all : IsTrue (list_all is_word w)
  pub short : length w ≤ 32
  pub free : look_up reserved w ≡ None
  pub also_free : look_up (also_reserved v) w ≡ None

-- a number of at most 18 digits, without a sign
pub record IsShort (n : ℤ) : Type 0 where
  pub size : ℕ
  pub value : n ≡ pos size
  pub short : size < 10 ^ 18

-- ---- a fact of each identifier
abbrev pub Each : {A : Type 0} → (A → Type 0) → List A → Type 0
unfolding definitions
Each P [] = ⊤
Each P (a ∷ all) = P a × Each P all

abbrev mutual
  unfolding definitions

  pub EachInExpr : (Ident → Type 0) → s.Expr → Type 0
  EachInExpr P (s.Literal n) = ⊤
  EachInExpr P (s.Name x) = P x
  EachInExpr P (s.Read x) = P x
  EachInExpr P (s.Sum es) = EachInExprs P es
  EachInExpr P (s.Product es) = EachInExprs P es
  EachInExpr P (s.Neg e) = EachInExpr P e
  EachInExpr P (s.Field relation index field) = P relation × EachInExpr P index × P field
  EachInExpr P (s.Row row field) = P row × P field
  EachInExpr P (s.Count row relation test) = P row × P relation × EachInCond P test
  EachInExpr P (s.Total row field relation test) = P row × P field × P relation × EachInCond P test

  pub EachInExprs : (Ident → Type 0) → s.Exprs → Type 0
  EachInExprs P s.NoExpr = ⊤
  EachInExprs P (s.MoreExpr e es) = EachInExpr P e × EachInExprs P es

  pub EachInTest : (Ident → Type 0) → s.Test → Type 0
  EachInTest P s.True = ⊤
  EachInTest P (s.Not c) = EachInCond P c
  EachInTest P (s.Comparison op a b) = EachInExpr P a × EachInExpr P b

  pub EachInCond : (Ident → Type 0) → s.Cond → Type 0
  EachInCond P s.NoTest = ⊤
  EachInCond P (s.MoreTest t c) = EachInTest P t × EachInCond P c

abbrev pub EachInFields : (Ident → Type 0) → List s.FieldValue → Type 0
unfolding definitions
EachInFields P [] = ⊤
EachInFields P (f ∷ fs) = P f.field × EachInExpr P f.value × EachInFields P fs

abbrev mutual
  unfolding definitions

  pub EachInCommand : (Ident → Type 0) → s.Command → Type 0
  EachInCommand P s.Skip = ⊤
  EachInCommand P (s.Assign target e) = P target × EachInExpr P e
  EachInCommand P (s.Write object e) = P object × EachInExpr P e
  EachInCommand P (s.Print e) = EachInExpr P e
  EachInCommand P (s.If test c d) = EachInCond P test × EachInCommand P c × EachInCommand P d
  EachInCommand P (s.Block cs) = EachInCommands P cs
  EachInCommand P (s.SetField relation index field e) = P relation × EachInExpr P index × P field × EachInExpr P e
  EachInCommand P (s.SetRow row field e) = P row × P field × EachInExpr P e
  EachInCommand P (s.Foreach row relation test body) = P row × P relation × EachInCond P test × EachInCommands P body
  EachInCommand P (s.Insert relation fields into) = P relation × EachInFields P fields × P into
  EachInCommand P (s.Delete row relation test) = P row × P relation × EachInCond P test
  EachInCommand P (s.Update row relation test field e) = P row × P relation × EachInCond P test × P field × EachInExpr P e
  EachInCommand P s.Abort = ⊤

  pub EachInCommands : (Ident → Type 0) → s.Commands → Type 0
  EachInCommands P s.NoCommand = ⊤
  EachInCommands P (s.MoreCommand c cs) = EachInCommand P c × EachInCommands P cs

abbrev pub InSchedule : (Ident → Type 0) → Option (List Ident) → Type 0
unfolding definitions
InSchedule P None = ⊤
InSchedule P (Some xs) = Each P xs

-- The fact holds of each identifier in the workload.
pub record EachIdent (P : Ident → Type 0) (w : s.Workload) : Type 0 where
  pub objects : Each (λ (o : ObjectDecl). P o.name) w.objects
  pub relations : Each (λ (r : s.RelationDecl). P r.name × Each (λ (f : RangeDecl). P f.name) r.fields) w.relations
  pub transactions : Each (λ (t : s.Transaction). P t.name × Each (λ (p : RangeDecl). P p.name) t.params × EachInCommands P t.body) w.transactions
  pub clients : Each (λ (c : s.Client). P c.name × Each (λ (k : s.Call). P k.name) c.calls) w.clients
  pub schedule : InSchedule P w.schedule

-- ---- what a version has
abbrev pub CanAbort : Version → Type 0
CanAbort First = ⊥
CanAbort Second = ⊤

abbrev mutual
  unfolding definitions

  -- the version has the command: only version 2 has `abort`
  pub HasCommand : Version → s.Command → Type 0
  HasCommand v s.Skip = ⊤
  HasCommand v (s.Assign target e) = ⊤
  HasCommand v (s.Write object e) = ⊤
  HasCommand v (s.Print e) = ⊤
  HasCommand v (s.If test c d) = HasCommand v c × HasCommand v d
  HasCommand v (s.Block cs) = HasCommands v cs
  HasCommand v (s.SetField relation index field e) = ⊤
  HasCommand v (s.SetRow row field e) = ⊤
  HasCommand v (s.Foreach row relation test body) = HasCommands v body
  HasCommand v (s.Insert relation fields into) = ⊤
  HasCommand v (s.Delete row relation test) = ⊤
  HasCommand v (s.Update row relation test field e) = ⊤
  HasCommand v s.Abort = CanAbort v

  pub HasCommands : Version → s.Commands → Type 0
  HasCommands v s.NoCommand = ⊤
  HasCommands v (s.MoreCommand c cs) = HasCommand v c × HasCommands v cs

-- ---- well formed
abbrev pub IsBelow : ℕ → Ident → Type 0
IsBelow n x = x.name < n

-- there are weights in version 2, and none in version 1
abbrev pub HasWeights : Version → List Number → Type 0
HasWeights First ns = ns ≡ []
HasWeights Second [] = ⊥
HasWeights Second (n ∷ ns) = ⊤

pub record IsWellFormed (w : s.Workload) : Type 0 where
  -- a version that there is
  pub form : Version
  pub version : w.version ≡ version_number form
  -- no name stands twice
  pub distinct : AllPairs (λ a b. a ≢ b) w.names
  pub spelled : Each (IsName form) w.names
  -- each identifier is the place of a name
  pub named : EachIdent (IsBelow (length w.names)) w
  -- no client's site is negative
  pub sites : Each (λ (c : s.Client). pos 0 ≤ℤ c.site.value) w.clients
  -- there are weights in version 2 alone, and none of them is negative
  pub weights : HasWeights form w.weights
  pub natural : Each (λ (n : Number). pos 0 ≤ℤ n.value) w.weights
  -- `abort` is in version 2 alone
  pub aborts : Each (λ (t : s.Transaction). HasCommands form t.body) w.transactions
