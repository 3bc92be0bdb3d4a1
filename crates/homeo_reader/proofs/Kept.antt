-- Each identifier of a workload is the place of a name, and no site is negative.
use Rattle.std.proofs.Common.{◌≡◌, ◌<◌, ℕ, zero, suc, ℤ, pos, negsuc, ◌≤ℤ◌, true, List, [], ◌∷◌, refl, rules as std_rules}
use Rattle.homeo_syntax.specs.declared.workload.RangeDecl.{RangeDecl}
use Rattle.std.specs.Prelude.{None}
use Rattle.std.proofs.lemmas.Bool.{and_parts}
use Rattle.homeo_syntax.specs.Key.{definitions}
use Rattle.homeo_syntax.specs.declared.token.Mark.{Mark}
use Rattle.homeo_syntax.specs.declared.token.Mark.TheVariants as mark
use Rattle.homeo_syntax.specs.declared.token.Kind.{Kind}
use Rattle.homeo_syntax.specs.declared.token.Kind.TheVariants as kind
use Rattle.homeo_syntax.specs.declared.token.Token.{Token}
use Rattle.homeo_syntax.specs.declared.token.Version.{Version}
use Rattle.homeo_syntax.specs.declared.token.Version.TheVariants.{First, Second}
use Rattle.homeo_syntax.specs.declared.phrase.Number.{Number}
use Rattle.homeo_syntax.specs.declared.phrase.Ident.{Ident}
use Rattle.homeo_syntax.specs.Source as s
use Rattle.homeo_syntax.specs.SourceView.{exprs, tests, commands}
use Rattle.homeo_syntax.specs.Classes.{name_class}
use Rattle.homeo_syntax.specs.Grammar.{call, takes, Means}
use Rattle.homeo_syntax.specs.Rules as rules
use Rattle.homeo_syntax.specs.Rules.{Deep, Factor, Test, Command, Tree, Rule, rule, limit, name_in, value_in, is_natural, is_natural_value, product_of, sum_of}
use Rattle.homeo_syntax.specs.WellFormed.{Each, EachInExpr, EachInExprs, EachInTest, EachInCond, EachInCommand, EachInCommands, EachInFields, InSchedule, EachIdent, IsBelow, HasWeights}
use Rattle.homeo_syntax.specs.Versions.{version_number}
use Rattle.homeo_reader.proofs.Keeps.{Sound, Meaning, Every, sound_token, sound_nothing, sound_seq, sound_alt, sound_part, sound_as, sound_many, sound_lead, sound_closed, sound_block}

-- a name's place is below this number
abbrev pub Named : ℕ → Kind → Type 0
Named n (kind.Name m) = m < n
Named n _ = Unit {0}

is_name : (n : ℕ) (k : Kind) → takes (name_class ∷ []) (λ k. true) k ≡ true → Named n k → name_in k < n
is_name n (kind.Name m) h f = f
is_name n (kind.Fixed mark.Assign) h f = let no : ⊥ = cc in absurd no
is_name n k h f = let no : ⊥ = cc in absurd no

natural_value : (z : ℤ) → is_natural_value z ≡ true → pos 0 ≤ℤ z
natural_value (pos n) h = search std_rules
natural_value (negsuc n) h = let no : ⊥ = cc in absurd no

pub each_of : {A : Type 0} → (P Q : A → Type 0) → ((a : A) → P a → Q a) → (all : List A) → Every P all → Each Q all
unfolding definitions
each_of P Q h [] e = tt
each_of P Q h (a ∷ all) e = (h a e.0, each_of P Q h all e.1)

each_exprs : (B : Ident → Type 0) (es : List s.Expr) → Every (EachInExpr B) es → EachInExprs B (exprs es)
unfolding definitions
each_exprs B [] h = tt
each_exprs B (e ∷ es) h = (h.0, each_exprs B es h.1)

each_tests : (B : Ident → Type 0) (ts : List s.Test) → Every (EachInTest B) ts → EachInCond B (tests ts)
unfolding definitions
each_tests B [] h = tt
each_tests B (t ∷ ts) h = (h.0, each_tests B ts h.1)

each_commands : (B : Ident → Type 0) (cs : List s.Command) → Every (EachInCommand B) cs → EachInCommands B (commands cs)
unfolding definitions
each_commands B [] h = tt
each_commands B (c ∷ cs) h = (h.0, each_commands B cs h.1)

product_kept : (B : Ident → Type 0) (e : s.Expr) (fs : List s.Expr) → EachInExpr B e → Every (EachInExpr B) fs → EachInExpr B (product_of e fs)
unfolding definitions
product_kept B e [] h k = h
product_kept B e (f ∷ fs) h k = each_exprs B (e ∷ f ∷ fs) (h, k)

sum_kept : (B : Ident → Type 0) (e : s.Expr) (fs : List s.Expr) → EachInExpr B e → Every (EachInExpr B) fs → EachInExpr B (sum_of e fs)
unfolding definitions
sum_kept B e [] h k = h
sum_kept B e (f ∷ fs) h k = each_exprs B (e ∷ f ∷ fs) (h, k)

each_fields : (B : Ident → Type 0) (fs : List s.FieldValue) → Every (λ f. B f.field × EachInExpr B f.value) fs → EachInFields B fs
unfolding definitions
each_fields B [] h = tt
each_fields B (f ∷ fs) h = (h.0.0, h.0.1, each_fields B fs h.1)

abbrev Phrase : (Ident → Type 0) → (c : Deep) → Tree c → Type 0
Phrase B Factor = EachInExpr B
Phrase B Test = EachInTest B
Phrase B (Command v) = EachInCommand B

abbrev IsRelation : (Ident → Type 0) → s.RelationDecl → Type 0
IsRelation B r = B r.name × Each (λ (f : RangeDecl). B f.name) r.fields

abbrev IsTransaction : (Ident → Type 0) → s.Transaction → Type 0
IsTransaction B t = B t.name × Each (λ (p : RangeDecl). B p.name) t.params × EachInCommands B t.body

abbrev IsClient : (Ident → Type 0) → s.Client → Type 0
IsClient B c = B c.name × Each (λ (k : s.Call). B k.name) c.calls

abbrev IsSite : s.Client → Type 0
IsSite c = pos 0 ≤ℤ c.site.value

abbrev IsWeight : Number → Type 0
IsWeight x = pos 0 ≤ℤ x.value

pub record IsKept (n : ℕ) (v : Version) (names : List (List ℕ)) (w : s.Workload) : Type 0 where
  pub version : w.version ≡ version_number v
  pub names_are : w.names ≡ names
  pub named : EachIdent (IsBelow n) w
  pub sites : Each IsSite w.clients
  pub weights : HasWeights v w.weights
  pub natural : Each IsWeight w.weights

module _ (n : ℕ) (M : Meaning) (hyp : (c : Deep) → Sound M (λ t. Named n t.kind) (call c) (Phrase (IsBelow n) c)) where
  abbrev F : Token → Type 0
  F t = Named n t.kind

  abbrev B : Ident → Type 0
  B = IsBelow n

  abbrev E : s.Expr → Type 0
  E = EachInExpr B

  anything : {X : Type 0} → (g : Rule X) → Sound M F g (λ x. Unit {0})
  anything g = record { of = λ a ts s f. tt }

  ident_kept : Sound M F rules.ident B
  ident_kept = sound_token M F _ _ _ _ B (λ t h f. is_name n t.kind h f)

  term_kept : Sound M F rules.term E
  term_kept =
      sound_part M F _ E (sound_as M F _ _ _ E (sound_seq M F _ _ E (Every E) (hyp Factor) (sound_many M F _ E (sound_lead M F mark.Star _ E (hyp Factor))))
      (λ p h. product_kept B p.0 p.1 h.0 h.1))

  expr_kept : Sound M F rules.expr E
  unfolding definitions
  expr_kept =
      sound_part M F _ E (sound_as M F _ _ _ E
      (sound_seq M F _ _ E (Every E) term_kept
      (sound_many M F _ E (sound_alt M F _ _ E (sound_lead M F mark.Plus _ E term_kept)
      (sound_as M F s.Neg _ E E (sound_lead M F mark.Minus _ E term_kept) (λ a h. h)))))
      (λ p h. sum_kept B p.0 p.1 h.0 h.1))

  cond_kept : Sound M F rules.cond (EachInCond B)
  cond_kept =
      sound_part M F _ (EachInCond B) (sound_as M F _ _ _ (EachInCond B)
      (sound_seq M F _ _ (EachInTest B) (Every (EachInTest B)) (hyp Test)
      (sound_many M F _ (EachInTest B) (sound_lead M F mark.And _ (EachInTest B) (hyp Test))))
      (λ p h. each_tests B (p.0 ∷ p.1) h))

  visit_kept : Sound M F rules.visit (λ p. B p.0 × (B p.1.0 × EachInCond B p.1.1))
  visit_kept =
      sound_part M F _ _ (sound_seq M F _ _ B (λ p. B p.0 × EachInCond B p.1) ident_kept
      (sound_lead M F mark.Of _ _ (sound_seq M F _ _ B (EachInCond B) ident_kept (sound_lead M F mark.When _ (EachInCond B) cond_kept))))

  -- with each name before it
  after_name_kept : Sound M F rules.after_name (λ f. (x : Ident) → B x → E (f x))
  unfolding definitions
  after_name_kept =
      sound_part M F _ _
      (sound_alt M F _ _ _ (sound_as M F _ _ (λ p. E p.0 × B p.1) (λ f. (x : Ident) → B x → E (f x))
      (sound_lead M F mark.OpenBracket _ _ (sound_seq M F _ _ E B expr_kept (sound_lead M F mark.CloseBracket _ B (sound_lead M F mark.Dot _ B ident_kept))))
      (λ p h x b. (b, h.0, h.1)))
      (sound_alt M F _ _ _ (sound_as M F _ _ B (λ f. (x : Ident) → B x → E (f x)) (sound_lead M F mark.Dot _ B ident_kept) (λ p h x b. (b, h)))
      (sound_nothing M F s.Name (λ f. (x : Ident) → B x → E (f x)) (λ x b. b))))

  factor_kept : Sound M F rules.factor E
  unfolding definitions
  factor_kept =
      sound_alt M F _ _ E (sound_token M F _ _ _ _ E (λ t h f. tt))
      (sound_alt M F _ _ E (sound_as M F s.Neg _ E E (sound_lead M F mark.Minus _ E (hyp Factor)) (λ a h. h))
      (sound_alt M F _ _ E (sound_lead M F mark.Open _ E (sound_closed M F mark.Close _ E expr_kept))
      (sound_alt M F _ _ E (sound_as M F s.Read _ B E
      (sound_lead M F mark.Read _ B (sound_lead M F mark.Open _ B (sound_closed M F mark.Close _ B ident_kept))) (λ a h. h))
      (sound_alt M F _ _ E (sound_as M F _ _ _ E (sound_lead M F mark.Count _ _ (sound_lead M F mark.Open _ _ (sound_closed M F mark.Close _ _ visit_kept)))
      (λ p h. (h.0, h.1.0, h.1.1)))
      (sound_alt M F _ _ E (sound_as M F _ _ _ E
      (sound_lead M F mark.Sum _ _
      (sound_lead M F mark.Open _ _ (sound_seq M F _ _ B _ ident_kept (sound_lead M F mark.Dot _ _ (sound_closed M F mark.Close _ _ visit_kept)))))
      (λ p h. (h.0, h.1.0, h.1.1.0, h.1.1.1)))
      (sound_as M F _ _ _ E (sound_seq M F _ _ B (λ f. (x : Ident) → B x → E (f x)) ident_kept after_name_kept) (λ p h. h.1 p.0 h.0)))))))

  test_kept : Sound M F rules.test (EachInTest B)
  unfolding definitions
  test_kept =
      sound_alt M F _ _ (EachInTest B) (sound_as M F _ _ (λ u. Unit {0}) (EachInTest B) (anything _) (λ a h. tt))
      (sound_alt M F _ _ (EachInTest B)
      (sound_as M F s.Not _ (EachInCond B) (EachInTest B)
      (sound_lead M F mark.Not _ (EachInCond B) (sound_lead M F mark.Open _ (EachInCond B) (sound_closed M F mark.Close _ (EachInCond B) cond_kept)))
      (λ a h. h))
      (sound_as M F _ _ _ (EachInTest B) (sound_seq M F _ _ E _ expr_kept (sound_seq M F _ _ (λ u. Unit {0}) E (anything _) expr_kept))
      (λ p h. (h.0, h.1.1))))

  block_kept : (v : Version) → Sound M F (rules.block v) (EachInCommands B)
  unfolding definitions
  block_kept v = sound_block M F v (EachInCommand B) (EachInCommands B) (hyp (Command v)) (each_commands B) tt

  -- with each name before it
  setting_kept : Sound M F rules.setting (λ f. (x : Ident) → B x → EachInCommand B (f x))
  unfolding definitions
  setting_kept =
      sound_part M F _ _
      (sound_alt M F _ _ _ (sound_as M F _ _ E (λ f. (x : Ident) → B x → EachInCommand B (f x)) (sound_lead M F mark.Assign _ E expr_kept)
      (λ p h x b. (b, h)))
      (sound_alt M F _ _ _ (sound_as M F _ _ (λ p. E p.0 × (B p.1.0 × E p.1.1)) (λ f. (x : Ident) → B x → EachInCommand B (f x))
      (sound_lead M F mark.OpenBracket _ _
      (sound_seq M F _ _ E (λ p. B p.0 × E p.1) expr_kept
      (sound_lead M F mark.CloseBracket _ _ (sound_lead M F mark.Dot _ _ (sound_seq M F _ _ B E ident_kept (sound_lead M F mark.Assign _ E expr_kept))))))
      (λ p h x b. (b, h.0, h.1.0, h.1.1)))
      (sound_as M F _ _ (λ p. B p.0 × E p.1) (λ f. (x : Ident) → B x → EachInCommand B (f x))
      (sound_lead M F mark.Dot _ _ (sound_seq M F _ _ B E ident_kept (sound_lead M F mark.Assign _ E expr_kept))) (λ p h x b. (b, h.0, h.1)))))

  field_value_kept : Sound M F rules.field_value (λ f. B f.field × E f.value)
  field_value_kept =
      sound_part M F _ _ (sound_as M F _ _ _ (λ f. B f.field × E f.value) (sound_seq M F _ _ B E ident_kept (sound_lead M F mark.Equal _ E expr_kept))
      (λ p h. h))

  listed_kept : {X : Type 0} → (m : Mark) (g : Rule X) (P : X → Type 0) → Sound M F g P → Sound M F (rules.listed m g) (Every P)
  listed_kept m g P p = sound_as M F _ _ _ (Every P) (sound_seq M F _ _ P (Every P) p (sound_many M F _ _ (sound_lead M F m _ P p))) (λ p h. (h.0, h.1))

  field_values_kept : Sound M F rules.field_values (Every (λ f. B f.field × E f.value))
  field_values_kept = sound_part M F _ _ (listed_kept mark.Comma rules.field_value (λ f. B f.field × E f.value) field_value_kept)

  common_kept : (v : Version) → Sound M F (rules.common_command v) (EachInCommand B)
  unfolding definitions
  common_kept v =
      sound_alt M F _ _ (EachInCommand B) (sound_as M F _ _ (λ u. Unit {0}) (EachInCommand B) (anything _) (λ a h. tt))
      (sound_alt M F _ _ (EachInCommand B) (sound_as M F s.Block _ (EachInCommands B) (EachInCommand B) (block_kept v) (λ a h. h))
      (sound_alt M F _ _ (EachInCommand B)
      (sound_as M F _ _ _ (EachInCommand B) (sound_seq M F _ _ B (λ f. (x : Ident) → B x → EachInCommand B (f x)) ident_kept setting_kept)
      (λ p h. h.1 p.0 h.0))
      (sound_alt M F _ _ (EachInCommand B)
      (sound_as M F _ _ _ (EachInCommand B)
      (sound_lead M F mark.Write _ _
      (sound_lead M F mark.Open _ _ (sound_seq M F _ _ B E ident_kept (sound_lead M F mark.Equal _ E (sound_closed M F mark.Close _ E expr_kept)))))
      (λ p h. (h.0, h.1)))
      (sound_alt M F _ _ (EachInCommand B)
      (sound_as M F s.Print _ E (EachInCommand B) (sound_lead M F mark.Print _ E (sound_lead M F mark.Open _ E (sound_closed M F mark.Close _ E expr_kept)))
      (λ a h. h))
      (sound_alt M F _ _ (EachInCommand B) (sound_as M F _ _ _ (EachInCommand B)
      (sound_lead M F mark.If _ _
      (sound_seq M F _ _ (EachInCond B) _ cond_kept
      (sound_lead M F mark.Then _ _
      (sound_seq M F _ _ (EachInCommand B) (EachInCommand B) (hyp (Command v)) (sound_lead M F mark.Else _ (EachInCommand B) (hyp (Command v)))))))
      (λ p h. (h.0, h.1.0, h.1.1)))
      (sound_alt M F _ _ (EachInCommand B)
      (sound_as M F _ _ _ (EachInCommand B) (sound_lead M F mark.Foreach _ _ (sound_seq M F _ _ _ (EachInCommands B) visit_kept (block_kept v)))
      (λ p h. (h.0.0, h.0.1.0, h.0.1.1, h.1)))
      (sound_alt M F _ _ (EachInCommand B) (sound_as M F _ _ _ (EachInCommand B)
      (sound_lead M F mark.Insert _ _
      (sound_seq M F _ _ B _ ident_kept
      (sound_lead M F mark.Open _ _
      (sound_seq M F _ _ (Every (λ f. B f.field × E f.value)) B field_values_kept
      (sound_lead M F mark.Close _ _ (sound_lead M F mark.Into _ B ident_kept))))))
      (λ p h. (h.0, each_fields B p.1.0 h.1.0, h.1.1)))
      (sound_alt M F _ _ (EachInCommand B) (sound_as M F _ _ _ (EachInCommand B) (sound_lead M F mark.Delete _ _ visit_kept) (λ p h. (h.0, h.1.0, h.1.1)))
      (sound_as M F _ _ _ (EachInCommand B)
      (sound_lead M F mark.Update _ _ (sound_seq M F _ _ _ (λ f. B f.field × E f.value) visit_kept (sound_lead M F mark.Set _ _ field_value_kept)))
      (λ p h. (h.0.0, h.0.1.0, h.0.1.1, h.1.0, h.1.1)))))))))))

  command_kept : (v : Version) → Sound M F (rules.command v) (EachInCommand B)
  unfolding definitions
  command_kept First = common_kept First
  command_kept Second =
      sound_alt M F _ _ (EachInCommand B) (sound_as M F _ _ (λ u. Unit {0}) (EachInCommand B) (anything _) (λ a h. tt)) (common_kept Second)

  pub rule_kept : (c : Deep) → Sound M F (rule c) (Phrase B c)
  rule_kept Factor = factor_kept
  rule_kept Test = test_kept
  rule_kept (Command v) = command_kept v

  object_kept : Sound M F rules.object (λ o. B o.name)
  object_kept =
      sound_part M F _ _ (sound_as M F _ _ _ (λ o. B o.name) (sound_lead M F mark.Object _ _ (sound_seq M F _ _ B (λ u. Unit {0}) ident_kept (anything _)))
      (λ p h. h.0))

  separated_kept : {X : Type 0} → (m : Mark) (g : Rule X) (P : X → Type 0) → Sound M F g P → Sound M F (rules.separated m g) (Every P)
  separated_kept m g P p = sound_alt M F _ _ (Every P) (listed_kept m g P p) (sound_nothing M F [] _ tt)

  decl_kept : Sound M F rules.decl (λ p. B p.name)
  decl_kept = sound_part M F _ _ (sound_as M F _ _ _ (λ p. B p.name) (sound_seq M F _ _ B (λ u. Unit {0}) ident_kept (anything _)) (λ p h. h.0))

  number_kept : Sound M F rules.number (λ x. pos 0 ≤ℤ x.value)
  number_kept = sound_token M F _ _ _ _ _ (λ t h f. natural_value (value_in t.kind) (and_parts _ (is_natural t.kind) h).1)

  relation_kept : Sound M F rules.relation (IsRelation B)
  relation_kept =
      sound_part M F _ _ (sound_as M F _ _ _ (IsRelation B)
      (sound_lead M F mark.Relation _ _
      (sound_seq M F _ _ B _ ident_kept (sound_lead M F mark.OpenBracket _ _ (sound_seq M F _ _ (λ x. pos 0 ≤ℤ x.value) _ number_kept
      (sound_lead M F mark.CloseBracket _ _
      (sound_lead M F mark.Open _ _ (sound_closed M F mark.Close _ _ (sound_part M F _ _ (listed_kept mark.Comma rules.decl (λ p. B p.name) decl_kept)))))))))
      (λ p h. (h.0, each_of (λ p. B p.name) (λ p. B p.name) (λ a x. x) p.1.1 h.1.1)))

  parameters_kept : Sound M F rules.parameters (Every (λ p. B p.name))
  parameters_kept = sound_part M F _ _ (separated_kept mark.Comma rules.decl (λ p. B p.name) decl_kept)

  transaction_kept : (v : Version) → Sound M F (rules.transaction v) (IsTransaction B)
  transaction_kept v =
      sound_part M F _ _ (sound_as M F _ _ _ (IsTransaction B)
      (sound_lead M F mark.Transaction _ _
      (sound_seq M F _ _ B _ ident_kept
      (sound_lead M F mark.Open _ _
      (sound_seq M F _ _ (Every (λ p. B p.name)) (EachInCommands B) (sound_closed M F mark.Close _ _ parameters_kept) (block_kept v)))))
      (λ p h. (h.0, each_of (λ p. B p.name) (λ p. B p.name) (λ a x. x) p.1.0 h.1.0, h.1.1)))

  invocation_kept : Sound M F rules.invocation (λ k. B k.name)
  invocation_kept = sound_part M F _ _ (sound_as M F _ _ _ (λ k. B k.name) (sound_seq M F _ _ B (λ u. Unit {0}) ident_kept (anything _)) (λ p h. h.0))

  calls_kept : Sound M F rules.calls (Every (λ k. B k.name))
  calls_kept =
      sound_part M F _ _ (sound_lead M F mark.OpenBrace _ _
      (sound_closed M F mark.CloseBrace _ _ (sound_part M F _ _ (separated_kept mark.Semicolon rules.invocation (λ k. B k.name) invocation_kept))))

  client_kept : Sound M F rules.client (λ c. IsClient B c × IsSite c)
  client_kept =
      sound_part M F _ _ (sound_as M F _ _ _ (λ c. IsClient B c × IsSite c)
      (sound_lead M F mark.Client _ _
      (sound_seq M F _ _ B _ ident_kept
      (sound_lead M F mark.At _ _ (sound_seq M F _ _ (λ x. pos 0 ≤ℤ x.value) (Every (λ k. B k.name)) number_kept calls_kept))))
      (λ p h. ((h.0, each_of (λ k. B k.name) (λ k. B k.name) (λ a x. x) p.1.1 h.1.1), h.1.0)))

  schedule_kept : Sound M F rules.schedule (InSchedule B)
  unfolding definitions
  schedule_kept =
      sound_part M F _ _ (sound_alt M F _ _ (InSchedule B)
      (sound_as M F _ _ (Every B) (InSchedule B) (sound_lead M F mark.Schedule _ _ (sound_many M F _ B ident_kept)) (λ a h. each_of B B (λ x y. y) a h))
      (sound_nothing M F None (InSchedule B) tt))

  weights_kept : (v : Version) → Sound M F (rules.weights v) (λ ns. HasWeights v ns × Every IsWeight ns)
  weights_kept First = sound_part M F _ _ (sound_nothing M F [] (λ ns. HasWeights First ns × Every IsWeight ns) (refl, tt))
  weights_kept Second =
      sound_part M F _ _ (sound_lead M F mark.Weights _ _
      (sound_as M F _ _ _ (λ ns. HasWeights Second ns × Every IsWeight ns)
      (sound_seq M F _ _ IsWeight (Every IsWeight) number_kept (sound_many M F _ IsWeight (sound_lead M F mark.Comma _ IsWeight number_kept)))
      (λ p h. (tt, h))))

  weaker : {X : Type 0} → (g : Rule X) (P Q : X → Type 0) → Sound M F g P → ((a : X) → P a → Q a) → Sound M F g Q
  weaker g P Q p h = record { of = λ a ts s f. h a (p.of a ts s f) }

  abbrev IsHead : Version → Number × List Number → Type 0
  IsHead v p = HasWeights v p.1 × Every IsWeight p.1

  head_kept : (v : Version) → Sound M F (rules.head v) (IsHead v)
  head_kept v =
      sound_part M F _ (IsHead v) (sound_lead M F mark.Workload _ (IsHead v)
      (sound_as M F _ _ (λ p. Unit {0} × IsHead v p.1) (IsHead v)
      (sound_seq M F _ _ (λ u. Unit {0}) (IsHead v) (anything _)
      (sound_lead M F mark.Sites _ (IsHead v)
      (weaker _ (λ p. Unit {0} × (HasWeights v p.1 × Every IsWeight p.1)) (IsHead v)
      (sound_seq M F _ _ (λ u. Unit {0}) (λ ns. HasWeights v ns × Every IsWeight ns) (anything _) (weights_kept v)) (λ p h. h.1))))
      (λ p h. h.1)))

  pub workload_kept : (v : Version) (names : List (List ℕ)) → Sound M F (rules.workload v names) (IsKept n v names)
  unfolding definitions
  workload_kept v names =
      sound_as M F _ _ _ (IsKept n v names)
      (sound_seq M F _ _ (IsHead v) _ (head_kept v)
      (sound_seq M F _ _ (Every (λ o. B o.name)) _ (sound_many M F _ _ object_kept)
      (sound_seq M F _ _ (Every (IsRelation B)) _ (sound_many M F _ _ relation_kept)
      (sound_seq M F _ _ (Every (IsTransaction B)) _ (sound_many M F _ _ (transaction_kept v))
      (sound_seq M F _ _ (Every (λ c. IsClient B c × IsSite c)) _ (sound_many M F _ _ client_kept)
      (sound_seq M F _ _ (InSchedule B) (λ u. Unit {0}) schedule_kept (anything _)))))))
      (λ p h. record {
        version = refl;
        names_are = refl;
        named = record {
          objects = each_of _ _ (λ a x. x) p.1.0 h.1.0;
          relations = each_of _ _ (λ a x. x) p.1.1.0 h.1.1.0;
          transactions = each_of _ _ (λ a x. x) p.1.1.1.0 h.1.1.1.0;
          clients = each_of (λ c. IsClient B c × IsSite c) (IsClient B) (λ a x. x.0) p.1.1.1.1.0 h.1.1.1.1.0;
          schedule = h.1.1.1.1.1.0;
        };
        sites = each_of (λ c. IsClient B c × IsSite c) IsSite (λ a x. x.1) p.1.1.1.1.0 h.1.1.1.1.0;
        weights = h.0.0;
        natural = each_of IsWeight IsWeight (λ a x. x) p.0.1 h.0.1;
      })

kept_at : (n d : ℕ) (c : Deep) → Sound (Means rule d) (λ t. Named n t.kind) (call c) (Phrase (IsBelow n) c)
kept_at n zero c = record { of = λ a ts s f. absurd s }
kept_at n (suc d) c = record { of = λ a ts s f. (rule_kept n (Means rule d) (kept_at n d) c).of a ts s f }

-- The identifiers of a workload of tokens whose names are below n are below n.
pub workload_named : (n : ℕ) (v : Version) (names : List (List ℕ)) → Sound (Means rule limit) (λ t. Named n t.kind) (rules.workload v names) (IsKept n v names)
workload_named n v names = workload_kept n (Means rule limit) (kept_at n limit) v names
