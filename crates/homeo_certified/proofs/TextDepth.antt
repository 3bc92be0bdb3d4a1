-- Phrases that may go n deep nest at most four times as deep.
use Rattle.std.proofs.Common.{◌≤◌, ◌+◌, ◌*◌, ℕ, zero, suc, List, [], ◌∷◌, arith}
use Rattle.homeo_syntax.specs.Key.{definitions}
use Rattle.homeo_meaning.specs.Key.{definitions as meaning_definitions}
use Rattle.homeo_syntax.specs.declared.token.Mark.TheVariants as mark
use Rattle.homeo_syntax.specs.declared.token.Token.{Token}
use Rattle.homeo_syntax.specs.declared.token.Version.{Version}
use Rattle.homeo_syntax.specs.declared.token.Version.TheVariants.{First, Second}
use Rattle.homeo_syntax.specs.declared.phrase.Ident.{Ident}
use Rattle.homeo_syntax.specs.Source as s
use Rattle.homeo_syntax.specs.SourceView.{exprs, tests, commands}
use Rattle.homeo_syntax.specs.Grammar.{call, Means}
use Rattle.homeo_syntax.specs.Rules as rules
use Rattle.homeo_syntax.specs.Rules.{Deep, Factor, Test, Command, Tree, Rule, rule, product_of, sum_of}
use Rattle.homeo_reader.proofs.Keeps.{Sound, Meaning, Every, Fine, sound_token, sound_nothing, sound_seq, sound_alt, sound_part, sound_as, sound_many, sound_lead, sound_closed}
use Rattle.homeo_certified.proofs.FormNesting.{expr_depth, exprs_depth, test_depth, cond_depth, values_depth, command_depth, commands_depth}

abbrev pub depth_of : (c : Deep) → Tree c → ℕ
depth_of Factor = expr_depth
depth_of Test = test_depth
depth_of (Command v) = command_depth

module _ (d : ℕ) where
  exprs_within : (es : List s.Expr) → Every (λ e. expr_depth e ≤ d) es → exprs_depth (exprs es) ≤ d
  unfolding definitions meaning_definitions
  exprs_within [] h = omega arith
  exprs_within (e ∷ es) h = let r = exprs_within es h.1 in let q = h.0 in omega (arith, r, q)

  tests_within : (ts : List s.Test) → Every (λ t. test_depth t ≤ d) ts → cond_depth (tests ts) ≤ d
  unfolding definitions meaning_definitions
  tests_within [] h = omega arith
  tests_within (t ∷ ts) h = let r = tests_within ts h.1 in let q = h.0 in omega (arith, r, q)

  commands_within : (cs : List s.Command) → Every (λ c. command_depth c ≤ d) cs → commands_depth (commands cs) ≤ d
  unfolding definitions meaning_definitions
  commands_within [] h = omega arith
  commands_within (c ∷ cs) h = let r = commands_within cs h.1 in let q = h.0 in omega (arith, r, q)

  values_within : (fs : List s.FieldValue) → Every (λ f. expr_depth f.value ≤ d) fs → values_depth fs ≤ d
  unfolding meaning_definitions
  values_within [] h = omega arith
  values_within (f ∷ fs) h = let r = values_within fs h.1 in let q = h.0 in omega (arith, r, q)

product_within : (d : ℕ) (e : s.Expr) (fs : List s.Expr) → expr_depth e ≤ d → Every (λ x. expr_depth x ≤ d) fs → expr_depth (product_of e fs) ≤ suc d
unfolding definitions meaning_definitions
product_within d e [] h k = omega (arith, h)
product_within d e (f ∷ fs) h k = let r = exprs_within d (e ∷ f ∷ fs) (h, k) in omega (arith, r)

sum_within : (d : ℕ) (e : s.Expr) (fs : List s.Expr) → expr_depth e ≤ d → Every (λ x. expr_depth x ≤ d) fs → expr_depth (sum_of e fs) ≤ suc d
unfolding definitions meaning_definitions
sum_within d e [] h k = omega (arith, h)
sum_within d e (f ∷ fs) h k = let r = exprs_within d (e ∷ f ∷ fs) (h, k) in omega (arith, r)

every_wider : {X : Type 0} (P Q : X → Type 0) → ((x : X) → P x → Q x) → (xs : List X) → Every P xs → Every Q xs
every_wider P Q f [] h = tt
every_wider P Q f (x ∷ xs) h = (f x h.0, every_wider P Q f xs h.1)

-- where deeper phrases nest at most d deep, these nest at most d + 4 deep
module _ (d : ℕ) (M : Meaning) (hyp : (c : Deep) → Sound M (λ t. Unit {0}) (call c) (λ x. depth_of c x ≤ d)) where
  abbrev F : Token → Type 0
  F t = Unit {0}

  abbrev E : s.Expr → Type 0
  E e = expr_depth e ≤ d + 3

  abbrev Any : {X : Type 0} → X → Type 0
  Any x = Unit {0}

  anything : {X : Type 0} → (g : Rule X) → Sound M F g (λ x. Unit {0})
  anything g = record { of = λ a ts s f. tt }

  term_within : Sound M F rules.term (λ e. expr_depth e ≤ d + 1)
  term_within =
      sound_part M F _ _ (sound_as M F _ _ _ (λ e. expr_depth e ≤ d + 1)
      (sound_seq M F _ _ (λ e. expr_depth e ≤ d) (Every (λ e. expr_depth e ≤ d)) (hyp Factor) (sound_many M F _ _ (sound_lead M F mark.Star _ _ (hyp Factor))))
      (λ p h. let r = product_within d p.0 p.1 h.0 h.1 in omega (arith, r)))

  abbrev T : s.Expr → Type 0
  T e = expr_depth e ≤ d + 2

  term_or_less : Sound M F rules.term T
  term_or_less = record { of = λ a ts s f. let r = term_within.of a ts s f in omega (arith, r) }

  expr_within : Sound M F rules.expr E
  unfolding definitions meaning_definitions
  expr_within =
      sound_part M F _ E (sound_as M F _ _ _ E
      (sound_seq M F _ _ T (Every T) term_or_less
      (sound_many M F _ T (sound_alt M F _ _ T (sound_lead M F mark.Plus _ T term_or_less)
      (sound_as M F s.Neg _ (λ e. expr_depth e ≤ d + 1) T (sound_lead M F mark.Minus _ _ term_within) (λ a h. omega (arith, h))))))
      (λ p h. let r = sum_within (d + 2) p.0 p.1 h.0 h.1 in omega (arith, r)))

  cond_within : Sound M F rules.cond (λ c. cond_depth c ≤ d)
  cond_within =
      sound_part M F _ _ (sound_as M F _ _ _ (λ c. cond_depth c ≤ d)
      (sound_seq M F _ _ (λ t. test_depth t ≤ d) (Every (λ t. test_depth t ≤ d)) (hyp Test)
      (sound_many M F _ _ (sound_lead M F mark.And _ _ (hyp Test))))
      (λ p h. tests_within d (p.0 ∷ p.1) h))

  visit_within : Sound M F rules.visit (λ p. Unit {0} × (Unit {0} × (cond_depth p.1.1 ≤ d)))
  visit_within =
      sound_part M F _ _ (sound_seq M F _ _ (λ x. Unit {0}) (λ p. Unit {0} × (cond_depth p.1 ≤ d)) (anything _)
      (sound_lead M F mark.Of _ _ (sound_seq M F _ _ (λ x. Unit {0}) (λ c. cond_depth c ≤ d) (anything _) (sound_lead M F mark.When _ _ cond_within))))

  abbrev G : s.Expr → Type 0
  G e = expr_depth e ≤ d + 4

  after_name_within : Sound M F rules.after_name (λ f. (x : Ident) → G (f x))
  unfolding definitions meaning_definitions
  after_name_within =
      sound_part M F _ _
      (sound_alt M F _ _ _ (sound_as M F _ _ (λ p. E p.0 × Unit {0}) (λ f. (x : Ident) → G (f x))
      (sound_lead M F mark.OpenBracket _ _ (sound_seq M F _ _ E (λ x. Unit {0}) expr_within (anything _)))
      (λ p h x. let r = h.0 in omega (arith, r)))
      (sound_alt M F _ _ _ (sound_as M F _ _ (λ x. Unit {0}) (λ f. (x : Ident) → G (f x)) (anything _) (λ p h x. omega arith))
      (sound_nothing M F s.Name (λ f. (x : Ident) → G (f x)) (λ x. omega arith))))

  factor_within : Sound M F rules.factor G
  unfolding definitions meaning_definitions
  factor_within =
      sound_alt M F _ _ G (sound_token M F _ _ _ _ G (λ t h f. omega arith))
      (sound_alt M F _ _ G (sound_as M F s.Neg _ (λ e. expr_depth e ≤ d) G (sound_lead M F mark.Minus _ _ (hyp Factor)) (λ a h. omega (arith, h)))
      (sound_alt M F _ _ G (sound_lead M F mark.Open _ G (sound_closed M F mark.Close _ G (record { of = λ a ts s f. let r = expr_within.of a ts s f in omega (arith, r) })))
      (sound_alt M F _ _ G (sound_as M F s.Read _ (λ x. Unit {0}) G (anything _) (λ a h. omega arith))
      (sound_alt M F _ _ G (sound_as M F _ _ _ G (sound_lead M F mark.Count _ _ (sound_lead M F mark.Open _ _ (sound_closed M F mark.Close _ _ visit_within)))
      (λ p h. let r = h.1.1 in omega (arith, r)))
      (sound_alt M F _ _ G (sound_as M F _ _ _ G
      (sound_lead M F mark.Sum _ _
      (sound_lead M F mark.Open _ _ (sound_seq M F _ _ (λ x. Unit {0}) _ (anything _) (sound_lead M F mark.Dot _ _ (sound_closed M F mark.Close _ _ visit_within)))))
      (λ p h. let r = h.1.1.1 in omega (arith, r)))
      (sound_as M F _ _ _ G (sound_seq M F _ _ (λ x. Unit {0}) (λ f. (x : Ident) → G (f x)) (anything _) after_name_within) (λ p h. h.1 p.0)))))))

  abbrev H : s.Test → Type 0
  H t = test_depth t ≤ d + 4

  test_within : Sound M F rules.test H
  unfolding definitions meaning_definitions
  test_within =
      sound_alt M F _ _ H (sound_as M F _ _ (λ u. Unit {0}) H (anything _) (λ a h. omega arith))
      (sound_alt M F _ _ H
      (sound_as M F s.Not _ (λ c. cond_depth c ≤ d) H
      (sound_lead M F mark.Not _ _ (sound_lead M F mark.Open _ _ (sound_closed M F mark.Close _ _ cond_within)))
      (λ a h. omega (arith, h)))
      (sound_as M F _ _ _ H (sound_seq M F _ _ E _ expr_within (sound_seq M F _ _ (λ u. Unit {0}) E (anything _) expr_within))
      (λ p h. let r = h.0 in let q = h.1.1 in omega (arith, r, q))))

  pub block_within : (v : Version) → Sound M F (rules.block v) (λ cs. commands_depth cs ≤ d)
  unfolding definitions meaning_definitions
  block_within v =
      sound_part M F _ _ (sound_lead M F mark.OpenBrace _ _ (sound_closed M F mark.CloseBrace _ _
      (sound_alt M F _ _ (λ cs. commands_depth cs ≤ d)
      (sound_as M F _ _ _ (λ cs. commands_depth cs ≤ d)
      (sound_seq M F _ _ (λ c. command_depth c ≤ d) (Every (λ c. command_depth c ≤ d)) (hyp (Command v))
      (sound_many M F _ _ (sound_lead M F mark.Semicolon _ _ (hyp (Command v))))) (λ p h. commands_within d (p.0 ∷ p.1) h))
      (sound_nothing M F s.NoCommand (λ cs. commands_depth cs ≤ d) (omega arith)))))

  abbrev C : s.Command → Type 0
  C c = command_depth c ≤ d + 4

  setting_within : Sound M F rules.setting (λ f. (x : Ident) → C (f x))
  unfolding definitions meaning_definitions
  setting_within =
      sound_part M F _ _
      (sound_alt M F _ _ _ (sound_as M F _ _ E (λ f. (x : Ident) → C (f x)) (sound_lead M F mark.Assign _ E expr_within)
      (λ p h x. omega (arith, h)))
      (sound_alt M F _ _ _ (sound_as M F _ _ (λ p. E p.0 × (Unit {0} × E p.1.1)) (λ f. (x : Ident) → C (f x))
      (sound_lead M F mark.OpenBracket _ _
      (sound_seq M F _ _ E (λ p. Unit {0} × E p.1) expr_within
      (sound_lead M F mark.CloseBracket _ _ (sound_lead M F mark.Dot _ _ (sound_seq M F _ _ (λ x. Unit {0}) E (anything _) (sound_lead M F mark.Assign _ E expr_within))))))
      (λ p h x. let r = h.0 in let q = h.1.1 in omega (arith, r, q)))
      (sound_as M F _ _ (λ p. Unit {0} × E p.1) (λ f. (x : Ident) → C (f x))
      (sound_lead M F mark.Dot _ _ (sound_seq M F _ _ (λ x. Unit {0}) E (anything _) (sound_lead M F mark.Assign _ E expr_within))) (λ p h x. let r = h.1 in omega (arith, r)))))

  field_value_within : Sound M F rules.field_value (λ f. E f.value)
  field_value_within =
      sound_part M F _ _ (sound_as M F _ _ _ (λ f. E f.value) (sound_seq M F _ _ (λ x. Unit {0}) E (anything _) (sound_lead M F mark.Equal _ E expr_within))
      (λ p h. h.1))

  field_values_within : Sound M F rules.field_values (Every (λ f. E f.value))
  field_values_within =
      sound_part M F _ _ (sound_as M F _ _ _ (Every (λ f. E f.value))
      (sound_seq M F _ _ (λ f. E f.value) (Every (λ f. E f.value)) field_value_within (sound_many M F _ _ (sound_lead M F mark.Comma _ _ field_value_within)))
      (λ p h. (h.0, h.1)))

  common_within : (v : Version) → Sound M F (rules.common_command v) C
  unfolding definitions meaning_definitions
  common_within v =
      sound_alt M F _ _ C (sound_as M F _ _ (λ u. Unit {0}) C (anything _) (λ a h. omega arith))
      (sound_alt M F _ _ C (sound_as M F s.Block _ (λ cs. commands_depth cs ≤ d) C (block_within v) (λ a h. omega (arith, h)))
      (sound_alt M F _ _ C
      (sound_as M F _ _ _ C (sound_seq M F _ _ (λ x. Unit {0}) (λ f. (x : Ident) → C (f x)) (anything _) setting_within)
      (λ p h. h.1 p.0))
      (sound_alt M F _ _ C
      (sound_as M F _ _ _ C
      (sound_lead M F mark.Write _ _
      (sound_lead M F mark.Open _ _ (sound_seq M F _ _ (λ x. Unit {0}) E (anything _) (sound_lead M F mark.Equal _ E (sound_closed M F mark.Close _ E expr_within)))))
      (λ p h. let r = h.1 in omega (arith, r)))
      (sound_alt M F _ _ C
      (sound_as M F s.Print _ E C (sound_lead M F mark.Print _ E (sound_lead M F mark.Open _ E (sound_closed M F mark.Close _ E expr_within)))
      (λ a h. omega (arith, h)))
      (sound_alt M F _ _ C (sound_as M F _ _ _ C
      (sound_lead M F mark.If _ _
      (sound_seq M F _ _ (λ c. cond_depth c ≤ d) _ cond_within
      (sound_lead M F mark.Then _ _
      (sound_seq M F _ _ (λ c. command_depth c ≤ d) (λ c. command_depth c ≤ d) (hyp (Command v)) (sound_lead M F mark.Else _ _ (hyp (Command v)))))))
      (λ p h. let r = h.0 in let q = h.1.0 in let u = h.1.1 in omega (arith, r, q, u)))
      (sound_alt M F _ _ C
      (sound_as M F _ _ _ C (sound_lead M F mark.Foreach _ _ (sound_seq M F _ _ _ (λ cs. commands_depth cs ≤ d) visit_within (block_within v)))
      (λ p h. let r = h.0.1.1 in let q = h.1 in omega (arith, r, q)))
      (sound_alt M F _ _ C (sound_as M F _ _ _ C
      (sound_lead M F mark.Insert _ _
      (sound_seq M F _ _ (λ x. Unit {0}) _ (anything _)
      (sound_lead M F mark.Open _ _
      (sound_seq M F _ _ (Every (λ f. E f.value)) (λ x. Unit {0}) field_values_within (anything _)))))
      (λ p h. let r = values_within (d + 3) p.1.0 h.1.0 in omega (arith, r)))
      (sound_alt M F _ _ C (sound_as M F _ _ _ C (sound_lead M F mark.Delete _ _ visit_within) (λ p h. let r = h.1.1 in omega (arith, r)))
      (sound_as M F _ _ _ C
      (sound_lead M F mark.Update _ _ (sound_seq M F _ _ _ (λ f. E f.value) visit_within (sound_lead M F mark.Set _ _ field_value_within)))
      (λ p h. let r = h.0.1.1 in let q = h.1 in omega (arith, r, q)))))))))))

  command_within : (v : Version) → Sound M F (rules.command v) C
  unfolding definitions meaning_definitions
  command_within First = common_within First
  command_within Second =
      sound_alt M F _ _ C (sound_as M F _ _ (λ u. Unit {0}) C (anything _) (λ a h. omega arith)) (common_within Second)

  pub rule_within : (c : Deep) → Sound M F (rule c) (λ x. depth_of c x ≤ d + 4)
  rule_within Factor = factor_within
  rule_within Test = test_within
  rule_within (Command v) = command_within v

pub means_within : (n : ℕ) (c : Deep) (x : Tree c) (ts : List Token) → Means rule n c x ts → depth_of c x ≤ 4 * n
means_within zero c x ts h = absurd h
means_within (suc n) c x ts h =
    let r = (rule_within (4 * n) (Means rule n) (λ k. record { of = λ y us m f. means_within n k y us m }) c).of x ts h (fine ts) in
    omega (arith, r)
  where
    fine : (ts : List Token) → Fine (λ t. Unit {0}) ts
    fine [] = tt
    fine (t ∷ ts) = (tt, fine ts)
