-- The commands of a workload are those of its version.
use Rattle.std.proofs.Common.{ℕ, zero, suc, List, [], ◌∷◌}
use Rattle.homeo_syntax.specs.Key.{definitions}
use Rattle.homeo_syntax.specs.declared.token.Mark.TheVariants as mark
use Rattle.homeo_syntax.specs.declared.token.Token.{Token}
use Rattle.homeo_syntax.specs.declared.token.Version.{Version}
use Rattle.homeo_syntax.specs.declared.token.Version.TheVariants.{First, Second}
use Rattle.homeo_syntax.specs.declared.phrase.Ident.{Ident}
use Rattle.homeo_syntax.specs.Source as s
use Rattle.homeo_syntax.specs.SourceView.{commands}
use Rattle.homeo_syntax.specs.Grammar.{call, Means}
use Rattle.homeo_syntax.specs.Rules as rules
use Rattle.homeo_syntax.specs.Rules.{Deep, Factor, Test, Command, Tree, Rule, rule, limit, IsWorkload}
use Rattle.homeo_syntax.specs.WellFormed.{Each, HasCommand, HasCommands}
use Rattle.homeo_reader.proofs.Keeps.{Sound, Meaning, Fine, Every, sound_seq, sound_alt, sound_part, sound_as, sound_many, sound_lead, sound_block}
use Rattle.homeo_reader.proofs.Kept.{each_of}

-- nothing is asked of a token
abbrev F : Token → Type 0
F t = Unit {0}

all_fine : (ts : List Token) → Fine F ts
all_fine [] = tt
all_fine (t ∷ ts) = (tt, all_fine ts)

each_command : (v : Version) (cs : List s.Command) → Every (HasCommand v) cs → HasCommands v (commands cs)
unfolding definitions
each_command v [] h = tt
each_command v (c ∷ cs) h = (h.0, each_command v cs h.1)

abbrev Phrase : (c : Deep) → Tree c → Type 0
Phrase Factor e = Unit {0}
Phrase Test t = Unit {0}
Phrase (Command v) c = HasCommand v c

module _ (M : Meaning) (hyp : (c : Deep) → Sound M F (call c) (Phrase c)) where
  anything : {X : Type 0} → (g : Rule X) → Sound M F g (λ x. Unit {0})
  anything g = record { of = λ a ts s f. tt }

  block_has : (v : Version) → Sound M F (rules.block v) (HasCommands v)
  unfolding definitions
  block_has v = sound_block M F v (HasCommand v) (HasCommands v) (hyp (Command v)) (each_command v) tt

  setting_has : (v : Version) → Sound M F rules.setting (λ f. (x : Ident) → HasCommand v (f x))
  unfolding definitions
  setting_has v =
      sound_part M F _ _
      (sound_alt M F _ _ _ (sound_as M F _ _ (λ u. Unit {0}) (λ f. (x : Ident) → HasCommand v (f x)) (anything _) (λ a h x. tt))
      (sound_alt M F _ _ _ (sound_as M F _ _ (λ u. Unit {0}) (λ f. (x : Ident) → HasCommand v (f x)) (anything _) (λ a h x. tt))
      (sound_as M F _ _ (λ u. Unit {0}) (λ f. (x : Ident) → HasCommand v (f x)) (anything _) (λ a h x. tt))))

  common_has : (v : Version) → Sound M F (rules.common_command v) (HasCommand v)
  unfolding definitions
  common_has v =
      sound_alt M F _ _ (HasCommand v) (sound_as M F _ _ (λ u. Unit {0}) (HasCommand v) (anything _) (λ a h. tt))
      (sound_alt M F _ _ (HasCommand v) (sound_as M F s.Block _ (HasCommands v) (HasCommand v) (block_has v) (λ a h. h))
      (sound_alt M F _ _ (HasCommand v)
      (sound_as M F _ _ _ (HasCommand v) (sound_seq M F _ _ (λ u. Unit {0}) (λ f. (x : Ident) → HasCommand v (f x)) (anything _) (setting_has v)) (λ p h. h.1 p.0))
      (sound_alt M F _ _ (HasCommand v) (sound_as M F _ _ (λ u. Unit {0}) (HasCommand v) (anything _) (λ a h. tt))
      (sound_alt M F _ _ (HasCommand v) (sound_as M F _ _ (λ u. Unit {0}) (HasCommand v) (anything _) (λ a h. tt))
      (sound_alt M F _ _ (HasCommand v) (sound_as M F _ _ _ (HasCommand v)
      (sound_lead M F mark.If _ _
      (sound_seq M F _ _ (λ u. Unit {0}) _ (anything _)
      (sound_lead M F mark.Then _ _ (sound_seq M F _ _ (HasCommand v) (HasCommand v) (hyp (Command v)) (sound_lead M F mark.Else _ (HasCommand v) (hyp (Command v)))))))
      (λ p h. (h.1.0, h.1.1)))
      (sound_alt M F _ _ (HasCommand v)
      (sound_as M F _ _ _ (HasCommand v) (sound_lead M F mark.Foreach _ _ (sound_seq M F _ _ (λ u. Unit {0}) (HasCommands v) (anything _) (block_has v))) (λ p h. h.1))
      (sound_alt M F _ _ (HasCommand v) (sound_as M F _ _ (λ u. Unit {0}) (HasCommand v) (anything _) (λ a h. tt))
      (sound_alt M F _ _ (HasCommand v) (sound_as M F _ _ (λ u. Unit {0}) (HasCommand v) (anything _) (λ a h. tt))
      (sound_as M F _ _ (λ u. Unit {0}) (HasCommand v) (anything _) (λ a h. tt))))))))))

  command_has : (v : Version) → Sound M F (rules.command v) (HasCommand v)
  unfolding definitions
  command_has First = common_has First
  command_has Second = sound_alt M F _ _ (HasCommand Second) (sound_as M F _ _ (λ u. Unit {0}) (HasCommand Second) (anything _) (λ a h. tt)) (common_has Second)

  pub rule_has : (c : Deep) → Sound M F (rule c) (Phrase c)
  rule_has Factor = anything _
  rule_has Test = anything _
  rule_has (Command v) = command_has v

  transaction_has : (v : Version) → Sound M F (rules.transaction v) (λ t. HasCommands v t.body)
  transaction_has v =
      sound_part M F _ _ (sound_as M F _ _ _ (λ t. HasCommands v t.body)
      (sound_lead M F mark.Transaction _ _
      (sound_seq M F _ _ (λ u. Unit {0}) _ (anything _)
      (sound_lead M F mark.Open _ _ (sound_seq M F _ _ (λ u. Unit {0}) (HasCommands v) (anything _) (block_has v)))))
      (λ p h. h.1.1))

  pub workload_has : (v : Version) (names : List (List ℕ)) → Sound M F (rules.workload v names) (λ w. Each (λ (t : s.Transaction). HasCommands v t.body) w.transactions)
  workload_has v names =
      sound_as M F _ _ _ (λ w. Each (λ (t : s.Transaction). HasCommands v t.body) w.transactions)
      (sound_seq M F _ _ (λ u. Unit {0}) _ (anything _)
      (sound_seq M F _ _ (λ u. Unit {0}) _ (anything _)
      (sound_seq M F _ _ (λ u. Unit {0}) _ (anything _)
      (sound_seq M F _ _ (Every (λ t. HasCommands v t.body)) (λ u. Unit {0}) (sound_many M F _ _ (transaction_has v)) (anything _)))))
      (λ p h. each_of (λ t. HasCommands v t.body) (λ t. HasCommands v t.body) (λ a x. x) p.1.1.1.0 h.1.1.1.0)

has_at : (d : ℕ) (c : Deep) → Sound (Means rule d) F (call c) (Phrase c)
has_at zero c = record { of = λ a ts s f. absurd s }
has_at (suc d) c = record { of = λ a ts s f. (rule_has (Means rule d) (has_at d) c).of a ts s f }

pub workload_aborts : (v : Version) (names : List (List ℕ)) (w : s.Workload) (ts : List Token) → IsWorkload v names w ts →
    Each (λ (t : s.Transaction). HasCommands v t.body) w.transactions
unfolding IsWorkload
workload_aborts v names w ts p = (workload_has (Means rule limit) (has_at limit) v names).of w ts p (all_fine ts)
