-- Commands that are followed one after another.
use Rattle.std.proofs.Common.{◌≡◌, ℕ, ◌+◌, ◌<◌, ◌≤◌, Bool, true, false, cond, List, [], ◌++◌, map, drop, get_or, length, Result, refl, sym, ap, ap₂, ◌∙◌, subst, append_assoc}
use Rattle.std.specs.List.{flat_map}
use Rattle.homeo_lemmas.proofs.Lists.{map_drop_past}
use Rattle.homeo_syntax.specs.Key.{definitions as syntax_definitions}
use Rattle.homeo_syntax.specs.declared.low.LCommand.{LCommand}
use Rattle.homeo_syntax.specs.Low.{Cond, Command, Commands, Skip, Seq, If, NoCommand, MoreCommand}
use Rattle.homeo_syntax.specs.LowView.{low_commands, plain_lcommand}
use Rattle.homeo_meaning.specs.LowMeaning.{DeltaAt, holds}
use Rattle.homeo_meaning.proofs.Steps.{drop_next}
use Rattle.homeo_plan.specs.declared.forms.Delta.{Delta}
use Rattle.homeo_plan.specs.Linear.{Forms, base_forms}
use Rattle.homeo_certificate.specs.Key.{definitions}
use Rattle.homeo_certificate.specs.declared.fault.Fault.{Fault}
use Rattle.homeo_verify.specs.declared.stop.Stop.{Stop}
use Rattle.homeo_verify.specs.declared.following.Following.{Following}
use Rattle.homeo_certificate.specs.Certificate.{Call, Certificate, base_of}
use Rattle.homeo_certificate.specs.Met.{at_zero, met_in_cond}
use Rattle.homeo_certificate.specs.Kept.{kept}
use Rattle.homeo_certificate.specs.Followed.{Rules, too_large, not_frozen, atom_faults, remote_deltas, faults, all_faults, forms_after, forms_after_all, written, all_written, rules_of, call_faults}
use Rattle.homeo_verify.specs.inner.Follows.{Follows, FollowsAll, rules_in, forms_in, written_in, written_faults}
use Rattle.homeo_verify.specs.inner.Stops.{StopsAt, Finds}
use Rattle.homeo_verify.proofs.Stopping.{stop_sooner, finds_later}

-- ---- lists of commands
-- the commands so far have no fault, and s is what stands after them
pub record CommandsSoFar (before s : Following) (left all : Commands) : Type 0 where
  pub faults : all_faults (rules_in before) all (forms_in before) ≡ all_faults (rules_in s) left (forms_in s)
  pub rules : rules_in s ≡ rules_in before
  pub forms : forms_after_all left (forms_in s) ≡ forms_after_all all (forms_in before)
  pub written : all_written left (forms_in s) (written_in s) ≡ all_written all (forms_in before) (written_in before)

pub commands_start : (s : Following) (all : Commands) → CommandsSoFar s s all all
commands_start s all = record { faults = refl; rules = refl; forms = refl; written = refl }

module _ (before s : Following) (c : Command) (cs all : Commands) (so : CommandsSoFar before s (MoreCommand c cs) all) where
  pub command_stops : (e : Stop) → StopsAt (faults (rules_in s) c (forms_in s)) e → StopsAt (all_faults (rules_in before) all (forms_in before)) e
  unfolding definitions
  command_stops e h =
      subst (λ l. StopsAt l e) (sym so.faults) (stop_sooner (faults (rules_in s) c (forms_in s)) (all_faults (rules_in s) cs (forms_after c (forms_in s))) e h)

  pub command_goes_on : (new : Following) → faults (rules_in s) c (forms_in s) ≡ [] → Follows c s new → CommandsSoFar before new cs all
  unfolding definitions
  command_goes_on new none f = record {
    faults =
        so.faults ∙ ap (λ l. l ++ all_faults (rules_in s) cs (forms_after c (forms_in s))) none
        ∙ ap₂ (λ r g. all_faults r cs g) (sym f.rules) (sym f.forms);
    rules = f.rules ∙ so.rules;
    forms = ap (forms_after_all cs) f.forms ∙ so.forms;
    written = ap₂ (λ g ds. all_written cs g ds) f.forms f.written ∙ so.written;
  }

module _ (before s : Following) (all : Commands) (so : CommandsSoFar before s NoCommand all) where
  pub commands_faultless : all_faults (rules_in before) all (forms_in before) ≡ []
  unfolding definitions
  commands_faultless = so.faults

  pub commands_followed : FollowsAll all before s
  unfolding definitions
  commands_followed = record { rules = so.rules; forms = so.forms; written = so.written }

pub next_command : (before s : Following) (cs : List LCommand) (i : ℕ) (c : LCommand) (all : Commands) → i < length cs → c ≡ get_or cs i c →
    CommandsSoFar before s (low_commands (map plain_lcommand (drop i cs))) all →
    CommandsSoFar before s (MoreCommand (plain_lcommand c) (low_commands (map plain_lcommand (drop (i + 1) cs)))) all
unfolding syntax_definitions
next_command before s cs i c all l e so = subst (λ x. CommandsSoFar before s (low_commands x) all) (drop_next plain_lcommand cs i c l e) so

pub last_command : (before s : Following) (cs : List LCommand) (i : ℕ) (all : Commands) → length cs ≤ i →
    CommandsSoFar before s (low_commands (map plain_lcommand (drop i cs))) all → CommandsSoFar before s NoCommand all
unfolding syntax_definitions
last_command before s cs i all l so = subst (λ x. CommandsSoFar before s (low_commands x) all) (map_drop_past plain_lcommand cs i l) so

-- ---- each kind of command
pub skip_follows : (s : Following) → Follows Skip s s
unfolding definitions
skip_follows s = record { rules = refl; forms = refl; written = refl }

pub seq_follows : (cs : Commands) (before after : Following) → FollowsAll cs before after → Follows (Seq cs) before after
unfolding definitions
seq_follows cs before after f = record { rules = f.rules; forms = f.forms; written = f.written }

module _ (b : Cond) (c d : Command) (before : Following) where
  -- what the test finds
  abbrev of_test : List Fault
  of_test = too_large (met_in_cond (forms_in before) b) ++ flat_map (atom_faults (rules_in before)) (kept (forms_in before) b)

  -- what the commands find
  abbrev of_branch : Bool → List Fault
  of_branch v = cond v (faults (rules_in before) c (forms_in before)) (faults (rules_in before) d (forms_in before))

  if_faults : of_test ++ of_branch (holds b (at_zero (forms_in before))) ≡ faults (rules_in before) (If b c d) (forms_in before)
  unfolding definitions
  if_faults = append_assoc (too_large (met_in_cond (forms_in before) b)) (flat_map (atom_faults (rules_in before)) (kept (forms_in before) b)) (of_branch (holds b (at_zero (forms_in before))))

  pub if_stops : (e : Stop) → StopsAt of_test e → StopsAt (faults (rules_in before) (If b c d) (forms_in before)) e
  if_stops e h =
      subst (λ l. StopsAt l e) if_faults (stop_sooner of_test (of_branch (holds b (at_zero (forms_in before)))) e h)

  module _ (v : Bool) (is : v ≡ holds b (at_zero (forms_in before))) where
    branch_finds : {A : Type 0} (r : Result A Stop) → of_test ≡ [] → Finds (of_branch v) r → Finds (faults (rules_in before) (If b c d) (forms_in before)) r
    branch_finds r none h =
        subst (λ l. Finds l r) (ap (λ w. of_test ++ of_branch w) is ∙ if_faults) (finds_later of_test (of_branch v) r none h)

    pub yes_finds : {A : Type 0} (r : Result A Stop) → of_test ≡ [] → v ≡ true → Finds (faults (rules_in before) c (forms_in before)) r →
        Finds (faults (rules_in before) (If b c d) (forms_in before)) r
    yes_finds r none h k = branch_finds r none (subst (λ w. Finds (of_branch w) r) (sym h) k)

    pub no_finds : {A : Type 0} (r : Result A Stop) → of_test ≡ [] → v ≡ false → Finds (faults (rules_in before) d (forms_in before)) r →
        Finds (faults (rules_in before) (If b c d) (forms_in before)) r
    no_finds r none h k = branch_finds r none (subst (λ w. Finds (of_branch w) r) (sym h) k)

    pub yes_follows : (after : Following) → v ≡ true → Follows c before after → Follows (If b c d) before after
    unfolding definitions
    yes_follows after h f =
        let t : true ≡ holds b (at_zero (forms_in before)) = sym h ∙ is in
        record {
          rules = f.rules;
          forms = f.forms ∙ ap (λ w. cond w (forms_after c (forms_in before)) (forms_after d (forms_in before))) t;
          written = f.written ∙ ap (λ w. cond w (written c (forms_in before) (written_in before)) (written d (forms_in before) (written_in before))) t;
        }

    pub no_follows : (after : Following) → v ≡ false → Follows d before after → Follows (If b c d) before after
    unfolding definitions
    no_follows after h f =
        let t : false ≡ holds b (at_zero (forms_in before)) = sym h ∙ is in
        record {
          rules = f.rules;
          forms = f.forms ∙ ap (λ w. cond w (forms_after c (forms_in before)) (forms_after d (forms_in before))) t;
          written = f.written ∙ ap (λ w. cond w (written c (forms_in before) (written_in before)) (written d (forms_in before) (written_in before))) t;
        }

-- ---- a call
-- the faults of what was written
abbrev end_faults : Rules → Forms → List Delta → List Fault
end_faults r f ds = flat_map (λ d. not_frozen r (remote_deltas r (f (DeltaAt d.object d.site)))) ds

module _ (c : Certificate) (g : Call) (start : Following) (rules : rules_in start ≡ rules_of c g) (forms : forms_in start ≡ base_forms (base_of c)) where
  same_faults : faults (rules_in start) g.command (forms_in start) ≡ faults (rules_of c g) g.command (base_forms (base_of c))
  same_faults = ap₂ (λ r f. faults r g.command f) rules forms

  after_call : List Fault
  after_call = end_faults (rules_of c g) (forms_after g.command (base_forms (base_of c))) (written g.command (base_forms (base_of c)) [])

  pub call_stops_in : (e : Stop) → StopsAt (faults (rules_in start) g.command (forms_in start)) e → StopsAt (call_faults c g) e
  unfolding definitions after_call
  call_stops_in e h = stop_sooner (faults (rules_of c g) g.command (base_forms (base_of c))) after_call e (subst (λ l. StopsAt l e) same_faults h)

  pub call_ends :
      written_in start ≡ [] → (after : Following) → faults (rules_in start) g.command (forms_in start) ≡ [] → Follows g.command start after →
      {A : Type 0} (r : Result A Stop) → Finds (flat_map (written_faults after) (written_in after)) r → Finds (call_faults c g) r
  unfolding definitions after_call
  call_ends none after clean follows r h =
      let p : rules_in after ≡ rules_of c g = follows.rules ∙ rules in
      let q : forms_in after ≡ forms_after g.command (base_forms (base_of c)) = follows.forms ∙ ap (forms_after g.command) forms in
      let w : written_in after ≡ written g.command (base_forms (base_of c)) [] = follows.written ∙ ap₂ (written g.command) forms none in
      finds_later (faults (rules_of c g) g.command (base_forms (base_of c))) after_call r (sym same_faults ∙ clean)
      (subst (λ l. Finds l r) (λ i. end_faults (p i) (q i) (w i)) h)
