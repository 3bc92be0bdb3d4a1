-- One command followed behind others.
use Rattle.homeo_plan.specs.Key.{definitions as plan_definitions}
use Rattle.homeo_follow.specs.Key.{definitions}
use Rattle.homeo_syntax.specs.Key.{definitions as syntax_definitions}
use Rattle.std.proofs.Common.{◌≡◌, ℕ, ◌+◌, ◌<◌, ◌≤◌, Bool, true, false, cond, List, [], ◌∷◌, ◌++◌, map, drop, get_or, length, ℤ, sym, ap, ap₂, ◌∙◌, subst, append_assoc, append-nil, Box, Global}
use Rattle.homeo_lemmas.proofs.Lists.{map_drop_past}
use Rattle.homeo_syntax.specs.Low as l
use Rattle.homeo_syntax.specs.LowView.{low_commands, plain_lexpr, plain_lcond, plain_lcommand}
use Rattle.homeo_syntax.specs.Listed.{Listed}
use Rattle.homeo_syntax.specs.declared.low.LCommand.{LCommand, Assign, Write, Print, Seq, If}
use Rattle.homeo_syntax.specs.declared.low.LCond.{LCond}
use Rattle.homeo_syntax.specs.declared.low.LExpr.{LExpr}
use Rattle.homeo_syntax.proofs.LowViews.{low_Assign, low_Write, low_Print, low_Seq, low_If}
use Rattle.homeo_syntax.specs.declared.low.SplitName.{SplitName}
use Rattle.homeo_syntax.specs.declared.low.Temp.{Temp}
use Rattle.homeo_meaning.specs.LowMeaning.{Location, TempAt, location_of, put}
use Rattle.homeo_meaning.proofs.Steps.{drop_next}
use Rattle.homeo_meaning.specs.Serial.{values_of}
use Rattle.homeo_meaning.specs.Small.{IsSmall}
use Rattle.homeo_plan.specs.FormSizes.{CanForm, CanCond}
use Rattle.homeo_plan.specs.Limit.{form_limit}
use Rattle.homeo_plan.specs.declared.forms.Delta.{Delta}
use Rattle.homeo_plan.specs.Linear.{Linear, Forms, form}
use Rattle.homeo_follow.specs.Follow.{passed, failed, holds_by, Followed, nothing, and_then, asked, object_of, object_delta, object_forms, follow, follow_all, followed}
use Rattle.homeo_follow.specs.FollowSizes.{AreNumbers, CanBeFollowed, CanAllBeFollowed}
use Rattle.homeo_linear.specs.inner.Kept.{kept_cond}

pub then_nothing : (q : Followed) → q ≡ and_then q (nothing q.forms)
unfolding definitions
then_nothing q = λ i. record { atoms = sym (append-nil q.atoms) i; prints = sym (append-nil q.prints) i; written = sym (append-nil q.written) i; forms = q.forms }

pub then_assoc : (p q r : Followed) → and_then (and_then p q) r ≡ and_then p (and_then q r)
unfolding definitions
then_assoc p q r = λ i. record { atoms = append_assoc p.atoms q.atoms r.atoms i; prints = append_assoc p.prints q.prints r.prints i; written = append_assoc p.written q.written r.written i; forms = r.forms }

-- new forms, and nothing else
pub then_forms : (p q : Followed) (f : Forms) → q.atoms ≡ p.atoms → q.prints ≡ p.prints → q.written ≡ p.written → q.forms ≡ f → q ≡ and_then p (nothing f)
unfolding definitions
then_forms p q f a b c d =
    λ i. record { atoms = (a ∙ sym (append-nil p.atoms)) i; prints = (b ∙ sym (append-nil p.prints)) i; written = (c ∙ sym (append-nil p.written)) i; forms = d i }

-- new atoms, and nothing else
pub asked_is :
    (p q : Followed) (fs : List Linear) → q.atoms ≡ p.atoms ++ fs → q.prints ≡ p.prints → q.written ≡ p.written → q.forms ≡ p.forms →
    q ≡ and_then p (asked fs (nothing p.forms))
unfolding definitions
asked_is p q fs a b c d =
    λ i. record {
      atoms = (a ∙ sym (ap (λ l. p.atoms ++ l) (append-nil fs))) i;
      prints = (b ∙ sym (append-nil p.prints)) i;
      written = (c ∙ sym (append-nil p.written)) i;
      forms = d i;
    }

pub assigned :
    (p q : Followed) (t : Temp) (e : l.Expr) (k : Location) (a : Linear) → q.atoms ≡ p.atoms → q.prints ≡ p.prints → q.written ≡ p.written →
    k ≡ TempAt t → a ≡ form p.forms e → q.forms ≡ put p.forms k a → q ≡ and_then p (follow (l.Assign t e) p.forms)
unfolding definitions
assigned p q t e k a x y z pk pa f =
    then_forms p q (put p.forms (TempAt t) (form p.forms e)) x y z (f ∙ ap₂ (put p.forms) pk pa)

pub wrote :
    (p q : Followed) (n : SplitName) (e : l.Expr) (k : Location) (a : Linear) (d : Delta) → q.atoms ≡ p.atoms → q.prints ≡ p.prints →
    q.written ≡ p.written ++ d.object ∷ [] → d ≡ object_delta (object_of n) → k ≡ location_of n → a ≡ form p.forms e →
    q.forms ≡ put p.forms k a → q ≡ and_then p (follow (l.Write n e) p.forms)
unfolding definitions plan_definitions
wrote p q n e k a d x y z pd pk pa f =
    λ i. record {
      atoms = (x ∙ sym (append-nil p.atoms)) i;
      prints = (y ∙ sym (append-nil p.prints)) i;
      written = (z ∙ ap (λ (m : Delta). p.written ++ m.object ∷ []) pd) i;
      forms = (f ∙ ap₂ (put p.forms) pk pa) i;
    }

pub printed :
    (p q : Followed) (e : l.Expr) (a : Linear) → q.atoms ≡ p.atoms → q.prints ≡ p.prints ++ a ∷ [] → q.written ≡ p.written →
    a ≡ form p.forms e → q.forms ≡ p.forms → q ≡ and_then p (follow (l.Print e) p.forms)
unfolding definitions
printed p q e a x y z pa f =
    λ i. record {
      atoms = (x ∙ sym (append-nil p.atoms)) i;
      prints = (y ∙ ap (λ b. p.prints ++ b ∷ []) pa) i;
      written = (z ∙ sym (append-nil p.written)) i;
      forms = f i;
    }

-- atoms that are asked, and then the rest
asked_then : (p r : Followed) (fs : List Linear) (f : Forms) → and_then (and_then p (asked fs (nothing f))) r ≡ and_then p (asked fs r)
unfolding definitions
asked_then p r fs f =
    then_assoc p (asked fs (nothing f)) r
    ∙ ap (and_then p) (λ i. record { atoms = ap (λ l. l ++ r.atoms) (append-nil fs) i; prints = r.prints; written = r.written; forms = r.forms })

-- a condition that was asked, and the branch that is taken
module _ (p m n : Followed) (f : Forms) (t : l.Cond) (c d : l.Command) (holds : Bool) (is : holds ≡ holds_by f t) (asking : m ≡ and_then p (asked (kept_cond f t) (nothing f))) where
  pub yes_taken : true ≡ holds → n ≡ and_then m (follow c f) → n ≡ and_then p (follow (l.If t c d) f)
  unfolding definitions
  yes_taken h e =
      let held : holds_by f t ≡ true = sym (h ∙ is) in
      e ∙ ap (λ q. and_then q (follow c f)) asking ∙ asked_then p (follow c f) (kept_cond f t) f
      ∙ ap (λ b. and_then p (asked (cond b (passed f t) (failed f t)) (follow c f))) held
      ∙ sym (ap (λ b. and_then p (cond b (asked (passed f t) (follow c f)) (asked (failed f t) (follow d f)))) held)

  pub no_taken : false ≡ holds → n ≡ and_then m (follow d f) → n ≡ and_then p (follow (l.If t c d) f)
  unfolding definitions
  no_taken h e =
      let held : holds_by f t ≡ false = sym (h ∙ is) in
      e ∙ ap (λ q. and_then q (follow d f)) asking ∙ asked_then p (follow d f) (kept_cond f t) f
      ∙ ap (λ b. and_then p (asked (cond b (passed f t) (failed f t)) (follow d f))) held
      ∙ sym (ap (λ b. and_then p (cond b (asked (passed f t) (follow c f)) (asked (failed f t) (follow d f)))) held)

-- ---- what is asked of each kind of command
module _ (f : Forms) (x : LCommand) (h : CanBeFollowed (IsSmall form_limit) f (plain_lcommand x)) where
  pub assign_can : (t : Temp) (e : LExpr) → x ≡ Assign t e → CanForm (IsSmall form_limit) f (plain_lexpr e)
  unfolding definitions
  assign_can t e p = subst (CanBeFollowed (IsSmall form_limit) f) (ap plain_lcommand p ∙ low_Assign t e) h

  pub write_can : (n : SplitName) (e : LExpr) → x ≡ Write n e → CanForm (IsSmall form_limit) f (plain_lexpr e)
  unfolding definitions
  write_can n e p = subst (CanBeFollowed (IsSmall form_limit) f) (ap plain_lcommand p ∙ low_Write n e) h

  pub print_can : (e : LExpr) → x ≡ Print e → CanForm (IsSmall form_limit) f (plain_lexpr e)
  unfolding definitions
  print_can e p = subst (CanBeFollowed (IsSmall form_limit) f) (ap plain_lcommand p ∙ low_Print e) h

  pub seq_can : (cs : Listed LCommand) → x ≡ Seq cs → CanAllBeFollowed (IsSmall form_limit) f (low_commands (map plain_lcommand cs.items))
  unfolding definitions
  seq_can cs p = subst (CanBeFollowed (IsSmall form_limit) f) (ap plain_lcommand p ∙ low_Seq cs) h

  -- of a condition, and of the branch that is taken
  pub record IfCan (b : LCond) (c d : Box LCommand Global) : Type 0 where
    pub test : CanCond (IsSmall form_limit) f (plain_lcond b)
    pub yes : holds_by f (plain_lcond b) ≡ true → CanBeFollowed (IsSmall form_limit) f (plain_lcommand c.value)
    pub no : holds_by f (plain_lcond b) ≡ false → CanBeFollowed (IsSmall form_limit) f (plain_lcommand d.value)

  pub if_can : (b : LCond) (c d : Box LCommand Global) → x ≡ If b c d → IfCan b c d
  unfolding definitions
  if_can b c d p =
      let k : CanBeFollowed (IsSmall form_limit) f (l.If (plain_lcond b) (plain_lcommand c.value) (plain_lcommand d.value)) =
      subst (CanBeFollowed (IsSmall form_limit) f) (ap plain_lcommand p ∙ low_If b c d) h in
      record { test = k.0; yes = k.1; no = k.2 }

-- the forms stay as a condition is asked
pub asked_forms : (p m : Followed) (fs : List Linear) (f : Forms) → m ≡ and_then p (asked fs (nothing f)) → m.forms ≡ f
unfolding definitions
asked_forms p m fs f e = ap (λ (q : Followed). q.forms) e

-- of a branch, where the forms stayed
pub branch_can :
    (m : Followed) (f : Forms) (x y : LCommand) → m.forms ≡ f → x ≡ y → CanBeFollowed (IsSmall form_limit) f (plain_lcommand y) →
    CanBeFollowed (IsSmall form_limit) m.forms (plain_lcommand x)
branch_can m f x y stay is h =
    subst (λ (g : Forms). CanBeFollowed (IsSmall form_limit) g (plain_lcommand x)) (sym stay)
    (subst (λ (z : LCommand). CanBeFollowed (IsSmall form_limit) f (plain_lcommand z)) (sym is) h)

pub branch_followed :
    (m n : Followed) (f : Forms) (x y : LCommand) → m.forms ≡ f → x ≡ y → n ≡ and_then m (follow (plain_lcommand x) m.forms) →
    n ≡ and_then m (follow (plain_lcommand y) f)
branch_followed m n f x y stay is h =
    h ∙ ap₂ (λ (z : LCommand) (g : Forms). and_then m (follow (plain_lcommand z) g)) is stay

-- ---- one command after another
abbrev pub left : List LCommand → ℕ → l.Commands
left cs i = low_commands (map plain_lcommand (drop i cs))

-- what is followed of a whole list, where those from number i on are left
pub record Along (q whole : Followed) (cs : List LCommand) (i : ℕ) : Type 0 where
  pub can : CanAllBeFollowed (IsSmall form_limit) q.forms (left cs i)
  pub same : and_then q (follow_all (left cs i) q.forms) ≡ whole

pub along_first : (q whole : Followed) (cs : List LCommand) (i : ℕ) (c : LCommand) → i < length cs → c ≡ get_or cs i c → Along q whole cs i → CanBeFollowed (IsSmall form_limit) q.forms (plain_lcommand c)
unfolding definitions syntax_definitions
along_first q whole cs i c h p s =
    (subst (λ z. CanAllBeFollowed (IsSmall form_limit) q.forms (low_commands z)) (drop_next plain_lcommand cs i c h p) s.can).0

pub along_next :
    (q r whole : Followed) (cs : List LCommand) (i : ℕ) (c : LCommand) → i < length cs → c ≡ get_or cs i c → Along q whole cs i →
    r ≡ and_then q (follow (plain_lcommand c) q.forms) → Along r whole cs (i + 1)
unfolding definitions syntax_definitions
along_next q r whole cs i c h p s e =
    let next = drop_next plain_lcommand cs i c h p in
    let forms : r.forms ≡ (follow (plain_lcommand c) q.forms).forms = ap (λ (z : Followed). z.forms) e in
    record {
      can = subst (λ f. CanAllBeFollowed (IsSmall form_limit) f (left cs (i + 1))) (sym forms)
          (subst (λ z. CanAllBeFollowed (IsSmall form_limit) q.forms (low_commands z)) next s.can).1;
      same =
          ap (λ (z : Followed). and_then z (follow_all (left cs (i + 1)) z.forms)) e
          ∙ then_assoc q (follow (plain_lcommand c) q.forms) (follow_all (left cs (i + 1)) (follow (plain_lcommand c) q.forms).forms)
          ∙ sym (ap (λ z. and_then q (follow_all (low_commands z) q.forms)) next)
          ∙ s.same;
    }

pub along_end : (q whole : Followed) (cs : List LCommand) (i : ℕ) → length cs ≤ i → Along q whole cs i → q ≡ whole
unfolding definitions syntax_definitions
along_end q whole cs i h s =
    then_nothing q ∙ sym (ap (λ z. and_then q (follow_all (low_commands z) q.forms)) (map_drop_past plain_lcommand cs i h)) ∙ s.same

-- ---- from a base on
module _ (p q : Followed) (xs db : List ℤ) (c : l.Command) (begun : p ≡ nothing (object_forms (values_of xs))) (same : xs ≡ db) where
  at_base : p ≡ nothing (object_forms (values_of db))
  at_base = begun ∙ ap (λ l. nothing (object_forms (values_of l))) same

  pub begins_at : CanBeFollowed (IsSmall form_limit) (object_forms (values_of db)) c → CanBeFollowed (IsSmall form_limit) p.forms c
  unfolding definitions
  begins_at h = subst (λ (r : Followed). CanBeFollowed (IsSmall form_limit) r.forms c) (sym at_base) h

  pub followed_whole : q ≡ and_then p (follow c p.forms) → q ≡ followed (values_of db) c
  unfolding definitions
  followed_whole e = e ∙ ap (λ (r : Followed). and_then r (follow c r.forms)) at_base

  pub left_forms : q ≡ and_then p (follow c p.forms) → AreNumbers (IsSmall form_limit) (followed (values_of db) c).forms → AreNumbers (IsSmall form_limit) q.forms
  left_forms e h = subst (λ (r : Followed). AreNumbers (IsSmall form_limit) r.forms) (sym (followed_whole e)) h
