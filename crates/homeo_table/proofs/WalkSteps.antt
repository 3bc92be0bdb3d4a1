-- One more command of a walk.
use Rattle.std.proofs.Common.{◌≡◌, ◌+◌, ◌<◌, true, false, cond, ◌&&◌, Bool, Option, Some, None, Result, Ok, Err, OnOk, List, [], ◌∷◌, ◌++◌, map, reverse, Bor, refl, sym, ap, ap₂, ◌∙◌, arith}
use Rattle.std.proofs.lemmas.Bool.{and_parts}
use Rattle.std.proofs.lemmas.List.{reverse-append, reverse-reverse, map_push}
use Rattle.homeo_syntax.specs.Key.{definitions as syntax_definitions}
use Rattle.homeo_syntax.specs.declared.low.LCommand.{LCommand}
use Rattle.homeo_syntax.specs.declared.low.SplitName.{SplitName}
use Rattle.homeo_syntax.specs.declared.low.Temp.{Temp}
use Rattle.homeo_syntax.specs.Low.{Expr, Cond, Command, Skip, Assign, Write, Print, Seq, If}
use Rattle.homeo_syntax.specs.LowView.{low_commands, plain_lcommand}
use Rattle.homeo_meaning.specs.Key.{definitions as meaning_definitions}
use Rattle.homeo_meaning.specs.LowMeaning.{Location, TempAt, State, location_of, put, value, holds, exec, exec_all}
use Rattle.homeo_plan.specs.Key.{definitions as plan_definitions}
use Rattle.homeo_plan.specs.Table.{Row, set_before, test_before, otherwise, clear_row, last_row, walk, walk_before, walk_all_before, HasNoTemps}
use Rattle.homeo_split.specs.Key.{definitions as split_definitions}
use Rattle.homeo_split.specs.CanExec.{run_limit, expr_fits, cond_fits, can_exec, can_exec_all}
use Rattle.homeo_table.specs.inner.Key.{definitions}
use Rattle.homeo_table.specs.inner.Branches.{size, size_all}
use Rattle.homeo_table.specs.inner.Makings.{command_before}
use Rattle.homeo_substitution.specs.Substitution.{substituted, substituted_cond}
use Rattle.homeo_table.specs.inner.Walks.{after, fits_if, CanFollow, walked, Goes, to_come}
use Rattle.homeo_table.proofs.Following.{size-some}
use Rattle.homeo_table.proofs.Fitting.{holds-after, after-put, cond-fits-after, fits-put}

-- ---- results
pub on_ok_both : {T E P Q R : Type 0} → (r : Result T E) → (P → Q → R) → OnOk r P → OnOk r Q → OnOk r R
on_ok_both (Ok x) f p q = f p q
on_ok_both (Err e) f p q = tt

-- ---- what is left
pub pushed : (cs ds : List (Bor LCommand)) (c : Bor LCommand) (k : Command) → ds ≡ cs ++ c ∷ [] → plain_lcommand c.now ≡ k → to_come ds ≡ k ∷ to_come cs
pushed cs ds c k h is =
    ap to_come h ∙ ap reverse (map_push (λ c. plain_lcommand c.now) cs c) ∙ reverse-append (map (λ c. plain_lcommand c.now) cs) (plain_lcommand c.now ∷ [])
    ∙ ap (λ k. k ∷ to_come cs) is

pub pushed-all :
    (cs ds : List (Bor LCommand)) (ks : List Command) →
    map (λ c. plain_lcommand c.now) ds ≡ map (λ c. plain_lcommand c.now) cs ++ reverse ks → to_come ds ≡ ks ++ to_come cs
pushed-all cs ds ks h =
    ap reverse h ∙ reverse-append (map (λ c. plain_lcommand c.now) cs) (reverse ks) ∙ ap (λ ks. ks ++ to_come cs) (reverse-reverse ks)

-- ---- how much is left
all-size : (ds cs : List Command) → size_all (low_commands (ds ++ cs)) ≡ size_all (low_commands ds) + size_all (low_commands cs)
unfolding definitions syntax_definitions
all-size [] cs = omega arith
all-size (d ∷ ds) cs = let ih = all-size ds cs in omega (arith, ih)

pub less-one : (k : Command) (cs : List Command) → size_all (low_commands cs) < size_all (low_commands (k ∷ cs))
unfolding definitions syntax_definitions
less-one k cs = omega (arith, size-some k)

pub less-all : (k : Command) (ds cs es : List Command) → k ≡ Seq (low_commands ds) → es ≡ ds ++ cs → size_all (low_commands es) < size_all (low_commands (k ∷ cs))
unfolding definitions syntax_definitions
less-all k ds cs es h f = omega (arith, ap (λ es. size_all (low_commands es)) f ∙ all-size ds cs, ap size h)

pub less-branch :
    (k : Command) (v : Bool) (b : Cond) (c d : Command) (cs es : List Command) → k ≡ If b c d → es ≡ cond v c d ∷ cs →
    size_all (low_commands es) < size_all (low_commands (k ∷ cs))
unfolding definitions syntax_definitions
less-branch k true b c d cs es h f = omega (arith, ap (λ es. size_all (low_commands es)) f, ap size h)
less-branch k false b c d cs es h f = omega (arith, ap (λ es. size_all (low_commands es)) f, ap size h)

-- ---- commands one after another
walk-all :
    (ds cs : List Command) (s : State) (r : Row) →
    walk_all_before (low_commands (ds ++ cs)) s r ≡ walk_all_before (low_commands ds) s (walk_all_before (low_commands cs) (exec_all (low_commands ds) s).state r)
unfolding plan_definitions meaning_definitions syntax_definitions
walk-all [] cs s r = refl
walk-all (d ∷ ds) cs s r = ap (walk_before d s) (walk-all ds cs (exec d s).state r)

can-all :
    (ds cs : List Command) (s : State) → can_exec_all run_limit (low_commands ds) s ≡ true →
    can_exec_all run_limit (low_commands cs) (exec_all (low_commands ds) s).state ≡ true → can_exec_all run_limit (low_commands (ds ++ cs)) s ≡ true
unfolding split_definitions meaning_definitions syntax_definitions
can-all [] cs s h k = k
can-all (d ∷ ds) cs s h k =
    let m = and_parts _ _ h in
    ap₂ ◌&&◌ m.0 (can-all ds cs (exec d s).state m.1 k)

-- ---- one command, form by form
-- it sets place p to e
pub record Sets (k : Command) (p : Location) (e : Expr) (s : State) : Type 0 where
  pub can : can_exec run_limit k s ≡ expr_fits run_limit e s
  pub state : (exec k s).state ≡ put s p (value e s)
  pub walk : (r : Row) → walk_before k s r ≡ set_before k p e r

pub sets-Assign : (k : Command) (t : Temp) (e : Expr) (p : Location) (s : State) → k ≡ Assign t e → p ≡ TempAt t → Sets k p e s
unfolding plan_definitions meaning_definitions split_definitions
sets-Assign k t e p s h w =
    record {
      can = ap (λ k. can_exec run_limit k s) h;
      state = ap (λ k. (exec k s).state) h ∙ ap (λ p. put s p (value e s)) (sym w);
      walk = λ r. ap (λ k. walk_before k s r) h ∙ ap₂ (λ k p. set_before k p e r) (sym h) (sym w);
    }

pub sets-Write : (k : Command) (x : SplitName) (e : Expr) (p : Location) (s : State) → k ≡ Write x e → p ≡ location_of x → Sets k p e s
unfolding plan_definitions meaning_definitions split_definitions
sets-Write k x e p s h w =
    record {
      can = ap (λ k. can_exec run_limit k s) h;
      state = ap (λ k. (exec k s).state) h ∙ ap (λ p. put s p (value e s)) (sym w);
      walk = λ r. ap (λ k. walk_before k s r) h ∙ ap₂ (λ k p. set_before k p e r) (sym h) (sym w);
    }

-- it does what command d does, where condition c is asked first
pub record Takes (k d : Command) (c : Cond) (s : State) : Type 0 where
  pub can : can_exec run_limit k s ≡ true → can_exec run_limit d s ≡ true
  pub state : (exec k s).state ≡ (exec d s).state
  pub walk : (r : Row) → walk_before k s r ≡ test_before c (walk_before d s r)

choice :
    (k : Command) (b : Cond) (c d : Command) (s : State) → k ≡ If b c d → can_exec run_limit k s ≡ true →
    (cond_fits run_limit b s ≡ true) × (cond (holds b s) (can_exec run_limit c s) (can_exec run_limit d s) ≡ true)
unfolding split_definitions
choice k b c d s h can = and_parts _ _ (ap (λ k. can_exec run_limit k s) (sym h) ∙ can)

pub takes :
    (v : Bool) (k : Command) (b : Cond) (c d : Command) (s : State) → k ≡ If b c d → holds b s ≡ v →
    Takes k (cond v c d) (cond v b (otherwise b)) s
unfolding plan_definitions meaning_definitions
takes true k b c d s h is =
    record {
      can = λ can. ap (λ v. cond v (can_exec run_limit c s) (can_exec run_limit d s)) (sym is) ∙ (choice k b c d s h can).1;
      state = ap (λ k. (exec k s).state) h ∙ ap (λ v. (cond v (exec c s) (exec d s)).state) is;
      walk = λ r. ap (λ k. walk_before k s r) h
          ∙ ap (λ v. cond v (test_before b (walk_before c s r)) (test_before (otherwise b) (walk_before d s r))) is;
    }
takes false k b c d s h is =
    record {
      can = λ can. ap (λ v. cond v (can_exec run_limit c s) (can_exec run_limit d s)) (sym is) ∙ (choice k b c d s h can).1;
      state = ap (λ k. (exec k s).state) h ∙ ap (λ v. (cond v (exec c s) (exec d s)).state) is;
      walk = λ r. ap (λ k. walk_before k s r) h
          ∙ ap (λ v. cond v (test_before b (walk_before c s r)) (test_before (otherwise b) (walk_before d s r))) is;
    }

-- ---- one command in front of others, and the walk
pub walk-Skip : (k : Command) (cs : List Command) (s : State) (r : Row) → k ≡ Skip → walk_all_before (low_commands cs) s r ≡ walk_all_before (low_commands (k ∷ cs)) s r
unfolding plan_definitions meaning_definitions syntax_definitions
walk-Skip k cs s r h = ap (λ k. walk_all_before (low_commands (k ∷ cs)) s r) (sym h)

pub walk-Seq :
    (k : Command) (ds cs es : List Command) (s : State) (r : Row) → k ≡ Seq (low_commands ds) → es ≡ ds ++ cs →
    walk_all_before (low_commands es) s r ≡ walk_all_before (low_commands (k ∷ cs)) s r
unfolding plan_definitions meaning_definitions syntax_definitions
walk-Seq k ds cs es s r h w =
    ap (λ es. walk_all_before (low_commands es) s r) w ∙ walk-all ds cs s r ∙ ap (λ k. walk_all_before (low_commands (k ∷ cs)) s r) (sym h)

pub walk-taken :
    (k d : Command) (c : Cond) (cs : List Command) (s : State) (r : Row) → Takes k d c s →
    test_before c (walk_all_before (low_commands (d ∷ cs)) s r) ≡ walk_all_before (low_commands (k ∷ cs)) s r
unfolding plan_definitions syntax_definitions
walk-taken k d c cs s r next =
    ap (λ st. test_before c (walk_before d s (walk_all_before (low_commands cs) st r))) (sym next.state)
    ∙ sym (next.walk (walk_all_before (low_commands cs) (exec k s).state r))

-- from a state where they can be executed
module _ (s : State) (k : Command) (cs : List Command) (can : can_exec_all run_limit (low_commands (k ∷ cs)) s ≡ true) where
  -- the first command can be executed, and the others after it
  pub parts : (can_exec run_limit k s ≡ true) × (can_exec_all run_limit (low_commands cs) (exec k s).state ≡ true)
  unfolding split_definitions syntax_definitions
  parts = and_parts _ _ can

  pub can-set : (p : Location) (e : Expr) → Sets k p e s → expr_fits run_limit e s ≡ true
  can-set p e sets = sym sets.can ∙ parts.0

  pub can-Skip : k ≡ Skip → can_exec_all run_limit (low_commands cs) s ≡ true
  unfolding meaning_definitions
  can-Skip h = ap (λ k. can_exec_all run_limit (low_commands cs) (exec k s).state) (sym h) ∙ parts.1

  pub can-Seq : (ds es : List Command) → k ≡ Seq (low_commands ds) → es ≡ ds ++ cs → can_exec_all run_limit (low_commands es) s ≡ true
  unfolding split_definitions meaning_definitions
  can-Seq ds es h w =
      ap (λ es. can_exec_all run_limit (low_commands es) s) w
      ∙ can-all ds cs s (ap (λ k. can_exec run_limit k s) (sym h) ∙ parts.0)
      (ap (λ k. can_exec_all run_limit (low_commands cs) (exec k s).state) (sym h) ∙ parts.1)

  pub can-ask : (t : Cond) (c d : Command) → k ≡ If t c d → cond_fits run_limit t s ≡ true
  can-ask t c d is = (choice k t c d s is parts.0).0

  pub can-take : (d : Command) (c : Cond) → Takes k d c s → can_exec_all run_limit (low_commands (d ∷ cs)) s ≡ true
  unfolding split_definitions syntax_definitions
  can-take d c next =
      ap₂ ◌&&◌ (next.can parts.0) (ap (can_exec_all run_limit (low_commands cs)) (sym next.state) ∙ parts.1)

-- ---- the same from the state where expressions stand
module _ (f f' : Row → Row) (b b' : Location → Option Expr) (s : State) (temps : HasNoTemps s) (k : Command) (cs : List Command) (can : CanFollow b (k ∷ cs) s) where
  pub goes-set :
      (p : Location) (e : Expr) → Sets k p e (after b s) → f' ≡ (λ r. f (set_before k p e r)) → b' ≡ put b p (Some (substituted b e)) →
      Goes f f' b b' (k ∷ cs) cs s
  unfolding plan_definitions syntax_definitions
  goes-set p e sets g h =
      let same : after b' s ≡ (exec k (after b s)).state = ap (λ b. after b s) h ∙ after-put b s temps p e ∙ sym sets.state in
      record {
        can = record {
          expressions = λ l. ap (λ (b : Location → Option Expr). fits_if (b l) s) h
              ∙ fits-put b s temps can.expressions p e (can-set (after b s) k cs can.commands p e sets) l;
          commands = ap (can_exec_all run_limit (low_commands cs)) same ∙ (parts (after b s) k cs can.commands).1;
        };
        row = ap₂ (λ (f : Row → Row) (st : State). f (walk_all_before (low_commands cs) st last_row)) g same
            ∙ ap f (sym (sets.walk (walk_all_before (low_commands cs) (exec k (after b s)).state last_row)));
      }

  pub goes-Skip : k ≡ Skip → Goes f f b b (k ∷ cs) cs s
  goes-Skip h =
      record {
        can = record { expressions = can.expressions; commands = can-Skip (after b s) k cs can.commands h };
        row = ap f (walk-Skip k cs (after b s) last_row h);
      }

  pub goes-Print : (e : Expr) → k ≡ Print e → f' ≡ (λ r. f (command_before k r)) → b' ≡ b → Goes f f' b b' (k ∷ cs) cs s
  unfolding plan_definitions syntax_definitions meaning_definitions command_before
  goes-Print e h g w =
      let same : after b' s ≡ (exec k (after b s)).state = ap (λ b. after b s) w ∙ ap (λ k. (exec k (after b s)).state) (sym h) in
      record {
        can = record {
          expressions = λ l. ap (λ (b : Location → Option Expr). fits_if (b l) s) w ∙ can.expressions l;
          commands = ap (can_exec_all run_limit (low_commands cs)) same ∙ (parts (after b s) k cs can.commands).1;
        };
        row = ap₂ (λ (f : Row → Row) b. walked f b cs s) g w ∙ ap (λ k. f (command_before k (walk_all_before (low_commands cs) (after b s) last_row))) h
            ∙ ap (λ k. walked f b (k ∷ cs) s) (sym h);
      }

  pub goes-Seq : (ds es : List Command) → k ≡ Seq (low_commands ds) → es ≡ ds ++ cs → Goes f f b b (k ∷ cs) es s
  goes-Seq ds es h w =
      record {
        can = record { expressions = can.expressions; commands = can-Seq (after b s) k cs can.commands ds es h w };
        row = ap f (walk-Seq k ds cs es (after b s) last_row h w);
      }

  module _ (t : Cond) (c d : Command) (is : k ≡ If t c d) where
    pub asks : cond_fits run_limit (substituted_cond b t) s ≡ true
    asks = cond-fits-after b s temps can.expressions t (can-ask (after b s) k cs can.commands t c d is)

    pub goes-If :
        (w v : Bool) (es : List Command) → w ≡ holds (substituted_cond b t) s → w ≡ v → f' ≡ (λ r. f (test_before (cond w t (otherwise t)) r)) → b' ≡ b →
        es ≡ cond v c d ∷ cs → Goes f f' b b' (k ∷ cs) es s
    goes-If w v es held is-v g h e =
        let next = takes v k t c d (after b s) is (sym (holds-after b s temps t) ∙ sym held ∙ is-v) in
        record {
          can = record {
            expressions = λ l. ap (λ (b : Location → Option Expr). fits_if (b l) s) h ∙ can.expressions l;
            commands = ap₂ (λ b es. can_exec_all run_limit (low_commands es) (after b s)) h e
                ∙ can-take (after b s) k cs can.commands (cond v c d) (cond v t (otherwise t)) next;
          };
          row = ap₂ (λ b es. walked f' b es s) h e
              ∙ ap (λ (f : Row → Row). walked f b (cond v c d ∷ cs) s) (g ∙ ap (λ v. λ r. f (test_before (cond v t (otherwise t)) r)) is-v)
              ∙ ap f (walk-taken k (cond v c d) (cond v t (otherwise t)) cs (after b s) last_row next);
        }

-- ---- the first command and the last
pub goes-first :
    (f : Row → Row) (b : Location → Option Expr) (c : Command) (cs : List Command) (s : State) → f ≡ clear_row → b ≡ (λ l. None) → cs ≡ c ∷ [] →
    can_exec run_limit c s ≡ true → Goes clear_row f (λ l. None) b (c ∷ []) cs s
unfolding split_definitions syntax_definitions
goes-first f b c cs s g h e can =
    record {
      can = record {
        expressions = λ l. ap (λ (b : Location → Option Expr). fits_if (b l) s) h;
        commands = ap₂ (λ b cs. can_exec_all run_limit (low_commands cs) (after b s)) h e ∙ ap (λ v. v && true) can;
      };
      row = ap₂ (λ (f : Row → Row) b. walked f b cs s) g h ∙ ap (λ cs. walked clear_row (λ l. None) cs s) e;
    }

-- so its row is the walk
pub first-walk : (c : Command) (s : State) → walked clear_row (λ l. None) (c ∷ []) s ≡ walk c s
unfolding plan_definitions syntax_definitions
first-walk c s = refl

pub last-walk :
    (f : Row → Row) (b : Location → Option Expr) (cs : List (Bor LCommand)) (s : State) (r whole : Row) → cs ≡ [] → r ≡ f last_row →
    walked f b (to_come cs) s ≡ whole → r ≡ whole
unfolding plan_definitions syntax_definitions
last-walk f b cs s r whole h e k = e ∙ sym (ap (λ cs. walked f b (to_come cs) s) h) ∙ k
