-- What commands do behind the prints before them, as equations, which code rewrites by.
use Rattle.std.proofs.Common.{◌≡◌, ℕ, ◌+◌, ◌<◌, ◌≤◌, ℤ, true, false, cond, Bool, ◌&&◌, Box, Global, List, [], ◌∷◌, ◌++◌, map, drop, get_or, length, refl, sym, ap, ◌∙◌, append_assoc}
use Rattle.std.proofs.lemmas.List.{append-nil}
use Rattle.std.proofs.lemmas.Bool.{and_parts}
use Rattle.homeo_lemmas.proofs.Lists.{map_drop_past}
use Rattle.homeo_syntax.specs.Key.{definitions as syntax_definitions}
use Rattle.homeo_syntax.specs.LowView.{low_commands, plain_lcommand, plain_lcond}
use Rattle.homeo_syntax.specs.declared.low.LCond as condition
use Rattle.homeo_syntax.specs.declared.low.LCommand as tree
use Rattle.homeo_syntax.specs.declared.low.Temp.{Temp}
use Rattle.homeo_syntax.specs.declared.low.SplitName.{SplitName}
use Rattle.homeo_syntax.specs.Low.{Expr, Cond, Command, Commands, Skip, Assign, Write, Print, Seq, If}
use Rattle.homeo_syntax.proofs.LowViews.{low_If}
use Rattle.homeo_meaning.specs.Key.{definitions as meaning_definitions}
use Rattle.homeo_meaning.specs.LowMeaning.{State, Run, TempAt, location_of, put, value, holds, after_prints, exec, exec_all}
use Rattle.homeo_meaning.proofs.Steps.{drop_next}
use Rattle.homeo_split.specs.Key.{definitions}
use Rattle.homeo_split.specs.CanExec.{expr_fits, cond_fits, can_exec, can_exec_all}
use Rattle.homeo_split.specs.States.{run_of}
use Rattle.homeo_split.specs.Shape.{Shape, has_place, has_places, has_places_all}

after_done : (ps : List ℤ) (s : State) → after_prints ps (record { state = s; prints = [] }) ≡ run_of s ps
unfolding definitions meaning_definitions
after_done ps s = λ i. record { state = s; prints = append-nil ps i }

pub run_Skip : (s : State) (ps : List ℤ) → after_prints ps (exec Skip s) ≡ run_of s ps
unfolding definitions meaning_definitions
run_Skip s ps = after_done ps s

pub run_Assign : (s : State) (ps : List ℤ) (t : Temp) (e : Expr) → after_prints ps (exec (Assign t e) s) ≡ run_of (put s (TempAt t) (value e s)) ps
unfolding definitions meaning_definitions
run_Assign s ps t e = after_done ps (put s (TempAt t) (value e s))

pub run_Write : (s : State) (ps : List ℤ) (x : SplitName) (e : Expr) → after_prints ps (exec (Write x e) s) ≡ run_of (put s (location_of x) (value e s)) ps
unfolding definitions meaning_definitions
run_Write s ps x e = after_done ps (put s (location_of x) (value e s))

pub run_Print : (s : State) (ps : List ℤ) (e : Expr) → after_prints ps (exec (Print e) s) ≡ run_of s (ps ++ value e s ∷ [])
unfolding definitions meaning_definitions
run_Print s ps e = refl

after_cond : (b : Bool) (ps : List ℤ) (r q : Run) → after_prints ps (cond b r q) ≡ cond b (after_prints ps r) (after_prints ps q)
after_cond true ps r q = refl
after_cond false ps r q = refl

pub run_If : (s : State) (ps : List ℤ) (t : Cond) (c d : Command) → after_prints ps (exec (If t c d) s) ≡ cond (holds t s) (after_prints ps (exec c s)) (after_prints ps (exec d s))
unfolding definitions meaning_definitions
run_If s ps t c d = after_cond (holds t s) ps (exec c s) (exec d s)

pub run_Seq : (s : State) (ps : List ℤ) (cs : Commands) → after_prints ps (exec (Seq cs) s) ≡ after_prints ps (exec_all cs s)
unfolding definitions meaning_definitions
run_Seq s ps cs = refl

pub can_Assign : (b : ℕ) (s : State) (t : Temp) (e : Expr) → can_exec b (Assign t e) s ≡ expr_fits b e s
unfolding definitions
can_Assign b s t e = refl

pub can_Write : (b : ℕ) (s : State) (x : SplitName) (e : Expr) → can_exec b (Write x e) s ≡ expr_fits b e s
unfolding definitions
can_Write b s x e = refl

pub can_Print : (b : ℕ) (s : State) (e : Expr) → can_exec b (Print e) s ≡ expr_fits b e s
unfolding definitions
can_Print b s e = refl

pub can_If : (b : ℕ) (s : State) (t : Cond) (c d : Command) → can_exec b (If t c d) s ≡ cond_fits b t s && cond (holds t s) (can_exec b c s) (can_exec b d s)
unfolding definitions
can_If b s t c d = refl

pub can_Seq : (b : ℕ) (s : State) (cs : Commands) → can_exec b (Seq cs) s ≡ can_exec_all b cs s
unfolding definitions
can_Seq b s cs = refl

pub has_Skip : (h : Shape) → has_places h Skip ≡ true
unfolding definitions
has_Skip h = refl

pub has_Assign : (h : Shape) (t : Temp) (e : Expr) → has_places h (Assign t e) ≡ true
unfolding definitions
has_Assign h t e = refl

pub has_Print : (h : Shape) (e : Expr) → has_places h (Print e) ≡ true
unfolding definitions
has_Print h e = refl

pub has_Write : (h : Shape) (x : SplitName) (e : Expr) → has_places h (Write x e) ≡ has_place h x
unfolding definitions
has_Write h x e = refl

pub has_If : (h : Shape) (t : Cond) (c d : Command) → has_places h (If t c d) ≡ has_places h c && has_places h d
unfolding definitions
has_If h t c d = refl

pub has_Seq : (h : Shape) (cs : Commands) → has_places h (Seq cs) ≡ has_places_all h cs
unfolding definitions
has_Seq h cs = refl

pub ruleset runs = (run_Skip, run_Assign, run_Write, run_Print, run_If, run_Seq, can_Assign, can_Write, can_Print, can_If, can_Seq, has_Write, has_If, has_Seq)

pub ruleset places = (has_Skip, has_Assign, has_Write, has_Print, has_If, has_Seq)

has_end : (h : Shape) → has_places_all h (low_commands []) ≡ true
unfolding definitions syntax_definitions
has_end h = refl

pub run_end : (s : State) (ps : List ℤ) → after_prints ps (exec_all (low_commands []) s) ≡ run_of s ps
unfolding definitions meaning_definitions syntax_definitions
run_end s ps = after_done ps s

pub can_more : (b : ℕ) (s : State) (c : Command) (cs : List Command) → can_exec_all b (low_commands (c ∷ cs)) s ≡ can_exec b c s && can_exec_all b (low_commands cs) (exec c s).state
unfolding definitions syntax_definitions
can_more b s c cs = refl

pub has_more : (h : Shape) (c : Command) (cs : List Command) → has_places_all h (low_commands (c ∷ cs)) ≡ has_places h c && has_places_all h (low_commands cs)
unfolding definitions syntax_definitions
has_more h c cs = refl

pub ruleset each = (run_end)

after_more : (s : State) (ps : List ℤ) (c : Command) (cs : List Command) → after_prints ps (exec_all (low_commands (c ∷ cs)) s) ≡ after_prints (ps ++ (exec c s).prints) (exec_all (low_commands cs) (exec c s).state)
unfolding definitions meaning_definitions syntax_definitions
after_more s ps c cs = λ i. record {
  state = (exec_all (low_commands cs) (exec c s).state).state;
  prints = sym (append_assoc ps (exec c s).prints (exec_all (low_commands cs) (exec c s).state).prints) i;
}

-- where a command led, as the state and prints that it left
pub left_state : (s : State) (ps qs : List ℤ) (r : Run) → run_of s ps ≡ after_prints qs r → s ≡ r.state
unfolding definitions meaning_definitions
left_state s ps qs r e = ap (λ r. r.state) e

pub left_prints : (s : State) (ps qs : List ℤ) (r : Run) → run_of s ps ≡ after_prints qs r → ps ≡ qs ++ r.prints
unfolding definitions meaning_definitions
left_prints s ps qs r e = ap (λ r. r.prints) e

-- one more command of a list
pub record RunStep (b : ℕ) (s u : State) (ps qs : List ℤ) (cs : List tree.LCommand) (i : ℕ) : Type 0 where
  pub rest : can_exec_all b (low_commands (map plain_lcommand (drop (i + 1) cs))) u ≡ true
  pub same : after_prints qs (exec_all (low_commands (map plain_lcommand (drop (i + 1) cs))) u) ≡ after_prints ps (exec_all (low_commands (map plain_lcommand (drop i cs))) s)

parts : (b : ℕ) (s : State) (cs : List tree.LCommand) (i : ℕ) (c : tree.LCommand) → i < length cs → c ≡ get_or cs i c → can_exec_all b (low_commands (map plain_lcommand (drop i cs))) s ≡ true → (can_exec b (plain_lcommand c) s ≡ true) × (can_exec_all b (low_commands (map plain_lcommand (drop (i + 1) cs))) (exec (plain_lcommand c) s).state ≡ true)
parts b s cs i c h p can =
    let next = drop_next plain_lcommand cs i c h p in
    and_parts _ _ (sym (can_more b s (plain_lcommand c) (map plain_lcommand (drop (i + 1) cs))) ∙ ap (λ l. can_exec_all b (low_commands l) s) (sym next) ∙ can)

pub can_first : (b : ℕ) (s : State) (cs : List tree.LCommand) (i : ℕ) (c : tree.LCommand) → i < length cs → c ≡ get_or cs i c → can_exec_all b (low_commands (map plain_lcommand (drop i cs))) s ≡ true → can_exec b (plain_lcommand c) s ≡ true
can_first b s cs i c h p can = (parts b s cs i c h p can).0

-- the first of the commands that are left, and the rest
pub has_step : (h : Shape) (cs : List tree.LCommand) (i : ℕ) (c : tree.LCommand) → i < length cs → c ≡ get_or cs i c → has_places_all h (low_commands (map plain_lcommand (drop i cs))) ≡ has_places h (plain_lcommand c) && has_places_all h (low_commands (map plain_lcommand (drop (i + 1) cs)))
has_step h cs i c l p = ap (λ l. has_places_all h (low_commands l)) (drop_next plain_lcommand cs i c l p) ∙ has_more h (plain_lcommand c) (map plain_lcommand (drop (i + 1) cs))

-- the places of the first of the commands that are left, and of the rest
pub has_parts : (h : Shape) (cs : List tree.LCommand) (i : ℕ) (c : tree.LCommand) → i < length cs → c ≡ get_or cs i c → has_places_all h (low_commands (map plain_lcommand (drop i cs))) ≡ true → (has_places h (plain_lcommand c) ≡ true) × (has_places_all h (low_commands (map plain_lcommand (drop (i + 1) cs))) ≡ true)
has_parts h cs i c l p has = and_parts _ _ (sym (has_step h cs i c l p) ∙ has)

pub has_stop : (h : Shape) (cs : List tree.LCommand) (i : ℕ) → length cs ≤ i → has_places_all h (low_commands (map plain_lcommand (drop i cs))) ≡ true
has_stop h cs i l = ap (λ l. has_places_all h (low_commands l)) (map_drop_past plain_lcommand cs i l) ∙ has_end h

pub run_step : (b : ℕ) (s u : State) (ps qs : List ℤ) (cs : List tree.LCommand) (i : ℕ) (c : tree.LCommand) → i < length cs → c ≡ get_or cs i c → can_exec_all b (low_commands (map plain_lcommand (drop i cs))) s ≡ true → run_of u qs ≡ after_prints ps (exec (plain_lcommand c) s) → RunStep b s u ps qs cs i
run_step b s u ps qs cs i c h p can ran =
    let next = drop_next plain_lcommand cs i c h p in
    let state = left_state u qs ps (exec (plain_lcommand c) s) ran in
    let prints = left_prints u qs ps (exec (plain_lcommand c) s) ran in
    let rest = low_commands (map plain_lcommand (drop (i + 1) cs)) in
    record {
      rest = ap (can_exec_all b rest) state ∙ (parts b s cs i c h p can).1;
      same = (λ j. after_prints (prints j) (exec_all rest (state j)))
          ∙ sym (after_more s ps (plain_lcommand c) (map plain_lcommand (drop (i + 1) cs)))
          ∙ ap (λ l. after_prints ps (exec_all (low_commands l) s)) (sym next);
    }

-- the branch that a choice takes has its places and can run
module _ (b : ℕ) (h : Shape) (s : State) {c : tree.LCommand} {t : condition.LCond} {y z : Box tree.LCommand Global} (p : c ≡ tree.If t y z) where
  branches : has_places h (plain_lcommand c) ≡ true → (has_places h (plain_lcommand y.value) ≡ true) × (has_places h (plain_lcommand z.value) ≡ true)
  branches has = and_parts _ _ (sym (ap (λ e. has_places h (plain_lcommand e)) p ∙ ap (has_places h) (low_If t y z) ∙ has_If h (plain_lcond t) (plain_lcommand y.value) (plain_lcommand z.value)) ∙ has)

  pub has_yes : {d : tree.LCommand} → has_places h (plain_lcommand c) ≡ true → d ≡ y.value → has_places h (plain_lcommand d) ≡ true
  has_yes has q = ap (λ e. has_places h (plain_lcommand e)) q ∙ (branches has).0

  pub has_no : {d : tree.LCommand} → has_places h (plain_lcommand c) ≡ true → d ≡ z.value → has_places h (plain_lcommand d) ≡ true
  has_no has q = ap (λ e. has_places h (plain_lcommand e)) q ∙ (branches has).1

  choice : can_exec b (plain_lcommand c) s ≡ true → (cond_fits b (plain_lcond t) s ≡ true) × (cond (holds (plain_lcond t) s) (can_exec b (plain_lcommand y.value) s) (can_exec b (plain_lcommand z.value) s) ≡ true)
  choice can = and_parts _ _ (sym (ap (λ e. can_exec b (plain_lcommand e) s) p ∙ ap (λ e. can_exec b e s) (low_If t y z) ∙ can_If b s (plain_lcond t) (plain_lcommand y.value) (plain_lcommand z.value)) ∙ can)

  pub takes_yes : {d : tree.LCommand} → can_exec b (plain_lcommand c) s ≡ true → d ≡ y.value → holds (plain_lcond t) s ≡ true → can_exec b (plain_lcommand d) s ≡ true
  takes_yes can q k = ap (λ e. can_exec b (plain_lcommand e) s) q ∙ ap (λ v. cond v (can_exec b (plain_lcommand y.value) s) (can_exec b (plain_lcommand z.value) s)) (sym k) ∙ (choice can).1

  pub takes_no : {d : tree.LCommand} → can_exec b (plain_lcommand c) s ≡ true → d ≡ z.value → holds (plain_lcond t) s ≡ false → can_exec b (plain_lcommand d) s ≡ true
  takes_no can q k = ap (λ e. can_exec b (plain_lcommand e) s) q ∙ ap (λ v. cond v (can_exec b (plain_lcommand y.value) s) (can_exec b (plain_lcommand z.value) s)) (sym k) ∙ (choice can).1
