-- What commands do behind the prints before them, as equations, which code rewrites by.
use Rattle.std.proofs.Common.{◌≡◌, ℕ, ◌+◌, ◌<◌, ℤ, true, false, cond, Bool, ◌&&◌, ◌||◌, Box, Global, List, [], ◌∷◌, ◌++◌, map, drop, get_or, length, refl, sym, ap, ◌∙◌}
use Rattle.std.proofs.lemmas.List.{append-nil}
use Rattle.std.proofs.lemmas.Bool.{and_parts}
use Rattle.homeo_syntax.specs.Key.{definitions as syntax_definitions}
use Rattle.homeo_syntax.specs.SourceView.{commands, plain_command, plain_cond}
use Rattle.homeo_syntax.specs.declared.phrase.Ident.{Ident}
use Rattle.homeo_syntax.specs.declared.phrase.Cond as condition
use Rattle.homeo_syntax.specs.declared.command.Command as tree
use Rattle.homeo_syntax.specs.Source.{FieldValue, Expr, Cond, Command, Commands, Skip, Assign, Write, Print, If, Block, SetField, SetRow, Foreach, Insert, Delete, Update, Abort}
use Rattle.homeo_syntax.proofs.SourceViews.{plain_If}
use Rattle.homeo_meaning.specs.Key.{definitions}
use Rattle.homeo_meaning.specs.Context.{Context, spot, object, slots, fields, slot_at}
use Rattle.homeo_meaning.specs.Meaning.{State, Run, value, holds, done, after_prints, then_do, set_temp, write, write_field, write_slot, visit, settings, insert, does, does_all}
use Rattle.homeo_eval.specs.inner.CanRun.{on_slots, on_slot, expr_fits, cond_fits, values_fit, visits_fit, can_run, can_run_all}
use Rattle.homeo_eval.specs.inner.States.{run_of}
use Rattle.homeo_eval.specs.inner.Visits.{holds_at, cond_fits_at, does_at, can_run_at, clears, can_clear, writes_at, value_fits_at}
use Rattle.homeo_eval.proofs.Thens.{prints_twice, then_on, then_end, or_on}
use Rattle.homeo_meaning.proofs.Steps.{drop_next}

after_done : (ps : List ℤ) (s : State) → after_prints ps (done s) ≡ run_of s ps false
unfolding definitions
after_done ps s = λ i. record { state = s; prints = append-nil ps i; ended = false }

pub run_Skip : (x : Context) (s : State) (ps : List ℤ) → after_prints ps (does x Skip s) ≡ run_of s ps false
unfolding definitions
run_Skip x s ps = after_done ps s

pub run_Assign : (x : Context) (s : State) (ps : List ℤ) (t : Ident) (e : Expr) → after_prints ps (does x (Assign t e) s) ≡ run_of (set_temp s t.name (value x e s)) ps false
unfolding definitions
run_Assign x s ps t e = after_done ps (set_temp s t.name (value x e s))

pub run_Write : (x : Context) (s : State) (ps : List ℤ) (o : Ident) (e : Expr) → after_prints ps (does x (Write o e) s) ≡ run_of (write s (object x o.name) (object x o.name).place (value x e s)) ps false
unfolding definitions
run_Write x s ps o e = after_done ps (write s (object x o.name) (object x o.name).place (value x e s))

pub run_Print : (x : Context) (s : State) (ps : List ℤ) (e : Expr) → after_prints ps (does x (Print e) s) ≡ run_of s (ps ++ value x e s ∷ []) false
unfolding definitions
run_Print x s ps e = refl

after_cond : (b : Bool) (ps : List ℤ) (r q : Run) → after_prints ps (cond b r q) ≡ cond b (after_prints ps r) (after_prints ps q)
after_cond true ps r q = refl
after_cond false ps r q = refl

pub run_If : (x : Context) (s : State) (ps : List ℤ) (t : Cond) (c d : Command) → after_prints ps (does x (If t c d) s) ≡ cond (holds x t s) (after_prints ps (does x c s)) (after_prints ps (does x d s))
unfolding definitions
run_If x s ps t c d = after_cond (holds x t s) ps (does x c s) (does x d s)

pub run_Block : (x : Context) (s : State) (ps : List ℤ) (cs : Commands) → after_prints ps (does x (Block cs) s) ≡ after_prints ps (does_all x cs s)
unfolding definitions
run_Block x s ps cs = refl

pub run_SetField : (x : Context) (s : State) (ps : List ℤ) (q : Ident) (i : Expr) (f : Ident) (e : Expr) → after_prints ps (does x (SetField q i f e) s) ≡ run_of (write_slot s (spot (fields x q.name) f.name) (slot_at (value x i s) (slots x q.name)) (value x e s)) ps false
unfolding definitions
run_SetField x s ps q i f e = after_done ps (write_slot s (spot (fields x q.name) f.name) (slot_at (value x i s) (slots x q.name)) (value x e s))

pub run_SetRow : (x : Context) (s : State) (ps : List ℤ) (r f : Ident) (e : Expr) → after_prints ps (does x (SetRow r f e) s) ≡ run_of (write_field s (x.rows r.name) f.name (value x e s)) ps false
unfolding definitions
run_SetRow x s ps r f e = after_done ps (write_field s (x.rows r.name) f.name (value x e s))

pub run_Foreach : (x : Context) (s : State) (ps : List ℤ) (r q : Ident) (t : Cond) (cs : Commands) → after_prints ps (does x (Foreach r q t cs) s) ≡ after_prints ps (visit (holds_at x r.name t) (does_at x r.name cs) (slots x q.name) s)
unfolding definitions
run_Foreach x s ps r q t cs = refl

pub run_Insert : (x : Context) (s : State) (ps : List ℤ) (q : Ident) (fs : List FieldValue) (t : Ident) → after_prints ps (does x (Insert q fs t) s) ≡ run_of (insert (slots x q.name) (settings x (fields x q.name) fs s) t.name s) ps false
unfolding definitions
run_Insert x s ps q fs t = after_done ps (insert (slots x q.name) (settings x (fields x q.name) fs s) t.name s)

-- a run that prints nothing
pub after_quiet : (ps : List ℤ) (s : State) (r : Run) → done s ≡ r → run_of s ps false ≡ after_prints ps r
unfolding definitions
after_quiet ps s r e = sym (after_done ps s) ∙ ap (after_prints ps) e

pub run_Delete : (x : Context) (s u : State) (ps : List ℤ) (r q : Ident) (t : Cond) → done u ≡ visit (holds_at x r.name t) clears (slots x q.name) s → run_of u ps false ≡ after_prints ps (does x (Delete r q t) s)
unfolding definitions
run_Delete x s u ps r q t e = after_quiet ps u (visit (holds_at x r.name t) clears (slots x q.name) s) e

pub run_Update : (x : Context) (s u : State) (ps : List ℤ) (r q : Ident) (t : Cond) (f : Ident) (e : Expr) → done u ≡ visit (holds_at x r.name t) (writes_at x r.name f.name e) (slots x q.name) s → run_of u ps false ≡ after_prints ps (does x (Update r q t f e) s)
unfolding definitions
run_Update x s u ps r q t f e h = after_quiet ps u (visit (holds_at x r.name t) (writes_at x r.name f.name e) (slots x q.name) s) h

pub run_Abort : (x : Context) (s : State) (ps : List ℤ) → after_prints ps (does x Abort s) ≡ run_of s ps true
unfolding definitions
run_Abort x s ps = λ i. record { state = s; prints = append-nil ps i; ended = true }

pub can_Assign : (b : ℕ) (x : Context) (s : State) (t : Ident) (e : Expr) → can_run b x (Assign t e) s ≡ expr_fits b x e s
unfolding definitions
can_Assign b x s t e = refl

pub can_Write : (b : ℕ) (x : Context) (s : State) (o : Ident) (e : Expr) → can_run b x (Write o e) s ≡ expr_fits b x e s
unfolding definitions
can_Write b x s o e = refl

pub can_Print : (b : ℕ) (x : Context) (s : State) (e : Expr) → can_run b x (Print e) s ≡ expr_fits b x e s
unfolding definitions
can_Print b x s e = refl

pub can_If : (b : ℕ) (x : Context) (s : State) (t : Cond) (c d : Command) → can_run b x (If t c d) s ≡ cond_fits b x t s && (can_run b x c s && can_run b x d s)
unfolding definitions
can_If b x s t c d = refl

pub can_Block : (b : ℕ) (x : Context) (s : State) (cs : Commands) → can_run b x (Block cs) s ≡ can_run_all b x cs s
unfolding definitions
can_Block b x s cs = refl

pub can_SetField : (b : ℕ) (x : Context) (s : State) (q : Ident) (i : Expr) (f : Ident) (e : Expr) → can_run b x (SetField q i f e) s ≡ on_slots (slots x q.name) (expr_fits b x i s) && on_slot (slot_at (value x i s) (slots x q.name)) (expr_fits b x e s)
unfolding definitions
can_SetField b x s q i f e = refl

pub can_SetRow : (b : ℕ) (x : Context) (s : State) (r f : Ident) (e : Expr) → can_run b x (SetRow r f e) s ≡ expr_fits b x e s
unfolding definitions
can_SetRow b x s r f e = refl

pub can_Foreach : (b : ℕ) (x : Context) (s : State) (r q : Ident) (t : Cond) (cs : Commands) → can_run b x (Foreach r q t cs) s ≡ visits_fit (cond_fits_at b x r.name t) (can_run_at b x r.name cs) (holds_at x r.name t) (does_at x r.name cs) (slots x q.name) s
unfolding definitions
can_Foreach b x s r q t cs = refl

pub can_Insert : (b : ℕ) (x : Context) (s : State) (q : Ident) (fs : List FieldValue) (t : Ident) → can_run b x (Insert q fs t) s ≡ values_fit b x fs s
unfolding definitions
can_Insert b x s q fs t = refl

pub can_Delete : (b : ℕ) (x : Context) (s : State) (r q : Ident) (t : Cond) → can_run b x (Delete r q t) s ≡ visits_fit (cond_fits_at b x r.name t) can_clear (holds_at x r.name t) clears (slots x q.name) s
unfolding definitions
can_Delete b x s r q t = refl

pub can_Update : (b : ℕ) (x : Context) (s : State) (r q : Ident) (t : Cond) (f : Ident) (e : Expr) → can_run b x (Update r q t f e) s ≡ visits_fit (cond_fits_at b x r.name t) (value_fits_at b x r.name e) (holds_at x r.name t) (writes_at x r.name f.name e) (slots x q.name) s
unfolding definitions
can_Update b x s r q t f e = refl

pub ruleset runs = (and_parts, run_Skip, run_Assign, run_Write, run_Print, run_If, run_Block, run_SetField, run_SetRow, run_Foreach, run_Insert, run_Abort, can_Assign, can_Write, can_Print, can_If, can_Block, can_SetField, can_SetRow, can_Foreach, can_Insert, can_Delete, can_Update)

pub run_end : (x : Context) (s : State) (ps : List ℤ) → after_prints ps (does_all x (commands []) s) ≡ run_of s ps false
unfolding definitions syntax_definitions
run_end x s ps = after_done ps s

pub can_more : (b : ℕ) (x : Context) (s : State) (c : Command) (cs : List Command) → can_run_all b x (commands (c ∷ cs)) s ≡ can_run b x c s && ((does x c s).ended || can_run_all b x (commands cs) (does x c s).state)
unfolding definitions syntax_definitions
can_more b x s c cs = refl

pub ruleset each = (run_end)

all_more : (x : Context) (s : State) (c : Command) (cs : List Command) → does_all x (commands (c ∷ cs)) s ≡ then_do (does x c s) (does_all x (commands cs))
unfolding definitions syntax_definitions
all_more x s c cs = refl

-- where a command led, as the states and prints that it left
left_state : (s : State) (ps qs : List ℤ) (v : Bool) (r : Run) → run_of s ps v ≡ after_prints qs r → s ≡ r.state
unfolding definitions
left_state s ps qs v r e = ap (λ r. r.state) e

left_prints : (s : State) (ps qs : List ℤ) (v : Bool) (r : Run) → run_of s ps v ≡ after_prints qs r → ps ≡ qs ++ r.prints
unfolding definitions
left_prints s ps qs v r e = ap (λ r. r.prints) e

left_ended : (s : State) (ps qs : List ℤ) (v : Bool) (r : Run) → run_of s ps v ≡ after_prints qs r → r.ended ≡ v
unfolding definitions
left_ended s ps qs v r e = sym (ap (λ r. r.ended) e)

-- one more command of a list
pub record RunStep (b : ℕ) (x : Context) (s u : State) (ps qs : List ℤ) (cs : List tree.Command) (i : ℕ) : Type 0 where
  pub rest : can_run_all b x (commands (map plain_command (drop (i + 1) cs))) u ≡ true
  pub same : after_prints qs (does_all x (commands (map plain_command (drop (i + 1) cs))) u) ≡ after_prints ps (does_all x (commands (map plain_command (drop i cs))) s)

parts : (b : ℕ) (x : Context) (s : State) (cs : List tree.Command) (i : ℕ) (c : tree.Command) → i < length cs → c ≡ get_or cs i c → can_run_all b x (commands (map plain_command (drop i cs))) s ≡ true → (can_run b x (plain_command c) s ≡ true) × (((does x (plain_command c) s).ended || can_run_all b x (commands (map plain_command (drop (i + 1) cs))) (does x (plain_command c) s).state) ≡ true)
parts b x s cs i c h p can =
    let next = drop_next plain_command cs i c h p in
    and_parts _ _ (sym (can_more b x s (plain_command c) (map plain_command (drop (i + 1) cs))) ∙ ap (λ l. can_run_all b x (commands l) s) (sym next) ∙ can)

pub can_first : (b : ℕ) (x : Context) (s : State) (cs : List tree.Command) (i : ℕ) (c : tree.Command) → i < length cs → c ≡ get_or cs i c → can_run_all b x (commands (map plain_command (drop i cs))) s ≡ true → can_run b x (plain_command c) s ≡ true
can_first b x s cs i c h p can = (parts b x s cs i c h p can).0

all_left : (x : Context) (s : State) (cs : List tree.Command) (i : ℕ) (c : tree.Command) → i < length cs → c ≡ get_or cs i c → does_all x (commands (map plain_command (drop i cs))) s ≡ then_do (does x (plain_command c) s) (does_all x (commands (map plain_command (drop (i + 1) cs))))
all_left x s cs i c h p =
    ap (λ l. does_all x (commands l) s) (drop_next plain_command cs i c h p) ∙ all_more x s (plain_command c) (map plain_command (drop (i + 1) cs))

pub run_step : (b : ℕ) (x : Context) (s u : State) (ps qs : List ℤ) (cs : List tree.Command) (i : ℕ) (c : tree.Command) → i < length cs → c ≡ get_or cs i c → can_run_all b x (commands (map plain_command (drop i cs))) s ≡ true → (v : Bool) → v ≡ false → run_of u qs v ≡ after_prints ps (does x (plain_command c) s) → RunStep b x s u ps qs cs i
run_step b x s u ps qs cs i c h p can v goes_on ran =
    let r = does x (plain_command c) s in
    let state = left_state u qs ps v r ran in
    let prints = left_prints u qs ps v r ran in
    let on = left_ended u qs ps v r ran ∙ goes_on in
    let rest = commands (map plain_command (drop (i + 1) cs)) in
    record {
      rest = ap (can_run_all b x rest) state ∙ or_on r.ended _ on (parts b x s cs i c h p can).1;
      same = (λ j. after_prints (prints j) (does_all x rest (state j)))
          ∙ prints_twice ps r.prints (does_all x rest r.state)
          ∙ ap (after_prints ps) (sym (all_left x s cs i c h p ∙ then_on r (does_all x rest) on));
    }

-- the last command that is done
pub run_stop : (x : Context) (s u : State) (ps qs : List ℤ) (cs : List tree.Command) (i : ℕ) (c : tree.Command) → i < length cs → c ≡ get_or cs i c → (v : Bool) → v ≡ true → run_of u qs v ≡ after_prints ps (does x (plain_command c) s) → run_of u qs true ≡ after_prints ps (does_all x (commands (map plain_command (drop i cs))) s)
run_stop x s u ps qs cs i c h p v ended ran =
    let r = does x (plain_command c) s in
    ap (run_of u qs) (sym ended)
    ∙ ran
    ∙ ap (after_prints ps) (sym (all_left x s cs i c h p ∙ then_end r (does_all x (commands (map plain_command (drop (i + 1) cs)))) (left_ended u qs ps v r ran ∙ ended)))

-- both branches of a choice can run
module _ (b : ℕ) (x : Context) (s : State) {c : tree.Command} {t : condition.Cond} {y z : Box tree.Command Global} (p : c ≡ tree.If t y z) (can : can_run b x (plain_command c) s ≡ true) where
  branches : (can_run b x (plain_command y.value) s ≡ true) × (can_run b x (plain_command z.value) s ≡ true)
  branches =
      let k = and_parts _ _ (sym (ap (λ e. can_run b x (plain_command e) s) p ∙ ap (λ e. can_run b x e s) (plain_If t y z) ∙ can_If b x s (plain_cond t) (plain_command y.value) (plain_command z.value)) ∙ can) in
      and_parts _ _ k.1

  pub can_yes : {d : tree.Command} → d ≡ y.value → can_run b x (plain_command d) s ≡ true
  can_yes q = ap (λ e. can_run b x (plain_command e) s) q ∙ branches.0

  pub can_no : {d : tree.Command} → d ≡ z.value → can_run b x (plain_command d) s ≡ true
  can_no q = ap (λ e. can_run b x (plain_command e) s) q ∙ branches.1
