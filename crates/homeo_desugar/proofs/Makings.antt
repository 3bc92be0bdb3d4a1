-- Commands and phrases that are made one after another.
use Rattle.std.proofs.Common.{◌≡◌, ◌≢◌, ℕ, suc, ◌+◌, ◌<◌, ◌≤◌, Bool, true, false, List, [], ◌∷◌, ◌++◌, drop, get_or, ℤ, pos, Some, None, Option, map, length, refl, sym, ap, ◌∙◌, subst, arith, add-one}
use Rattle.std.proofs.Math.Seq.{drop-cons}
use Rattle.std.proofs.lemmas.List.{map-append, drop_all}
use Rattle.homeo_syntax.specs.Key.{definitions as syntax_definitions}
use Rattle.homeo_syntax.specs.Listed.{Listed}
use Rattle.homeo_syntax.specs.Low as L
use Rattle.homeo_syntax.specs.declared.phrase.Compare.TheVariants as compare
use Rattle.homeo_syntax.specs.Source as s
use Rattle.homeo_syntax.specs.SourceView.{exprs, tests, plain_expr, plain_test}
use Rattle.homeo_syntax.specs.declared.phrase.Expr.{Expr}
use Rattle.homeo_syntax.specs.declared.phrase.Test.{Test}
use Rattle.homeo_syntax.specs.declared.low.Temp.TheVariants as temp
use Rattle.homeo_syntax.specs.LowView.{low_exprs, low_tests, low_commands, plain_lexpr, plain_ltest, plain_lcommand}
use Rattle.homeo_meaning.specs.Key.{definitions as meaning_definitions}
use Rattle.homeo_meaning.specs.Schema.{Declared}
use Rattle.homeo_meaning.specs.Context.{Spot, Slot, Context, slots, fields, spot, slot_at, bind}
use Rattle.homeo_meaning.specs.LForm.{Lifted, Made, AllMade, both, one, in_front, unless_ended, in_turn, within, plain, mapped, combined, visits, counted, equal, read, fresh, literal_of, read_slot, read_chain, indexed_by, indexed, lift, lift_all, lift_test, lift_cond}
use Rattle.homeo_desugar.specs.inner.Key.{definitions}
use Rattle.homeo_desugar.specs.inner.Made.{made, IsLifted, IsAdded, IsTurned, IsTested, both_tests}
use Rattle.homeo_context.specs.Slots.{plain_slot, slots_of}
use Rattle.homeo_context.proofs.SlotLists.{slot_of, left, left_next, left_all, left_none}
use Rattle.homeo_desugar.specs.inner.Visits.{adding, used_and, visit_of}
use Rattle.homeo_context.specs.declared.slots.Slot as one_slot
use Rattle.homeo_context.specs.declared.slots.Slots as code
use Rattle.homeo_desugar.specs.declared.making.Making.{Making}
use Rattle.homeo_syntax.specs.declared.low.LExpr.{LExpr}
use Rattle.homeo_syntax.specs.declared.low.LTest.{LTest}
use Rattle.homeo_syntax.specs.declared.low.LCommand.{LCommand}

-- ---- lists of L
pub both_none : (cs : L.Commands) → both cs L.NoCommand ≡ cs
unfolding meaning_definitions
both_none L.NoCommand = refl
both_none (L.MoreCommand c cs) = ap (L.MoreCommand c) (both_none cs)

pub both_both : (a b c : L.Commands) → both (both a b) c ≡ both a (both b c)
unfolding meaning_definitions
both_both L.NoCommand b c = refl
both_both (L.MoreCommand d a) b c = ap (L.MoreCommand d) (both_both a b c)

pub low_more : (cs : List L.Command) (c : L.Command) → low_commands (cs ++ c ∷ []) ≡ both (low_commands cs) (one c)
unfolding meaning_definitions syntax_definitions
low_more [] c = refl
low_more (d ∷ cs) c = ap (L.MoreCommand d) (low_more cs c)

pub tests_none : (c : L.Cond) → both_tests c L.NoTest ≡ c
unfolding definitions
tests_none L.NoTest = refl
tests_none (L.MoreTest t c) = ap (L.MoreTest t) (tests_none c)

pub tests_tests : (a b c : L.Cond) → both_tests (both_tests a b) c ≡ both_tests a (both_tests b c)
unfolding definitions
tests_tests L.NoTest b c = refl
tests_tests (L.MoreTest t a) b c = ap (L.MoreTest t) (tests_tests a b c)

pub tests_more : (ts : List L.Test) (t : L.Test) → low_tests (ts ++ t ∷ []) ≡ both_tests (low_tests ts) (L.MoreTest t L.NoTest)
unfolding definitions syntax_definitions
tests_more [] t = refl
tests_more (u ∷ ts) t = ap (L.MoreTest u) (tests_more ts t)

-- a command behind those that were there
pub made_push : (cs : List LCommand) (c : LCommand) → low_commands (map plain_lcommand (cs ++ c ∷ [])) ≡ both (low_commands (map plain_lcommand cs)) (one (plain_lcommand c))
made_push cs c = ap low_commands (map-append plain_lcommand cs (c ∷ [])) ∙ low_more (map plain_lcommand cs) (plain_lcommand c)

pub tests_push : (ts : List LTest) (t : LTest) → low_tests (map plain_ltest (ts ++ t ∷ [])) ≡ both_tests (low_tests (map plain_ltest ts)) (L.MoreTest (plain_ltest t) L.NoTest)
tests_push ts t = ap low_tests (map-append plain_ltest ts (t ∷ [])) ∙ tests_more (map plain_ltest ts) (plain_ltest t)

-- a command behind no others
pub front_alone : (cs : List LCommand) (c : L.Command) → length cs ≡ 0 → c ≡ in_front (low_commands (map plain_lcommand cs)) c
unfolding meaning_definitions syntax_definitions
front_alone [] c h = refl
front_alone (d ∷ cs) c h = absurd (omega arith)

-- and behind some
pub front_more : (cs : List LCommand) (c : LCommand) → length cs ≢ 0 → L.Seq (low_commands (map plain_lcommand (cs ++ c ∷ []))) ≡ in_front (low_commands (map plain_lcommand cs)) (plain_lcommand c)
unfolding meaning_definitions syntax_definitions
front_more [] c h = absurd (h refl)
front_more (d ∷ cs) c h = ap (λ u. L.Seq (L.MoreCommand (plain_lcommand d) u)) (made_push cs c)

-- the two tests of whether a value is within bounds
pub within_push : (ts : List LTest) (a b : LTest) (s : Spot) (e : L.Expr) → plain_ltest a ≡ L.Comparison compare.LessEqual (L.Literal s.lo) e → plain_ltest b ≡ L.Comparison compare.LessEqual e (L.Literal s.hi) →
    low_tests (map plain_ltest ((ts ++ a ∷ []) ++ b ∷ [])) ≡ both_tests (low_tests (map plain_ltest ts)) (within s e L.NoTest)
unfolding definitions meaning_definitions
within_push ts a b s e h k =
    tests_push (ts ++ a ∷ []) b
    ∙ ap (λ c. both_tests c (L.MoreTest (plain_ltest b) L.NoTest)) (tests_push ts a)
    ∙ tests_tests (low_tests (map plain_ltest ts)) (L.MoreTest (plain_ltest a) L.NoTest) (L.MoreTest (plain_ltest b) L.NoTest)
    ∙ (λ i. both_tests (low_tests (map plain_ltest ts)) (L.MoreTest (h i) (L.MoreTest (k i) L.NoTest)))

-- a command behind those of a making that only took temporaries
pub pushed_after : (old mid new : Making) (c : L.Command) → mid.commands ≡ old.commands → made new ≡ both (made mid) (one c) → made new ≡ both (made old) (one c)
unfolding definitions
pushed_after old mid new c e h = h ∙ ap (λ (l : Listed LCommand). both (low_commands (map plain_lcommand l.items)) (one c)) e

-- ---- liftings
-- nothing is made
pub lifted_plain : {A : Type 0} (m : Making) (a b : A) → b ≡ a → IsLifted m m (plain a m.next) b
unfolding meaning_definitions
lifted_plain m a b e = record { phrase = e; commands = sym (both_none (made m)); next = refl }

pub lifted_mapped : {A B : Type 0} (f : A → B) (old new : Making) (x : Lifted A) (a : A) (b : B) → b ≡ f a → IsLifted old new x a → IsLifted old new (mapped f x) b
unfolding meaning_definitions
lifted_mapped f old new x a b e h = record { phrase = e ∙ ap f h.phrase; commands = h.commands; next = h.next }

-- one after the other
pub lifted_combined : {A B C : Type 0} (f : A → B → C) (old mid new : Making) (x : Lifted A) (y : ℕ → Lifted B) (a : A) (b : B) (c : C) → c ≡ f a b → IsLifted old mid x a → IsLifted mid new (y mid.next) b → IsLifted old new (combined f x y) c
unfolding meaning_definitions
lifted_combined {A} {B} {C} f old mid new x y a b c e h k =
    let k' : IsLifted mid new (y x.next) b = subst (λ n. IsLifted mid new (y n) b) h.next k in
    record {
      phrase = e ∙ ap (λ (p : A). f p b) h.phrase ∙ ap (f x.phrase) k'.phrase;
      commands = k'.commands ∙ ap (λ cs. both cs (y x.next).before) h.commands ∙ both_both (made old) x.before (y x.next).before;
      next = k'.next;
    }

-- ---- lists of phrases
abbrev pub both_exprs : L.Exprs → L.Exprs → L.Exprs
both_exprs L.NoExpr fs = fs
both_exprs (L.MoreExpr e es) fs = L.MoreExpr e (both_exprs es fs)

pub exprs_none : (es : L.Exprs) → both_exprs es L.NoExpr ≡ es
exprs_none L.NoExpr = refl
exprs_none (L.MoreExpr e es) = ap (L.MoreExpr e) (exprs_none es)

pub exprs_one : (es : List L.Expr) (e : L.Expr) (fs : L.Exprs) → both_exprs (low_exprs (es ++ e ∷ [])) fs ≡ both_exprs (low_exprs es) (L.MoreExpr e fs)
unfolding syntax_definitions
exprs_one [] e fs = refl
exprs_one (d ∷ es) e fs = ap (L.MoreExpr d) (exprs_one es e fs)

pub exprs_push : (es : List LExpr) (e : LExpr) (fs : L.Exprs) → both_exprs (low_exprs (map plain_lexpr (es ++ e ∷ []))) fs ≡ both_exprs (low_exprs (map plain_lexpr es)) (L.MoreExpr (plain_lexpr e) fs)
exprs_push es e fs = ap (λ l. both_exprs (low_exprs l) fs) (map-append plain_lexpr es (e ∷ [])) ∙ exprs_one (map plain_lexpr es) (plain_lexpr e) fs

tests_one : (ts : List L.Test) (t : L.Test) (c : L.Cond) → both_tests (low_tests (ts ++ t ∷ [])) c ≡ both_tests (low_tests ts) (L.MoreTest t c)
unfolding definitions syntax_definitions
tests_one [] t c = refl
tests_one (u ∷ ts) t c = ap (L.MoreTest u) (tests_one ts t c)

pub conds_push : (ts : List LTest) (t : LTest) (c : L.Cond) → both_tests (low_tests (map plain_ltest (ts ++ t ∷ []))) c ≡ both_tests (low_tests (map plain_ltest ts)) (L.MoreTest (plain_ltest t) c)
conds_push ts t c = ap (λ l. both_tests (low_tests l) c) (map-append plain_ltest ts (t ∷ [])) ∙ tests_one (map plain_ltest ts) (plain_ltest t) c

-- What is lifted and what is left of a list are the whole, beside what was there before.
pub record Leaves {A : Type 0} (old now : Making) (before here : A) (put : A → A → A) (rest whole : Lifted A) : Type 0 where
  pub phrase : put here rest.phrase ≡ put before whole.phrase
  pub commands : both (made now) rest.before ≡ both (made old) whole.before
  pub next : rest.next ≡ whole.next

-- the first of what is left is lifted
pub leaves_step : {A B : Type 0} (f : B → A → A) (put : A → A → A) (old now new : Making) (before here later : A) (x : Lifted B) (y : ℕ → Lifted A) (b : B) (whole : Lifted A) →
    ((a : A) → put later a ≡ put here (f b a)) → IsLifted now new x b → Leaves old now before here put (combined f x y) whole → Leaves old new before later put (y new.next) whole
unfolding meaning_definitions
leaves_step {A} f put old now new before here later x y b whole more h l =
    subst (λ n. Leaves old new before later put (y n) whole) (sym h.next) (record {
      phrase = more (y x.next).phrase ∙ ap (λ p. put here (f p (y x.next).phrase)) h.phrase ∙ l.phrase;
      commands = ap (λ cs. both cs (y x.next).before) h.commands ∙ both_both (made now) x.before (y x.next).before ∙ l.commands;
      next = l.next;
    })

-- nothing is left
pub exprs_end : (old now : Making) (here : L.Exprs) (whole : Lifted L.Exprs) → Leaves old now L.NoExpr here both_exprs (plain L.NoExpr now.next) whole → IsLifted old now whole here
unfolding meaning_definitions
exprs_end old now here whole l = record { phrase = sym (exprs_none here) ∙ l.phrase; commands = sym (both_none (made now)) ∙ l.commands; next = l.next }

pub conds_end : (old now : Making) (before here : L.Cond) (whole : Lifted L.Cond) → Leaves old now before here both_tests (plain L.NoTest now.next) whole → IsTested before here old now whole
unfolding meaning_definitions
conds_end old now before here whole l = record { tests = sym (tests_none here) ∙ l.phrase; commands = sym (both_none (made now)) ∙ l.commands; next = l.next }

-- the first of what is left of a list
pub exprs_next : (x : Context) (es : List Expr) (i n : ℕ) (e : Expr) → i < length es → e ≡ get_or es i e → lift_all x (exprs (map plain_expr (drop i es))) n ≡ combined L.MoreExpr (lift x (plain_expr e) n) (lift_all x (exprs (map plain_expr (drop (i + 1) es))))
unfolding meaning_definitions syntax_definitions
exprs_next x es i n e h is =
    let front : drop i es ≡ get_or es i e ∷ drop (i + 1) es = rw add-one (drop-cons es i e h) in
    ap (λ l. lift_all x (exprs (map plain_expr l)) n) front ∙ ap (λ d. combined L.MoreExpr (lift x (plain_expr d) n) (lift_all x (exprs (map plain_expr (drop (i + 1) es))))) (sym is)

pub exprs_past : (x : Context) (es : List Expr) (i n : ℕ) → length es ≤ i → lift_all x (exprs (map plain_expr (drop i es))) n ≡ plain L.NoExpr n
unfolding meaning_definitions syntax_definitions
exprs_past x es i n h = ap (λ l. lift_all x (exprs (map plain_expr l)) n) (drop_all i es h)

pub tests_next : (x : Context) (ts : List Test) (i n : ℕ) (t : Test) → i < length ts → t ≡ get_or ts i t → lift_cond x (tests (map plain_test (drop i ts))) n ≡ combined L.MoreTest (lift_test x (plain_test t) n) (lift_cond x (tests (map plain_test (drop (i + 1) ts))))
unfolding meaning_definitions syntax_definitions
tests_next x ts i n t h is =
    let front : drop i ts ≡ get_or ts i t ∷ drop (i + 1) ts = rw add-one (drop-cons ts i t h) in
    ap (λ l. lift_cond x (tests (map plain_test l)) n) front ∙ ap (λ d. combined L.MoreTest (lift_test x (plain_test d) n) (lift_cond x (tests (map plain_test (drop (i + 1) ts))))) (sym is)

pub tests_past : (x : Context) (ts : List Test) (i n : ℕ) → length ts ≤ i → lift_cond x (tests (map plain_test (drop i ts))) n ≡ plain L.NoTest n
unfolding meaning_definitions syntax_definitions
tests_past x ts i n h = ap (λ l. lift_cond x (tests (map plain_test l)) n) (drop_all i ts h)

-- one of a list is lifted
pub exprs_step : (x : Context) (es : List Expr) (i : ℕ) (e : Expr) (old now new : Making) (one : LExpr) (before after : Listed LExpr) (k : ℕ) (whole : Lifted L.Exprs) → i < length es → e ≡ get_or es i e → IsLifted now new (lift x (plain_expr e) now.next) (plain_lexpr one) → after ≡ record { items = before.items ++ one ∷ []; spare = k } →
    Leaves old now L.NoExpr (low_exprs (map plain_lexpr before.items)) both_exprs (lift_all x (exprs (map plain_expr (drop i es))) now.next) whole →
    Leaves old new L.NoExpr (low_exprs (map plain_lexpr after.items)) both_exprs (lift_all x (exprs (map plain_expr (drop (i + 1) es))) new.next) whole
exprs_step x es i e old now new one before after k whole h is lifted pushed left =
    let here : L.Exprs = low_exprs (map plain_lexpr before.items) in
    leaves_step L.MoreExpr both_exprs old now new L.NoExpr here (low_exprs (map plain_lexpr after.items)) (lift x (plain_expr e) now.next) (lift_all x (exprs (map plain_expr (drop (i + 1) es)))) (plain_lexpr one) whole
    (λ a. ap (λ (l : Listed LExpr). both_exprs (low_exprs (map plain_lexpr l.items)) a) pushed ∙ exprs_push before.items one a) lifted
    (subst (λ rest. Leaves old now L.NoExpr here both_exprs rest whole) (exprs_next x es i now.next e h is) left)

pub tests_step : (x : Context) (ts : List Test) (i : ℕ) (t : Test) (old now new : Making) (first : L.Cond) (one : LTest) (before after : Listed LTest) (k : ℕ) (whole : Lifted L.Cond) → i < length ts → t ≡ get_or ts i t → IsLifted now new (lift_test x (plain_test t) now.next) (plain_ltest one) → after ≡ record { items = before.items ++ one ∷ []; spare = k } →
    Leaves old now first (low_tests (map plain_ltest before.items)) both_tests (lift_cond x (tests (map plain_test (drop i ts))) now.next) whole →
    Leaves old new first (low_tests (map plain_ltest after.items)) both_tests (lift_cond x (tests (map plain_test (drop (i + 1) ts))) new.next) whole
tests_step x ts i t old now new first one before after k whole h is lifted pushed left =
    let here : L.Cond = low_tests (map plain_ltest before.items) in
    leaves_step L.MoreTest both_tests old now new first here (low_tests (map plain_ltest after.items)) (lift_test x (plain_test t) now.next) (lift_cond x (tests (map plain_test (drop (i + 1) ts)))) (plain_ltest one) whole
    (λ a. ap (λ (l : Listed LTest). both_tests (low_tests (map plain_ltest l.items)) a) pushed ∙ conds_push before.items one a) lifted
    (subst (λ rest. Leaves old now first here both_tests rest whole) (tests_next x ts i now.next t h is) left)

-- ---- phrases of the code
pub expr_lifted : (x : Context) (old new : Making) (e : Expr) (u : s.Expr) (r : L.Expr) → plain_expr e ≡ u → IsLifted old new (lift x u old.next) r → IsLifted old new (lift x (plain_expr e) old.next) r
expr_lifted x old new e u r is h = subst (λ v. IsLifted old new (lift x v old.next) r) (sym is) h

pub test_lifted : (x : Context) (old new : Making) (t : Test) (u : s.Test) (r : L.Test) → plain_test t ≡ u → IsLifted old new (lift_test x u old.next) r → IsLifted old new (lift_test x (plain_test t) old.next) r
test_lifted x old new t u r is h = subst (λ v. IsLifted old new (lift_test x v old.next) r) (sym is) h

-- tests behind none, and behind that of whether a slot is used
pub cond_lifted : (x : Context) (old new : Making) (c u : s.Cond) (before after r : L.Cond) → c ≡ u → before ≡ L.NoTest → r ≡ after → IsTested before after old new (lift_cond x u old.next) → IsLifted old new (lift_cond x c old.next) r
unfolding definitions
cond_lifted x old new c u before after r is none e h =
    subst (λ v. IsLifted old new (lift_cond x v old.next) r) (sym is) (record { phrase = e ∙ h.tests ∙ ap (λ b. both_tests b (lift_cond x u old.next).phrase) none; commands = h.commands; next = h.next })

pub visit_lifted : (x inner : Context) (old new : Making) (slot : Slot) (c u : s.Cond) (before after r : L.Cond) → inner ≡ x → c ≡ u → before ≡ L.MoreTest (equal (read slot.used) (pos 1)) L.NoTest → r ≡ after → IsTested before after old new (lift_cond inner u old.next) → IsLifted old new (used_and slot (lift_cond x c old.next)) r
unfolding definitions meaning_definitions
visit_lifted x inner old new slot c u before after r bound is used e h =
    let lifted : IsLifted old new (used_and slot (lift_cond inner u old.next)) r = record { phrase = e ∙ h.tests ∙ ap (λ b. both_tests b (lift_cond inner u old.next).phrase) used; commands = h.commands; next = h.next } in
    subst (λ y. IsLifted old new (used_and slot (lift_cond y c old.next)) r) bound (subst (λ v. IsLifted old new (used_and slot (lift_cond inner v old.next)) r) (sym is) lifted)

-- ---- visits
-- What is made of the slots so far and what is left are the whole.
pub record VisitsLeft (old now : Making) (rest whole : AllMade) : Type 0 where
  pub commands : both (made now) rest.commands ≡ both (made old) whole.commands
  pub next : rest.next ≡ whole.next

-- a slot is visited: its test is lifted, and the choice stands behind the lifting's commands
pub visited : (test : Slot → ℕ → Lifted L.Cond) (body : Slot → ℕ → Made) (old now mid new : Making) (slot : Slot) (more : List Slot) (c : L.Cond) (d : L.Command) (whole : AllMade) →
    IsLifted now mid (used_and slot (test slot now.next)) c → d ≡ (body slot mid.next).command → new.next ≡ (body slot mid.next).next →
    made new ≡ both (made mid) (one (L.If c d L.Skip)) → VisitsLeft old now (visits false false test body (slot ∷ more) now.next) whole → VisitsLeft old new (visits false false test body more new.next) whole
unfolding definitions meaning_definitions
visited test body old now mid new slot more c d whole h e k m l =
    let b : Lifted L.Cond = test slot now.next in
    let after : ℕ = (body slot b.next).next in
    let begins : new.next ≡ after = k ∙ ap (λ n. (body slot n).next) h.next in
    let choice : L.If c d L.Skip ≡ L.If (L.MoreTest (equal (read slot.used) (pos 1)) b.phrase) (body slot b.next).command L.Skip =
    ap (λ p. L.If p d L.Skip) h.phrase ∙ ap (λ q. L.If (L.MoreTest (equal (read slot.used) (pos 1)) b.phrase) q L.Skip) (e ∙ ap (λ n. (body slot n).command) h.next) in
    let others : L.Commands = (visits false false test body more after).commands in
    subst (λ n. VisitsLeft old new (visits false false test body more n) whole) (sym begins) (record {
      commands =
          ap (λ cs. both cs others) (m ∙ ap (λ cs. both cs (one (L.If c d L.Skip))) h.commands ∙ ap (λ q. both (both (made now) b.before) (one q)) choice)
          ∙ both_both (both (made now) b.before) (one (L.If (L.MoreTest (equal (read slot.used) (pos 1)) b.phrase) (body slot b.next).command L.Skip)) others
          ∙ both_both (made now) b.before (L.MoreCommand (L.If (L.MoreTest (equal (read slot.used) (pos 1)) b.phrase) (body slot b.next).command L.Skip) others)
          ∙ l.commands;
      next = l.next;
    })

pub visits_end : (g later : Bool) (test : Slot → ℕ → Lifted L.Cond) (body : Slot → ℕ → Made) (old now : Making) (whole : AllMade) → VisitsLeft old now (visits g later test body [] now.next) whole → IsAdded old now whole
unfolding meaning_definitions
visits_end g later test body old now whole l = record { commands = sym (both_none (made now)) ∙ l.commands; next = l.next }

-- ---- slots whose commands may be guarded
turn_both : (g : Bool) (before : L.Commands) (c : L.Command) (more : L.Commands) → both (in_turn g before c L.NoCommand) more ≡ in_turn g before c more
unfolding meaning_definitions
turn_both true before c more = refl
turn_both false before c more = both_both before (one c) more

-- a slot's commands are made, guarded or not
pub turned : (g later : Bool) (test : Slot → ℕ → Lifted L.Cond) (body : Slot → ℕ → Made) (old now new : Making) (slot : Slot) (more : List Slot) (whole : AllMade) →
    IsTurned g now new (visit_of test body slot now.next) → VisitsLeft old now (visits g later test body (slot ∷ more) now.next) whole → VisitsLeft old new (visits later later test body more new.next) whole
unfolding definitions meaning_definitions
turned g later test body old now new slot more whole h l =
    let v : Lifted L.Command = visit_of test body slot now.next in
    let others : L.Commands = (visits later later test body more v.next).commands in
    subst (λ n. VisitsLeft old new (visits later later test body more n) whole) (sym h.next) (record {
      commands =
          ap (λ cs. both cs others) h.commands
          ∙ both_both (made now) (in_turn g v.before v.phrase L.NoCommand) others
          ∙ ap (both (made now)) (turn_both g v.before v.phrase others)
          ∙ l.commands;
      next = l.next;
    })

-- the commands of a slot as they are
pub turn_plain : (now mid new : Making) (v : Lifted L.Command) (c : L.Command) → IsLifted now mid v c → made new ≡ both (made mid) (one c) → new.next ≡ mid.next → IsTurned false now new v
unfolding definitions meaning_definitions
turn_plain now mid new v c h e n =
    record {
      commands = e ∙ (λ i. both (h.commands i) (one (h.phrase i))) ∙ both_both (made now) v.before (one v.phrase);
      next = n ∙ h.next;
    }

-- and as one command that is guarded
pub turn_guarded : (now start here new : Making) (v : Lifted L.Command) (c all guarded : L.Command) → made start ≡ L.NoCommand → IsLifted start here v c → all ≡ in_front (made here) c → guarded ≡ unless_ended all → made new ≡ both (made now) (one guarded) → new.next ≡ here.next → IsTurned true now new v
unfolding definitions meaning_definitions
turn_guarded now start here new v c all guarded none h front is e n =
    record {
      commands = e ∙ ap (λ d. both (made now) (one d)) (is ∙ ap unless_ended (front ∙ (λ i. in_front ((h.commands ∙ ap (λ u. both u v.before) none) i) (h.phrase i))));
      next = n ∙ h.next;
    }

-- the lifted test of a slot and the form of its body
pub visit_made : (x : Context) (row : ℕ) (b : s.Cond) (body : Slot → ℕ → Made) (slot : Slot) (old mid new : Making) (test : L.Cond) (then choice : L.Command) → IsLifted old mid (used_and slot (lift_cond (bind x row slot) b old.next)) test →
    then ≡ (body slot mid.next).command → new.next ≡ (body slot mid.next).next → made new ≡ made mid → choice ≡ L.If test then L.Skip → IsLifted old new (visit_of (λ slot. lift_cond (bind x row slot) b) body slot old.next) choice
unfolding definitions meaning_definitions
visit_made x row b body slot old mid new test then choice h same next still chosen =
    let y : Lifted L.Cond = lift_cond (bind x row slot) b old.next in
    record {
      phrase = chosen ∙ ap (λ p. L.If p then L.Skip) h.phrase ∙ ap (λ q. L.If (L.MoreTest (equal (read slot.used) (pos 1)) y.phrase) q L.Skip) (same ∙ ap (λ n. (body slot n).command) h.next);
      commands = still ∙ h.commands;
      next = next ∙ ap (λ n. (body slot n).next) h.next;
    }

-- ---- fields by an index
indexed_alone : (o : Option ℤ) (all : List Slot) (f : Spot) (x : Lifted L.Expr) (v : ℤ) → literal_of (indexed_by o all f x).phrase ≡ Some v → (indexed_by o all f x).before ≡ L.NoCommand
unfolding meaning_definitions
indexed_alone (Some w) all f x v h = refl
indexed_alone None all f x v h = let no : ⊥ = cc in absurd no

-- what is lifted to a literal has no commands
pub literal_alone : (x : Context) (e : s.Expr) (n : ℕ) (v : ℤ) → literal_of (lift x e n).phrase ≡ Some v → (lift x e n).before ≡ L.NoCommand
unfolding meaning_definitions
literal_alone x (s.Literal m) n v h = refl
literal_alone x (s.Name t) n v h = refl
literal_alone x (s.Read o) n v h = refl
literal_alone x (s.Sum es) n v h = let no : ⊥ = cc in absurd no
literal_alone x (s.Product es) n v h = let no : ⊥ = cc in absurd no
literal_alone x (s.Neg e) n v h = let no : ⊥ = cc in absurd no
literal_alone x (s.Field q e f) n v h = indexed_alone (literal_of (lift x e n).phrase) (slots x q.name) (spot (fields x q.name) f.name) (lift x e n) v h
literal_alone x (s.Row r f) n v h = refl
literal_alone x (s.Count r q b) n v h = let no : ⊥ = cc in absurd no
literal_alone x (s.Total r f q b) n v h = let no : ⊥ = cc in absurd no

-- an index that is a literal
pub indexed_literal : (m : Making) (all : List Slot) (f : Spot) (i r : L.Expr) (v : ℤ) → Some v ≡ literal_of i → r ≡ read_slot f (slot_at v all) → IsLifted m m (indexed all f (plain i m.next)) r
unfolding meaning_definitions
indexed_literal m all f i r v e h = subst (λ o. IsLifted m m (indexed_by o all f (plain i m.next)) r) e (lifted_plain m (read_slot f (slot_at v all)) r h)

-- an index that is none is read by a chain
pub indexed_chain : (m new : Making) (all : List Slot) (f : Spot) (i r : L.Expr) (c : L.Command) → None ≡ literal_of i → c ≡ read_chain f i m.next all → r ≡ fresh m.next → made new ≡ both (made m) (one c) → new.next ≡ suc m.next → IsLifted m new (indexed all f (plain i m.next)) r
unfolding meaning_definitions
indexed_chain m new all f i r c e chain h pushed next =
    subst (λ o. IsLifted m new (indexed_by o all f (plain i m.next)) r) e (record { phrase = h; commands = pushed ∙ ap (λ d. both (made m) (one d)) chain; next = next })

-- the index is lifted, and then the field is read
indexed_by_cases : (o : Option ℤ) (all : List Slot) (f : Spot) (old mid new : Making) (x : Lifted L.Expr) (r : L.Expr) → literal_of x.phrase ≡ o → (literal_of x.phrase ≡ o → (v : ℤ) → o ≡ Some v → x.before ≡ L.NoCommand) →
    made mid ≡ both (made old) x.before → IsLifted mid new (indexed_by o all f (plain x.phrase x.next)) r → IsLifted old new (indexed_by o all f x) r
unfolding meaning_definitions
indexed_by_cases (Some v) all f old mid new x r e alone h k =
    record {
      phrase = k.phrase;
      commands = k.commands ∙ both_none (made mid) ∙ h ∙ ap (both (made old)) (alone e v refl);
      next = k.next;
    }
indexed_by_cases None all f old mid new x r e alone h k =
    record {
      phrase = k.phrase;
      commands = k.commands ∙ ap (λ cs. both cs (one (read_chain f x.phrase x.next all))) h ∙ both_both (made old) x.before (one (read_chain f x.phrase x.next all));
      next = k.next;
    }

pub indexed_as : (all wanted : List Slot) (ds declared : List Declared) (name : ℕ) (m new : Making) (x : Lifted L.Expr) (r : L.Expr) → all ≡ wanted → ds ≡ declared → IsLifted m new (indexed all (spot ds name) x) r → IsLifted m new (indexed wanted (spot declared name) x) r
indexed_as all wanted ds declared name m new x r e f h =
    subst (λ l. IsLifted m new (indexed l (spot declared name) x) r) e (subst (λ d. IsLifted m new (indexed all (spot d name) x) r) f h)

pub indexed_lifted : (x : Context) (e : s.Expr) (all : List Slot) (f : Spot) (old mid new : Making) (i r : L.Expr) → IsLifted old mid (lift x e old.next) i → IsLifted mid new (indexed all f (plain i mid.next)) r → IsLifted old new (indexed all f (lift x e old.next)) r
unfolding meaning_definitions
indexed_lifted x e all f old mid new i r h k =
    let y : Lifted L.Expr = lift x e old.next in
    let by_phrase : IsLifted mid new (indexed all f (plain y.phrase mid.next)) r = subst (λ j. IsLifted mid new (indexed all f (plain j mid.next)) r) h.phrase k in
    let by_next : IsLifted mid new (indexed all f (plain y.phrase y.next)) r = subst (λ n. IsLifted mid new (indexed all f (plain y.phrase n)) r) h.next by_phrase in
    indexed_by_cases (literal_of y.phrase) all f old mid new y r refl (λ is v same. literal_alone x e old.next v (is ∙ same)) h.commands by_next

-- ---- loops of the code over slots
pub visits_begin : (g later : Bool) (test : Slot → ℕ → Lifted L.Cond) (body : Slot → ℕ → Made) (all : code.Slots) (m : Making) → VisitsLeft m m (visits g later test body (left all 0) m.next) (visits g later test body (slots_of all) m.next)
visits_begin g later test body all m =
    subst (λ l. VisitsLeft m m (visits g later test body l m.next) (visits g later test body (slots_of all) m.next)) (sym (left_all all)) (record { commands = refl; next = refl })

pub visit_step : (x : Context) (row number : ℕ) (b : s.Cond) (body : Slot → ℕ → Made) (all : code.Slots) (slot : one_slot.Slot) (old now mid new : Making) (test : L.Cond) (then choice : L.Command) (whole : AllMade) →
    number < all.count → plain_slot slot ≡ slot_of all number → IsLifted now mid (used_and (plain_slot slot) (lift_cond (bind x row (plain_slot slot)) b now.next)) test →
    then ≡ (body (plain_slot slot) mid.next).command → new.next ≡ (body (plain_slot slot) mid.next).next → choice ≡ L.If test then L.Skip → made new ≡ both (made mid) (one choice) →
    VisitsLeft old now (visits false false (λ slot. lift_cond (bind x row slot) b) body (left all number) now.next) whole →
    VisitsLeft old new (visits false false (λ slot. lift_cond (bind x row slot) b) body (left all (number + 1)) new.next) whole
visit_step x row number b body all slot old now mid new test then choice whole within is lifted same next chosen pushed rest =
    let here : Slot = slot_of all number in
    let tests : Slot → ℕ → Lifted L.Cond = λ slot. lift_cond (bind x row slot) b in
    let by_slot : IsLifted now mid (used_and here (tests here now.next)) test = subst (λ r. IsLifted now mid (used_and r (lift_cond (bind x row r) b now.next)) test) is lifted in
    visited tests body old now mid new here (left all (number + 1)) test then whole by_slot (same ∙ ap (λ r. (body r mid.next).command) is) (next ∙ ap (λ r. (body r mid.next).next) is) (pushed ∙ ap (λ c. both (made mid) (one c)) chosen)
    (subst (λ l. VisitsLeft old now (visits false false tests body l now.next) whole) (left_next all number within) rest)

-- of a loop whose slots may be guarded
pub turn_step : (g later : Bool) (x : Context) (row number : ℕ) (b : s.Cond) (body : Slot → ℕ → Made) (all : code.Slots) (old now new : Making) (whole : AllMade) →
    number < all.count → IsTurned g now new (visit_of (λ slot. lift_cond (bind x row slot) b) body (slot_of all number) now.next) →
    VisitsLeft old now (visits g later (λ slot. lift_cond (bind x row slot) b) body (left all number) now.next) whole →
    VisitsLeft old new (visits later later (λ slot. lift_cond (bind x row slot) b) body (left all (number + 1)) new.next) whole
turn_step g later x row number b body all old now new whole within h rest =
    let tests : Slot → ℕ → Lifted L.Cond = λ slot. lift_cond (bind x row slot) b in
    turned g later tests body old now new (slot_of all number) (left all (number + 1)) whole h
    (subst (λ l. VisitsLeft old now (visits g later tests body l now.next) whole) (left_next all number within) rest)

pub visits_done : (g later : Bool) (test : Slot → ℕ → Lifted L.Cond) (body : Slot → ℕ → Made) (all : code.Slots) (number : ℕ) (old now : Making) (whole : AllMade) → all.count ≤ number → VisitsLeft old now (visits g later test body (left all number) now.next) whole → IsAdded old now whole
visits_done g later test body all number old now whole h rest =
    visits_end g later test body old now whole (subst (λ l. VisitsLeft old now (visits g later test body l now.next) whole) (left_none all number h) rest)

-- slots of the code
pub counted_as : (test : Slot → ℕ → Lifted L.Cond) (term : Slot → L.Expr) (all wanted : List Slot) (old new : Making) (r : L.Expr) → all ≡ wanted → IsLifted old new (counted test term all old.next) r → IsLifted old new (counted test term wanted old.next) r
counted_as test term all wanted old new r e h = subst (λ l. IsLifted old new (counted test term l old.next) r) e h

-- a count or a sum
pub counted_lifted : (test : Slot → ℕ → Lifted L.Cond) (term : Slot → L.Expr) (all : List Slot) (total : ℕ) (old mid end : Making) (first : L.Command) (r : L.Expr) → total ≡ old.next → mid.next ≡ suc old.next → made mid ≡ both (made old) (one first) →
    first ≡ L.Assign (temp.Fresh total) (L.Literal (pos 0)) → IsAdded mid end (visits false false test (adding total term) all mid.next) → r ≡ fresh total → IsLifted old end (counted test term all old.next) r
unfolding definitions meaning_definitions
counted_lifted test term all total old mid end first r e begins pushed is h f =
    let by_total : IsAdded mid end (visits false false test (adding old.next term) all mid.next) = subst (λ n. IsAdded mid end (visits false false test (adding n term) all mid.next)) e h in
    let loop : IsAdded mid end (visits false false test (adding old.next term) all (suc old.next)) = subst (λ n. IsAdded mid end (visits false false test (adding old.next term) all n)) begins by_total in
    let others : L.Commands = (visits false false test (adding old.next term) all (suc old.next)).commands in
    record {
      phrase = f ∙ ap fresh e;
      commands =
          loop.commands ∙ ap (λ cs. both cs others) pushed ∙ both_both (made old) (one first) others
          ∙ ap (λ c. both (made old) (L.MoreCommand c others)) (is ∙ ap (λ n. L.Assign (temp.Fresh n) (L.Literal (pos 0))) e);
      next = loop.next;
    }
