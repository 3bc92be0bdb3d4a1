-- Which deltas the ground calls can write, row by row.
use Rattle.std.proofs.Common.{◌≡◌, ℕ, zero, suc, ◌+◌, ◌<◌, ◌≤◌, Bool, true, false, List, [], ◌∷◌, ◌++◌, map, length, take, get_or, set, refl, sym, ap, ap₂, ◌∙◌, subst, arith, inl, inr}
use Rattle.std.specs.Prelude.{◌⊎◌, ◌==◌, ◌&&◌, ◌||◌, if◌then◌else◌, replicate}
use Rattle.std.specs.List.{list_any}
use Rattle.std.proofs.lemmas.Bool.{cases_eq, eq-eqb, ne_eqb}
use Rattle.std.proofs.lemmas.List.{take_more, take_all, map_push, map-id, map-set, length-map, length-set, length-replicate, get_or-map, get_or-set_same, get_or-set_other}
use Rattle.homeo_lemmas.proofs.Bools.{or_false, or_unassoc}
use Rattle.homeo_lemmas.proofs.Naturals.{nat_turned}
use Rattle.homeo_syntax.specs.LowView.{low_commands, plain_lcommand}
use Rattle.homeo_syntax.specs.Low.{Expr, Cond, Command, Commands, Skip, Assign, Write, Print, Seq, If, NoCommand, MoreCommand}
use Rattle.homeo_syntax.specs.declared.low.Temp.{Temp}
use Rattle.homeo_syntax.specs.Source as s
use Rattle.homeo_syntax.specs.declared.low.LCommand.{LCommand}
use Rattle.homeo_syntax.specs.declared.low.SplitName.{SplitName}
use Rattle.homeo_syntax.specs.declared.low.SplitName.TheVariants as split
use Rattle.homeo_syntax.specs.Key.{definitions as syntax_definitions}
use Rattle.homeo_meaning.specs.Key.{definitions as meaning_definitions}
use Rattle.homeo_meaning.specs.CallForm.{ground_form}
use Rattle.homeo_meaning.specs.Ground.{plain_ground, grounds}
use Rattle.homeo_meaning.specs.Whole.{IsWholeName, IsWhole}
use Rattle.homeo_meaning.specs.declared.call.GroundCall.{GroundCall}
use Rattle.homeo_meaning.proofs.Parts.{AreWhole}
use Rattle.homeo_lform.proofs.Wholes.{ground_whole}
use Rattle.homeo_plan.specs.Key.{definitions as plan_definitions}
use Rattle.homeo_plan.specs.declared.forms.Delta.{Delta}
use Rattle.homeo_plan.specs.declared.forms.Term.{Term}
use Rattle.homeo_plan.specs.Planned.{sites_of, planned}
use Rattle.homeo_plan.specs.Shares.{writes, writes_all, is_written, takes_part}
use Rattle.homeo_plan.specs.Split.{shift_expr, shift_write, shift, shift_all}
use Rattle.homeo_plan.specs.Template.{PlannedCall, shifted, Clause}
use Rattle.homeo_build.specs.Key.{definitions}
use Rattle.homeo_build.specs.Written.{delta_at, AreWritten}
use Rattle.homeo_build.specs.inner.WrittenObjects.{names_whole, writes_object, any_writes_object}
use Rattle.homeo_build.proofs.GroundCalls.{of_call, of_calls}

-- ---- marks of a row
-- at each object the row is what it was, or what is marked
abbrev pub Marked : List Bool → List Bool → (ℕ → Bool) → Type 0
Marked new old more = (x : ℕ) → get_or new x false ≡ (get_or old x false || more x)

pub marks_none : (row : List Bool) (more : ℕ → Bool) → ((x : ℕ) → more x ≡ false) → Marked row row more
marks_none row more none x = sym (ap (λ b. get_or row x false || b) (none x) ∙ or_false (get_or row x false))

pub marks_both : (new row old : List Bool) (f g : ℕ → Bool) → Marked new row g → Marked row old f → Marked new old (λ x. f x || g x)
marks_both new row old f g later first x =
    later x ∙ ap (λ b. b || g x) (first x) ∙ or_unassoc (get_or old x false) (f x) (g x)

put_one : (b c : Bool) → (if b then true else c) ≡ (c || b)
put_one true true = refl
put_one true false = refl
put_one false c = sym (or_false c)

-- a whole object is put
pub name_marks :
    (new old : List Bool) (object : ℕ) (name : SplitName) → name ≡ split.Whole object →
    ((x : ℕ) → get_or new x false ≡ (if object == x then true else get_or old x false)) → Marked new old (λ x. names_whole x name)
unfolding definitions
name_marks new old object name is put x =
    put x ∙ put_one (object == x) (get_or old x false)
    ∙ ap (λ b. get_or old x false || b) (nat_turned object x ∙ sym (ap (names_whole x) is))

-- no other name is that of a whole object
pub marks_divided :
    (row : List Bool) (name : SplitName) → ((x : ℕ) × (name ≡ split.Base x)) ⊎ ((x : ℕ) × (j : ℕ) × (name ≡ split.Delta x j)) →
    Marked row row (λ x. names_whole x name)
unfolding definitions
marks_divided row name (inl b) = marks_none row (λ x. names_whole x name) (λ x. ap (names_whole x) b.1)
marks_divided row name (inr d) = marks_none row (λ x. names_whole x name) (λ x. ap (names_whole x) d.2)

-- ---- commands one after another
low_push : (cs : List Command) (c : Command) (x : ℕ) → any_writes_object x (low_commands (cs ++ c ∷ [])) ≡ (any_writes_object x (low_commands cs) || writes_object x c)
unfolding definitions syntax_definitions
low_push [] c x = or_false (writes_object x c)
low_push (d ∷ cs) c x = ap (λ b. writes_object x d || b) (low_push cs c x) ∙ sym (or_unassoc (writes_object x d) (any_writes_object x (low_commands cs)) (writes_object x c))

pub marks_more :
    (cs : List LCommand) (i : ℕ) (c : LCommand) (new row old : List Bool) → i < length cs → c ≡ get_or cs i c →
    Marked new row (λ x. writes_object x (plain_lcommand c)) →
    Marked row old (λ x. any_writes_object x (low_commands (map plain_lcommand (take i cs)))) →
    Marked new old (λ x. any_writes_object x (low_commands (map plain_lcommand (take (i + 1) cs))))
marks_more cs i c new row old within is later first x =
    let more : map plain_lcommand (take i cs) ++ plain_lcommand c ∷ [] ≡ map plain_lcommand (take (i + 1) cs) =
    sym (map_push plain_lcommand (take i cs) c) ∙ ap (λ d. map plain_lcommand (take i cs ++ d ∷ [])) is ∙ ap (map plain_lcommand) (sym (take_more cs i c within)) in
    marks_both new row old (λ x. any_writes_object x (low_commands (map plain_lcommand (take i cs)))) (λ x. writes_object x (plain_lcommand c)) later first x
    ∙ ap (λ b. get_or old x false || b)
    (sym (low_push (map plain_lcommand (take i cs)) (plain_lcommand c) x) ∙ ap (λ l. any_writes_object x (low_commands l)) more)

-- of no commands
pub marks_begin : (row : List Bool) → Marked row row (λ x. any_writes_object x (low_commands []))
unfolding definitions syntax_definitions
marks_begin row = marks_none row (λ x. false) (λ x. refl)

-- a command is what its view is
pub marks_of :
    (new old : List Bool) (c : LCommand) (l : Command) → plain_lcommand c ≡ l → Marked new old (λ x. writes_object x l) →
    Marked new old (λ x. writes_object x (plain_lcommand c))
marks_of new old c l is marked x = marked x ∙ ap (λ d. get_or old x false || writes_object x d) (sym is)

pub marks_skip : (row : List Bool) → Marked row row (λ x. writes_object x Skip)
unfolding definitions
marks_skip row = marks_none row (λ x. false) (λ x. refl)

pub marks_assign : (row : List Bool) (t : Temp) (e : Expr) → Marked row row (λ x. writes_object x (Assign t e))
unfolding definitions
marks_assign row t e = marks_none row (λ x. false) (λ x. refl)

pub marks_print : (row : List Bool) (e : Expr) → Marked row row (λ x. writes_object x (Print e))
unfolding definitions
marks_print row e = marks_none row (λ x. false) (λ x. refl)

pub marks_write : (new old : List Bool) (name : SplitName) (e : Expr) → Marked new old (λ x. names_whole x name) → Marked new old (λ x. writes_object x (Write name e))
unfolding definitions
marks_write new old name e marked = marked

pub marks_seq :
    (new old : List Bool) (cs lent : List LCommand) → lent ≡ cs → Marked new old (λ x. any_writes_object x (low_commands (map plain_lcommand lent))) →
    Marked new old (λ x. writes_object x (Seq (low_commands (map plain_lcommand cs))))
unfolding definitions
marks_seq new old cs lent same marked x = marked x ∙ ap (λ l. get_or old x false || any_writes_object x (low_commands (map plain_lcommand l))) same

pub marks_if :
    (new row old : List Bool) (b : Cond) (one other : LCommand) (lent_one lent_other : LCommand) → lent_one ≡ one → lent_other ≡ other →
    Marked new row (λ x. writes_object x (plain_lcommand lent_other)) → Marked row old (λ x. writes_object x (plain_lcommand lent_one)) →
    Marked new old (λ x. writes_object x (If b (plain_lcommand one) (plain_lcommand other)))
unfolding definitions
marks_if new row old b one other lent_one lent_other y n later first x =
    marks_both new row old (λ x. writes_object x (plain_lcommand lent_one)) (λ x. writes_object x (plain_lcommand lent_other)) later first x
    ∙ ap₂ (λ c d. get_or old x false || (writes_object x (plain_lcommand c) || writes_object x (plain_lcommand d))) y n

-- ---- the delta transform at a site writes the deltas there of the objects that the command writes
and_here : (a : Bool) (i : ℕ) → (a && (i == i)) ≡ a
and_here a i = ap (λ b. a && b) (eq-eqb i i refl) ∙ and_all a
  where
    and_all : (a : Bool) → (a && true) ≡ a
    and_all true = refl
    and_all false = refl

write_shifted :
    (k i x : ℕ) (name : SplitName) (e : Expr) → IsWholeName name → writes (delta_at i x) (shift_write k i name e) ≡ names_whole x name
unfolding definitions plan_definitions meaning_definitions
write_shifted k i x (split.Whole y) e h = and_here (x == y) i
write_shifted k i x (split.Base y) e h = absurd h
write_shifted k i x (split.Delta y j) e h = absurd h

mutual
  unfolding definitions plan_definitions meaning_definitions

  shifted_writes : (k i x : ℕ) (c : Command) → IsWhole c → writes (delta_at i x) (shift k i c) ≡ writes_object x c
  shifted_writes k i x Skip h = refl
  shifted_writes k i x (Assign t e) h = refl
  shifted_writes k i x (Write y e) h = write_shifted k i x y (shift_expr k e) h.0
  shifted_writes k i x (Print e) h = refl
  shifted_writes k i x (Seq cs) h = shifted_writes_all k i x cs h
  shifted_writes k i x (If b c d) h = ap₂ (λ p q. p || q) (shifted_writes k i x c h.1) (shifted_writes k i x d h.2)

  shifted_writes_all : (k i x : ℕ) (cs : Commands) → AreWhole cs → writes_all (delta_at i x) (shift_all k i cs) ≡ any_writes_object x cs
  shifted_writes_all k i x NoCommand h = refl
  shifted_writes_all k i x (MoreCommand c cs) h = ap₂ (λ p q. p || q) (shifted_writes k i x c h.0) (shifted_writes_all k i x cs h.1)

-- ---- calls one after another
-- the rows tell what these calls can write at each site
pub record Tell (w : s.Workload) (gs : List PlannedCall) (rows : List (List Bool)) : Type 0 where
  pub count : length rows ≡ sites_of w
  pub tell : (i x : ℕ) → i < sites_of w → get_or (get_or rows i []) x false ≡ is_written (sites_of w) gs (delta_at i x)

-- the first n of the ground calls, as they are planned
abbrev pub first_calls : s.Workload → List GroundCall → ℕ → List PlannedCall
first_calls w calls n = map (of_call w (λ g. g)) (take n calls)

read_replicate : {X : Type 0} (k i : ℕ) (x : X) → get_or (replicate k x) i x ≡ x
read_replicate zero i x = refl
read_replicate (suc k) zero x = refl
read_replicate (suc k) (suc i) x = read_replicate k i x

pub tell_begin : (w : s.Workload) (calls : List GroundCall) (rows : List (List Bool)) (k : ℕ) → k ≡ sites_of w → rows ≡ replicate k [] → Tell w (first_calls w calls 0) rows
unfolding plan_definitions
tell_begin w calls rows k count are = record {
  count = ap length are ∙ length-replicate k [] ∙ count;
  tell = λ i x h. ap (λ (l : List (List Bool)). get_or (get_or l i []) x false) are ∙ ap (λ (r : List Bool). get_or r x false) (read_replicate k i []);
}

written_push : (k : ℕ) (gs : List PlannedCall) (g : PlannedCall) (d : Delta) → is_written k (gs ++ g ∷ []) d ≡ (is_written k gs d || ((g.site == d.site) && writes d (shifted k g)))
unfolding plan_definitions
written_push k [] g d = or_false ((g.site == d.site) && writes d (shifted k g))
written_push k (f ∷ gs) g d =
    ap (λ b. ((f.site == d.site) && writes d (shifted k f)) || b) (written_push k gs g d)
    ∙ sym (or_unassoc ((f.site == d.site) && writes d (shifted k f)) (is_written k gs d) ((g.site == d.site) && writes d (shifted k g)))

module _ (w : s.Workload) (calls : List GroundCall) (n : ℕ) (call : GroundCall) (within : n < length calls) (is : call ≡ get_or calls n call) where
  one_more :
      (k : ℕ) (d : Delta) → is_written k (first_calls w calls (n + 1)) d ≡
      (is_written k (first_calls w calls n) d || ((call.site == d.site) && writes d (shift k call.site (ground_form w (plain_ground call)))))
  unfolding plan_definitions
  one_more k d =
      let more : first_calls w calls (n + 1) ≡ first_calls w calls n ++ of_call w (λ g. g) call ∷ [] =
      ap (map (of_call w (λ g. g))) (take_more calls n call within ∙ ap (λ c. take n calls ++ c ∷ []) (sym is)) ∙ map_push (of_call w (λ g. g)) (take n calls) call in
      ap (λ gs. is_written k gs d) more ∙ written_push k (first_calls w calls n) (of_call w (λ g. g) call) d

  -- the row of the call's site is marked with what its form writes
  pub tell_more :
      {L : Type 0} (f : L → List Bool) (rows : List L) (row new : L) (form : Command) → call.site < sites_of w → form ≡ ground_form w (plain_ground call) →
      row ≡ get_or rows call.site row → Marked (f new) (f row) (λ x. writes_object x form) → Tell w (first_calls w calls n) (map f rows) →
      Tell w (first_calls w calls (n + 1)) (map f (set rows call.site new))
  tell_more f rows row new form there form_is row_is marked told =
      record {
        count = ap length (map-set f rows call.site new) ∙ length-set (map f rows) call.site (f new) ∙ told.count;
        tell = λ i x h. ap (λ l. get_or (get_or l i []) x false) (map-set f rows call.site new) ∙ at i x h (cases_eq i call.site);
      }
    where
      at : (i x : ℕ) → i < sites_of w → (i ≡ call.site) ⊎ (i ≡ call.site → ⊥) → get_or (get_or (set (map f rows) call.site (f new)) i []) x false ≡ is_written (sites_of w) (first_calls w calls (n + 1)) (delta_at i x)
      at i x h (inl same) =
          let count = told.count in
          let below : call.site < length rows = omega (arith, there, count, length-map rows f) in
          let old : get_or (map f rows) call.site [] ≡ f row = get_or-map f rows call.site row [] below ∙ ap f (sym row_is) in
          let k = sites_of w in
          let whole : IsWhole form = subst IsWhole (sym form_is) (ground_whole w (plain_ground call)) in
          let here : call.site < length (map f rows) = omega (arith, there, count) in
          let so_far : get_or (f row) x false ≡ is_written k (first_calls w calls n) (delta_at call.site x) = ap (λ r. get_or r x false) (sym old) ∙ told.tell call.site x there in
          let now : writes_object x form ≡ ((call.site == call.site) && writes (delta_at call.site x) (shift k call.site (ground_form w (plain_ground call)))) =
          sym (shifted_writes k call.site x form whole) ∙ ap (λ c. writes (delta_at call.site x) (shift k call.site c)) form_is
          ∙ ap (λ b. b && writes (delta_at call.site x) (shift k call.site (ground_form w (plain_ground call)))) (sym (eq-eqb call.site call.site refl)) in
          ap (λ j. get_or (get_or (set (map f rows) call.site (f new)) j []) x false) same
          ∙ ap (λ r. get_or r x false) (get_or-set_same (map f rows) call.site (f new) [] here)
          ∙ marked x ∙ ap₂ (λ b c. b || c) so_far now ∙ sym (one_more k (delta_at call.site x))
          ∙ ap (λ j. is_written k (first_calls w calls (n + 1)) (delta_at j x)) (sym same)
      at i x h (inr differ) =
          let k = sites_of w in
          ap (λ r. get_or r x false) (get_or-set_other (map f rows) call.site i (f new) [] differ) ∙ told.tell i x h
          ∙ sym (one_more k (delta_at i x)
          ∙ ap (λ b. is_written k (first_calls w calls n) (delta_at i x) || (b && writes (delta_at i x) (shift k call.site (ground_form w (plain_ground call))))) (ne_eqb call.site i (λ e. differ (sym e)))
          ∙ or_false (is_written k (first_calls w calls n) (delta_at i x)))

pub tell_all : (w : s.Workload) (calls : List GroundCall) (n : ℕ) (rows : List (List Bool)) → length calls ≤ n → map plain_ground calls ≡ grounds w → Tell w (first_calls w calls n) rows → AreWritten w rows
tell_all w calls n rows past are told =
    let all : first_calls w calls n ≡ planned w = ap (map (of_call w (λ g. g))) (take_all n calls past) ∙ of_calls w (λ g. g) calls are ∙ map-id (planned w) in
    record {
      count = told.count;
      tell = λ i x h. told.tell i x h ∙ ap (λ gs. is_written (sites_of w) gs (delta_at i x)) all;
    }

-- ---- terms one after another
both_none : (c d e : Bool) → (c || d) ≡ false → (d ≡ false → e ≡ false) → (c || e) ≡ false
both_none true d e h k = h
both_none false d e h k = k h

pub none_take : (p : Term → Bool) (ts : List Term) (i : ℕ) (t : Term) → i < length ts → list_any p (take i ts) ≡ false → p (get_or ts i t) ≡ false → list_any p (take (i + 1) ts) ≡ false
none_take p [] i t h a b = absurd (omega (arith, h))
none_take p (x ∷ ts) zero t h a b = ap (λ c. c || false) b
none_take p (x ∷ ts) (suc i) t h a b =
    let more : suc i + 1 ≡ suc (i + 1) = omega arith in
    ap (λ n. list_any p (take n (x ∷ ts))) more ∙ both_none (p x) (list_any p (take i ts)) (list_any p (take (i + 1) ts)) a (λ e. none_take p ts i t (omega (arith, h)) e b)

pub some_at : (p : Term → Bool) (ts : List Term) (i : ℕ) (t : Term) → i < length ts → p (get_or ts i t) ≡ true → list_any p ts ≡ true
some_at p [] i t h a = absurd (omega (arith, h))
some_at p (x ∷ ts) zero t h a = ap (λ c. c || list_any p ts) a
some_at p (x ∷ ts) (suc i) t h a = go (p x) (some_at p ts i t (omega (arith, h)) a)
  where
    go : (c : Bool) → list_any p ts ≡ true → (c || list_any p ts) ≡ true
    go true e = refl
    go false e = e

-- ---- a clause at a site
module _ {L : Type 0} (w : s.Workload) (f : L → List Bool) (rows lent : List L) (site : ℕ) (written : AreWritten w (map f rows)) (same : lent ≡ rows) (there : site < sites_of w) where
  pub row_there : site < length lent
  row_there = omega (arith, there, written.count, length-map rows f, ap length same)

  pub row_tells : (row : L) (x : ℕ) → row ≡ get_or lent site row → get_or (f row) x false ≡ is_written (sites_of w) (planned w) (delta_at site x)
  row_tells row x is =
      let one : f row ≡ get_or (map f rows) site [] = ap f is ∙ sym (get_or-map f lent site row [] row_there) ∙ ap (λ l. get_or (map f l) site []) same in
      ap (λ r. get_or r x false) one ∙ written.tell site x there

abbrev pub on_written : s.Workload → ℕ → Term → Bool
on_written w site t = (t.delta.site == site) && is_written (sites_of w) (planned w) t.delta

same_delta_at : (d : Delta) (site : ℕ) → d.site ≡ site → delta_at site d.object ≡ d
same_delta_at d site e = λ i. record { object = d.object; site = sym e i }

pub on_here : (w : s.Workload) (site : ℕ) (t : Term) (b : Bool) → t.delta.site ≡ site → b ≡ is_written (sites_of w) (planned w) (delta_at site t.delta.object) → on_written w site t ≡ b
on_here w site t b e is =
    ap (λ c. c && is_written (sites_of w) (planned w) t.delta) (eq-eqb t.delta.site site e)
    ∙ ap (is_written (sites_of w) (planned w)) (sym (same_delta_at t.delta site e)) ∙ sym is

pub on_elsewhere : (w : s.Workload) (site : ℕ) (t : Term) → (t.delta.site ≡ site → ⊥) → on_written w site t ≡ false
on_elsewhere w site t ne = ap (λ c. c && is_written (sites_of w) (planned w) t.delta) (ne_eqb t.delta.site site ne)

pub part_taken : (w : s.Workload) (site : ℕ) (c : Clause) (lent : List Term) → lent ≡ c.terms → list_any (on_written w site) lent ≡ true → true ≡ takes_part (sites_of w) (planned w) c site
unfolding plan_definitions
part_taken w site c lent same e = sym e ∙ ap (list_any (on_written w site)) same

pub no_part : (w : s.Workload) (site i : ℕ) (c : Clause) (lent : List Term) → lent ≡ c.terms → length lent ≤ i → list_any (on_written w site) (take i lent) ≡ false → false ≡ takes_part (sites_of w) (planned w) c site
unfolding plan_definitions
no_part w site i c lent same past e = sym e ∙ ap (list_any (on_written w site)) (take_all i lent past ∙ same)
