-- Commands that are made one after another.
use Rattle.std.proofs.Common.{◌≡◌, ℕ, suc, ◌+◌, ◌<◌, ◌≤◌, Bool, false, ◌||◌, List, [], ◌∷◌, ◌++◌, drop, get_or, map, length, All, ℤ, pos, Some, None, Option, refl, sym, ap, ◌∙◌, subst, append_assoc, append-nil, add-one}
use Rattle.std.proofs.Math.Seq.{drop-cons}
use Rattle.std.proofs.lemmas.List.{map-append, drop_all}
use Rattle.std.proofs.lemmas.List.Elements.{All-nil, All-push}
use Rattle.homeo_syntax.specs.Key.{definitions as syntax_definitions}
use Rattle.homeo_syntax.specs.Low as L
use Rattle.homeo_syntax.specs.Source as s
use Rattle.homeo_syntax.specs.SourceView.{commands, plain_expr, plain_command, plain_field}
use Rattle.homeo_syntax.specs.LowView.{low_commands, plain_lcommand}
use Rattle.homeo_syntax.specs.declared.low.Temp.TheVariants as temp
use Rattle.homeo_syntax.specs.declared.low.LCommand.{LCommand, Skip}
use Rattle.homeo_syntax.proofs.LowViews.{low_Skip}
use Rattle.homeo_syntax.specs.declared.command.Command.{Command}
use Rattle.homeo_syntax.specs.declared.command.FieldValue.{FieldValue}
use Rattle.homeo_syntax.specs.declared.workload.RangeDecl.{RangeDecl}
use Rattle.homeo_meaning.specs.Key.{definitions as meaning_definitions}
use Rattle.homeo_meaning.specs.Schema.{Declared}
use Rattle.homeo_meaning.specs.Context.{Spot, Slot, Context, slot_at, cell, spot}
use Rattle.homeo_meaning.specs.Aborts.{holds_abort}
use Rattle.homeo_meaning.specs.LForm.{Lifted, Made, AllMade, Pair, Target, both, one, in_front, guard, combined, visits, literal_of, lift, placed, within, write_chain, pair, write_to, write_field, write_at, write_by, write_indexed, stored, lift_values, all_within, fill_chain, inserted, chosen, as_one, form, forms}
use Rattle.homeo_desugar.specs.inner.Key.{definitions}
use Rattle.homeo_desugar.specs.inner.Made.{made, IsLifted, IsAdded, IsFormed, AreFormed, AreWithin, plain_target}
use Rattle.homeo_desugar.specs.declared.making.Making.{Making}
use Rattle.homeo_desugar.specs.declared.making.Target as code
use Rattle.homeo_desugar.proofs.Makings.{Leaves, both_none, both_both, made_push, lifted_combined, leaves_step}

-- ---- a command behind a lifting
-- what is made from nothing is the lifting's
begun : (start out : Making) (cs : L.Commands) → made start ≡ L.NoCommand → made out ≡ both (made start) cs → made out ≡ cs
unfolding meaning_definitions
begun start out cs e h = h ∙ ap (λ u. both u cs) e

pub placed_formed : {A : Type 0} (f : A → L.Command) (start out : Making) (n : ℕ) (x : ℕ → Lifted A) (a : A) (c r : L.Command) → made start ≡ L.NoCommand → start.next ≡ n → IsLifted start out (x start.next) a → c ≡ f a → r ≡ in_front (made out) c → IsFormed out.next (placed (x n) f) r
unfolding meaning_definitions
placed_formed {A} f start out n x a c r e first h is front =
    subst (λ m. IsFormed out.next (placed (x m) f) r) first (record {
      command = front ∙ (λ i. in_front (begun start out (x start.next).before e h.commands i) ((is ∙ ap f h.phrase) i));
      next = h.next;
    })

-- the code's choice between a command and none
pub or_skip : (test : L.Cond) (here choice : L.Command) → choice ≡ L.If test here (plain_lcommand Skip) → choice ≡ L.If test here L.Skip
or_skip test here choice e = e ∙ ap (L.If test here) low_Skip

pub formed_as : (after : ℕ) (x : Made) (r same : L.Command) → r ≡ same → IsFormed after x same → IsFormed after x r
formed_as after x r same e h = record { command = e ∙ h.command; next = h.next }

pub write_as : (slot : Slot) (f : Spot) (place after : ℕ) (b : Spot) (x : Lifted L.Expr) (r : L.Command) → b ≡ f → place ≡ cell slot b → IsFormed after (write_to b place x) r → IsFormed after (write_to f (cell slot f) x) r
write_as slot f place after b x r e h k = subst (λ d. IsFormed after (write_to d (cell slot d) x) r) e (subst (λ n. IsFormed after (write_to b n x) r) h k)

pub field_formed : (slot : Slot) (name place after : ℕ) (b : Spot) (x : Lifted L.Expr) (r : L.Command) → b ≡ spot slot.fields name → place ≡ cell slot b → IsFormed after (write_to b place x) r → IsFormed after (write_field slot name x) r
unfolding meaning_definitions
field_formed slot name place after b x r e f h = write_as slot (spot slot.fields name) place after b x r e f h

-- a value of another context, which is the same
pub field_in : (x y : Context) (slot : Slot) (name after n : ℕ) (e : s.Expr) (r : L.Command) → y ≡ x → IsFormed after (write_field slot name (lift y e n)) r → IsFormed after (write_field slot name (lift x e n)) r
field_in x y slot name after n e r same h = subst (λ z. IsFormed after (write_field slot name (lift z e n)) r) same h

pub forms_in : (x y : Context) (cs : s.Commands) (after n : ℕ) (r : L.Commands) → y ≡ x → AreFormed after (forms y false cs n) r → AreFormed after (forms x false cs n) r
forms_in x y cs after n r same h = subst (λ z. AreFormed after (forms z false cs n) r) same h

-- ---- a write by an index
pub write_literal : (start out : Making) (n after : ℕ) (x : ℕ → Lifted L.Expr) (y : ℕ → Lifted L.Expr) (all : List Slot) (f : Spot) (i : L.Expr) (c : L.Command) (v : ℤ) (found : Option Slot) → start.next ≡ n → IsLifted start out (x start.next) i → Some v ≡ literal_of i → slot_at v all ≡ found →
    IsFormed after (write_at found f out.next y) c → IsFormed after (write_indexed all f (x n) y) c
unfolding meaning_definitions
write_literal start out n after x y all f i c v found first h e is k =
    let literal : Some v ≡ literal_of (x start.next).phrase = e ∙ ap literal_of h.phrase in
    let by_slot : IsFormed after (write_at (slot_at v all) f out.next y) c = subst (λ o. IsFormed after (write_at o f out.next y) c) (sym is) k in
    let by_next : IsFormed after (write_by (Some v) all f (x start.next) y) c = subst (λ m. IsFormed after (write_at (slot_at v all) f m y) c) h.next by_slot in
    let by_literal : IsFormed after (write_indexed all f (x start.next) y) c = subst (λ o. IsFormed after (write_by o all f (x start.next) y) c) literal by_next in
    subst (λ m. IsFormed after (write_indexed all f (x m) y) c) first by_literal

pub write_by_chain : (start mid out : Making) (n : ℕ) (x : ℕ → Lifted L.Expr) (y : ℕ → Lifted L.Expr) (all : List Slot) (f : Spot) (i v : L.Expr) (c r : L.Command) → made start ≡ L.NoCommand → start.next ≡ n → IsLifted start mid (x start.next) i → IsLifted mid out (y mid.next) v → None ≡ literal_of i →
    c ≡ L.If (within f v L.NoTest) (write_chain f i v all) L.Skip → r ≡ in_front (made out) c → IsFormed out.next (write_indexed all f (x n) y) r
unfolding meaning_definitions
write_by_chain start mid out n x y all f i v c r e first h k none is front =
    let dynamic : None ≡ literal_of (x start.next).phrase = none ∙ ap literal_of h.phrase in
    let both_lifted : IsLifted start out (combined pair (x start.next) y) (pair i v) = lifted_combined pair start mid out (x start.next) y i v (pair i v) refl h k in
    let by_none : IsFormed out.next (write_by None all f (x start.next) y) r =
    placed_formed (λ (p : Pair L.Expr). L.If (within f p.value L.NoTest) (write_chain f p.index p.value all) L.Skip) start out start.next (λ m. combined pair (x m) y) (pair i v) c r e refl both_lifted is front in
    let by_literal : IsFormed out.next (write_indexed all f (x start.next) y) r = subst (λ o. IsFormed out.next (write_by o all f (x start.next) y) r) dynamic by_none in
    subst (λ m. IsFormed out.next (write_indexed all f (x m) y) r) first by_literal

-- ---- new values of fields
pub stored_lifted : (f : Spot) (old mid new : Making) (x : Lifted L.Expr) (e : L.Expr) (t : ℕ) (c : L.Command) (target : Target) → IsLifted old mid x e → t ≡ mid.next → new.next ≡ suc mid.next → made new ≡ both (made mid) (one c) → c ≡ L.Assign (temp.Fresh t) e → target ≡ record { field = f; temp = t } →
    IsLifted old new (stored f x) target
unfolding meaning_definitions
stored_lifted f old mid new x e t c target h taken next pushed is same =
    let place : t ≡ x.next = taken ∙ h.next in
    record {
      phrase = same ∙ ap (λ (n : ℕ). record { field = f; temp = n }) place;
      commands =
          pushed ∙ (λ i. both (h.commands i) (one ((is ∙ (λ j. L.Assign (temp.Fresh (place j)) (h.phrase j))) i))) ∙ both_both (made old) x.before (one (L.Assign (temp.Fresh x.next) x.phrase));
      next = next ∙ ap suc h.next;
    }

values_next : (x : Context) (ds : List Declared) (vs : List FieldValue) (i n : ℕ) (v : FieldValue) → i < length vs → v ≡ get_or vs i v → lift_values x ds (map plain_field (drop i vs)) n ≡ combined ◌∷◌ (stored (spot ds v.field.name) (lift x (plain_expr v.value) n)) (lift_values x ds (map plain_field (drop (i + 1) vs)))
unfolding meaning_definitions syntax_definitions
values_next x ds vs i n v h is =
    let front : drop i vs ≡ get_or vs i v ∷ drop (i + 1) vs = rw add-one (drop-cons vs i v h) in
    ap (λ l. lift_values x ds (map plain_field l) n) front ∙ ap (λ (d : FieldValue). combined ◌∷◌ (stored (spot ds d.field.name) (lift x (plain_expr d.value) n)) (lift_values x ds (map plain_field (drop (i + 1) vs)))) (sym is)

-- one value more
pub values_step : (x : Context) (ds : List Declared) (vs : List FieldValue) (i : ℕ) (v : FieldValue) (old now new : Making) (before after : List code.Target) (target : code.Target) (whole : Lifted (List Target)) → i < length vs → v ≡ get_or vs i v →
    IsLifted now new (stored (spot ds v.field.name) (lift x (plain_expr v.value) now.next)) (plain_target target) → after ≡ before ++ target ∷ [] →
    Leaves old now [] (map plain_target before) ◌++◌ (lift_values x ds (map plain_field (drop i vs)) now.next) whole → Leaves old new [] (map plain_target after) ◌++◌ (lift_values x ds (map plain_field (drop (i + 1) vs)) new.next) whole
values_step x ds vs i v old now new before after target whole h is lifted pushed left =
    let here : List Target = map plain_target before in
    let longer : map plain_target after ≡ here ++ plain_target target ∷ [] = ap (map plain_target) pushed ∙ map-append plain_target before (target ∷ []) in
    leaves_step ◌∷◌ ◌++◌ old now new [] here (map plain_target after) (stored (spot ds v.field.name) (lift x (plain_expr v.value) now.next)) (lift_values x ds (map plain_field (drop (i + 1) vs))) (plain_target target) whole
    (λ a. ap (λ l. l ++ a) longer ∙ append_assoc here (plain_target target ∷ []) a) lifted
    (subst (λ rest. Leaves old now [] here ◌++◌ rest whole) (values_next x ds vs i now.next v h is) left)

-- none is left
pub values_end : (x : Context) (ds : List Declared) (vs : List FieldValue) (i : ℕ) (old now : Making) (targets : List code.Target) (whole : Lifted (List Target)) → length vs ≤ i → Leaves old now [] (map plain_target targets) ◌++◌ (lift_values x ds (map plain_field (drop i vs)) now.next) whole → IsLifted old now whole (map plain_target targets)
unfolding meaning_definitions
values_end x ds vs i old now targets whole h left =
    let rest : lift_values x ds (map plain_field (drop i vs)) now.next ≡ record { before = L.NoCommand; phrase = []; next = now.next } = ap (λ l. lift_values x ds (map plain_field l) now.next) (drop_all i vs h) in
    let done : Leaves old now [] (map plain_target targets) ◌++◌ (record { before = L.NoCommand; phrase = []; next = now.next }) whole = subst (λ r. Leaves old now [] (map plain_target targets) ◌++◌ r whole) rest left in
    record { phrase = sym (append-nil (map plain_target targets)) ∙ done.phrase; commands = sym (both_none (made now)) ∙ done.commands; next = done.next }

pub inserted_formed : (all : List Slot) (into n : ℕ) (x : ℕ → Lifted (List Target)) (start out new : Making) (xs : List Target) (test : L.Cond) (here none choice : L.Command) → made start ≡ L.NoCommand → start.next ≡ n → IsLifted start out (x start.next) xs → test ≡ all_within xs → here ≡ fill_chain xs into all →
    none ≡ L.Assign (temp.Named into) (L.Literal (pos 0)) → choice ≡ L.If test here none → made new ≡ both (made out) (one choice) → IsFormed out.next (inserted all into (x n)) (L.Seq (made new))
unfolding meaning_definitions
inserted_formed all into n x start out new xs test here none choice e first h a b c is pushed =
    subst (λ m. IsFormed out.next (inserted all into (x m)) (L.Seq (made new))) first (record {
      command =
          ap L.Seq (
          pushed
          ∙ (λ i. both (begun start out (x start.next).before e h.commands i) (one ((is ∙ (λ j. L.If (a j) (b j) (c j))) i)))
          ∙ ap (λ ys. both (x start.next).before (one (L.If (all_within ys) (fill_chain ys into all) (L.Assign (temp.Named into) (L.Literal (pos 0)))))) h.phrase
          );
      next = h.next;
    })

-- targets of the fields
pub within_none : (fields : List RangeDecl) (targets : List code.Target) → targets ≡ [] → AreWithin fields targets
unfolding definitions
within_none fields targets e = subst (All (λ (t : code.Target). t.field.place ≤ length fields)) (sym e) (All-nil (λ (t : code.Target). t.field.place ≤ length fields))

pub within_push : (fields : List RangeDecl) (before after : List code.Target) (target : code.Target) → after ≡ before ++ target ∷ [] → AreWithin fields before → target.field.place ≤ length fields → AreWithin fields after
unfolding definitions
within_push fields before after target e h k = subst (All (λ (t : code.Target). t.field.place ≤ length fields)) (sym e) (All-push (λ (t : code.Target). t.field.place ≤ length fields) before target h k)

-- ---- loops over slots
pub loop_formed : (start out : Making) (n : ℕ) (x : ℕ → AllMade) (r : L.Command) → made start ≡ L.NoCommand → start.next ≡ n → IsAdded start out (x start.next) → r ≡ L.Seq (made out) → IsFormed out.next (as_one (x n)) r
unfolding meaning_definitions
loop_formed start out n x r e first h is =
    subst (λ m. IsFormed out.next (as_one (x m)) r) first (record { command = is ∙ ap L.Seq (begun start out (x start.next).commands e h.commands); next = h.next })

-- ---- one of two commands
pub chosen_formed : (start out : Making) (n mid after : ℕ) (x : ℕ → Lifted L.Cond) (c d : ℕ → Made) (test : L.Cond) (here there choice r : L.Command) → made start ≡ L.NoCommand → start.next ≡ n → IsLifted start out (x start.next) test → IsFormed mid (c out.next) here → IsFormed after (d mid) there →
    choice ≡ L.If test here there → r ≡ in_front (made out) choice → IsFormed after (chosen (x n) c d) r
unfolding meaning_definitions
chosen_formed start out n mid after x c d test here there choice r e first h a b is front =
    let y : Lifted L.Cond = x start.next in
    let first_made : IsFormed mid (c y.next) here = subst (λ m. IsFormed mid (c m) here) h.next a in
    let second_made : IsFormed after (d (c y.next).next) there = subst (λ m. IsFormed after (d m) there) first_made.next b in
    subst (λ m. IsFormed after (chosen (x m) c d) r) first (record {
      command = front ∙ (λ i. in_front (begun start out y.before e h.commands i) ((is ∙ (λ j. L.If (h.phrase j) (first_made.command j) (second_made.command j))) i));
      next = second_made.next;
    })

-- ---- commands one after another
-- What is formed so far and what is left are the whole.
pub record FormsLeft (here : L.Commands) (rest whole : AllMade) : Type 0 where
  pub commands : both here rest.commands ≡ whole.commands
  pub next : rest.next ≡ whole.next

forms_next : (x : Context) (g : Bool) (cs : List Command) (i n : ℕ) (c : Command) → i < length cs → c ≡ get_or cs i c → forms x g (commands (map plain_command (drop i cs))) n ≡ forms x g (s.MoreCommand (plain_command c) (commands (map plain_command (drop (i + 1) cs)))) n
unfolding meaning_definitions syntax_definitions
forms_next x g cs i n c h is =
    let front : drop i cs ≡ get_or cs i c ∷ drop (i + 1) cs = rw add-one (drop-cons cs i c h) in
    ap (λ l. forms x g (commands (map plain_command l)) n) front ∙ ap (λ (d : Command). forms x g (s.MoreCommand (plain_command d) (commands (map plain_command (drop (i + 1) cs)))) n) (sym is)

pub forms_step : (x : Context) (g later : Bool) (cs : List Command) (i now after : ℕ) (c : Command) (formed guarded : L.Command) (one_formed : LCommand) (before here : List LCommand) (whole : AllMade) → i < length cs → c ≡ get_or cs i c → IsFormed after (form x (plain_command c) now) formed →
    guarded ≡ guard g formed → plain_lcommand one_formed ≡ guarded → here ≡ before ++ one_formed ∷ [] → later ≡ g || holds_abort (plain_command c) →
    FormsLeft (low_commands (map plain_lcommand before)) (forms x g (commands (map plain_command (drop i cs))) now) whole → FormsLeft (low_commands (map plain_lcommand here)) (forms x later (commands (map plain_command (drop (i + 1) cs))) after) whole
unfolding meaning_definitions
forms_step x g later cs i now after c formed guarded one_formed before here whole h is made_one guards same pushed next left =
    let so_far : L.Commands = low_commands (map plain_lcommand before) in
    let f : Made = form x (plain_command c) now in
    let rest : s.Commands = commands (map plain_command (drop (i + 1) cs)) in
    let others : L.Commands = (forms x (g || holds_abort (plain_command c)) rest f.next).commands in
    let split : FormsLeft so_far (forms x g (s.MoreCommand (plain_command c) rest) now) whole = subst (λ r. FormsLeft so_far r whole) (forms_next x g cs i now c h is) left in
    subst (λ v. FormsLeft (low_commands (map plain_lcommand here)) (forms x v rest after) whole) (sym next)
    (subst (λ n. FormsLeft (low_commands (map plain_lcommand here)) (forms x (g || holds_abort (plain_command c)) rest n) whole) (sym made_one.next) (record {
      commands =
          ap (λ l. both (low_commands (map plain_lcommand l)) others) pushed
          ∙ ap (λ u. both u others) (made_push before one_formed)
          ∙ both_both so_far (one (plain_lcommand one_formed)) others
          ∙ ap (λ u. both so_far (L.MoreCommand u others)) (same ∙ guards ∙ ap (guard g) made_one.command)
          ∙ split.commands;
      next = split.next;
    }))

pub forms_end : (x : Context) (g : Bool) (cs : List Command) (i now : ℕ) (here : L.Commands) (whole : AllMade) → length cs ≤ i → FormsLeft here (forms x g (commands (map plain_command (drop i cs))) now) whole → AreFormed now whole here
unfolding meaning_definitions syntax_definitions
forms_end x g cs i now here whole h left =
    let done : FormsLeft here (record { commands = L.NoCommand; next = now }) whole = subst (λ rest. FormsLeft here rest whole) (ap (λ l. forms x g (commands (map plain_command l)) now) (drop_all i cs h)) left in
    record { commands = sym (both_none here) ∙ done.commands; next = done.next }

-- ---- slots of the code
pub indexed_as : (all wanted : List Slot) (ds declared : List Declared) (name after : ℕ) (x : Lifted L.Expr) (y : ℕ → Lifted L.Expr) (r : L.Command) → all ≡ wanted → ds ≡ declared → IsFormed after (write_indexed all (spot ds name) x y) r → IsFormed after (write_indexed wanted (spot declared name) x y) r
indexed_as all wanted ds declared name after x y r e f h =
    subst (λ l. IsFormed after (write_indexed l (spot declared name) x y) r) e (subst (λ d. IsFormed after (write_indexed all (spot d name) x y) r) f h)

pub inserted_as : (x : Context) (all wanted : List Slot) (ds declared : List Declared) (into after n : ℕ) (vs : List s.FieldValue) (r : L.Command) → all ≡ wanted → ds ≡ declared → IsFormed after (inserted all into (lift_values x ds vs n)) r → IsFormed after (inserted wanted into (lift_values x declared vs n)) r
inserted_as x all wanted ds declared into after n vs r e f h =
    subst (λ l. IsFormed after (inserted l into (lift_values x declared vs n)) r) e (subst (λ d. IsFormed after (inserted all into (lift_values x d vs n)) r) f h)

pub written_as : (b object : Spot) (place after : ℕ) (x : Lifted L.Expr) (r : L.Command) → b ≡ object → place ≡ object.place → IsFormed after (write_to b place x) r → IsFormed after (write_to object object.place x) r
written_as b object place after x r e h k = subst (λ d. IsFormed after (write_to d object.place x) r) e (subst (λ n. IsFormed after (write_to b n x) r) h k)

pub set_as : (slot row : Slot) (name after : ℕ) (x : Lifted L.Expr) (r : L.Command) → slot ≡ row → IsFormed after (write_field slot name x) r → IsFormed after (write_field row name x) r
set_as slot row name after x r e h = subst (λ s. IsFormed after (write_field s name x) r) e h

pub looped_as : (later : Bool) (test : Slot → ℕ → Lifted L.Cond) (body : Slot → ℕ → Made) (all wanted : List Slot) (after n : ℕ) (r : L.Command) → all ≡ wanted → IsFormed after (as_one (visits false later test body all n)) r → IsFormed after (as_one (visits false later test body wanted n)) r
looped_as later test body all wanted after n r e h = subst (λ l. IsFormed after (as_one (visits false later test body l n)) r) e h

pub ends_as : (a b : Bool) (test : Slot → ℕ → Lifted L.Cond) (body : Slot → ℕ → Made) (all : List Slot) (after n : ℕ) (r : L.Command) → a ≡ b → IsFormed after (as_one (visits false a test body all n)) r → IsFormed after (as_one (visits false b test body all n)) r
ends_as a b test body all after n r e h = subst (λ v. IsFormed after (as_one (visits false v test body all n)) r) e h

-- ---- commands of the code
pub command_formed : (x : Context) (after n : ℕ) (c : Command) (u : s.Command) (r : L.Command) → plain_command c ≡ u → IsFormed after (form x u n) r → IsFormed after (form x (plain_command c) n) r
command_formed x after n c u r is h = subst (λ v. IsFormed after (form x v n) r) (sym is) h
