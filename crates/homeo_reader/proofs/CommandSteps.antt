-- Commands, step by step.
use Rattle.std.proofs.Common.{◌≡◌, ℕ, zero, suc, ◌-◌, ◌<◌, Bool, true, false, ◌&&◌, ◌||◌, List, [], ◌∷◌, ◌++◌, refl, ap, ◌∙◌, sym, arith, not, true≢false}
use Rattle.std.specs.Prelude.{Ok, Err, nat_lt, if◌then◌else◌, ◌==◌}
use Rattle.std.proofs.lemmas.Bool.{lt-ltb, eqb-true, and_parts, and_from, false_from_ne_true}
use Rattle.homeo_lemmas.proofs.Bools.{never_both}
use Rattle.homeo_syntax.specs.Classes.{number_of, class_of}
use Rattle.homeo_syntax.specs.declared.command.FieldValue.{FieldValue}
use Rattle.homeo_syntax.specs.declared.phrase.Ident.{Ident}
use Rattle.homeo_syntax.specs.declared.token.Mark.{Mark}
use Rattle.homeo_syntax.specs.declared.token.Mark.TheVariants as mark
use Rattle.homeo_syntax.specs.declared.token.Kind.{Kind}
use Rattle.homeo_syntax.specs.declared.token.Kind.TheVariants as kind
use Rattle.homeo_syntax.specs.declared.token.Token.{Token}
use Rattle.homeo_syntax.specs.declared.token.Version.{Version}
use Rattle.homeo_syntax.specs.declared.token.Version.TheVariants.{First, Second}
use Rattle.homeo_syntax.specs.Grammar.{Grammar, call, many, Spells, Means, takes, has}
use Rattle.homeo_reader.specs.inner.Engine.{Reading, ◌>>=◌, read, calls_at, Calls, Classes, empty, exists, begins, first_is}
use Rattle.homeo_syntax.specs.Rules.{Rule, Command, rule, common_command, field_value, lead}
use Rattle.homeo_reader.specs.inner.FirstTokens.{classes}
use Rattle.homeo_syntax.specs.Source as s
use Rattle.homeo_syntax.specs.SourceView.{commands, plain_expr, plain_field}
use Rattle.homeo_syntax.specs.Key.{definitions}
use Rattle.homeo_reader.specs.inner.Commands.{if_read, foreach_read, insert_read, delete_read, update_read, abort_read, command_read, commands_read, next_command_read, next_command_do, block_read, block_do, setting_read, field_setting_rest, row_setting_rest, setting_by, setting_do, field_value_read, field_value_do, next_field_value_read, next_field_value_do, other_field_values_read, field_values_read, field_values_do, command_by, command_do}
use Rattle.homeo_reader.specs.inner.Reading.{expr_read, cond_read, visit_read, mark_read, ident_read, if_marked, on_marked, with_front}
use Rattle.homeo_reader.proofs.Bools.{if_true}
use Rattle.homeo_reader.proofs.Flat.{read_then, reads, reads_part, flat_part, bind_same}
use Rattle.homeo_reader.proofs.Words.{Known, Outcome, word_begins, empty_word}
use Rattle.homeo_reader.proofs.Outcomes.{read_outcome}
use Rattle.homeo_reader.proofs.Complete.{known_at}
use Rattle.homeo_reader.proofs.Decided.{decided}
use Rattle.homeo_reader.proofs.ExprSteps.{room_minus}
use Rattle.homeo_reader.proofs.Lists.{opt_lead, exists_term, marked}

pub exists_command : (v : Version) (n : ℕ) → 0 < n → (calls_at rule n).exists (Command v) ≡ true
unfolding calls_at
exists_command v zero h = absurd (omega arith)
exists_command First (suc n) h = refl
exists_command Second (suc n) h = refl

pub next_command_reads : (v : Version) (room : ℕ) (ts : List Token) → 0 < room → next_command_read v room ts ≡ next_command_do v room ts
unfolding next_command_read next_command_do command_read read
next_command_reads v room ts h = opt_lead (calls_at rule room) mark.Semicolon (call (Command v)) (exists_command v room h) ts

-- ---- what is set
setting_kind : (n : ℕ) (x : Ident) (k : Kind) (o : ℕ) (ts : List Token) →
    setting_read (suc n) x (record { kind = k; offset = o } ∷ ts) ≡ setting_by (suc n) x k (record { kind = k; offset = o }) ts
unfolding setting_read setting_by field_setting_rest row_setting_rest expr_read read_then calls_at
setting_kind n x (kind.Fixed mark.Assign) o ts =
    flat_part (calls_at rule (suc n)) _ (record { kind = kind.Fixed mark.Assign; offset = o } ∷ ts) (λ y. Ok (y.0 x, y.1))
setting_kind n x k o ts = flat_part (calls_at rule (suc n)) _ (record { kind = k; offset = o } ∷ ts) (λ y. Ok (y.0 x, y.1))

setting_nil : (n : ℕ) (x : Ident) → setting_read (suc n) x [] ≡ Err []
unfolding setting_read read_then calls_at
setting_nil n x = flat_part (calls_at rule (suc n)) _ [] (λ y. Ok (y.0 x, y.1))

pub setting_reads : (room : ℕ) (x : Ident) (ts : List Token) → 0 < room → setting_read room x ts ≡ setting_do room x ts
unfolding setting_do
setting_reads zero x ts h = absurd (omega arith)
setting_reads (suc n) x [] h = setting_nil n x
setting_reads (suc n) x (t ∷ ts) h = setting_kind n x t.kind t.offset ts

pub field_value_reads : (room : ℕ) (ts : List Token) → field_value_read room ts ≡ field_value_do room ts
unfolding field_value_read field_value_do expr_read read_then
field_value_reads room ts = reads_part (calls_at rule room) _ ts

exists_field_value : (n : ℕ) → 0 < n → exists (calls_at rule n) field_value ≡ true
exists_field_value n h = and_from _ _ (exists_term n h) refl

pub next_field_value_reads : (room : ℕ) (ts : List Token) → 0 < room → next_field_value_read room ts ≡ next_field_value_do room ts
unfolding next_field_value_read next_field_value_do field_value_read
next_field_value_reads room ts h = opt_lead (calls_at rule room) mark.Comma field_value (exists_field_value room h) ts

pub field_values_reads : (room : ℕ) (ts : List Token) → field_values_read room ts ≡ field_values_do room ts
unfolding field_values_read field_values_do field_value_read other_field_values_read read_then
field_values_reads room ts = reads_part (calls_at rule room) _ ts

abbrev pub comma_field_value : Rule s.FieldValue
comma_field_value = lead mark.Comma field_value

pub field_of_view : (f : FieldValue) → (plain_field f).field ≡ f.field
unfolding definitions
field_of_view f = refl

pub value_of_view : (f : FieldValue) → (plain_field f).value ≡ plain_expr f.value
unfolding definitions
value_of_view f = refl

-- ---- commands
-- a command that each version has
abbrev common_by : Version → ℕ → Kind → Token → List Token → Reading s.Command
common_by v room (kind.Fixed mark.Abort) t ts = Err (t ∷ ts)
common_by v room k t ts = command_by v room k t ts

common_kind_1 : (v : Version) (k : Kind) (o : ℕ) (ts : List Token) →
    read (calls_at rule 0) (common_command v) (record { kind = k; offset = o } ∷ ts) ≡ common_by v 1 k (record { kind = k; offset = o }) ts
unfolding command_by block_read read_then calls_at
common_kind_1 v (kind.Fixed mark.Skip) o ts = reads (calls_at rule 0) (common_command v) (record { kind = kind.Fixed mark.Skip; offset = o } ∷ ts)
common_kind_1 v (kind.Fixed mark.Abort) o ts = reads (calls_at rule 0) (common_command v) (record { kind = kind.Fixed mark.Abort; offset = o } ∷ ts)
common_kind_1 v k o ts = reads (calls_at rule 0) (common_command v) (record { kind = k; offset = o } ∷ ts)

-- what a command is read as where there is this room in it
abbrev common_at : Version → ℕ → Kind → Token → List Token → Reading s.Command
common_at v m (kind.Name x) t ts = ident_read (t ∷ ts) >>= λ a. setting_read m a.0 a.1
common_at v m (kind.Fixed mark.Skip) t ts = Ok (s.Skip, ts)
common_at v m (kind.Fixed mark.OpenBrace) t ts = block_read v m (t ∷ ts) >>= λ a. Ok (s.Block a.0, a.1)
common_at v m (kind.Fixed mark.Write) t ts =
    mark_read mark.Open ts >>= λ a. ident_read a.1 >>= λ b. mark_read mark.Equal b.1 >>= λ c. expr_read m c.1 >>= λ d.
    mark_read mark.Close d.1 >>= λ e. Ok (s.Write b.0 d.0, e.1)
common_at v m (kind.Fixed mark.Print) t ts = mark_read mark.Open ts >>= λ a. expr_read m a.1 >>= λ b. mark_read mark.Close b.1 >>= λ c. Ok (s.Print b.0, c.1)
common_at v m (kind.Fixed mark.If) t ts = if_read v m ts
common_at v m (kind.Fixed mark.Foreach) t ts = foreach_read v m ts
common_at v m (kind.Fixed mark.Insert) t ts = insert_read m ts
common_at v m (kind.Fixed mark.Delete) t ts = delete_read m ts
common_at v m (kind.Fixed mark.Update) t ts = update_read m ts
common_at v m _ t ts = Err (t ∷ ts)

common_inside : (v : Version) (n : ℕ) (k : Kind) (o : ℕ) (ts : List Token) →
    read (calls_at rule (suc n)) (common_command v) (record { kind = k; offset = o } ∷ ts) ≡ common_at v (suc n) k (record { kind = k; offset = o }) ts
unfolding block_read setting_read read_then calls_at expr_read cond_read visit_read field_value_read field_values_read command_read if_read
    foreach_read insert_read delete_read update_read
common_inside First n (kind.Fixed mark.Skip) o ts = reads (calls_at rule (suc n)) (common_command First) (record { kind = kind.Fixed mark.Skip; offset = o } ∷ ts)
common_inside First n k o ts = reads (calls_at rule (suc n)) (common_command First) (record { kind = k; offset = o } ∷ ts)
common_inside Second n (kind.Fixed mark.Skip) o ts = reads (calls_at rule (suc n)) (common_command Second) (record { kind = kind.Fixed mark.Skip; offset = o } ∷ ts)
common_inside Second n k o ts = reads (calls_at rule (suc n)) (common_command Second) (record { kind = k; offset = o } ∷ ts)

common_room : (v : Version) (n : ℕ) (k : Kind) (o : ℕ) (ts : List Token) →
    common_at v (suc n) k (record { kind = k; offset = o }) ts ≡ common_by v (suc (suc n)) k (record { kind = k; offset = o }) ts
unfolding command_by
common_room v n (kind.Name x) o ts =
    room_minus n (λ m. ident_read (record { kind = kind.Name x; offset = o } ∷ ts) >>= λ a. setting_read m a.0 a.1)
    (Err (record { kind = kind.Name x; offset = o } ∷ ts))
common_room v n (kind.Fixed mark.OpenBrace) o ts =
    let less : suc n ≡ suc (suc n) - 1 = omega arith in
    ap (λ (m : ℕ). block_read v m (record { kind = kind.Fixed mark.OpenBrace; offset = o } ∷ ts) >>= λ a. Ok (s.Block a.0, a.1)) less
common_room v n (kind.Fixed mark.Write) o ts =
    room_minus n (λ m. mark_read mark.Open ts >>= λ a. ident_read a.1 >>= λ b. mark_read mark.Equal b.1 >>= λ c. expr_read m c.1 >>= λ d.
    mark_read mark.Close d.1 >>= λ e. Ok (s.Write b.0 d.0, e.1))
    (Err (record { kind = kind.Fixed mark.Write; offset = o } ∷ ts))
common_room v n (kind.Fixed mark.Print) o ts =
    room_minus n (λ m. mark_read mark.Open ts >>= λ a. expr_read m a.1 >>= λ b. mark_read mark.Close b.1 >>= λ c. Ok (s.Print b.0, c.1))
    (Err (record { kind = kind.Fixed mark.Print; offset = o } ∷ ts))
common_room v n (kind.Fixed mark.If) o ts = room_minus n (λ m. if_read v m ts) (Err (record { kind = kind.Fixed mark.If; offset = o } ∷ ts))
common_room v n (kind.Fixed mark.Foreach) o ts = room_minus n (λ m. foreach_read v m ts) (Err (record { kind = kind.Fixed mark.Foreach; offset = o } ∷ ts))
common_room v n (kind.Fixed mark.Insert) o ts = room_minus n (λ m. insert_read m ts) (Err (record { kind = kind.Fixed mark.Insert; offset = o } ∷ ts))
common_room v n (kind.Fixed mark.Delete) o ts = room_minus n (λ m. delete_read m ts) (Err (record { kind = kind.Fixed mark.Delete; offset = o } ∷ ts))
common_room v n (kind.Fixed mark.Update) o ts = room_minus n (λ m. update_read m ts) (Err (record { kind = kind.Fixed mark.Update; offset = o } ∷ ts))
common_room v n (kind.Fixed mark.Abort) o ts = refl
common_room v n k o ts = refl

common_kind_2 : (v : Version) (n : ℕ) (k : Kind) (o : ℕ) (ts : List Token) →
    read (calls_at rule (suc n)) (common_command v) (record { kind = k; offset = o } ∷ ts) ≡ common_by v (suc (suc n)) k (record { kind = k; offset = o }) ts
common_kind_2 v n k o ts = common_inside v n k o ts ∙ common_room v n k o ts

command_kind_1 : (v : Version) (k : Kind) (o : ℕ) (ts : List Token) →
    command_read v 1 (record { kind = k; offset = o } ∷ ts) ≡ command_by v 1 k (record { kind = k; offset = o }) ts
unfolding command_read command_by abort_read read calls_at
command_kind_1 First (kind.Fixed mark.Abort) o ts = common_kind_1 First (kind.Fixed mark.Abort) o ts
command_kind_1 First k o ts = common_kind_1 First k o ts
command_kind_1 Second (kind.Fixed mark.Abort) o ts = refl
command_kind_1 Second k o ts = common_kind_1 Second k o ts

command_kind_2 : (v : Version) (n : ℕ) (k : Kind) (o : ℕ) (ts : List Token) →
    command_read v (suc (suc n)) (record { kind = k; offset = o } ∷ ts) ≡ command_by v (suc (suc n)) k (record { kind = k; offset = o }) ts
unfolding command_read command_by abort_read read calls_at
command_kind_2 First n (kind.Fixed mark.Abort) o ts = common_kind_2 First n (kind.Fixed mark.Abort) o ts
command_kind_2 First n k o ts = common_kind_2 First n k o ts
command_kind_2 Second n (kind.Fixed mark.Abort) o ts = refl
command_kind_2 Second n k o ts = common_kind_2 Second n k o ts

pub command_reads : (v : Version) (room : ℕ) (ts : List Token) → 0 < room → command_read v room ts ≡ command_do v room ts
unfolding command_read command_do read calls_at
command_reads v zero ts h = absurd (omega arith)
command_reads First (suc zero) [] h = refl
command_reads Second (suc zero) [] h = refl
command_reads First (suc (suc n)) [] h = refl
command_reads Second (suc (suc n)) [] h = refl
command_reads v (suc zero) (t ∷ ts) h = command_kind_1 v t.kind t.offset ts
command_reads v (suc (suc n)) (t ∷ ts) h = command_kind_2 v n t.kind t.offset ts

-- Where a phrase doesn't begin, it is stuck at once.
pub stuck_at_once : {Call : Type 0} {Value : Call → Type 0} {X : Type 0} →
    (cl : Classes Call) (cs : Calls Call Value) (M : (c : Call) → Value c → List Token → Type 0) → Known cl cs M →
    (g : Grammar Call Value X) → not (empty g) ≡ true → (ts : List Token) → first_is (begins cs g) ts ≡ false → (x : Reading X) →
    Outcome (Spells M g) (read cs g) ts x → x ≡ Err ts
stuck_at_once cl cs M known g ne ts f (Ok x) o = absurd (go o.word o.cut o.is)
  where
    go : (w : List Token) → ts ≡ w ++ x.1 → Spells M g x.0 w → ⊥
    go [] e p = never_both (empty g) ne (empty_word cl cs M known g x.0 p)
    go (t ∷ w) e p = true≢false (sym (word_begins cl cs M known g x.0 t w p) ∙ sym (ap (first_is (begins cs g)) e) ∙ f)
stuck_at_once cl cs M known g ne ts f (Err rest) o = ap Err (sym (go o.word o.cut o.is))
  where
    go : (w : List Token) → ts ≡ w ++ rest → Spells M g o.value (w ++ o.more) → ts ≡ rest
    go [] e p = e
    go (t ∷ w) e p = absurd (true≢false (sym (word_begins cl cs M known g o.value t (w ++ o.more) p) ∙ sym (ap (first_is (begins cs g)) e) ∙ f))

-- A block: where no command begins, only its end may come.
block_rest : (v : Version) (room : ℕ) (r : List Token) → Reading s.Commands
block_rest v room r = command_read v room r >>= λ b. commands_read v room b.1 >>= λ c. mark_read mark.CloseBrace c.1 >>= λ d. Ok (commands (b.0 ∷ c.0), d.1)

-- what is refused as a mark is left as it was
mark_err : (m : Mark) (ts e : List Token) → mark_read m ts ≡ Err e → e ≡ ts
mark_err m [] e h = sym (ap err_of h)
  where
    err_of : Reading (Unit {0}) → List Token
    err_of (Ok x) = x.1
    err_of (Err e) = e
mark_err m (t ∷ ts) e h = go (takes (number_of m ∷ []) (λ k. true) t.kind) h
  where
    err_of : Reading (Unit {0}) → List Token
    err_of (Ok x) = t ∷ ts
    err_of (Err e) = e

    go : (b : Bool) → if◌then◌else◌ {A = Reading (Unit {0})} b (Ok (tt, ts)) (Err (t ∷ ts)) ≡ Err e → e ≡ t ∷ ts
    go true h = cc
    go false h = sym (ap err_of h)

one_class : (n m : ℕ) → ((n == m) || false) ≡ true → n ≡ m
one_class n m h = eqb-true n m (go (n == m) h)
  where
    go : (b : Bool) → (b || false) ≡ true → b ≡ true
    go true h = refl
    go false h = cc

-- no command begins with a closing brace
brace_begins : (v : Version) (room : ℕ) (ts r : List Token) (u : Unit {0}) → mark_read mark.CloseBrace ts ≡ Ok (u, r) →
    first_is ((calls_at rule room).begins (Command v)) ts ≡ false
brace_begins v room ts r u e =
    let t = marked mark.CloseBrace ts r u e in
    let c : class_of t.0.kind ≡ number_of mark.CloseBrace = one_class (class_of t.0.kind) (number_of mark.CloseBrace) (and_parts _ true t.2).0 in
    ap (first_is ((calls_at rule room).begins (Command v))) t.1
    ∙ false_from_ne_true ((calls_at rule room).begins (Command v) t.0.kind)
    (λ b. true≢false (sym ((known_at classes rule decided room).starts (Command v) t.0.kind b) ∙ ap (has (classes.starts (Command v))) c))

no_room : (v : Version) (ts : List Token) → first_is ((calls_at rule 0).begins (Command v)) ts ≡ false
unfolding calls_at
no_room v [] = refl
no_room v (t ∷ ts) = refl

command_stuck : (v : Version) (room : ℕ) (r : List Token) → 0 < room → first_is ((calls_at rule room).begins (Command v)) r ≡ false → command_read v room r ≡ Err r
unfolding command_read read
command_stuck v room r h f =
    stuck_at_once classes (calls_at rule room) (Means rule room) (known_at classes rule decided room) (call (Command v)) refl r f
    ((calls_at rule room).reads (Command v) r)
    (read_outcome classes (calls_at rule room) (Means rule room) (known_at classes rule decided room) (call (Command v)) refl (exists_command v room h) r)

after_command : (v : Version) (room : ℕ) → Reading s.Command → Reading s.Commands
after_command v room x = x >>= λ b. commands_read v room b.1 >>= λ c. mark_read mark.CloseBrace c.1 >>= λ d. Ok (commands (b.0 ∷ c.0), d.1)

stuck_rest : (v : Version) (n : ℕ) (r : List Token) → first_is ((calls_at rule (suc n)).begins (Command v)) r ≡ false → block_rest v (suc n) r ≡ Err r
unfolding block_rest after_command
stuck_rest v n r f = ap (after_command v (suc n)) (command_stuck v (suc n) r (omega arith) f)

block_inner : (v : Version) (room : ℕ) (r : List Token) (b : Bool) → first_is ((calls_at rule room).begins (Command v)) r ≡ b → (m : Reading (Unit {0})) →
    mark_read mark.CloseBrace r ≡ m →
    (if b then block_rest v room r else (m >>= λ d. Ok (s.NoCommand, d.1)))
    ≡ on_marked m (λ r. Ok (s.NoCommand, r)) (if nat_lt 0 room then block_rest v room r else Err r)
block_inner v room r true f (Ok x) e = absurd (true≢false (sym f ∙ brace_begins v room r x.1 x.0 e))
block_inner v zero r true f (Err x) e = absurd (true≢false (sym f ∙ no_room v r))
block_inner v (suc n) r true f (Err x) e = sym (if_true (nat_lt 0 (suc n)) (block_rest v (suc n) r) (Err r) (lt-ltb 0 (suc n) (omega arith)))
block_inner v room r false f (Ok x) e = refl
block_inner v zero r false f (Err x) e = ap Err (mark_err mark.CloseBrace r x e)
block_inner v (suc n) r false f (Err x) e =
    ap Err (mark_err mark.CloseBrace r x e) ∙ sym (stuck_rest v n r f)
    ∙ sym (if_true (nat_lt 0 (suc n)) (block_rest v (suc n) r) (Err r) (lt-ltb 0 (suc n) (omega arith)))

pub begins_same : (p : Kind → Bool) (q : Kind → Bool) (r : List Token) → first_is (λ k. (p k && true) || (false && q k)) r ≡ first_is p r
begins_same p q [] = refl
begins_same p q (t ∷ r) = one (p t.kind) (q t.kind)
  where
    one : (a b : Bool) → ((a && true) || (false && b)) ≡ a
    one true b = refl
    one false b = refl

abbrev pub semi_command : Version → Rule s.Command
semi_command v = lead mark.Semicolon (call (Command v))

in_front_of : (x : s.Command) (r : Reading (List s.Command)) (f : List s.Command × List Token → Reading s.Commands) → (r >>= λ c. f (x ∷ c.0, c.1)) ≡ (with_front (x ∷ []) r >>= f)
in_front_of x (Ok c) f = refl
in_front_of x (Err e) f = refl

one_list : (v : Version) (room : ℕ) (r : List Token) → block_rest v room r ≡ (command_read v room r >>= λ b. with_front (b.0 ∷ []) (commands_read v room b.1) >>= λ c. mark_read mark.CloseBrace c.1 >>= λ d. Ok (commands c.0, d.1))
unfolding block_rest
one_list v room r =
    bind_same (command_read v room r) _ _ (λ b. in_front_of b.0 (commands_read v room b.1) (λ c. mark_read mark.CloseBrace c.1 >>= λ d. Ok (commands c.0, d.1)))

pub block_reads : (v : Version) (room : ℕ) (ts : List Token) → block_read v room ts ≡ block_do v room ts
unfolding block_read block_do command_read commands_read read_then block_rest
block_reads v room ts =
    reads_part (calls_at rule room) _ ts
    ∙ bind_same (mark_read mark.OpenBrace ts) _ _ (λ a.
    ap (λ (b : Bool). if b then block_rest v room a.1 else (mark_read mark.CloseBrace a.1 >>= λ d. Ok (s.NoCommand, d.1)))
    (begins_same ((calls_at rule room).begins (Command v)) (λ k. begins (calls_at rule room) (many (semi_command v)) k) a.1)
    ∙ block_inner v room a.1 (first_is ((calls_at rule room).begins (Command v)) a.1) refl (mark_read mark.CloseBrace a.1) refl
    ∙ ap (λ r. if_marked mark.CloseBrace a.1 (λ r. Ok (s.NoCommand, r)) (if nat_lt 0 room then r else Err a.1)) (one_list v room a.1))
