-- What is sent of lists and objects.
use Rattle.std.proofs.Common.{◌≡◌, ℕ, suc, ◌+◌, ◌<◌, ◌≤◌, List, [], ◌∷◌, ◌++◌, map, length, drop, get_or, ℤ, pos, negsuc, ◌≤ℤ◌, Option, Some, None, option_map, refl, sym, ap, ap₂, ◌∙◌, subst, arith, append_assoc, append-nil}
use Rattle.std.proofs.lemmas.Int.{ints}
use Rattle.std.proofs.lemmas.List.{length-map, length-append}
use Rattle.serde.specs.Event.{Log, Logs, seq_begins, seq_ends, map_begins, map_ends, signed, unsigned}
use Rattle.serde_json.specs.Data.{Data}
use Rattle.serde_json.specs.Events.{items_len, members_len, SendsValue, SendsItems, SendsMembers}
use Rattle.serde_json.specs.View.{items_of}
use Rattle.homeo_lemmas.proofs.Lists.{drop_past}
use Rattle.homeo_certificate.specs.Json.{whole_data, list_data}
use Rattle.homeo_print.specs.Names.{name_at}
use Rattle.homeo_lines.specs.Written.{Field, members_of, object_of, maybe_data, key_of, named_values}
use Rattle.homeo_lines.specs.inner.Sends.{SendsField, SendsFields, Begins}
use Rattle.homeo_lines.proofs.Lists.{next}

-- ---- lists
-- of all, those before the rest are sent: whatever ends the list well from here ends it well from the start
pub record SendsUpTo {A : Type 0} (f : A → Data) (all rest : List A) (first now : Log) : Type 0 where
  pub ends : (end : Log) → SendsItems (items_of (map f rest)) now end → SendsItems (items_of (map f all)) first end

pub none_sent : {A : Type 0} (f : A → Data) (xs : List A) (log : Log) → SendsUpTo f xs (drop 0 xs) log log
none_sent f xs log = record { ends = λ end h. h }

pub more_sent :
    {A : Type 0} (f : A → Data) (xs : List A) (i : ℕ) (x : A) (first old new : Log) → i < length xs → x ≡ get_or xs i x →
    SendsValue (f x) old new → SendsUpTo f xs (drop i xs) first old → SendsUpTo f xs (drop (i + 1) xs) first new
more_sent f xs i x first old new within is sent so_far =
    subst (λ j. SendsUpTo f xs (drop j xs) first new) (let e : suc i ≡ i + 1 = omega arith in e)
    (record { ends = λ end ended. so_far.ends end (subst (λ ds. SendsItems (items_of (map f ds)) old end) (sym (next xs i x within is)) (new, sent, ended)) })

items_counted : (ds : List Data) → items_len (items_of ds) ≡ length ds
items_counted [] = refl
items_counted (d ∷ ds) = ap suc (items_counted ds)

-- begun with its count, and ended behind its last item
pub list_sent :
    {A : Type 0} (f : A → Data) (xs : List A) (n i : ℕ) (old first last new : Log) → n ≡ length xs → length xs ≤ i →
    Logs old first (seq_begins (Some n)) → SendsUpTo f xs (drop i xs) first last → Logs last new seq_ends → SendsValue (list_data (map f xs)) old new
list_sent f xs n i old first last new count over begun so_far ended =
    let counted : n ≡ items_len (items_of (map f xs)) = count ∙ sym (items_counted (map f xs) ∙ length-map xs f) in (
      first,
      subst (λ m. Logs old first (seq_begins (Some m))) counted begun,
      so_far.ends new (subst (λ ds. SendsItems (items_of (map f ds)) last new) (sym (drop_past xs i over)) ended),
    )

-- ---- objects
pub members_counted : (fs : List Field) → members_len (members_of fs) ≡ length fs
members_counted [] = refl
members_counted (f ∷ fs) = ap suc (members_counted fs)

-- that these members are sent, as a record
pub record AreSent (fs : List Field) (old new : Log) : Type 0 where
  pub sends : SendsFields fs old new

pub sent_of : (fs : List Field) {old new : Log} → AreSent fs old new → SendsFields fs old new
sent_of fs h = h.sends

-- the last member, or the last ones
pub field_sent : {f : Field} {old new : Log} → SendsField f old new → AreSent (f ∷ []) old new
field_sent {new = new} h = record { sends = λ rest end r. (h.0, new, h.1, h.2, r) }

pub fields_sent : {fs : List Field} {old new : Log} → SendsFields fs old new → AreSent fs old new
fields_sent h = record { sends = h }

-- and others behind them
pub then_field : {f : Field} {fs : List Field} {old mid new : Log} → SendsField f old mid → AreSent fs mid new → AreSent (f ∷ fs) old new
then_field {mid = mid} h k = record { sends = λ rest end r. (h.0, mid, h.1, h.2, k.sends rest end r) }

pub both_sent : (fs : List Field) {gs : List Field} {old mid new : Log} → SendsFields fs old mid → AreSent gs mid new → AreSent (fs ++ gs) old new
both_sent fs {gs = gs} {old = old} h k =
    record { sends = λ rest end r. subst (λ xs. SendsMembers (members_of xs) old end) (sym (append_assoc fs gs rest)) (h (gs ++ rest) end (k.sends rest end r)) }

-- members whose values are written otherwise
as_written : (key : List ℕ) (d e : Data) (old new : Log) → d ≡ e → SendsField (key, d) old new → SendsField (key, e) old new
as_written key d e old new same h = subst (λ x. SendsField (key, x) old new) same h

pub field_as : (key : List ℕ) {d e : Data} {old new : Log} → d ≡ e → SendsField (key, d) old new → AreSent ((key, e) ∷ []) old new
field_as key {d = d} {e = e} {old = old} {new = new} same h = field_sent (as_written key d e old new same h)

pub then_as : (key : List ℕ) {d e : Data} {fs : List Field} {old mid new : Log} → d ≡ e → SendsField (key, d) old mid → AreSent fs mid new → AreSent ((key, e) ∷ fs) old new
then_as key {d = d} {e = e} {old = old} {mid = mid} same h k = then_field (as_written key d e old mid same h) k

pub object_sent :
    (fs : List Field) (n : ℕ) (old new : Log) {first last : Log} → n ≡ length fs → Logs old first (map_begins (Some n)) → AreSent fs first last →
    Logs last new map_ends → SendsValue (object_of fs) old new
object_sent fs n old new {first = first} count begun sent ended =
    let counted : n ≡ members_len (members_of fs) = count ∙ sym (members_counted fs) in (
      first,
      subst (λ m. Logs old first (map_begins (Some m))) counted begun,
      subst (λ xs. SendsMembers (members_of xs) first new) (append-nil fs) (sent.sends [] new ended),
    )

-- begun with its first members, and ended behind the others
pub typed_sent :
    (fs gs : List Field) (n : ℕ) (new : Log) {old mid last : Log} → n ≡ length gs → Begins fs n old mid → AreSent gs mid last → Logs last new map_ends →
    SendsValue (object_of (fs ++ gs)) old new
typed_sent fs gs n new {old = old} count b sent ended =
    let all : length fs + n ≡ length (fs ++ gs) = ap (λ m. length fs + m) count ∙ sym (length-append fs gs) in
    object_sent (fs ++ gs) (length fs + n) old new all b.begins (both_sent fs b.sends sent) ended

-- ---- what is seen of values
pub maybe_seen : {A B : Type 0} (f : B → Data) (see : A → B) (o : Option A) → maybe_data (λ x. f (see x)) o ≡ maybe_data f (option_map see o)
maybe_seen f see None = refl
maybe_seen f see (Some x) = refl

seen : {A B : Type 0} (f : B → Data) (see : A → B) (xs : List A) → map (λ x. f (see x)) xs ≡ map f (map see xs)
seen f see [] = refl
seen f see (x ∷ xs) = ap (λ ds. f (see x) ∷ ds) (seen f see xs)

maybes : {A B : Type 0} (f : B → Data) (see : A → B) (xs : List (Option A)) → map (maybe_data (λ x. f (see x))) xs ≡ map (maybe_data f) (map (option_map see) xs)
maybes f see [] = refl
maybes f see (x ∷ xs) = ap₂ ◌∷◌ (maybe_seen f see x) (maybes f see xs)

pub each_seen : {A B : Type 0} (f : B → Data) (see : A → B) (xs : List A) → list_data (map (λ x. f (see x)) xs) ≡ list_data (map f (map see xs))
each_seen f see xs = ap list_data (seen f see xs)

pub each_maybe_seen : {A B : Type 0} (f : B → Data) (see : A → B) (xs : List (Option A)) → list_data (map (maybe_data (λ x. f (see x))) xs) ≡ list_data (map (maybe_data f) (map (option_map see) xs))
each_maybe_seen f see xs = ap list_data (maybes f see xs)

-- ---- values by name
-- of all, those before the place i are sent: whatever ends the object well from here ends it well from the start
pub record NamedUpTo (names : List (List ℕ)) (all : List ℤ) (i : ℕ) (first now : Log) : Type 0 where
  pub ends : (end : Log) → SendsMembers (members_of (named_values names i (drop i all))) now end → SendsMembers (members_of (named_values names 0 all)) first end

pub named_none : (names : List (List ℕ)) (ns : List ℤ) (log : Log) → NamedUpTo names ns 0 log log
named_none names ns log = record { ends = λ end h. h }

pub named_more :
    (names : List (List ℕ)) (ns : List ℤ) (i : ℕ) (n : ℤ) (first old new : Log) → i < length ns → n ≡ get_or ns i n →
    SendsField (key_of (name_at names i), whole_data n) old new → NamedUpTo names ns i first old → NamedUpTo names ns (i + 1) first new
named_more names ns i n first old new within is sent so_far =
    subst (λ j. NamedUpTo names ns j first new) (let e : suc i ≡ i + 1 = omega arith in e)
    (record { ends = λ end ended. so_far.ends end (subst (λ xs. SendsMembers (members_of (named_values names i xs)) old end) (sym (next ns i n within is)) (sent.0, new, sent.1, sent.2, ended)) })

named_counted : (names : List (List ℕ)) (k : ℕ) (ns : List ℤ) → length (named_values names k ns) ≡ length ns
named_counted names k [] = refl
named_counted names k (n ∷ ns) = ap suc (named_counted names (suc k) ns)

pub named_sent :
    (names : List (List ℕ)) (ns : List ℤ) (i : ℕ) (old first last new : Log) → length ns ≤ i → Logs old first (map_begins (Some (length ns))) →
    NamedUpTo names ns i first last → Logs last new map_ends → SendsValue (object_of (named_values names 0 ns)) old new
named_sent names ns i old first last new over begun so_far ended =
    let counted : length ns ≡ members_len (members_of (named_values names 0 ns)) = sym (members_counted (named_values names 0 ns) ∙ named_counted names 0 ns) in (
      first,
      subst (λ m. Logs old first (map_begins (Some m))) counted begun,
      so_far.ends new (subst (λ xs. SendsMembers (members_of (named_values names i xs)) last new) (sym (drop_past ns i over)) ended),
    )

-- ---- numbers
pub negative_sent : (n : ℤ) (old new : Log) → (pos 0 ≤ℤ n → ⊥) → Logs old new (signed n) → SendsValue (whole_data n) old new
negative_sent (pos n) old new below h = absurd (below (omega (arith, ints)))
negative_sent (negsuc n) old new below h = h

pub natural_sent : (n : ℤ) (m : ℕ) (old new : Log) → n ≡ pos m → Logs old new (unsigned m) → SendsValue (whole_data n) old new
natural_sent n m old new e h = subst (λ k. SendsValue (whole_data k) old new) (sym e) h

pub ruleset list_sends = (none_sent, more_sent)

pub ruleset named_sends = (named_none, named_more)

pub ruleset number_sends = (negative_sent, natural_sent)
