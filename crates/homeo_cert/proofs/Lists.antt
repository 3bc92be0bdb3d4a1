-- What is sent of a list.
use Rattle.std.proofs.Common.{◌≡◌, ℕ, suc, ◌+◌, ◌<◌, ◌≤◌, List, [], ◌∷◌, map, length, drop, get_or, Some, refl, sym, ap, ◌∙◌, subst}
use Rattle.std.proofs.lemmas.List.{length-map}
use Rattle.serde.specs.Event.{Log, Logs, seq_begins, seq_ends}
use Rattle.serde_json.specs.Data.{Data}
use Rattle.serde_json.specs.Events.{items_len, SendsValue, SendsItems}
use Rattle.serde_json.specs.View.{items_of}
use Rattle.homeo_lemmas.proofs.Lists.{map_drop_past}
use Rattle.homeo_meaning.proofs.Steps.{drop_next}
use Rattle.homeo_certificate.specs.Json.{list_data}

-- of all, those before the rest are sent: whatever ends the list well from here ends it well from the start
abbrev pub SendsUpTo : {A : Type 0} → (A → Data) → List A → List A → Log → Log → Type 0
SendsUpTo f all rest first now = (end : Log) → SendsItems (items_of (map f rest)) now end → SendsItems (items_of (map f all)) first end

pub list_more :
    {A : Type 0} (f : A → Data) (xs : List A) (i : ℕ) (x : A) (first old new : Log) → i < length xs → x ≡ get_or xs i x →
    SendsValue (f x) old new → SendsUpTo f xs (drop i xs) first old → SendsUpTo f xs (drop (i + 1) xs) first new
list_more f xs i x first old new within is sent so_far end ended =
    so_far end (subst (λ ds. SendsItems (items_of ds) old end) (sym (drop_next f xs i x within is)) (new, sent, ended))

items_counted : (ds : List Data) → items_len (items_of ds) ≡ length ds
items_counted [] = refl
items_counted (d ∷ ds) = ap suc (items_counted ds)

-- begun with its count, and ended behind its last item
pub list_sent :
    {A : Type 0} (f : A → Data) (xs : List A) (n i : ℕ) (old first last new : Log) → n ≡ length xs → length xs ≤ i →
    Logs old first (seq_begins (Some n)) → SendsUpTo f xs (drop i xs) first last → Logs last new seq_ends → SendsValue (list_data (map f xs)) old new
list_sent f xs n i old first last new count past begun so_far ended =
    let counted : n ≡ items_len (items_of (map f xs)) = count ∙ sym (items_counted (map f xs) ∙ length-map xs f) in (
      first,
      subst (λ m. Logs old first (seq_begins (Some m))) counted begun,
      so_far new (subst (λ ds. SendsItems (items_of ds) last new) (sym (map_drop_past f xs i past)) ended),
    )
