-- How many numbers entries, segments and rounds printed, with one more of them.
use Rattle.homeo_history.specs.Key.{definitions as history_definitions}
use Rattle.homeo_report.specs.Key.{definitions}
use Rattle.std.proofs.Common.{◌≡◌, ℕ, ◌+◌, ◌<◌, List, [], ◌∷◌, ◌++◌, map, length, take, get_or, append-nil, length-append, Some, None, sym, ap, ◌∙◌}
use Rattle.std.specs.List.{flat_map}
use Rattle.std.specs.Option.{option_map, option_to_list}
use Rattle.std.proofs.lemmas.List.{take_more}
use Rattle.std.proofs.lemmas.List.Folds.{flat_map-map}
use Rattle.std.proofs.lemmas.Grind.{flat_map-append}
use Rattle.homeo_history.specs.History as h
use Rattle.homeo_history.specs.HistoryView.{plain_entry, plain_segment, plain_closing, plain_round}
use Rattle.homeo_history.specs.Legal.{entries_of}
use Rattle.homeo_history.specs.declared.history.Closing.{Closing}
use Rattle.homeo_history.specs.declared.history.Segment.{Segment}
use Rattle.homeo_history.specs.declared.history.Round.{Round}
use Rattle.homeo_report.specs.Summary.{prints_in}

-- of two lists of entries, the one's and the other's
pub both_prints : (xs ys : List h.Entry) → length (prints_in (xs ++ ys)) ≡ length (prints_in xs) + length (prints_in ys)
unfolding definitions
both_prints xs ys =
    ap length (flat_map-append (λ (e : h.Entry). e.prints) xs ys) ∙ length-append (prints_in xs) (prints_in ys)

pub one_prints : (e : h.Entry) → length (prints_in (e ∷ [])) ≡ length e.prints
unfolding definitions
one_prints e = ap length (append-nil e.prints)

segments_more :
    (segments : List Segment) (i : ℕ) (s : Segment) → i < length segments → s ≡ get_or segments i s →
    flat_map plain_segment (take (i + 1) segments) ≡ flat_map plain_segment (take i segments) ++ plain_segment s
segments_more segments i s within is =
    ap (flat_map plain_segment) (take_more segments i s within)
    ∙ flat_map-append plain_segment (take i segments) (get_or segments i s ∷ [])
    ∙ ap (λ l. flat_map plain_segment (take i segments) ++ l) (append-nil (plain_segment (get_or segments i s)) ∙ ap plain_segment (sym is))

-- ---- a round's entries
pub open_entries : (r : Round) → r.closing ≡ None → entries_of (plain_round r) ≡ flat_map plain_segment r.segments.items
unfolding history_definitions
open_entries r e =
    ap (λ o. flat_map (λ (es : List h.Entry). es) (map plain_segment r.segments.items) ++ option_to_list (option_map (λ (c : h.Closing). c.entry) (option_map plain_closing o))) e
    ∙ append-nil (flat_map (λ (es : List h.Entry). es) (map plain_segment r.segments.items))
    ∙ flat_map-map (λ (es : List h.Entry). es) plain_segment r.segments.items

pub closed_entries :
    (r : Round) (c : Closing) → r.closing ≡ Some c →
    entries_of (plain_round r) ≡ flat_map plain_segment r.segments.items ++ plain_entry c.entry ∷ []
unfolding history_definitions
closed_entries r c e =
    ap (λ o. flat_map (λ (es : List h.Entry). es) (map plain_segment r.segments.items) ++ option_to_list (option_map (λ (c : h.Closing). c.entry) (option_map plain_closing o))) e
    ∙ ap (λ l. l ++ plain_entry c.entry ∷ []) (flat_map-map (λ (es : List h.Entry). es) plain_segment r.segments.items)

pub closed_prints :
    (r : Round) (c : Closing) → r.closing ≡ Some c →
    length (prints_in (entries_of (plain_round r))) ≡
    length (prints_in (flat_map plain_segment r.segments.items)) + length c.entry.prints.items
unfolding history_definitions
closed_prints r c e =
    ap (λ es. length (prints_in es)) (closed_entries r c e)
    ∙ both_prints (flat_map plain_segment r.segments.items) (plain_entry c.entry ∷ [])
    ∙ ap (λ n. length (prints_in (flat_map plain_segment r.segments.items)) + n) (one_prints (plain_entry c.entry))
