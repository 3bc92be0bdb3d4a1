-- The entry at that place is the one that is picked.
use Rattle.std.proofs.Common.{◌<◌, [], ◌∷◌, length, get_or, sym, ap, ◌∙◌, subst, arith}
use Rattle.homeo_merge.proofs.Picking.{place_within, call_there}
use Rattle.homeo_merge.proofs.merge.call_at.Goals as goal

pub offset_bounds-as_slice-place : goal.offset_bounds-as_slice-place
offset_bounds-as_slice-place c =
    let s = c.index-segments-site in
    let entries = c.as_slice.ensures ∙ ap (λ x. x.entries.items) (sym s.is) in
    let within = place_within c.args.segments.now c.args.site c.args.place s.result c.as_slice.result.now c.requires.site s.is c.requires.place entries in
    omega (arith, c.as_slice.type_inv.1, within)

pub bounds-as_slice-place : goal.bounds-as_slice-place
bounds-as_slice-place c =
    let s = c.index-segments-site in
    let entries = c.as_slice.ensures ∙ ap (λ x. x.entries.items) (sym s.is) in
    place_within c.args.segments.now c.args.site c.args.place s.result c.as_slice.result.now c.requires.site s.is c.requires.place entries

pub bounds-as_slice-place-2 : goal.bounds-as_slice-place-2
bounds-as_slice-place-2 c =
    let s = c.index-segments-site in
    let entries = c.as_slice.ensures ∙ ap (λ x. x.entries.items) (sym s.is) in
    place_within c.args.segments.now c.args.site c.args.place s.result c.as_slice.result.now c.requires.site s.is c.requires.place entries

pub returns : goal.returns
returns c =
    let s = c.index-segments-site in
    let e = c.index-as_slice-place in
    let entries = c.as_slice.ensures ∙ ap (λ x. x.entries.items) (sym s.is) in
    let within = place_within c.args.segments.now c.args.site c.args.place s.result c.as_slice.result.now c.requires.site s.is c.requires.place entries in
    call_there c.args.segments.now c.args.site c.args.place s.result e.result c.requires.site s.is
    (subst (λ l. c.args.place < length l) entries within) (e.is ∙ ap (λ l. get_or l c.args.place e.result) entries)
    ∙ ap (λ x. x.call ∷ []) e.is
