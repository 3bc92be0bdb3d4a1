use Rattle.homeo_assembly.specs.Key.{definitions}
use Rattle.std.proofs.Common.{rules, ◌≡◌, [], ◌∷◌, pos, w64, to_z, of_z}
use Rattle.std.proofs.lemmas.Int.{to_z-of_z}
use Rattle.homeo_assembly.specs.Written.{upper, lower}
use Rattle.homeo_cluster.proofs.writing.closing_head.Goals as goal

pub returns : goal.returns
unfolding definitions
returns c =
    let u1 : to_z w64 (of_z w64 c.upper.result) ≡ upper (pos c.args.seq) = search (rules, to_z-of_z) in
    let l1 : to_z w64 (of_z w64 c.lower.result) ≡ lower (pos c.args.seq) = search (rules, to_z-of_z) in
    let u2 : to_z w64 (of_z w64 c.upper-2.result) ≡ upper (pos c.args.site) = search (rules, to_z-of_z) in
    let l2 : to_z w64 (of_z w64 c.lower-2.result) ≡ lower (pos c.args.site) = search (rules, to_z-of_z) in
    let u3 : to_z w64 (of_z w64 c.upper-3.result) ≡ upper (pos c.args.round) = search (rules, to_z-of_z) in
    let l3 : to_z w64 (of_z w64 c.lower-3.result) ≡ lower (pos c.args.round) = search (rules, to_z-of_z) in
    let u4 : to_z w64 (of_z w64 c.upper-4.result) ≡ upper (pos c.args.broken.clause) = search (rules, to_z-of_z) in
    let l4 : to_z w64 (of_z w64 c.lower-4.result) ≡ lower (pos c.args.broken.clause) = search (rules, to_z-of_z) in
    let u5 : to_z w64 (of_z w64 c.upper-5.result) ≡ upper c.args.broken.sum = search (rules, to_z-of_z) in
    let l5 : to_z w64 (of_z w64 c.lower-5.result) ≡ lower c.args.broken.sum = search (rules, to_z-of_z) in
    let u6 : to_z w64 (of_z w64 c.upper-6.result) ≡ upper c.args.broken.bound = search (rules, to_z-of_z) in
    let l6 : to_z w64 (of_z w64 c.lower-6.result) ≡ lower c.args.broken.bound = search (rules, to_z-of_z) in
    (λ i. u1 i ∷ l1 i ∷ u2 i ∷ l2 i ∷ u3 i ∷ l3 i ∷ pos 1 ∷ u4 i ∷ l4 i ∷ u5 i ∷ l5 i ∷ u6 i ∷ l6 i ∷ [])
