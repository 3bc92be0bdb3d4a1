-- Beginnings of lists.
use Rattle.std.proofs.Common.{◌≡◌, ◌<◌, ◌≤◌, Bool, true, false, ltb, List, [], ◌∷◌, ◌++◌, length, refl, ap, sym, ◌∙◌, arith, append_assoc}
use mathlib.Core.List.{IsPrefix}
use Rattle.std.proofs.lemmas.Bool.{ltb-true, ltb-false}
use Rattle.homeo_notes.specs.Lines.{Entries, longer}
pub use base.Growing.{prefix_refl as prefix_self, prefix_trans, prefix_anti as prefix_both}

module _ {A : Type 0} where
  pub prefix_nil : (xs : List A) → IsPrefix [] xs
  prefix_nil xs = (xs, refl)

  pub prefix_push : (xs ys zs : List A) → IsPrefix xs ys → IsPrefix xs (ys ++ zs)
  prefix_push xs ys zs p = (p.0 ++ zs, sym (append_assoc xs p.0 zs) ∙ ap (λ w. w ++ zs) p.1)

  -- of two prefixes of one list the shorter is a prefix of the longer
  pub prefix_shorter : (xs ys zs : List A) → IsPrefix xs zs → IsPrefix ys zs → length xs ≤ length ys → IsPrefix xs ys
  prefix_shorter [] ys zs p q le = (ys, refl)
  prefix_shorter (x ∷ xs) [] zs p q le = absurd (omega arith)
  prefix_shorter (x ∷ xs) (y ∷ ys) [] p q le = absurd (cc (p.1))
  prefix_shorter (x ∷ xs) (y ∷ ys) (z ∷ zs) p q le =
      let heads : x ≡ y = cc (p.1, q.1) in
      let rest = prefix_shorter xs ys zs (p.0, cc (p.1)) (q.0, cc (q.1)) (omega arith) in
      (rest.0, cc (heads, rest.1))

-- of two beginnings of one list the longer is one, and both begin it
longer_of : (b : Bool) (xs ys zs : Entries) → ltb (length xs) (length ys) ≡ b → IsPrefix xs zs → IsPrefix ys zs
    → IsPrefix (longer xs ys) zs × IsPrefix xs (longer xs ys) × IsPrefix ys (longer xs ys)
longer_of true xs ys zs e p q = let le : length xs < length ys = ltb-true _ _ e in
    rw e (q, prefix_shorter xs ys zs p q (omega arith), prefix_self ys)
longer_of false xs ys zs e p q = let le : length ys ≤ length xs = ltb-false _ _ e in
    rw e (p, prefix_self xs, prefix_shorter ys xs zs q p le)

pub longer_prefixes : (xs ys zs : Entries) → IsPrefix xs zs → IsPrefix ys zs → IsPrefix (longer xs ys) zs × IsPrefix xs (longer xs ys) × IsPrefix ys (longer xs ys)
longer_prefixes xs ys zs p q = longer_of (ltb (length xs) (length ys)) xs ys zs refl p q
