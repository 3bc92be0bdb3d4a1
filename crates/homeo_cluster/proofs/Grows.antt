-- Steps of a holder, one after another.
use Rattle.std.proofs.Common.{◌≡◌, ◌≢◌, ℕ, [], ◌∷◌, ◌++◌, Some, None, sym, ap, ◌∙◌, subst}
use lib.ListN.{get_or}
use Rattle.homeo_notes.specs.Lines.{Held, Entry, Entries, put, or_empty, owned_at, list_at, seen_at, IsOwner, HasSeen, with_list}
use Rattle.homeo_notes.proofs.Lists.{get_or-put_same, get_or-put_other}
use Rattle.homeo_notes.proofs.Prefixes.{prefix_self, prefix_trans}
use Rattle.homeo_cluster.specs.inner.Grows.{Rose, Grew}

pub rose_list : (a b : Held) (i : ℕ) → Rose a b → list_at b i ≡ list_at a i
rose_list a b i r = ap (λ os. or_empty (get_or os i None)) r.owned

pub rose_owner : (a b : Held) (i : ℕ) → Rose a b → IsOwner a i → IsOwner b i
rose_owner a b i r o = subst (λ os. get_or os i None ≡ Some (or_empty (get_or os i None))) (sym r.owned) o

pub rose_seen : (a b : Held) (i : ℕ) (xs : Entries) → Rose a b → HasSeen a i xs → HasSeen b i xs
rose_seen a b i xs r h = prefix_trans xs (seen_at a i) (seen_at b i) h (r.seen i)

pub grew_same : (a b : Held) (line i : ℕ) (e : Entry) → Grew a b line e → i ≡ line → list_at b i ≡ list_at a line ++ e ∷ []
grew_same a b line i e g is = ap (λ os. or_empty (get_or os i None)) g.owned ∙ ap (λ k. or_empty (get_or (put None a.owned line (Some (list_at a line ++ e ∷ []))) k None)) is ∙ ap or_empty (get_or-put_same None a.owned line (Some (list_at a line ++ e ∷ [])))

pub grew_other : (a b : Held) (line i : ℕ) (e : Entry) → Grew a b line e → i ≢ line → owned_at b i ≡ owned_at a i
grew_other a b line i e g ne = ap (λ os. get_or os i None) g.owned ∙ get_or-put_other None a.owned line i (Some (list_at a line ++ e ∷ [])) ne

pub grew_owner_same : (a b : Held) (line i : ℕ) (e : Entry) → Grew a b line e → i ≡ line → IsOwner b i
grew_owner_same a b line i e g is =
    let at : owned_at b i ≡ Some (list_at a line ++ e ∷ []) = ap (λ os. get_or os i None) g.owned ∙ ap (λ k. get_or (put None a.owned line (Some (list_at a line ++ e ∷ []))) k None) is ∙ get_or-put_same None a.owned line (Some (list_at a line ++ e ∷ [])) in
    at ∙ ap Some (sym (ap or_empty at))

pub grew_owner_other : (a b : Held) (line i : ℕ) (e : Entry) → Grew a b line e → i ≢ line → IsOwner a i → IsOwner b i
grew_owner_other a b line i e g ne o = let at = grew_other a b line i e g ne in at ∙ o ∙ ap Some (sym (ap or_empty at))

pub grew_list_other : (a b : Held) (line i : ℕ) (e : Entry) → Grew a b line e → i ≢ line → list_at b i ≡ list_at a i
grew_list_other a b line i e g ne = ap or_empty (grew_other a b line i e g ne)

pub grew_seen : (a b : Held) (line i : ℕ) (e : Entry) (xs : Entries) → Grew a b line e → HasSeen a i xs → HasSeen b i xs
grew_seen a b line i e xs g h = prefix_trans xs (seen_at a i) (seen_at b i) h (g.seen i)

pub grew_by_extend : (a b : Held) (line : ℕ) (e : Entry) → b ≡ with_list a line (list_at a line ++ e ∷ []) → Grew a b line e
grew_by_extend a b line e is = record {
  owned = ap (λ (h : Held). h.owned) is;
  seen = λ i. subst (λ (h : Held). HasSeen h i (seen_at a i)) (sym is) (prefix_self (seen_at a i));
}

pub rose_grew_rose : (a b c d : Held) (line : ℕ) (e : Entry) → Rose a b → Grew b c line e → Rose c d → Grew a d line e
rose_grew_rose a b c d line e r g r' = record {
  owned = r'.owned ∙ g.owned ∙ ap (λ os. put None os line (Some (or_empty (get_or os line None) ++ e ∷ []))) r.owned;
  seen = λ i. prefix_trans (seen_at a i) (seen_at b i) (seen_at d i) (r.seen i) (prefix_trans (seen_at b i) (seen_at c i) (seen_at d i) (g.seen i) (r'.seen i));
}
