-- Tokens laid out one after another.
use Rattle.std.proofs.Common.{◌≡◌, ℕ, ◌+◌, ◌<◌, ◌≤◌, List, ◌∷◌, ◌++◌, length, map, drop, get_or, append_assoc, add-one, drop-cons, refl, sym, ap, ◌∙◌}
use Rattle.std.specs.Prelude.{codes}
use Rattle.std.proofs.lemmas.List.{drop_all}
use Rattle.homeo_syntax.specs.declared.token.Kind.{Kind}
use Rattle.homeo_print_workload.specs.declared.layout.Sort.{Sort}
use Rattle.homeo_print_workload.specs.declared.layout.Before.{Before}
use Rattle.homeo_print_workload.specs.declared.layout.Before.TheVariants as before
use Rattle.homeo_print_workload.specs.declared.pieces.Piece.{Piece}
use Rattle.homeo_syntax.specs.Key.{definitions as syntax_definitions}
use Rattle.homeo_syntax.specs.SourceView.{plain_workload}
use Rattle.homeo_syntax.specs.declared.workload.Workload.{Workload}
use Rattle.homeo_print_workload.specs.Print.{print}
use Rattle.homeo_print_workload.specs.TokensOf.{workload_kinds}
use Rattle.homeo_print_workload.specs.Key.{definitions}
use Rattle.homeo_print_workload.specs.inner.Pieces.{kind_of}
use Rattle.homeo_print_workload.specs.Layout.{token_text, sort_of, gap, after, laid, printed}

pub laid_first : (names : List (List ℕ)) (ks : List Kind) → printed names ks ≡ laid names before.Tight ks
unfolding definitions
laid_first names ks = refl

here : (pieces : List Piece) (i : ℕ) (d : Piece) → i < length pieces → drop i pieces ≡ get_or pieces i d ∷ drop (i + 1) pieces
here pieces i d within = rw add-one (drop-cons pieces i d within)

-- one token more is put behind the text
pub laid_more : (names : List (List ℕ)) (b : Before) (pieces : List Piece) (i : ℕ) (d : Piece) (whole text gapped new : List ℕ) (s : Sort) (c : Before) → i < length pieces →
    text ++ laid names b (map kind_of (drop i pieces)) ≡ whole → s ≡ sort_of (kind_of (get_or pieces i d)) → gapped ≡ text ++ gap b s → new ≡ gapped ++ token_text names (kind_of (get_or pieces i d)) → c ≡ after b s →
    new ++ laid names c (map kind_of (drop (i + 1) pieces)) ≡ whole
unfolding definitions
laid_more names b pieces i d whole text gapped new s c within so_far sort put_gap put_token next =
    let k = kind_of (get_or pieces i d) in
    let rest = map kind_of (drop (i + 1) pieces) in
    let more = laid names (after b s) rest in
    ap (λ l. l ++ laid names c rest) (put_token ∙ ap (λ l. l ++ token_text names k) put_gap)
    ∙ ap (λ a. ((text ++ gap b s) ++ token_text names k) ++ laid names a rest) next
    ∙ append_assoc (text ++ gap b s) (token_text names k) more
    ∙ append_assoc text (gap b s) (token_text names k ++ more)
    ∙ ap (λ t. text ++ (gap b t ++ (token_text names k ++ laid names (after b t) rest))) sort
    ∙ ap (λ ps. text ++ laid names b (map kind_of ps)) (sym (here pieces i d within))
    ∙ so_far

pub laid_end : (names : List (List ℕ)) (b : Before) (pieces : List Piece) (i : ℕ) → length pieces ≤ i → laid names b (map kind_of (drop i pieces)) ≡ codes "\n"
unfolding definitions
laid_end names b pieces i past = ap (λ ps. laid names b (map kind_of ps)) (drop_all i pieces past)

pub print_is : (w : Workload) → print (plain_workload w) ≡ printed w.names.items (workload_kinds (plain_workload w))
unfolding definitions syntax_definitions
print_is w = refl
