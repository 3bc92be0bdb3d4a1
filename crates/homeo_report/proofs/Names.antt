-- What is true of the names of a well-formed workload, and of its clients' names where no global name stands twice.
use Rattle.std.proofs.Common.{◌≡◌, ◌≢◌, ℕ, zero, suc, ◌+◌, ◌<◌, nat_lt, Bool, true, false, List, [], ◌∷◌, ◌++◌, map, length, get_or, Some, AllPairs, slice_get, length-append, refl, sym, ap, ◌∙◌, subst, arith}
use Rattle.std.specs.Prelude.{unwrap_or, option_map}
use Rattle.std.specs.List.{list_all}
use Rattle.std.proofs.lemmas.List.{map-append, length-map, get_or-append-add}
use Rattle.std.proofs.lemmas.Option.{get_or_from_slice_get, slice_get-map, slice_get_within, unwrap_or-slice_get, same_Some}
use Rattle.std.proofs.lemmas.Bool.Decides.{nat_tests}
use Rattle.homeo_syntax.specs.Key.{definitions as syntax_definitions}
use Rattle.homeo_syntax.specs.Source as s
use Rattle.homeo_syntax.specs.Lexemes.{is_word}
use Rattle.homeo_syntax.specs.declared.token.Version.{Version}
use Rattle.homeo_syntax.specs.WellFormed.{IsName, Each, IsBelow, IsWellFormed}
use Rattle.homeo_syntax.specs.declared.phrase.Ident.{Ident}
use Rattle.homeo_syntax.specs.declared.workload.ObjectDecl.{ObjectDecl}
use Rattle.homeo_meaning.specs.Key.{definitions as meaning_definitions}
use Rattle.homeo_meaning.specs.GlobalNames.{GlobalName, numbered_from, global_names}
use Rattle.homeo_meaning.specs.declared.rules.Item.{Item}
use Rattle.homeo_meaning.specs.declared.rules.Item.TheVariants as I
use Rattle.homeo_report.specs.Key.{definitions}
use Rattle.homeo_print.specs.Key.{definitions as print_definitions}
use Rattle.homeo_print.specs.Names.{name_text}
use Rattle.homeo_report.proofs.Splits.{all_weaker}
use Rattle.homeo_report.proofs.Bytes.{is_not}
use Rattle.homeo_report.proofs.Lines.{HasPlainNames}
use Rattle.homeo_report.proofs.CallsTold.{HasDistinctClients}

-- ---- bytes of names
word_no_newline : (b : ℕ) → is_word b ≡ true → is_not 10 b ≡ true
word_no_newline b h = grind (arith, nat_tests)

word_no_space : (b : ℕ) → is_word b ≡ true → is_not 32 b ≡ true
word_no_space b h = grind (arith, nat_tests)

names_pass : (p : ℕ → Bool) → ((b : ℕ) → is_word b ≡ true → p b ≡ true) → (v : Version) (names : List (List ℕ)) → Each (IsName v) names → (i : ℕ) → list_all p (unwrap_or (slice_get names i) []) ≡ true
unfolding syntax_definitions
names_pass p f v [] h i = refl
names_pass p f v (n ∷ names) h zero = all_weaker is_word p n f h.0.all
names_pass p f v (n ∷ names) h (suc i) = names_pass p f v names h.1 i

pub plain_names : (w : s.Workload) → IsWellFormed w → HasPlainNames w
plain_names w well = record {
  no_newline = names_pass (is_not 10) word_no_newline well.form w.names well.spelled;
  no_space = names_pass (is_not 32) word_no_space well.form w.names well.spelled;
}

-- ---- distinct items
-- where no item stands twice, an item tells its place
told : {A : Type 0} (xs : List A) (d : A) → AllPairs (λ a b. a ≢ b) xs → (i j : ℕ) → i < length xs → j < length xs → get_or xs i d ≡ get_or xs j d → i ≡ j
told {A} xs d apart i j hi hj e = by (nat_lt i j) (nat_lt j i) refl refl
  where
    by : (a b : Bool) → nat_lt i j ≡ a → nat_lt j i ≡ b → i ≡ j
    by true b l m = absurd (apart i j d (grind (arith, nat_tests)) hj e)
    by false true l m = absurd (apart j i d (grind (arith, nat_tests)) hi (sym e))
    by false false l m = grind (arith, nat_tests)

second_apart : {A : Type 0} (xs ys : List A) → AllPairs (λ a b. a ≢ b) (xs ++ ys) → AllPairs (λ a b. a ≢ b) ys
second_apart xs ys h i j d lt within e =
    h (length xs + i) (length xs + j) d (omega (arith, lt)) (omega (arith, within, length-append xs ys)) (get_or-append-add xs ys i d ∙ e ∙ sym (get_or-append-add xs ys j d))

-- ---- the names of clients
abbrev client_numbers : s.Workload → List ℕ
client_numbers w = map (λ (c : s.Client). c.name.name) w.clients

abbrev global_numbers : List GlobalName → List ℕ
global_numbers ds = map (λ (x : Ident). x.name) (map (λ (d : GlobalName). d.name) ds)

numbered : (kind : ℕ → Item) (i : ℕ) (cs : List s.Client) → global_numbers (numbered_from kind i (map (λ (c : s.Client). c.name) cs)) ≡ map (λ (c : s.Client). c.name.name) cs
unfolding meaning_definitions
numbered kind i [] = refl
numbered kind i (c ∷ cs) = ap (λ l. c.name.name ∷ l) (numbered kind (i + 1) cs)

-- all but the clients
abbrev others : s.Workload → List GlobalName
others w =
    numbered_from I.Object 0 (map (λ (d : ObjectDecl). d.name) w.objects)
    ++ numbered_from I.Relation 0 (map (λ (d : s.RelationDecl). d.name) w.relations)
    ++ numbered_from I.Transaction 0 (map (λ (d : s.Transaction). d.name) w.transactions)

clients_last : (w : s.Workload) → global_numbers (global_names w) ≡ global_numbers (others w) ++ client_numbers w
unfolding meaning_definitions
clients_last w =
    let clients : List GlobalName = numbered_from I.Client 0 (map (λ (c : s.Client). c.name) w.clients) in
    ap (map (λ (x : Ident). x.name)) (map-append (λ (d : GlobalName). d.name) (others w) clients)
    ∙ map-append (λ (x : Ident). x.name) (map (λ (d : GlobalName). d.name) (others w)) (map (λ (d : GlobalName). d.name) clients)
    ∙ ap (λ l. global_numbers (others w) ++ l) (numbered I.Client 0 w.clients)

client_place : (w : s.Workload) (i : ℕ) (c : s.Client) → slice_get w.clients i ≡ Some c → get_or (client_numbers w) i 0 ≡ c.name.name
client_place w i c found =
    get_or_from_slice_get (client_numbers w) i c.name.name 0 (slice_get-map (λ (c : s.Client). c.name.name) w.clients i ∙ option_at found)
  where
    option_at : slice_get w.clients i ≡ Some c → option_map (λ (c : s.Client). c.name.name) (slice_get w.clients i) ≡ Some c.name.name
    option_at e = ap (option_map (λ (c : s.Client). c.name.name)) e

each_at : {A : Type 0} (P : A → Type 0) (xs : List A) (i : ℕ) (x : A) → Each P xs → slice_get xs i ≡ Some x → P x
unfolding syntax_definitions
each_at P [] i x h e = cc
each_at P (y ∷ xs) zero x h e = subst P (same_Some y x e) h.0
each_at P (y ∷ xs) (suc i) x h e = each_at P xs i x h.1 e

pub distinct_clients : (w : s.Workload) → IsWellFormed w → AllPairs (λ m n. m ≢ n) (global_numbers (global_names w)) → HasDistinctClients w
unfolding definitions print_definitions
distinct_clients w well apart = record { distinct = same }
  where
    below : (i : ℕ) (c : s.Client) → slice_get w.clients i ≡ Some c → c.name.name < length w.names
    below i c found = (each_at (λ (c : s.Client). IsBelow (length w.names) c.name × Each (λ (k : s.Call). IsBelow (length w.names) k.name) c.calls) w.clients i c well.named.clients found).0

    same : (i j : ℕ) (c d : s.Client) → slice_get w.clients i ≡ Some c → slice_get w.clients j ≡ Some d → name_text w c.name ≡ name_text w d.name → i ≡ j
    same i j c d p q e =
        let text : get_or w.names c.name.name [] ≡ get_or w.names d.name.name [] = sym (unwrap_or-slice_get w.names c.name.name []) ∙ e ∙ unwrap_or-slice_get w.names d.name.name [] in
        let name : c.name.name ≡ d.name.name = told w.names [] well.distinct c.name.name d.name.name (below i c p) (below j d q) text in
        let clients : AllPairs (λ m n. m ≢ n) (client_numbers w) = second_apart (global_numbers (others w)) (client_numbers w) (subst (AllPairs (λ m n. m ≢ n)) (clients_last w) apart) in
        let count : length (client_numbers w) ≡ length w.clients = length-map w.clients (λ (c : s.Client). c.name.name) in
        told (client_numbers w) 0 clients i j (omega (arith, count, slice_get_within w.clients i c p)) (omega (arith, count, slice_get_within w.clients j d q)) (client_place w i c p ∙ name ∙ sym (client_place w j d q))
