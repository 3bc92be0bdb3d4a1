-- What stands before the clients is read the same, whatever comes behind it.
use Rattle.std.proofs.Common.{◌≡◌, ℕ, ◌≤◌, true, false, List, [], ◌∷◌, ◌++◌, length, Option, refl, sym, ap, subst, ◌∙◌, append_assoc, append-nil, length-append, arith, inl, inr, true≢false}
use Rattle.std.specs.Prelude.{Ok, Err}
use Rattle.homeo_syntax.specs.declared.token.Mark.TheVariants as mark
use Rattle.homeo_syntax.specs.declared.token.Token.{Token}
use Rattle.homeo_syntax.specs.declared.token.Version.{Version}
use Rattle.homeo_syntax.specs.declared.token.Version.TheVariants.{First, Second}
use Rattle.homeo_syntax.specs.declared.phrase.Ident.{Ident}
use Rattle.homeo_syntax.specs.declared.phrase.Number.{Number}
use Rattle.homeo_syntax.specs.declared.workload.ObjectDecl.{ObjectDecl}
use Rattle.homeo_syntax.specs.Classes.{class_of, number_of}
use Rattle.homeo_syntax.specs.Grammar.{seq, many, Spells, Means, has}
use Rattle.homeo_syntax.specs.Rules.{Deep, Tree, Rule, rule, head, object, relation, transaction, client, schedule, offset_of, limit, IsWorkload}
use Rattle.homeo_syntax.specs.Source as s
use Rattle.homeo_syntax.specs.Versions.{version_number}
use Rattle.homeo_reader.specs.inner.Engine.{Reading, Calls, calls_at, read, goes_on, starts, apart, decides}
use Rattle.homeo_reader.specs.inner.FirstTokens.{classes}
use Rattle.homeo_reader.specs.Stands.{EndsDeclarations, DeclarationsStand}
use Rattle.homeo_reader.proofs.Words.{Clear, Known}
use Rattle.homeo_reader.proofs.Complete.{read_complete, known_at, word_clear}
use Rattle.homeo_reader.proofs.Decided.{decided}

-- ---- what stands before the clients, and what comes behind
abbrev Declared : Type 0
Declared = (Number × List Number) × (List ObjectDecl × (List s.RelationDecl × List s.Transaction))

abbrev declared : Version → Rule Declared
declared v = seq (head v) (seq (many object) (seq (many relation) (many (transaction v))))

abbrev Called : Type 0
Called = List s.Client × (Option (List Ident) × ℕ)

abbrev called : Rule Called
called = seq (many client) (seq schedule (offset_of mark.End))

abbrev Said : {X : Type 0} → Rule X → X → List Token → Type 0
Said g a ts = Spells (Means rule limit) g a ts

record Parts (v : Version) (w : s.Workload) (ts : List Token) : Type 0 where
  value : Declared
  front : List Token
  rest : List Token
  calls : Called
  cut : ts ≡ front ++ rest
  declares : Said (declared v) value front
  then : Said called calls rest
  version : w.version ≡ version_number v
  sites : w.sites ≡ value.0.0
  weights : w.weights ≡ value.0.1
  objects : w.objects ≡ value.1.0
  relations : w.relations ≡ value.1.1.0
  transactions : w.transactions ≡ value.1.1.1

regroup : (a b c d e : List Token) → a ++ (b ++ (c ++ (d ++ e))) ≡ (a ++ (b ++ (c ++ d))) ++ e
regroup a b c d e = sym (simp append_assoc)

parts : (v : Version) (names : List (List ℕ)) (w : s.Workload) (ts : List Token) → IsWorkload v names w ts → Parts v w ts
unfolding IsWorkload
parts v names w ts h =
    let b = h.0 in
    let first = h.1 in
    let second = first.4 in
    let third = second.4 in
    let fourth = third.4 in
    record {
      value = (b.0, (b.1.0, (b.1.1.0, b.1.1.1.0)));
      front = first.0 ++ (second.0 ++ (third.0 ++ fourth.0));
      rest = fourth.1;
      calls = b.1.1.1.1;
      cut = first.2 ∙ ap (λ l. first.0 ++ l) (second.2 ∙ ap (λ l. second.0 ++ l) (third.2 ∙ ap (λ l. third.0 ++ l) fourth.2))
          ∙ regroup first.0 second.0 third.0 fourth.0 fourth.1;
      declares = (first.0, second.0 ++ (third.0 ++ fourth.0), refl, first.3, (second.0, third.0 ++ fourth.0, refl, second.3, (third.0, fourth.0, refl, third.3, fourth.3)));
      then = fourth.4;
      version = ap (λ (x : s.Workload). x.version) h.2;
      sites = ap (λ (x : s.Workload). x.sites) h.2;
      weights = ap (λ (x : s.Workload). x.weights) h.2;
      objects = ap (λ (x : s.Workload). x.objects) h.2;
      relations = ap (λ (x : s.Workload). x.relations) h.2;
      transactions = ap (λ (x : s.Workload). x.transactions) h.2;
    }

-- a workload begins with three tokens
pub three_tokens : (v : Version) (names : List (List ℕ)) (w : s.Workload) (ts : List Token) → IsWorkload v names w ts → 3 ≤ length ts
unfolding IsWorkload
three_tokens v names w ts h =
    let one = h.1.3.1 in
    let two = one.4.1 in
    let three = two.4.1 in
    omega (
      arith,
      ap length h.1.2,
      length-append h.1.0 h.1.1,
      ap length one.2,
      length-append one.0 one.1,
      ap length one.3.1,
      ap length two.2,
      length-append two.0 two.1,
      ap length two.3.1,
      ap length three.2,
      length-append three.0 three.1,
      ap length three.3.1,
    )

-- ---- what comes behind ends with one token
record Tail (ts : List Token) : Type 0 where
  body : List Token
  last : Token
  are : ts ≡ body ++ last ∷ []

tail : (a : Called) (ts : List Token) → Said called a ts → Tail ts
tail a ts h =
    let more = h.4 in
    let last = more.4 in
    record {
      body = h.0 ++ more.0;
      last = last.0;
      are = h.2 ∙ ap (λ l. h.0 ++ l) (more.2 ∙ ap (λ l. more.0 ++ l) last.1) ∙ sym (append_assoc h.0 more.0 (last.0 ∷ []));
    }

-- ---- which tokens don't go on with declarations
abbrev calls_there : Calls Deep Tree
calls_there = calls_at rule limit

known : Known classes calls_there (Means rule limit)
known = known_at classes rule decided limit

-- the classes of the tokens that go on with them
abbrev on : Version → List ℕ
on v = goes_on classes (declared v)

decides_declared : (v : Version) → decides classes (declared v) ≡ true
decides_declared First = refl
decides_declared Second = refl

apart_called : (v : Version) → apart (on v) (starts classes called) ≡ true
apart_called First = refl
apart_called Second = refl

clear_called : (v : Version) (a : Called) (ts : List Token) → Said called a ts → Clear (on v) ts
clear_called v a ts h =
    subst (Clear (on v)) (append-nil ts)
    (word_clear classes calls_there (Means rule limit) known called (on v) a ts [] h (apart_called v) (λ e. tt))

at_class : (v : Version) (c n : ℕ) → c ≡ n → has (on v) n ≡ false → has (on v) c ≡ true → ⊥
at_class v c n e none some = absurd (true≢false (sym some ∙ ap (has (on v)) e ∙ none))

clear_end : (v : Version) (t : Token) (more : List Token) → EndsDeclarations t → Clear (on v) (t ∷ more)
clear_end First t more (inl e) = at_class First (class_of t.kind) (number_of mark.Client) e refl
clear_end First t more (inr (inl e)) = at_class First (class_of t.kind) (number_of mark.Schedule) e refl
clear_end First t more (inr (inr e)) = at_class First (class_of t.kind) (number_of mark.End) e refl
clear_end Second t more (inl e) = at_class Second (class_of t.kind) (number_of mark.Client) e refl
clear_end Second t more (inr (inl e)) = at_class Second (class_of t.kind) (number_of mark.Schedule) e refl
clear_end Second t more (inr (inr e)) = at_class Second (class_of t.kind) (number_of mark.End) e refl

clear_body : (v : Version) (body more : List Token) (last t : Token) → EndsDeclarations t → Clear (on v) (body ++ last ∷ []) → Clear (on v) (body ++ t ∷ more)
clear_body v [] more last t ends c = clear_end v t more ends
clear_body v (x ∷ body) more last t ends c = c

-- ---- both are read the same
not_nothing : (xs : List Token) (x : Token) → [] ≡ xs ++ x ∷ [] → ⊥
not_nothing [] x e = cc
not_nothing (y ∷ xs) x e = cc

same_front : (xs ys : List Token) (x y : Token) → xs ++ x ∷ [] ≡ ys ++ y ∷ [] → xs ≡ ys
same_front [] [] x y e = refl
same_front [] (b ∷ ys) x y e = let rest : [] ≡ ys ++ y ∷ [] = cc in absurd (not_nothing ys y rest)
same_front (a ∷ xs) [] x y e = let rest : xs ++ x ∷ [] ≡ [] = cc in absurd (not_nothing xs x (sym rest))
same_front (a ∷ xs) (b ∷ ys) x y e = let rest : xs ≡ ys = same_front xs ys x y (cc) in let first : a ≡ b = cc in cc

value_of : Reading Declared → Declared → Declared
value_of (Ok x) d = x.0
value_of (Err e) d = d

one_value : (x : Reading Declared) (a b : Declared) (r q : List Token) → x ≡ Ok (a, r) → x ≡ Ok (b, q) → a ≡ b
unfolding value_of
one_value x a b r q h k = ap (λ y. value_of y a) (sym h ∙ k)

pub declarations_stand : DeclarationsStand
declarations_stand v names others a b front last t more h ends k =
    let p = parts v names a (front ++ last ∷ []) h in
    let q = parts v others b (front ++ t ∷ more) k in
    let end = tail p.calls p.rest p.then in
    let whole : front ++ last ∷ [] ≡ (p.front ++ end.body) ++ end.last ∷ [] = p.cut ∙ ap (λ l. p.front ++ l) end.are ∙ sym (append_assoc p.front end.body (end.last ∷ [])) in
    let fronts : front ≡ p.front ++ end.body = same_front front (p.front ++ end.body) last end.last whole in
    let tokens : p.front ++ (end.body ++ t ∷ more) ≡ q.front ++ q.rest = sym (append_assoc p.front end.body (t ∷ more)) ∙ ap (λ l. l ++ t ∷ more) (sym fronts) ∙ q.cut in
    let one = read_complete classes calls_there (Means rule limit) known (declared v) (decides_declared v) p.value p.front (end.body ++ t ∷ more) p.declares
    (clear_body v end.body more end.last t ends (subst (Clear (on v)) end.are (clear_called v p.calls p.rest p.then))) in
    let two = read_complete classes calls_there (Means rule limit) known (declared v) (decides_declared v) q.value q.front q.rest q.declares (clear_called v q.calls q.rest q.then) in
    let same : p.value ≡ q.value = one_value (read calls_there (declared v) (q.front ++ q.rest)) p.value q.value (end.body ++ t ∷ more) q.rest
    (ap (read calls_there (declared v)) (sym tokens) ∙ one) two in
    record {
      version = p.version ∙ sym q.version;
      sites = p.sites ∙ ap (λ (d : Declared). d.0.0) same ∙ sym q.sites;
      weights = p.weights ∙ ap (λ (d : Declared). d.0.1) same ∙ sym q.weights;
      objects = p.objects ∙ ap (λ (d : Declared). d.1.0) same ∙ sym q.objects;
      relations = p.relations ∙ ap (λ (d : Declared). d.1.1.0) same ∙ sym q.relations;
      transactions = p.transactions ∙ ap (λ (d : Declared). d.1.1.1) same ∙ sym q.transactions;
    }
