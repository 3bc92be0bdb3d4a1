-- The lines of a plan's clauses, with one more.
use Rattle.std.proofs.Common.{rules, ◌≡◌, ℕ, zero, suc, ◌+◌, ◌-◌, ◌<◌, ◌≤◌, List, [], ◌∷◌, ◌++◌, map, length, take, drop, get_or, ℤ, pos, ◌≤ℤ◌, Option, Some, None, refl, sym, ap, ap₂, ◌∙◌, subst, arith, append_assoc, append-nil, add-one, drop_of_length-le, length-append}
use Rattle.std.specs.Prelude.{replicate, codes, decimal}
use Rattle.std.specs.Fmt.{signed_decimal}
use Rattle.std.proofs.Math.Seq.{drop-cons}
use Rattle.std.proofs.lemmas.Grind.{flat_map-append}
use Rattle.std.proofs.lemmas.List.{take_more, take_all, map-append, length-map, length-take-le}
use Rattle.homeo_syntax.specs.Source as s
use Rattle.homeo_plan.specs.Key.{definitions as plan_definitions}
use Rattle.homeo_plan.specs.Config.{split, even}
use Rattle.homeo_plan.specs.PlanView.{plain_config}
use Rattle.homeo_plan.specs.Template.{Clause}
use Rattle.homeo_plan.specs.Treaty.{bound_at}
use Rattle.homeo_plan.specs.declared.forms.Term.{Term}
use Rattle.homeo_plan.specs.declared.templates.Config as code
use Rattle.homeo_plan.proofs.Shares.{one_each}
use Rattle.homeo_plan.proofs.Splits.{split_fits}
use Rattle.homeo_follow.specs.Key.{definitions as follow_definitions}
use Rattle.homeo_follow.specs.Expanded.{terms_from, expanded_terms}
use Rattle.homeo_follow.specs.ObjectTemplate.{expanded_clause}
use Rattle.homeo_outline.specs.Key.{definitions as outline_definitions}
use Rattle.homeo_outline.specs.ObjectPlan.{clauses_with, template_in, config_or, config_in}
use Rattle.homeo_outline.specs.declared.plan.ObjectPlan.{ObjectPlan}
use Rattle.homeo_outline.proofs.Slacks.{clauses_more}
use Rattle.homeo_print.specs.Key.{definitions}
use Rattle.homeo_print.specs.Names.{numbers_text}
use Rattle.homeo_print.specs.Plans.{HasBounds}
use Rattle.homeo_print.specs.Tables.{object_text}
use Rattle.homeo_print.specs.Treaties.{delta_text, term_text, terms_text, clause_text, clauses_text}
use Rattle.homeo_print.specs.inner.Clauses.{clause_in, bounds_or, bounds_in, first_clauses, first_or, first_bounds, term_front}
use Rattle.homeo_print.proofs.TreatySteps.{clauses_push}

-- ---- bounds of a slack that is split evenly
even_count : (k : ℕ) (slack : ℤ) → pos 0 ≤ℤ slack → length (split (replicate k 1) slack) ≡ k
unfolding plan_definitions
even_count zero slack h = refl
even_count (suc k) slack h =
    let c : Clause = record { terms = []; slack = slack } in
    (split_fits (suc k) (replicate (suc k) 1 ∷ []) (c ∷ []) (one_each (suc k) (omega arith), tt) refl (h, tt)).0.count

numbers_more : (numbers : List ℤ) (i : ℕ) → i < length numbers → numbers_text (take (i + 1) numbers) ≡ numbers_text (take i numbers) ++ (codes " " ++ signed_decimal (get_or numbers i (pos 0)))
unfolding definitions
numbers_more numbers i h =
    let last : ℤ = get_or numbers i (pos 0) in
    ap numbers_text (take_more numbers i (pos 0) h)
    ∙ flat_map-append (λ n. codes " " ++ signed_decimal n) (take i numbers) (last ∷ [])
    ∙ ap (λ l. numbers_text (take i numbers) ++ l) (append-nil (codes " " ++ signed_decimal last))

module _ (k : ℕ) (slack : ℤ) (h : pos 0 ≤ℤ slack) where
  abbrev bounds : List ℤ
  bounds = split (replicate k 1) slack

  pub bounds_more : (i : ℕ) → i < k → numbers_text (take (i + 1) bounds) ≡ numbers_text (take i bounds) ++ (codes " " ++ signed_decimal (bound_at bounds i))
  unfolding plan_definitions
  bounds_more i lt = numbers_more bounds i (subst (λ n. i < n) (sym (even_count k slack h)) lt)

  pub bounds_all : (i : ℕ) → k ≤ i → numbers_text (take i bounds) ≡ numbers_text bounds
  bounds_all i le = ap numbers_text (take_all i bounds (subst (λ n. n ≤ i) (sym (even_count k slack h)) le))

-- ---- terms at many sites
-- objects of one name have one text
pub same_name : (v w : s.Workload) (x y : ℕ) → object_text v x ≡ object_text w y → (f : ℤ) (i n : ℕ) → terms_text v (terms_from i n x f) ≡ terms_text w (terms_from i n y f)
unfolding definitions follow_definitions plan_definitions
same_name v w x y e f i zero = refl
same_name v w x y e f i (suc n) =
    ap₂ (λ (name rest : List ℕ). (codes " " ++ signed_decimal f ++ codes "*" ++ (name ++ codes "@" ++ decimal i)) ++ rest) e (same_name v w x y e f (suc i) n)

module _ (w : s.Workload) (k : ℕ) where
  pub site_more : (x : ℕ) (f : ℤ) (i : ℕ) → i < k
      → terms_text w (terms_from i (k - i) x f) ≡ (codes " " ++ signed_decimal f ++ codes "*" ++ delta_text w (record { object = x; site = i })) ++ terms_text w (terms_from (i + 1) (k - (i + 1)) x f)
  unfolding definitions follow_definitions plan_definitions
  site_more x f i lt =
      let left : k - i ≡ suc (k - (i + 1)) = omega (arith, lt) in
      let next : suc i ≡ i + 1 = omega arith in
      ap (λ n. terms_text w (terms_from i n x f)) left
      ∙ ap (λ m. (codes " " ++ signed_decimal f ++ codes "*" ++ delta_text w (record { object = x; site = i })) ++ terms_text w (terms_from m (k - (i + 1)) x f)) next

  pub front_is : (out : List ℕ) (x : ℕ) (f : ℤ) (i : ℕ)
      → (out ++ term_front w x f) ++ decimal i ≡ out ++ (codes " " ++ signed_decimal f ++ codes "*" ++ delta_text w (record { object = x; site = i }))
  unfolding definitions
  front_is out x f i = search (rules, append_assoc)

  pub no_site : (x : ℕ) (f : ℤ) (i : ℕ) → k ≤ i → terms_text w (terms_from i (k - i) x f) ≡ []
  unfolding definitions follow_definitions
  no_site x f i le = let none : k - i ≡ 0 = omega (arith, le) in ap (λ n. terms_text w (terms_from i n x f)) none

  pub term_more : (ts : List Term) (out more : List ℕ) (i : ℕ) (d : Term) → i < length ts
      → more ≡ out ++ terms_text w (terms_from 0 k (get_or ts i d).delta.object (get_or ts i d).factor)
      → more ++ terms_text w (expanded_terms k (drop (i + 1) ts)) ≡ out ++ terms_text w (expanded_terms k (drop i ts))
  unfolding definitions follow_definitions
  term_more ts out more i d lt is =
      let t : Term = get_or ts i d in
      let next : drop i ts ≡ t ∷ drop (i + 1) ts = rw add-one (drop-cons ts i d lt) in
      let here : List Term = terms_from 0 k t.delta.object t.factor in
      let rest : List Term = expanded_terms k (drop (i + 1) ts) in
      ap (λ l. l ++ terms_text w rest) is ∙ append_assoc out (terms_text w here) (terms_text w rest)
      ∙ ap (λ l. out ++ l) (sym (ap (λ l. terms_text w (expanded_terms k l)) next ∙ flat_map-append (λ t. codes " " ++ term_text w t) here rest))

  pub no_term : (ts : List Term) (i : ℕ) → length ts ≤ i → terms_text w (expanded_terms k (drop i ts)) ≡ []
  unfolding definitions follow_definitions
  no_term ts i le = ap (λ l. terms_text w (expanded_terms k l)) (drop_of_length-le ts le)

-- four pieces behind a text
pub four_behind : (text a b c d : List ℕ) → (((text ++ a) ++ b) ++ c) ++ d ≡ text ++ (((a ++ b) ++ c) ++ d)
four_behind text a b c d =
    ap (λ l. (l ++ c) ++ d) (append_assoc text a b) ∙ ap (λ l. l ++ d) (append_assoc text (a ++ b) c) ∙ append_assoc text ((a ++ b) ++ c) d

-- ---- clauses
even_push : (k : ℕ) (cs : List Clause) (c : Clause) → even k (cs ++ c ∷ []) ≡ even k cs ++ split (replicate k 1) c.slack ∷ []
unfolding plan_definitions
even_push k [] c = refl
even_push k (a ∷ cs) c = ap (λ bs. split (replicate k 1) a.slack ∷ bs) (even_push k cs c)

module _ (p : ObjectPlan) where
  abbrev sites : ℕ
  sites = p.outline.value.sites

  abbrev count : ℕ
  count = length p.outline.value.terms

  clause_more : (n : ℕ) → n < count → first_clauses p (n + 1) ≡ first_clauses p n ++ clause_in p n ∷ []
  unfolding definitions follow_definitions
  clause_more n lt =
      let tss = p.outline.value.terms in
      let ss = p.slacks.items in
      let ts = get_or tss n [] in
      let whole : Clause = record { terms = ts; slack = get_or ss n (pos 0) } in
      let few = clauses_with (take n tss) ss in
      ap (λ l. map (expanded_clause sites) (clauses_with l ss)) (take_more tss n [] lt)
      ∙ ap (map (expanded_clause sites)) (clauses_more (take n tss) ss ts ∙ ap (λ m. few ++ record { terms = ts; slack = get_or ss m (pos 0) } ∷ []) (length-take-le n tss (omega (arith, lt))))
      ∙ map-append (expanded_clause sites) few (whole ∷ [])

  first_count : (n : ℕ) → n ≤ count → length (first_clauses p n) ≡ n
  unfolding definitions outline_definitions
  first_count zero le = refl
  first_count (suc n) le =
      let next : n + 1 ≡ suc n = omega arith in
      ap (λ m. length (first_clauses p m)) (sym next) ∙ ap length (clause_more n (omega (arith, le))) ∙ length-append (first_clauses p n) (clause_in p n ∷ [])
      ∙ ap (λ m. m + 1) (first_count n (omega (arith, le))) ∙ next

  all_clauses : (n : ℕ) → count ≤ n → first_clauses p n ≡ (template_in p).clauses
  unfolding definitions outline_definitions follow_definitions
  all_clauses n le = ap (λ l. map (expanded_clause sites) (clauses_with l p.slacks.items)) (take_all n p.outline.value.terms le)

  pub template_count : length (template_in p).clauses ≡ count
  template_count = sym (ap length (all_clauses count (omega arith))) ∙ first_count count (omega arith)

  -- ---- with their bounds
  module _ (has : HasBounds p) where
    list_more : (n : ℕ) → n < count → (given : Option code.Config) → ((c : code.Config) → given ≡ Some c → length c.bounds.items ≡ count)
        → first_or (even sites (first_clauses p (n + 1))) given (n + 1) ≡ first_or (even sites (first_clauses p n)) given n ++ bounds_or (split (replicate sites 1) (get_or p.slacks.items n (pos 0))) given n ∷ []
    unfolding definitions
    list_more n lt None h = ap (even sites) (clause_more n lt) ∙ even_push sites (first_clauses p n) (clause_in p n)
    list_more n lt (Some c) h = take_more (plain_config c) n [] (omega (arith, lt, h c refl, length-map c.bounds.items (λ b. b.items)))

    list_count : (n : ℕ) → n ≤ count → (given : Option code.Config) → ((c : code.Config) → given ≡ Some c → length c.bounds.items ≡ count)
        → length (first_or (even sites (first_clauses p n)) given n) ≡ n
    unfolding definitions outline_definitions plan_definitions
    list_count zero le None h = refl
    list_count (suc n) le None h =
        let next : n + 1 ≡ suc n = omega arith in
        ap (λ m. length (even sites (first_clauses p m))) (sym next) ∙ ap length (list_more n (omega (arith, le)) None h)
        ∙ length-append (even sites (first_clauses p n)) (split (replicate sites 1) (get_or p.slacks.items n (pos 0)) ∷ [])
        ∙ ap (λ m. m + 1) (list_count n (omega (arith, le)) None h) ∙ next
    list_count n le (Some c) h = length-take-le n (plain_config c) (omega (arith, le, h c refl, length-map c.bounds.items (λ b. b.items)))

    pub no_line : (w : s.Workload) → clauses_text w (first_clauses p 0) (first_bounds p 0) ≡ []
    unfolding definitions outline_definitions
    no_line w = refl

    pub line_more : (w : s.Workload) (n : ℕ) → n < count
        → clauses_text w (first_clauses p (n + 1)) (first_bounds p (n + 1)) ≡ clauses_text w (first_clauses p n) (first_bounds p n) ++ clause_text w n (clause_in p n) (bounds_in p n)
    unfolding definitions
    line_more w n lt =
        let cs = first_clauses p n in
        let bs = first_bounds p n in
        let counted : length cs ≡ n = first_count n (omega (arith, lt)) in
        ap₂ (clauses_text w) (clause_more n lt) (list_more n lt p.bounds has.given)
        ∙ clauses_push w cs bs (clause_in p n) (bounds_in p n) (list_count n (omega (arith, lt)) p.bounds has.given ∙ sym counted)
        ∙ ap (λ m. clauses_text w cs bs ++ clause_text w m (clause_in p n) (bounds_in p n)) counted

    lists_all : (n : ℕ) → count ≤ n → (given : Option code.Config) → ((c : code.Config) → given ≡ Some c → length c.bounds.items ≡ count)
        → (cs : List Clause) → first_clauses p n ≡ cs → first_or (even sites (first_clauses p n)) given n ≡ config_or (even sites cs) given
    unfolding definitions outline_definitions
    lists_all n le None h cs is = ap (even sites) is
    lists_all n le (Some c) h cs is = take_all n (plain_config c) (omega (arith, le, h c refl, length-map c.bounds.items (λ b. b.items)))

    pub all_lines : (w : s.Workload) (n : ℕ) → count ≤ n → clauses_text w (first_clauses p n) (first_bounds p n) ≡ clauses_text w (template_in p).clauses (config_in p)
    unfolding definitions outline_definitions
    all_lines w n le = let all = all_clauses n le in ap₂ (clauses_text w) all (lists_all n le p.bounds has.given (template_in p).clauses all)
