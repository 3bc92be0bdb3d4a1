-- What is kept as calls are replayed: at the start, and after one call more.
use Rattle.std.proofs.Common.{◌≡◌, ⊎_elim, ℕ, ◌+◌, ◌<◌, ◌≤◌, ◌==◌, Bool, true, false, cond, List, [], ◌∷◌, ◌++◌, map, length, get_or, take, replicate, ℤ, pos, refl, sym, ap, ap₂, ◌∙◌, subst, arith}
use mathlib.Core.Path.{fun_ext}
use Rattle.std.proofs.Math.ListN.{set}
use Rattle.std.proofs.lemmas.Bool.{cases_lt, cases_eq}
use Rattle.std.proofs.lemmas.Bool.Decides.{nat_tests}
use Rattle.std.proofs.lemmas.List.{take_more, map-append, length-append, length-replicate, get_or_append_left, get_or-append-add, length-set, get_or-set_same, get_or-replicate}
use Rattle.homeo_lemmas.proofs.Places.{zeros_at}
use Rattle.homeo_syntax.specs.Listed.{Listed}
use Rattle.homeo_syntax.specs.Source as s
use Rattle.homeo_meaning.specs.declared.call.CallId.{CallId}
use Rattle.homeo_meaning.specs.Acceptance.{IsAccepted}
use Rattle.homeo_meaning.specs.Calls.{CallExists}
use Rattle.homeo_meaning.specs.Serial.{values_of}
use Rattle.homeo_plan.specs.Key.{definitions as plan_definitions}
use Rattle.homeo_plan.specs.Joined.{Deltas}
use Rattle.homeo_plan.specs.Local.{no_deltas}
use Rattle.homeo_plan.specs.Planned.{sites_of, template_at, policy}
use Rattle.homeo_plan.specs.Template.{Clause}
use Rattle.homeo_plan.proofs.Atoms.{append_each}
use Rattle.homeo_plan.proofs.Policy.{policy_fits}
use Rattle.homeo_forecast.specs.Forecast.{CanServe}
use Rattle.homeo_forecast.specs.Peaks.{peak_bounds, peak_config}
use Rattle.homeo_forecast.specs.Visits.{Visit, after, after_all, visits, next_visit}
use Rattle.homeo_forecast.specs.declared.replay.Replay.{Replay}
use Rattle.homeo_forecast.specs.declared.rooms.Room.{Room}
use Rattle.homeo_forecast.specs.inner.Replays.{site_lists, AreDeltas, IsReplay}
use Rattle.homeo_forecast.specs.inner.Rooms.{HasRoom, HaveRooms}
use Rattle.homeo_forecast.proofs.Prefixes.{next_is}
use Rattle.homeo_forecast.proofs.Lists.{set_apart}

-- ---- rooms
pub no_rooms : (k : ℕ) (vs : List Visit) (rs : List Room) → rs ≡ [] → HaveRooms k vs [] rs
no_rooms k vs rs e = record { count = ap length e; each = λ n c r lt. absurd (omega arith) }

room_more : (k : ℕ) (vs : List Visit) (cs : List Clause) (rs : List Room) (c : Clause) (r : Room) → HaveRooms k vs cs rs → HasRoom k vs c r →
    HaveRooms k vs (cs ++ c ∷ []) (rs ++ r ∷ [])
room_more k vs cs rs c r have has = record {
  count = length-append rs (r ∷ []) ∙ ap (λ n. n + 1) have.count ∙ sym (length-append cs (c ∷ []));
  each = λ n d q lt. ⊎_elim (first n d q) (last n d q lt) (cases_lt n (length cs));
}
  where
    first : (n : ℕ) (d : Clause) (q : Room) → n < length cs → HasRoom k vs (get_or (cs ++ c ∷ []) n d) (get_or (rs ++ r ∷ []) n q)
    first n d q lt =
        subst (λ e. HasRoom k vs e (get_or (rs ++ r ∷ []) n q)) (sym (get_or_append_left cs (c ∷ []) d n lt))
        (subst (HasRoom k vs (get_or cs n d)) (sym (get_or_append_left rs (r ∷ []) q n (omega (arith, have.count, lt)))) (have.each n d q lt))

    last : (n : ℕ) (d : Clause) (q : Room) → n < length (cs ++ c ∷ []) → length cs ≤ n → HasRoom k vs (get_or (cs ++ c ∷ []) n d) (get_or (rs ++ r ∷ []) n q)
    last n d q lt le =
        let count = length-append cs (c ∷ []) in
        let here : n ≡ length cs + 0 = omega (arith, count, lt, le) in
        let there : n ≡ length rs + 0 = omega (arith, count, lt, le, have.count) in
        let one = ap (λ j. get_or (cs ++ c ∷ []) j d) here ∙ get_or-append-add cs (c ∷ []) 0 d in
        let two = ap (λ j. get_or (rs ++ r ∷ []) j q) there ∙ get_or-append-add rs (r ∷ []) 0 q in
        subst (λ e. HasRoom k vs e (get_or (rs ++ r ∷ []) n q)) (sym one) (subst (HasRoom k vs c) (sym two) has)

pub one_room :
    (k : ℕ) (vs : List Visit) (cs : List Clause) (idx : ℕ) (d : Clause) (old new : List Room) (r : Room) → idx < length cs →
    HaveRooms k vs (take idx cs) old → HasRoom k vs (get_or cs idx d) r → new ≡ old ++ r ∷ [] → HaveRooms k vs (take (idx + 1) cs) new
one_room k vs cs idx d old new r lt have has e =
    subst (λ ds. HaveRooms k vs ds new) (sym (take_more cs idx d lt))
    (subst (HaveRooms k vs (take idx cs ++ get_or cs idx d ∷ [])) (sym e) (room_more k vs (take idx cs) old (get_or cs idx d) r have has))

-- ---- configurations
config_append : (k : ℕ) (vs : List Visit) (cs : List Clause) (c : Clause) → peak_config k vs (cs ++ c ∷ []) ≡ peak_config k vs cs ++ peak_bounds k vs c ∷ []
unfolding plan_definitions
config_append k vs [] c = refl
config_append k vs (d ∷ cs) c = ap (λ l. peak_bounds k vs d ∷ l) (config_append k vs cs c)

pub no_config : (k : ℕ) (vs : List Visit) → [] ≡ peak_config k vs []
unfolding plan_definitions
no_config k vs = refl

pub one_bounds :
    (k : ℕ) (vs : List Visit) (cs : List Clause) (idx : ℕ) (d : Clause) (old new : List (Listed ℤ)) (b : Listed ℤ) → idx < length cs →
    map (λ (l : Listed ℤ). l.items) old ≡ peak_config k vs (take idx cs) → b.items ≡ peak_bounds k vs (get_or cs idx d) → new ≡ old ++ b ∷ [] →
    map (λ (l : Listed ℤ). l.items) new ≡ peak_config k vs (take (idx + 1) cs)
one_bounds k vs cs idx d old new b lt so_far are e =
    ap (map (λ (l : Listed ℤ). l.items)) e ∙ map-append (λ (l : Listed ℤ). l.items) old (b ∷ [])
    ∙ ap₂ (λ l m. l ++ m ∷ []) so_far are ∙ sym (ap (peak_config k vs) (take_more cs idx d lt) ∙ config_append k vs (take idx cs) (get_or cs idx d))

-- ---- the start
zeros_are : (n : ℕ) → values_of (replicate n (pos 0)) ≡ no_deltas
unfolding plan_definitions
zeros_are n = fun_ext (λ x. zeros_at n x)

pub begun :
    (w : s.Workload) (base : List ℤ) (r : Replay) → IsAccepted w → site_lists r ≡ replicate (sites_of w) (replicate (length base) (pos 0)) →
    HaveRooms (sites_of w) [] (template_at w base).clauses r.rooms.items → IsReplay w base [] r
unfolding plan_definitions
begun w base r accepted lists rooms = record {
  exist = tt;
  served = record { config = policy w base; fits = policy_fits w base accepted; serves = tt };
  sites = ap length lists ∙ length-replicate (sites_of w) (replicate (length base) (pos 0));
  deltas = λ i lt.
      subst (AreDeltas base no_deltas) (sym (ap (λ l. get_or l i []) lists ∙ get_or-replicate (sites_of w) i (replicate (length base) (pos 0)) [] lt))
      (record { count = length-replicate (length base) (pos 0); are = zeros_are (length base) });
  rooms = rooms;
}

-- ---- one call more
after_append : (d : ℕ → Deltas) (vs : List Visit) (v : Visit) → after_all d (vs ++ v ∷ []) ≡ after (after_all d vs) v
unfolding plan_definitions
after_append d [] v = refl
after_append d (u ∷ vs) v = after_append (after d u) vs v

module _
    (w : s.Workload) (base : List ℤ) (calls : List CallId) (call : CallId) (old new : Replay) (kept : IsReplay w base calls old)
    (exists : CallExists w call) (served : CanServe w base (calls ++ call ∷ [])) (deltas : List ℤ)
    (site : ℕ) (at : (next_visit w base calls call).site ≡ site) (below : site < sites_of w)
    (lists : site_lists new ≡ set (site_lists old) site deltas) (are : AreDeltas base (next_visit w base calls call).deltas deltas)
    (rooms : HaveRooms (sites_of w) (visits w base calls ++ next_visit w base calls call ∷ []) (template_at w base).clauses new.rooms.items)
  where
    abbrev v : Visit
    v = next_visit w base calls call

    abbrev x : ℕ → Deltas
    x = after_all (λ j. no_deltas) (visits w base calls)

    one_site : (i : ℕ) → i < sites_of w → AreDeltas base (after x v i) (get_or (site_lists new) i [])
    unfolding plan_definitions
    one_site i lt = subst (AreDeltas base (after x v i)) (sym (ap (λ l. get_or l i []) lists)) (⊎_elim here there (cases_eq i site))
      where
        here : i ≡ site → AreDeltas base (after x v i) (get_or (set (site_lists old) site deltas) i [])
        here e =
            let same : v.site ≡ i = at ∙ sym e in
            let q : (v.site == i) ≡ true = grind (arith, nat_tests) in
            subst (λ b. AreDeltas base (cond b v.deltas (x i)) (get_or (set (site_lists old) site deltas) i [])) (sym q)
            (subst (AreDeltas base v.deltas)
            (sym (ap (λ j. get_or (set (site_lists old) site deltas) j []) e
            ∙ get_or-set_same (site_lists old) site deltas [] (subst (λ n. site < n) (sym kept.sites) below))) are)

        there : (i ≡ site → ⊥) → AreDeltas base (after x v i) (get_or (set (site_lists old) site deltas) i [])
        there apart =
            let q : (v.site == i) ≡ false = other i apart in
            subst (λ b. AreDeltas base (cond b v.deltas (x i)) (get_or (set (site_lists old) site deltas) i [])) (sym q)
            (subst (AreDeltas base (x i)) (sym (set_apart (site_lists old) site i deltas [] apart)) (kept.deltas i lt))
          where
            other : (j : ℕ) → (j ≡ site → ⊥) → (v.site == j) ≡ false
            other j h = go (v.site == j) refl
              where
                go : (b : Bool) → (v.site == j) ≡ b → b ≡ false
                go true q = let same : v.site ≡ j = grind (arith, nat_tests) in absurd (h (sym same ∙ at))
                go false q = refl

    pub goes_on : IsReplay w base (calls ++ call ∷ []) new
    unfolding plan_definitions
    goes_on = record {
      exist = append_each (λ c. CallExists w c) calls (call ∷ []) kept.exist (exists, tt);
      served = served;
      sites = ap length lists ∙ length-set (site_lists old) site deltas ∙ kept.sites;
      deltas = λ i lt.
          subst (λ (f : ℕ → Deltas). AreDeltas base (f i) (get_or (site_lists new) i []))
          (sym (ap (after_all (λ j. no_deltas)) (next_is w base calls call) ∙ after_append (λ j. no_deltas) (visits w base calls) v)) (one_site i lt);
      rooms = subst (λ us. HaveRooms (sites_of w) us (template_at w base).clauses new.rooms.items) (sym (next_is w base calls call)) rooms;
    }
