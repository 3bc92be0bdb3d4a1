-- How a node begins, put together.
use Rattle.std.proofs.Common.{◌≡◌, ℕ, List, map, Option, None, Some, is_some, Result, Ok, Err, true, true≢false, inr, refl, sym, ap, subst, ◌∙◌}
use Rattle.std.specs.Prelude.{All, option_map, IfOk, IfSome}
use Rattle.std.proofs.lemmas.List.Elements.{All-map}
use Rattle.homeo_syntax.specs.Source as s
use Rattle.homeo_syntax.specs.declared.list.Memory.{Memory}
use Rattle.homeo_syntax.specs.SourceView.{plain_workload}
use Rattle.homeo_syntax.specs.declared.workload.Workload.{Workload}
use Rattle.homeo_history.specs.Legal.{IsCallAt}
use Rattle.std.proofs.lemmas.Simd.{map-map}
use Rattle.homeo_desk.specs.DeskView as d
use Rattle.homeo_desk.specs.DeskView.{DeskValue, Reply, desk_of, last_answers, no_answers, plain_reply}
use Rattle.homeo_desk.specs.declared.state.DeskState.{DeskState}
use Rattle.homeo_desk.proofs.Keeping.{all_unmapped}
use Rattle.homeo_live.specs.LiveView.{plain_node, IsReached}
use Rattle.homeo_lines.specs.Lines as l
use Rattle.homeo_lines.specs.LineView.{plain_answer, plain_state}
use Rattle.homeo_lines.specs.Read.{malformed}
use Rattle.homeo_process.specs.Driven.{Voice, Driven, voice_of}
use Rattle.homeo_process.specs.Taking as t
use Rattle.homeo_process.specs.Taking.{AreNames, BeginsAt, Complains, HasDesk, Starts, desk_at, reply_of}
use Rattle.homeo_process.specs.inner.Voices.{Appends}

-- ---- the state of a desk
pub desk_is : (work : Workload) (state : DeskState) → desk_of work state ≡ desk_at work (plain_state state)
desk_is work state = ap (λ (replies : List Reply). let desk : DeskValue = record {
  work = work;
  node = plain_node state.node;
  made = state.made;
  queue = state.queue.items;
  answered = last_answers replies (no_answers (plain_workload work));
} in desk) (sym (map-map reply_of plain_answer state.answered.items))

pub may_begin : (w : s.Workload) (state : DeskState) → t.CanBegin w (plain_state state) → d.CanBegin w state
may_begin w state can = record {
  paired = can.paired;
  first = can.first;
  answers = all_unmapped (λ (a : l.Answer). IsCallAt w state.node.site a.call) plain_answer state.answered.items can.answers;
}

pub can_begin : (w : s.Workload) (state : DeskState) → d.CanBegin w state → t.CanBegin w (plain_state state)
can_begin w state can = record {
  paired = can.paired;
  first = can.first;
  answers = All-map (λ (a : l.Answer). IsCallAt w state.node.site a.call) plain_answer state.answered.items can.answers;
}

-- ---- names
pub one_site : (w : s.Workload) (node : List ℕ) (nodes : List (List ℕ)) (site other : ℕ) → AreNames w node nodes site → AreNames w node nodes other → site ≡ other
one_site w node nodes site other a b = let e = sym a.there ∙ b.there in cc

pub no_desk : (w : s.Workload) (node : List ℕ) (nodes : List (List ℕ)) (state : Option l.State) (site : ℕ) → AreNames w node nodes site → (HasDesk w site state → ⊥) →
    (other : ℕ) → AreNames w node nodes other → HasDesk w other state → ⊥
no_desk w node nodes state site names none other others has = none (subst (λ x. HasDesk w x state) (sym (one_site w node nodes site other names others)) has)

-- ---- its desk
module _ (work made : Workload) (site : ℕ) (given : Option DeskState) (state : DeskState) (same : made ≡ work) (is : given ≡ Some state) where
  pub begins_at : state.node.site ≡ site → (r : Result (Option DeskValue) Memory) → IfOk r (λ o. IfSome o (λ desk. desk ≡ desk_of made state)) →
      IfOk r (λ o. IfSome o (BeginsAt work site (option_map plain_state given)))
  begins_at at (Err e) h = tt
  begins_at at (Ok None) h = tt
  begins_at at (Ok (Some desk)) h =
      subst (λ g. BeginsAt work site (option_map plain_state g) desk) (sym is) (at, h ∙ ap (λ x. desk_of x state) same ∙ desk_is work state)

  pub has_desk : (P : Type 0) → (IsReached (plain_workload made) (plain_node state.node) → d.CanBegin (plain_workload made) state → P) →
      HasDesk (plain_workload work) site (option_map plain_state given) → P
  has_desk P begins h =
      let has : HasDesk (plain_workload work) site (Some (plain_state state)) = subst (λ g. HasDesk (plain_workload work) site (option_map plain_state g)) is h in
      begins (subst (λ x. IsReached (plain_workload x) (plain_node state.node)) (sym same) has.1) (subst (λ x. d.CanBegin (plain_workload x) state) (sym same) (may_begin (plain_workload work) state has.2))

-- ---- a node that does not begin
module _ (x : Driven) (v : Voice) (same : v ≡ voice_of x) (node : List ℕ) (nodes given : List (List ℕ)) (are : given ≡ nodes) (state : Option l.State) (from : Option (List ℕ))
    (number : Option ℕ) (code : ℕ) (is : code ≡ malformed) (old new : List ℕ) (said : Appends (Complains v from number code) old new) where
  not_begun : ((site : ℕ) → AreNames (plain_workload x.work) node nodes site → HasDesk (plain_workload x.work) site state → ⊥) →
      Appends (Starts x node nodes state from number x) old new
  not_begun none = record {
    written = said.written;
    are = said.are;
    is = inr (
      record {
        same = refl;
        complains = subst (λ u. Complains u from number malformed said.written) same (subst (λ k. Complains v from number k said.written) is said.is);
      },
      none,
    );
  }

  pub no_names : ((site : ℕ) → AreNames (plain_workload x.work) node given site → ⊥) → Appends (Starts x node nodes state from number x) old new
  no_names none = not_begun (λ site names has. none site (subst (λ ids. AreNames (plain_workload x.work) node ids site) (sym are) names))

  pub no_state : (site : ℕ) → AreNames (plain_workload x.work) node given site → (HasDesk (plain_workload x.work) site state → ⊥) → Appends (Starts x node nodes state from number x) old new
  no_state site names none = not_begun (no_desk (plain_workload x.work) node nodes state site (subst (λ ids. AreNames (plain_workload x.work) node ids site) are names) none)

pub is_nothing : {T : Type 0} (o : Option T) → ((t : T) → o ≡ Some t → ⊥) → is_some o ≡ true → ⊥
is_nothing None none e = true≢false (sym e)
is_nothing (Some t) none e = none t refl
