-- What is written has no float.
use Rattle.std.proofs.Common.{◌≡◌, ℕ, suc, List, [], ◌∷◌, ◌++◌, ◌||◌, Bool, true, false, map, ℤ, pos, negsuc, Option, Some, None, refl, ap₂}
use Rattle.serde_json.specs.Data.{Data, string}
use Rattle.serde_json.specs.Written.{has_float, members_have_float}
use Rattle.homeo_syntax.specs.Source as s
use Rattle.homeo_meaning.specs.declared.call.CallId.{CallId}
use Rattle.homeo_plan.specs.declared.treaty.Broken.{Broken}
use Rattle.homeo_nodes.specs.declared.breach.Breach.{Breach}
use Rattle.homeo_nodes.specs.Nodes.{Said, Past, Want, Stop, State}
use Rattle.homeo_nodes.specs.Small.{Small}
use Rattle.homeo_desk.specs.declared.output.Path.{Path}
use Rattle.homeo_desk.specs.declared.output.Path.TheVariants.{Local, Closing}
use Rattle.homeo_desk.specs.declared.output.Request.{Request}
use Rattle.homeo_print.specs.Names.{object_names}
use Rattle.homeo_certificate.specs.Json.{whole_data, list_data, wholes_data}
use Rattle.homeo_lines.specs.Lines as l
use Rattle.homeo_lines.specs.Written.{Field, members_of, maybe_data, finding_data, call_data, breach_fields, breach_data, breach_of, calls_fields, said_fields, said_data, past_fields, past_data, path_fields, answer_fields, given_data, request_data, state_data, named_values, status_fields, type_fields, type_of, answered_by, other_fields, body_data, line_data}

abbrev HasNone : Data → Type 0
HasNone d = has_float d ≡ false

abbrev HaveNone : List Field → Type 0
HaveNone fs = members_have_float (members_of fs) ≡ false

either_false : (b x y : Bool) → (x ≡ false → y ≡ false) → (b || x) ≡ false → (b || y) ≡ false
either_false true x y f e = e
either_false false x y f e = f e

both_none : (fs gs : List Field) → HaveNone fs → HaveNone gs → HaveNone (fs ++ gs)
both_none [] gs h k = k
both_none (f ∷ fs) gs h k = either_false (has_float f.1) (members_have_float (members_of fs)) (members_have_float (members_of (fs ++ gs))) (λ e. both_none fs gs e k) h

in_list : {A : Type 0} (f : A → Data) → ((x : A) → HasNone (f x)) → (xs : List A) → HasNone (list_data (map f xs))
in_list f h [] = refl
in_list f h (x ∷ xs) = ap₂ ◌||◌ (h x) (in_list f h xs)

in_maybe : {A : Type 0} (f : A → Data) → ((x : A) → HasNone (f x)) → (o : Option A) → HasNone (maybe_data f o)
in_maybe f h None = refl
in_maybe f h (Some x) = h x

in_whole : (n : ℤ) → HasNone (whole_data n)
in_whole (pos n) = refl
in_whole (negsuc n) = refl

in_wholes : (ns : List ℤ) → HasNone (wholes_data ns)
in_wholes ns = in_list whole_data in_whole ns

in_finding : (b : Broken) → HasNone (finding_data b)
in_finding b = ap₂ ◌||◌ (in_whole b.sum) (ap₂ ◌||◌ (in_whole b.bound) refl)

in_path : (path : Path) → HaveNone (path_fields path)
in_path (Local place) = refl
in_path (Closing broken) = ap₂ ◌||◌ (in_finding broken) refl

in_answer : (a : l.Answer) → HaveNone (answer_fields a)
in_answer a = ap₂ ◌||◌ (in_wholes a.prints) (in_path a.path)

in_type : (name : List ℕ) (number : Option ℕ) → HaveNone (type_fields name number)
in_type name None = refl
in_type name (Some number) = refl

in_named : (names : List (List ℕ)) (k : ℕ) (ns : List ℤ) → HaveNone (named_values names k ns)
in_named names k [] = refl
in_named names k (n ∷ ns) = ap₂ ◌||◌ (in_whole n) (in_named names (suc k) ns)

module _ (w : s.Workload) where
  in_call : (c : CallId) → HasNone (call_data w c)
  in_call c = refl

  in_breach : (b : Breach) → HasNone (breach_data w b)
  in_breach b = ap₂ ◌||◌ (in_finding b.broken) refl

  in_calls : (cs : List CallId) → HaveNone (calls_fields w cs)
  in_calls [] = refl
  in_calls (c ∷ cs) = ap₂ ◌||◌ (in_list (call_data w) in_call (c ∷ cs)) refl

  in_said : (x : Said) → HasNone (said_data w x)
  in_said x = ap₂ ◌||◌ (in_wholes x.deltas) (in_calls x.calls)

  in_past : (p : Past) → HasNone (past_data w p)
  in_past p = ap₂ ◌||◌ (in_finding p.breach.broken) (ap₂ ◌||◌ (in_list (said_data w) in_said p.states) refl)

  in_given : (a : l.Answer) → HasNone (given_data w a)
  in_given a = in_answer a

  in_request : (r : Request) → HasNone (request_data w r)
  in_request r = refl

  in_state : (x : l.State) → HasNone (state_data w x)
  in_state x =
      let n = x.node in
      ap₂ ◌||◌ (in_wholes n.base)
      (ap₂ ◌||◌ (in_wholes n.deltas)
      (ap₂ ◌||◌ (in_maybe (breach_data w) in_breach (breach_of n.mode))
      (ap₂ ◌||◌ (in_maybe (breach_data w) in_breach n.decided)
      (ap₂ ◌||◌ (in_list (maybe_data (said_data w)) (in_maybe (said_data w) in_said) n.states)
      (ap₂ ◌||◌ (in_maybe (past_data w) in_past n.past)
      (ap₂ ◌||◌ (in_list (request_data w) in_request x.queue) (ap₂ ◌||◌ (in_list (given_data w) in_given x.answered) refl)))))))

  in_status : (x : Small) (waiting : ℕ) → HaveNone (status_fields w x waiting)
  in_status x waiting = ap₂ ◌||◌ (in_named (object_names w) 0 x.base) (ap₂ ◌||◌ (in_wholes x.deltas) refl)

  in_others : (b : l.Body) → HaveNone (other_fields w b)
  in_others (l.InitOk number) = refl
  in_others (l.CallOk answer) = both_none (answer_fields answer) _ (in_answer answer) refl
  in_others (l.Error number code text) = refl
  in_others (l.Sent (Want b)) = in_breach b
  in_others (l.Sent (Stop b)) = in_breach b
  in_others (l.Sent (State round site said)) = in_said said
  in_others (l.Left past) = in_past past
  in_others (l.SnapshotOk number state) = ap₂ ◌||◌ (in_state state) refl
  in_others (l.StatusOk number node waiting) = in_status node waiting

  in_body : (b : l.Body) → HasNone (body_data w b)
  in_body b = both_none (type_fields (type_of b) (answered_by b)) (other_fields w b) (in_type (type_of b) (answered_by b)) (in_others b)

  pub no_floats : (from to : Option (List ℕ)) (b : l.Body) → has_float (line_data w from to b) ≡ false
  no_floats from to b =
      ap₂ ◌||◌ (in_maybe string (λ _. refl) from) (ap₂ ◌||◌ (in_maybe string (λ _. refl) to) (ap₂ ◌||◌ (in_body b) refl))
