-- What is written of states is read back.
use Rattle.homeo_plan.specs.Key.{definitions as plan_definitions}
use Rattle.std.proofs.Common.{◌≡◌, ℕ, suc, ◌<◌, ◌^◌, if◌then◌else◌, List, [], ◌∷◌, ◌++◌, map, length, ℤ, pos, negsuc, Option, Some, None, option_map, option_and_then, IsUtf8, refl, ap, ◌∙◌, arith}
use Rattle.std.specs.Prelude.{codes, IfSome}
use Rattle.std.proofs.lemmas.Bool.{eq-eqb, lt-ltb}
use Rattle.std.proofs.lemmas.Int.{ints}
use Rattle.std.proofs.lemmas.List.{length-map}
use Rattle.json.proofs.Printed.Utf8.{IsUtf8-are_ascii}
use Rattle.serde_json.specs.Data.{Data, string}
use Rattle.serde_json.specs.Find.{get, as_str}
use Rattle.homeo_syntax.specs.Source as s
use Rattle.homeo_meaning.specs.declared.call.CallId.{CallId}
use Rattle.homeo_plan.specs.Each.{Each}
use Rattle.homeo_plan.specs.Planned.{sites_of}
use Rattle.homeo_nodes.specs.declared.breach.Breach.{Breach}
use Rattle.homeo_nodes.specs.declared.breach.Mode.{Mode}
use Rattle.homeo_nodes.specs.declared.breach.Mode.TheVariants.{Running, Waiting, Stopped}
use Rattle.homeo_nodes.specs.Nodes.{Said, Past}
use Rattle.homeo_nodes.specs.Small.{Small}
use Rattle.homeo_desk.specs.declared.output.Path.{Path}
use Rattle.homeo_desk.specs.declared.output.Path.TheVariants.{Local, Closing}
use Rattle.homeo_desk.specs.declared.output.Request.{Request}
use Rattle.homeo_certificate.specs.Json.{whole_data, list_data, wholes_data}
use Rattle.homeo_certificate.specs.Shape.{IsWord}
use Rattle.homeo_certificate.proofs.TextReads.{plain_whole, plain_string}
use Rattle.homeo_lines.specs.Laws.{IsText, IsShown}
use Rattle.homeo_lines.specs.SmallNumbers.{AreNamed, IsSmallCall, IsSmallBreach, IsSmallSaid, IsSmallPast, IsSmallRequest, IsSmallPath, IsSmallAnswer, IsSmallMode, AllKept, IsSmallDesk}
use Rattle.homeo_lines.specs.Lines as l
use Rattle.homeo_lines.specs.Members.{list, printed, list_at, number_at, each, each_from}
use Rattle.homeo_lines.specs.Named.{client_name}
use Rattle.homeo_lines.specs.Read.{named_call_of, breach_of, database_at, said_of, past_of, request_of, path_of, prints_of, answer_of, maybe, mode_by, mode_of, all_kept, node_of, state_of, maybe_state}
use Rattle.homeo_lines.specs.Written.{Field, object_of, count_data, maybe_data, named_call_fields, breach_fields, breach_data, said_fields, said_data, past_data, path_fields, given_fields, given_data, request_fields, request_data, mode_name, state_data, type_fields, line_json}
use Rattle.homeo_lines.specs.Written.{breach_of as by_of}
use Rattle.homeo_plan.proofs.Covering.{each_map}
use Rattle.homeo_lines.proofs.ReadBack.{Becomes, stays, deeper, null_stays, list_becomes, settled, FieldsBecome, no_fields, more_fields, object_becomes, count_stays, number_is, small_is, list_is, finding_stays, finding_is, named_call_is, breach_is, breach_stays, database_is, said_is, deltas_stay, said_stays, settled_said, said_got, past_is, past_stays, line_with, line_becomes}

-- ---- what may be missing
maybe_becomes : {A : Type 0} (n : ℕ) (f g : A → Data) (o : Option A) → IfSome o (λ x. Becomes n (f x) (g x)) → Becomes n (maybe_data f o) (maybe_data g o)
maybe_becomes n f g None h = null_stays n
maybe_becomes n f g (Some x) h = h

maybe_by : {A : Type 0} (P Q : A → Type 0) → ((x : A) → P x → Q x) → (o : Option A) → IfSome o P → IfSome o Q
maybe_by P Q f None h = tt
maybe_by P Q f (Some x) h = f x h

-- an object is not null
maybe_is : {A : Type 0} (read : Data → Option A) (fields : A → List Field) (o : Option A) → IfSome o (λ x. read (settled (fields x)) ≡ Some x) →
    maybe read (maybe_data (λ x. settled (fields x)) o) ≡ Some o
maybe_is read fields None h = refl
maybe_is read fields (Some x) h = ap (option_map Some) h

-- ---- lists of which each is read
each_is : {A : Type 0} (P : A → Type 0) (read : Data → Option A) (see : A → Data) → ((x : A) → P x → read (see x) ≡ Some x) → (k : ℕ) (xs : List A) → Each P xs →
    each_from (λ _. read) k (map see xs) ≡ Some xs
unfolding plan_definitions
each_is P read see one k [] h = refl
each_is P read see one k (x ∷ xs) h =
    ap (option_and_then (λ y. option_map (λ ys. y ∷ ys) (each_from (λ _. read) (suc k) (map see xs)))) (one x h.0)
    ∙ ap (option_map (λ ys. x ∷ ys)) (each_is P read see one (suc k) xs h.1)

module _ (w : s.Workload) (names : AreNamed w) where
  named_stays : (n site : ℕ) (c : CallId) (fs gs : List Field) → IsSmallCall w site c → FieldsBecome n fs gs →
      FieldsBecome n (named_call_fields w c ++ fs) (named_call_fields w c ++ gs)
  named_stays n site c fs gs h rest =
      more_fields n (codes "client") _ _ _ _ refl (stays 0 n _ (omega arith) (plain_string (client_name w c.client) (names.text c.client)))
      (more_fields n (codes "call") _ _ _ _ refl (stays 0 n _ (omega arith) (count_stays c.seq (let small = h.small in omega (arith, small)))) rest)

  count_here : (n k : ℕ) → k < 2 ^ 53 → Becomes n (count_data k) (count_data k)
  count_here n k h = stays 0 n _ (omega arith) (count_stays k (omega (arith, h)))

  -- ---- requests
  abbrev seen_request : Request → Data
  seen_request r = settled (request_fields w r)

  request_becomes : (site : ℕ) (r : Request) → IsSmallRequest w site r → Becomes 1 (request_data w r) (seen_request r)
  request_becomes site r h =
      object_becomes 0 _ _
      (more_fields 0 (codes "src") _ _ _ _ refl (stays 0 0 _ (omega arith) (plain_string r.caller h.caller))
      (more_fields 0 (codes "msg_id") _ _ _ _ refl (count_here 0 r.number h.number)
      (named_stays 0 site r.call [] [] h.call (no_fields 0))))

  request_is : (site : ℕ) (r : Request) → IsSmallRequest w site r → request_of w site (seen_request r) ≡ Some r
  request_is site r h =
      let d = seen_request r in
      ap (option_and_then (λ number. option_and_then (λ call. made number call) (named_call_of w site d)))
      (number_is (codes "msg_id") d r.number refl h.number)
      ∙ ap (option_and_then (λ call. made r.number call)) (named_call_is w names site r.call d h.call refl refl)
    where
      made : ℕ → CallId → Option Request
      made number call = Some (record { caller = r.caller; number = number; call = call })

  -- ---- answers
  abbrev seen_answer : l.Answer → Data
  seen_answer a = settled (given_fields w a)

  prints_stay : (ns : List ℤ) → Each IsWord ns → Becomes 1 (wholes_data ns) (wholes_data ns)
  prints_stay ns h =
      list_becomes 0 whole_data whole_data ns
      (each_map IsWord (λ n. Becomes 0 (whole_data n) (whole_data n)) (λ n small. stays 0 0 (whole_data n) (omega arith) (plain_whole n small)) ns h)

  path_stays : (p : Path) → IsSmallPath p → FieldsBecome 1 (path_fields p) (path_fields p)
  path_stays (Local place) h =
      more_fields 1 (codes "path") _ _ _ _ refl (stays 0 1 _ (omega arith) (plain_string (codes "local") (IsUtf8-are_ascii _ refl)))
      (more_fields 1 (codes "place") _ _ _ _ refl (count_here 1 place h) (no_fields 1))
  path_stays (Closing broken) h =
      more_fields 1 (codes "path") _ _ _ _ refl (stays 0 1 _ (omega arith) (plain_string (codes "closing") (IsUtf8-are_ascii _ refl)))
      (more_fields 1 (codes "finding") _ _ _ _ refl (stays 1 1 _ (omega arith) (finding_stays broken h)) (no_fields 1))

  answer_becomes : (site : ℕ) (a : l.Answer) → IsSmallAnswer w site a → Becomes 2 (given_data w a) (seen_answer a)
  answer_becomes site a h =
      object_becomes 1 _ _
      (more_fields 1 (codes "msg_id") _ _ _ _ refl (count_here 1 a.number h.number)
      (named_stays 1 site a.call _ _ h.call
      (more_fields 1 (codes "prints") _ _ _ _ refl (prints_stay a.prints h.prints)
      (more_fields 1 (codes "round") _ _ _ _ refl (count_here 1 a.round h.round) (path_stays a.path h.path)))))

  -- what an answer's value has
  record AnswerGot (number : ℕ) (call : CallId) (prints : List ℤ) (round : ℕ) (path : Path) (d : Data) : Type 0 where
    pub of_number : get (codes "msg_id") d ≡ Some (count_data number)
    pub of_client : get (codes "client") d ≡ Some (string (client_name w call.client))
    pub of_call : get (codes "call") d ≡ Some (count_data call.seq)
    pub of_prints : get (codes "prints") d ≡ Some (wholes_data prints)
    pub of_round : get (codes "round") d ≡ Some (count_data round)
    pub of_path : path_of d ≡ Some path

  abbrev answer_from : ℕ → CallId → List ℤ → ℕ → Path → l.Answer
  answer_from number call prints round path = record { number = number; call = call; prints = prints; round = round; path = path }

  answer_got : (number : ℕ) (call : CallId) (prints : List ℤ) (round : ℕ) (path : Path) → IsSmallPath path →
      AnswerGot number call prints round path (seen_answer (answer_from number call prints round path))
  answer_got number call prints round (Local place) h =
      let d = seen_answer (answer_from number call prints round (Local place)) in
      record {
        of_number = refl;
        of_client = refl;
        of_call = refl;
        of_prints = refl;
        of_round = refl;
        of_path = ap (option_map Local) (number_is (codes "place") d place refl h);
      }
  answer_got number call prints round (Closing broken) h =
      record {
        of_number = refl;
        of_client = refl;
        of_call = refl;
        of_prints = refl;
        of_round = refl;
        of_path = ap (option_map Closing) (finding_is broken h);
      }

  print_is : (n : ℤ) → IsWord n → printed (whole_data n) ≡ Some n
  print_is (pos n) h =
      let high = h.high in
      ap (λ b. if b then Some (pos n) else None) (lt-ltb n (2 ^ 63) (grind (arith, ints, high)))
  print_is (negsuc n) h = refl

  prints_are : (d : Data) (ns : List ℤ) → Each IsWord ns → get (codes "prints") d ≡ Some (wholes_data ns) → prints_of d ≡ Some ns
  prints_are d ns h e =
      ap (λ o. option_and_then (each printed) (option_and_then list o)) e
      ∙ ap (option_and_then (each printed)) (list_is (map whole_data ns)) ∙ each_is IsWord printed whole_data print_is 0 ns h

  answer_is : (site : ℕ) (a : l.Answer) → IsSmallAnswer w site a → answer_of w site (seen_answer a) ≡ Some a
  answer_is site a h =
      let d = seen_answer a in
      let got = answer_got a.number a.call a.prints a.round a.path h.path in
      ap (option_and_then (λ number. option_and_then (λ call. option_and_then (λ round. option_and_then (λ path. option_and_then (λ prints. made number call prints round path) (prints_of d)) (path_of d)) (number_at (codes "round") d)) (named_call_of w site d)))
      (number_is (codes "msg_id") d a.number got.of_number h.number)
      ∙ ap (option_and_then (λ call. option_and_then (λ round. option_and_then (λ path. option_and_then (λ prints. made a.number call prints round path) (prints_of d)) (path_of d)) (number_at (codes "round") d)))
      (named_call_is w names site a.call d h.call got.of_client got.of_call)
      ∙ ap (option_and_then (λ round. option_and_then (λ path. option_and_then (λ prints. made a.number a.call prints round path) (prints_of d)) (path_of d)))
      (number_is (codes "round") d a.round got.of_round h.round)
      ∙ ap (option_and_then (λ path. option_and_then (λ prints. made a.number a.call prints a.round path) (prints_of d))) got.of_path
      ∙ ap (option_and_then (λ prints. made a.number a.call prints a.round a.path)) (prints_are d a.prints h.prints got.of_prints)
    where
      made : ℕ → CallId → List ℤ → ℕ → Path → Option l.Answer
      made number call prints round path = Some (answer_from number call prints round path)

  -- ---- what a node keeps of a round
  abbrev seen_breach : Breach → Data
  seen_breach b = settled (breach_fields w b)

  breach_becomes : (b : Breach) → IsSmallBreach w b → Becomes 2 (breach_data w b) (seen_breach b)
  breach_becomes b h = object_becomes 1 _ _ (breach_stays w names 1 b [] [] h (omega arith) (no_fields 1))

  breach_back : (b : Breach) → IsSmallBreach w b → breach_of w (seen_breach b) ≡ Some b
  breach_back b h = breach_is w names b (seen_breach b) h refl refl refl refl refl

  abbrev past_seen : Past → List Field
  past_seen p = breach_fields w p.breach ++ (codes "states", list_data (map (settled_said w names) p.states)) ∷ []

  abbrev seen_past : Past → Data
  seen_past p = settled (past_seen p)

  past_becomes : (p : Past) → IsSmallPast w p → Becomes 5 (past_data w p) (seen_past p)
  past_becomes p h = object_becomes 4 _ _ (past_stays w names p h)

  past_back : (p : Past) → IsSmallPast w p → past_of w (seen_past p) ≡ Some p
  past_back p h = past_is w names p (seen_past p) h refl refl refl refl refl refl

  -- what sites have said, where it is kept
  abbrev seen_said : Option Said → Data
  seen_said o = maybe_data (settled_said w names) o

  said_becomes : (k : ℕ) (x : Said) → IsSmallSaid w k x → Becomes 3 (said_data w x) (settled_said w names x)
  said_becomes k x h = object_becomes 2 _ _ (said_stays w names 2 k x h (omega arith))

  kept_becomes : (k : ℕ) (xs : List (Option Said)) → AllKept w k xs → Each (λ o. Becomes 3 (maybe_data (said_data w) o) (seen_said o)) xs
  unfolding plan_definitions
  kept_becomes k [] h = tt
  kept_becomes k (x ∷ xs) h = (
    maybe_becomes 3 (said_data w) (settled_said w names) x (maybe_by (IsSmallSaid w k) (λ y. Becomes 3 (said_data w y) (settled_said w names y)) (said_becomes k) x h.0),
    kept_becomes (suc k) xs h.1,
  )

  said_back : (k : ℕ) (x : Said) → IsSmallSaid w k x → said_of w k (settled_said w names x) ≡ Some x
  said_back k x h =
      let got = said_got w names (wholes_data x.deltas) x.calls in
      said_is w names k x (settled_said w names x) h got.0 got.1

  kept_back : (k : ℕ) (xs : List (Option Said)) → AllKept w k xs → each_from (λ site. maybe (said_of w site)) k (map seen_said xs) ≡ Some xs
  kept_back k [] h = refl
  kept_back k (x ∷ xs) h =
      ap (option_and_then (λ y. option_map (λ ys. y ∷ ys) (each_from (λ site. maybe (said_of w site)) (suc k) (map seen_said xs))))
      (maybe_is (said_of w k) (said_fields w) x (maybe_by (IsSmallSaid w k) (λ y. said_of w k (settled_said w names y) ≡ Some y) (said_back k) x h.0))
      ∙ ap (option_map (λ ys. x ∷ ys)) (kept_back (suc k) xs h.1)

  -- ---- modes
  mode_small : (m : Mode) → IsSmallMode w m → IfSome (by_of m) (IsSmallBreach w)
  mode_small Running h = tt
  mode_small (Waiting b) h = h
  mode_small (Stopped b) h = h

  name_ascii : (m : Mode) → IsUtf8 (mode_name m)
  name_ascii Running = IsUtf8-are_ascii _ refl
  name_ascii (Waiting b) = IsUtf8-are_ascii _ refl
  name_ascii (Stopped b) = IsUtf8-are_ascii _ refl

  by_breach : (d : Data) (b : Breach) → IsSmallBreach w b → get (codes "breach") d ≡ Some (seen_breach b) → option_and_then (breach_of w) (get (codes "breach") d) ≡ Some b
  by_breach d b h e = ap (option_and_then (breach_of w)) e ∙ breach_back b h

  mode_is : (d : Data) (m : Mode) → IsSmallMode w m → get (codes "mode") d ≡ Some (string (mode_name m)) →
      get (codes "breach") d ≡ Some (maybe_data seen_breach (by_of m)) → mode_of w d ≡ Some m
  mode_is d Running h e f = ap (λ o. option_and_then (mode_by w d) (option_and_then as_str o)) e
  mode_is d (Waiting b) h e f = ap (λ o. option_and_then (mode_by w d) (option_and_then as_str o)) e ∙ ap (option_map Waiting) (by_breach d b h f)
  mode_is d (Stopped b) h e f = ap (λ o. option_and_then (mode_by w d) (option_and_then as_str o)) e ∙ ap (option_map Stopped) (by_breach d b h f)

  -- ---- states
  abbrev seen_fields : l.State → List Field
  seen_fields x =
      (codes "format", count_data 1) ∷ (codes "site", count_data x.node.number) ∷ (codes "round", count_data x.node.round)
      ∷ (codes "base", wholes_data x.node.base) ∷ (codes "deltas", wholes_data x.node.deltas) ∷ (codes "made", count_data x.made)
      ∷ (codes "mode", string (mode_name x.node.mode)) ∷ (codes "breach", maybe_data seen_breach (by_of x.node.mode))
      ∷ (codes "decided", maybe_data seen_breach x.node.decided) ∷ (codes "states", list_data (map seen_said x.node.states))
      ∷ (codes "left", maybe_data seen_past x.node.past) ∷ (codes "queue", list_data (map seen_request x.queue))
      ∷ (codes "answered", list_data (map seen_answer x.answered)) ∷ []

  abbrev seen_state : l.State → Data
  seen_state x = settled (seen_fields x)

  breaches_become : (o : Option Breach) → IfSome o (IsSmallBreach w) → Becomes 2 (maybe_data (breach_data w) o) (maybe_data seen_breach o)
  breaches_become o h = maybe_becomes 2 (breach_data w) seen_breach o (maybe_by (IsSmallBreach w) (λ b. Becomes 2 (breach_data w b) (seen_breach b)) breach_becomes o h)

  pasts_become : (o : Option Past) → IfSome o (IsSmallPast w) → Becomes 5 (maybe_data (past_data w) o) (maybe_data seen_past o)
  pasts_become o h = maybe_becomes 5 (past_data w) seen_past o (maybe_by (IsSmallPast w) (λ p. Becomes 5 (past_data w p) (seen_past p)) past_becomes o h)

  state_becomes : (x : l.State) → IsSmallDesk w x → Becomes 6 (state_data w x) (seen_state x)
  state_becomes x h =
      let n = x.node in
      let site = n.number in
      let number = h.node.number in
      object_becomes 5 _ _
      (more_fields 5 (codes "format") _ _ _ _ refl (count_here 5 1 (omega arith))
      (more_fields 5 (codes "site") _ _ _ _ refl (count_here 5 site (omega (arith, number)))
      (more_fields 5 (codes "round") _ _ _ _ refl (count_here 5 n.round h.node.round)
      (more_fields 5 (codes "base") _ _ _ _ refl (deeper 1 5 _ _ (omega arith) (deltas_stay w names n.base h.node.base.values))
      (more_fields 5 (codes "deltas") _ _ _ _ refl (deeper 1 5 _ _ (omega arith) (deltas_stay w names n.deltas h.node.deltas.values))
      (more_fields 5 (codes "made") _ _ _ _ refl (count_here 5 x.made h.made)
      (more_fields 5 (codes "mode") _ _ _ _ refl (stays 0 5 _ (omega arith) (plain_string (mode_name n.mode) (name_ascii n.mode)))
      (more_fields 5 (codes "breach") _ _ _ _ refl (deeper 2 5 _ _ (omega arith) (breaches_become (by_of n.mode) (mode_small n.mode h.node.mode)))
      (more_fields 5 (codes "decided") _ _ _ _ refl (deeper 2 5 _ _ (omega arith) (breaches_become n.decided h.node.decided))
      (more_fields 5 (codes "states") _ _ _ _ refl
      (deeper 4 5 _ _ (omega arith) (list_becomes 3 (λ o. maybe_data (said_data w) o) seen_said n.states (kept_becomes 0 n.states h.node.states)))
      (more_fields 5 (codes "left") _ _ _ _ refl (pasts_become n.past h.node.past)
      (more_fields 5 (codes "queue") _ _ _ _ refl
      (deeper 2 5 _ _ (omega arith)
      (list_becomes 1 (request_data w) seen_request x.queue
      (each_map (IsSmallRequest w site) (λ r. Becomes 1 (request_data w r) (seen_request r)) (request_becomes site) x.queue h.queue)))
      (more_fields 5 (codes "answered") _ _ _ _ refl
      (deeper 3 5 _ _ (omega arith)
      (list_becomes 2 (given_data w) seen_answer x.answered
      (each_map (IsSmallAnswer w site) (λ a. Becomes 2 (given_data w a) (seen_answer a)) (answer_becomes site) x.answered h.answered)))
      (no_fields 5))))))))))))))

  all_kept_are : (xs : List (Option Said)) → length xs ≡ sites_of w → AllKept w 0 xs → all_kept w (map seen_said xs) ≡ Some xs
  all_kept_are xs all h =
      ap (λ b. if b then each_from (λ site. maybe (said_of w site)) 0 (map seen_said xs) else None)
      (eq-eqb (length (map seen_said xs)) (sites_of w) (length-map xs seen_said ∙ all))
      ∙ kept_back 0 xs h

  node_is : (x : l.State) → IsSmallDesk w x → node_of w x.node.number x.queue (seen_state x) ≡ Some x.node
  node_is x h =
      ap (option_and_then by_round) (number_is (codes "round") d n.round refl h.node.round)
      ∙ ap (option_and_then (by_mode n.round)) (mode_is d n.mode h.node.mode refl refl)
      ∙ ap (option_and_then (by_decided n.round n.mode))
      (maybe_is (breach_of w) (breach_fields w) n.decided (maybe_by (IsSmallBreach w) (λ b. breach_of w (seen_breach b) ≡ Some b) breach_back n.decided h.node.decided))
      ∙ ap (option_and_then (by_base n.round n.mode n.decided)) (database_is w names (codes "base") d n.base h.node.base.all h.node.base.values refl)
      ∙ ap (option_and_then (by_deltas n.round n.mode n.decided n.base)) (database_is w names (codes "deltas") d n.deltas h.node.deltas.all h.node.deltas.values refl)
      ∙ ap (λ o. option_and_then (by_states n.round n.mode n.decided n.base n.deltas) (option_and_then (all_kept w) o)) (list_is (map seen_said n.states))
      ∙ ap (option_and_then (by_states n.round n.mode n.decided n.base n.deltas)) (all_kept_are n.states h.node.sites h.node.states)
      ∙ ap (option_and_then (made n.round n.mode n.decided n.base n.deltas n.states))
      (maybe_is (past_of w) past_seen n.past (maybe_by (IsSmallPast w) (λ p. past_of w (seen_past p) ≡ Some p) past_back n.past h.node.past))
      ∙ ap (λ q. Some (record { number = n.number; round = n.round; base = n.base; deltas = n.deltas; mode = n.mode; decided = n.decided; states = n.states; past = n.past; queue = q })) h.paired
    where
      n : Small
      n = x.node

      d : Data
      d = seen_state x

      made : ℕ → Mode → Option Breach → List ℤ → List ℤ → List (Option Said) → Option Past → Option Small
      made round mode decided base deltas states past = Some (record {
        number = n.number;
        round = round;
        base = base;
        deltas = deltas;
        mode = mode;
        decided = decided;
        states = states;
        past = past;
        queue = map (λ (r : Request). r.call) x.queue;
      })

      by_states : ℕ → Mode → Option Breach → List ℤ → List ℤ → List (Option Said) → Option Small
      by_states round mode decided base deltas states = option_and_then (made round mode decided base deltas states) (option_and_then (maybe (past_of w)) (get (codes "left") d))

      by_deltas : ℕ → Mode → Option Breach → List ℤ → List ℤ → Option Small
      by_deltas round mode decided base deltas = option_and_then (by_states round mode decided base deltas) (option_and_then (all_kept w) (list_at (codes "states") d))

      by_base : ℕ → Mode → Option Breach → List ℤ → Option Small
      by_base round mode decided base = option_and_then (by_deltas round mode decided base) (database_at w (codes "deltas") d)

      by_decided : ℕ → Mode → Option Breach → Option Small
      by_decided round mode decided = option_and_then (by_base round mode decided) (database_at w (codes "base") d)

      by_mode : ℕ → Mode → Option Small
      by_mode round mode = option_and_then (by_decided round mode) (option_and_then (maybe (breach_of w)) (get (codes "decided") d))

      by_round : ℕ → Option Small
      by_round round = option_and_then (by_mode round) (mode_of w d)

  state_is : (x : l.State) → IsSmallDesk w x → state_of w (seen_state x) ≡ Some x
  state_is x h =
      let number = h.node.number in
      ap (option_and_then by_site) (small_is (codes "site") d site refl number)
      ∙ ap (λ o. option_and_then (by_queue site) (option_and_then (each (request_of w site)) o)) (list_is (map seen_request x.queue))
      ∙ ap (option_and_then (by_queue site)) (each_is (IsSmallRequest w site) (request_of w site) seen_request (request_is site) 0 x.queue h.queue)
      ∙ ap (option_and_then (by_node site x.queue)) (node_is x h)
      ∙ ap (λ o. option_and_then (by_answers x.queue x.node) (option_and_then (each (answer_of w site)) o)) (list_is (map seen_answer x.answered))
      ∙ ap (option_and_then (by_answers x.queue x.node)) (each_is (IsSmallAnswer w site) (answer_of w site) seen_answer (answer_is site) 0 x.answered h.answered)
      ∙ ap (option_and_then (made x.queue x.node x.answered)) (number_is (codes "made") d x.made refl h.made)
    where
      site : ℕ
      site = x.node.number

      d : Data
      d = seen_state x

      made : List Request → Small → List l.Answer → ℕ → Option l.State
      made queue node answered count = Some (record { node = node; made = count; queue = queue; answered = answered })

      by_answers : List Request → Small → List l.Answer → Option l.State
      by_answers queue node answered = option_and_then (made queue node answered) (number_at (codes "made") d)

      by_node : ℕ → List Request → Small → Option l.State
      by_node k queue node = option_and_then (by_answers queue node) (option_and_then (each (answer_of w k)) (list_at (codes "answered") d))

      by_queue : ℕ → List Request → Option l.State
      by_queue k queue = option_and_then (by_node k queue) (node_of w k queue d)

      by_site : ℕ → Option l.State
      by_site k = option_and_then (by_queue k) (option_and_then (each (request_of w k)) (list_at (codes "queue") d))

  -- ---- the line of a snapshot
  abbrev snapshot_fields : Option ℕ → Data → List Field
  snapshot_fields number state = type_fields (codes "snapshot_ok") number ++ (codes "state", state) ∷ []

  snapshot_becomes : (number : Option ℕ) → IfSome number (λ n. n < 2 ^ 53) → (d e : Data) → Becomes 6 d e →
      Becomes 7 (object_of (snapshot_fields number d)) (settled (snapshot_fields number e))
  snapshot_becomes None small d e h =
      object_becomes 6 _ _
      (more_fields 6 (codes "type") _ _ _ _ refl (stays 0 6 _ (omega arith) (plain_string (codes "snapshot_ok") (IsUtf8-are_ascii _ refl)))
      (more_fields 6 (codes "state") _ _ _ _ refl h (no_fields 6)))
  snapshot_becomes (Some number) small d e h =
      object_becomes 6 _ _
      (more_fields 6 (codes "type") _ _ _ _ refl (stays 0 6 _ (omega arith) (plain_string (codes "snapshot_ok") (IsUtf8-are_ascii _ refl)))
      (more_fields 6 (codes "in_reply_to") _ _ _ _ refl (count_here 6 number small)
      (more_fields 6 (codes "state") _ _ _ _ refl h (no_fields 6))))

  state_got : (number : Option ℕ) (d : Data) → get (codes "state") (settled (snapshot_fields number d)) ≡ Some d
  state_got None d = refl
  state_got (Some number) d = refl

  pub state_read_back : (from to : Option (List ℕ)) → IsText from → IsText to → (number : Option ℕ) → IfSome number (λ n. n < 2 ^ 53) → (x : l.State) → IsSmallDesk w x →
      IsShown w (line_json w from to (l.SnapshotOk number x)) x
  state_read_back from to f t number small x h =
      let body = settled (snapshot_fields number (seen_state x)) in
      record {
        value = line_with w names from to body;
        json = line_becomes w names 7 from to (l.SnapshotOk number x) body f t (omega arith) (snapshot_becomes number small (state_data w x) (seen_state x) (state_becomes x h));
        body = body;
        in_line = refl;
        means = ap (maybe_state w) (state_got number (seen_state x)) ∙ ap (option_map Some) (state_is x h);
      }
