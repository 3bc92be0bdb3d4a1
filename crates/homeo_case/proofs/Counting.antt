-- What a node has taken on is what the wire has made there, client by client and in order, and then what waits.
use Rattle.homeo_history.specs.Key.{definitions as history_definitions}
use Rattle.std.proofs.Common.{◌≡◌, ℕ, zero, suc, ◌+◌, ◌-◌, ◌<◌, List, [], ◌∷◌, ◌++◌, length, take, drop, replicate, refl, sym, ap, subst, ◌∙◌, arith, slice_set, slice_index_or}
use Rattle.std.specs.List.{range_with_len}
use Rattle.std.proofs.lemmas.List.{append-nil, length-replicate}
use Rattle.std.proofs.lemmas.Bool.{cases_eq}
use mathlib.Core.Logic.{⊎_elim}
use Rattle.homeo_lemmas.proofs.Lists.{range_more}
use Rattle.homeo_syntax.specs.Source as s
use Rattle.homeo_meaning.specs.declared.call.CallId.{CallId}
use Rattle.homeo_history.specs.Legal.{numbers_of}
use Rattle.homeo_history.proofs.Lists.{index_set_same, index_set_other, length_set}
use Rattle.homeo_nodes.specs.Nodes.{Node}
use Rattle.homeo_nodes.proofs.Ordered.{numbers_own, numbers_other, numbers_append, zeros_at}
use Rattle.homeo_nodes.proofs.Withdrawing.{less_asked}

-- the call is its client's next
pub record IsNext (w : s.Workload) (made : List ℕ) (call : CallId) : Type 0 where
  pub seq : call.seq ≡ suc (slice_index_or made call.client 0)
  pub client : call.client < length w.clients

-- at most one call waits
pub record IsCounted (w : s.Workload) (made : List ℕ) (m : Node) : Type 0 where
  pub long : length made ≡ length w.clients
  pub done : List CallId
  pub asked : m.journal.asked ≡ done ++ m.queue
  pub numbers : (client : ℕ) → numbers_of client done ≡ range_with_len 1 (slice_index_or made client 0)
  pub next : (call : CallId) (rest : List CallId) → m.queue ≡ call ∷ rest → IsNext w made call
  pub one : (call : CallId) (rest : List CallId) → m.queue ≡ call ∷ rest → rest ≡ []

abbrev none_of : List CallId
none_of = []

take_nil : (k : ℕ) → take k none_of ≡ none_of
take_nil zero = refl
take_nil (suc k) = refl

-- what is left of a queue begins as the queue does
first_taken : (k : ℕ) (queue : List CallId) (call : CallId) (rest : List CallId) → take k queue ≡ call ∷ rest → (more : List CallId) × ((queue ≡ call ∷ more) × (more ≡ [] → rest ≡ []))
first_taken zero [] call rest e = absurd (cc)
first_taken zero (c ∷ queue) call rest e = absurd (cc)
first_taken (suc k) [] call rest e = absurd (cc)
first_taken (suc k) (c ∷ queue) call rest e =
    let same : c ≡ call = cc in
    let left : take k queue ≡ rest = cc in
    (queue, (ap (λ d. d ∷ queue) same, λ none. sym left ∙ ap (take k) none ∙ take_nil k))

-- ---- one call more is made
pub more_numbers : (made : List ℕ) (done : List CallId) (call : CallId) → ((client : ℕ) → numbers_of client done ≡ range_with_len 1 (slice_index_or made client 0)) → call.seq ≡ suc (slice_index_or made call.client 0) → call.client < length made → (client : ℕ) → numbers_of client (done ++ call ∷ []) ≡ range_with_len 1 (slice_index_or (slice_set made call.client call.seq) client 0)
unfolding history_definitions
more_numbers made done call numbers seq below client = numbers_append client done (call ∷ []) ∙ ⊎_elim own other (cases_eq call.client client)
  where
    own : call.client ≡ client → numbers_of client done ++ numbers_of client (call ∷ []) ≡ range_with_len 1 (slice_index_or (slice_set made call.client call.seq) client 0)
    own e =
        ap (λ ns. numbers_of client done ++ ns) (numbers_own client call [] e)
        ∙ ap (λ ns. ns ++ call.seq ∷ []) (numbers client ∙ ap (λ k. range_with_len 1 (slice_index_or made k 0)) (sym e))
        ∙ ap (λ k. range_with_len 1 (slice_index_or made call.client 0) ++ k ∷ []) (let f : call.seq ≡ 1 + slice_index_or made call.client 0 = omega (arith, seq) in f)
        ∙ sym (range_more 1 (slice_index_or made call.client 0))
        ∙ ap (range_with_len 1) (sym seq ∙ sym (index_set_same made call.client call.seq 0 below))
        ∙ ap (λ k. range_with_len 1 (slice_index_or (slice_set made call.client call.seq) k 0)) e

    other : (call.client ≡ client → ⊥) → numbers_of client done ++ numbers_of client (call ∷ []) ≡ range_with_len 1 (slice_index_or (slice_set made call.client call.seq) client 0)
    other d =
        ap (λ ns. numbers_of client done ++ ns) (numbers_other client call [] d)
        ∙ append-nil (numbers_of client done)
        ∙ numbers client
        ∙ ap (range_with_len 1) (sym (index_set_other made call.client client call.seq 0 (λ e. d (sym e))))

module _ (w : s.Workload) (made : List ℕ) (m m' : Node) (h : IsCounted w made m) where
  never : (call : CallId) (rest : List CallId) → m'.queue ≡ [] → m'.queue ≡ call ∷ rest → ⊥
  never call rest none e = let f : [] ≡ call ∷ rest = sym none ∙ e in cc

  -- the same calls were taken on, and wait
  pub same_counted : m'.journal.asked ≡ m.journal.asked → m'.queue ≡ m.queue → IsCounted w made m'
  same_counted asked queue = record {
    long = h.long;
    done = h.done;
    asked = asked ∙ h.asked ∙ ap (λ q. h.done ++ q) (sym queue);
    numbers = h.numbers;
    next = λ call rest e. h.next call rest (sym queue ∙ e);
    one = λ call rest e. h.one call rest (sym queue ∙ e);
  }

  -- none waited: one is taken on and made, or waits
  pub made_counted : (call : CallId) → m.queue ≡ [] → IsNext w made call → m'.journal.asked ≡ m.journal.asked ++ call ∷ [] → m'.queue ≡ [] → IsCounted w (slice_set made call.client call.seq) m'
  made_counted call idle next asked none = record {
    long = length_set made call.client call.seq ∙ h.long;
    done = h.done ++ call ∷ [];
    asked =
        asked
        ∙ ap (λ cs. cs ++ call ∷ []) (h.asked ∙ ap (λ q. h.done ++ q) idle ∙ append-nil h.done)
        ∙ sym (append-nil (h.done ++ call ∷ []))
        ∙ ap (λ q. (h.done ++ call ∷ []) ++ q) (sym none);
    numbers = more_numbers made h.done call h.numbers next.seq (subst (λ n. call.client < n) (sym h.long) next.client);
    next = λ c rest e. absurd (never c rest none e);
    one = λ c rest e. absurd (never c rest none e);
  }

  pub waits_counted : (call : CallId) → m.queue ≡ [] → IsNext w made call → m'.journal.asked ≡ m.journal.asked ++ call ∷ [] → m'.queue ≡ call ∷ [] → IsCounted w made m'
  waits_counted call idle next asked queue = record {
    long = h.long;
    done = h.done;
    asked =
        asked
        ∙ ap (λ cs. cs ++ call ∷ []) (h.asked ∙ ap (λ q. h.done ++ q) idle ∙ append-nil h.done)
        ∙ ap (λ q. h.done ++ q) (sym queue);
    numbers = h.numbers;
    next = λ c rest e. let f : call ∷ [] ≡ c ∷ rest = sym queue ∙ e in let g : call ≡ c = cc in subst (IsNext w made) g next;
    one = λ c rest e. let f : call ∷ [] ≡ c ∷ rest = sym queue ∙ e in cc;
  }

  -- what waits is withdrawn but for so many
  pub less_counted : (k : ℕ) → m'.journal.asked ≡ take (length m.journal.asked - length (drop k m.queue)) m.journal.asked → m'.queue ≡ take k m.queue → IsCounted w made m'
  less_counted k asked queue = record {
    long = h.long;
    done = h.done;
    asked = asked ∙ sym (less_asked h.done m.queue m.journal.asked k (sym h.asked)) ∙ ap (λ q. h.done ++ q) (sym queue);
    numbers = h.numbers;
    next = λ c rest e. let was = first_taken k m.queue c rest (sym queue ∙ e) in h.next c was.0 was.1.0;
    one = λ c rest e. let was = first_taken k m.queue c rest (sym queue ∙ e) in was.1.1 (h.one c was.0 was.1.0);
  }

  -- the one that waited is made
  pub closing_counted : (call : CallId) (rest : List CallId) → m.queue ≡ call ∷ rest → m'.journal.asked ≡ m.journal.asked → m'.queue ≡ [] → IsCounted w (slice_set made call.client call.seq) m'
  closing_counted call rest first asked none = record {
    long = length_set made call.client call.seq ∙ h.long;
    done = h.done ++ call ∷ [];
    asked =
        asked
        ∙ h.asked
        ∙ ap (λ q. h.done ++ q) (first ∙ ap (λ q. call ∷ q) (h.one call rest first))
        ∙ sym (append-nil (h.done ++ call ∷ []))
        ∙ ap (λ q. (h.done ++ call ∷ []) ++ q) (sym none);
    numbers = more_numbers made h.done call h.numbers (h.next call rest first).seq (subst (λ n. call.client < n) (sym h.long) (h.next call rest first).client);
    next = λ c rest e. absurd (never c rest none e);
    one = λ c rest e. absurd (never c rest none e);
  }

-- ---- before any call
pub first_counted : (w : s.Workload) (m : Node) → m.journal.asked ≡ [] → m.queue ≡ [] → IsCounted w (replicate (length w.clients) 0) m
unfolding history_definitions
first_counted w m asked none = record {
  long = length-replicate (length w.clients) 0;
  done = [];
  asked = asked ∙ sym none;
  numbers = λ client. ap (range_with_len 1) (sym (zeros_at (length w.clients) client));
  next = λ c rest e. absurd (let f : [] ≡ c ∷ rest = sym none ∙ e in cc);
  one = λ c rest e. absurd (let f : [] ≡ c ∷ rest = sym none ∙ e in cc);
}

-- ---- a client's calls among those that its node has taken on
module _ (w : s.Workload) (made : List ℕ) (m : Node) (h : IsCounted w made m) (client : ℕ) where
  by_queue : (queue : List CallId) → m.queue ≡ queue → (k : ℕ) × (numbers_of client m.journal.asked ≡ range_with_len 1 k)
  by_queue [] e =
      (slice_index_or made client 0, ap (numbers_of client) (h.asked ∙ ap (λ q. h.done ++ q) e ∙ append-nil h.done) ∙ h.numbers client)
  by_queue (call ∷ rest) e =
      (slice_index_or (slice_set made call.client call.seq) client 0, ap (numbers_of client) (h.asked ∙ ap (λ q. h.done ++ q) (e ∙ ap (λ q. call ∷ q) (h.one call rest e))) ∙ more_numbers made h.done call h.numbers (h.next call rest e).seq (subst (λ n. call.client < n) (sym h.long) (h.next call rest e).client) client)

  pub counted_range : (k : ℕ) × (numbers_of client m.journal.asked ≡ range_with_len 1 k)
  counted_range = by_queue m.queue refl
