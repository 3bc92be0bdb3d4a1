-- Chains of slots, made from the last slot backwards.
use Rattle.std.proofs.Common.{◌≡◌, ℕ, suc, ◌+◌, ◌-◌, ◌<◌, ◌≤◌, pos, List, [], ◌∷◌, ◌++◌, drop, get_or, map, length, sym, ap, ◌∙◌, add-one}
use Rattle.std.proofs.Math.Seq.{drop-cons}
use Rattle.std.proofs.lemmas.List.{drop_all}
use Rattle.homeo_syntax.specs.Listed.{Listed}
use Rattle.homeo_syntax.specs.Low as L
use Rattle.homeo_syntax.specs.declared.low.Temp.TheVariants as temp
use Rattle.homeo_syntax.specs.declared.low.SplitName.TheVariants as split
use Rattle.homeo_syntax.specs.declared.low.Temp.{Temp}
use Rattle.homeo_syntax.specs.declared.low.LExpr.{Literal}
use Rattle.homeo_syntax.specs.declared.low.LCommand.{LCommand, Assign}
use Rattle.homeo_syntax.specs.declared.workload.RangeDecl.{RangeDecl}
use Rattle.homeo_syntax.specs.LowView.{low_commands, plain_lcommand}
use Rattle.homeo_syntax.proofs.LowViews.{low_Assign, low_Literal}
use Rattle.homeo_meaning.specs.Key.{definitions as meaning_definitions}
use Rattle.homeo_meaning.specs.Context.{Spot, Slot, cell}
use Rattle.homeo_meaning.specs.LForm.{Target, both, one, read, fresh, equal, one_test, within, read_chain, write_chain, fill_chain, all_within, field_writes}
use Rattle.homeo_desugar.specs.inner.Key.{definitions}
use Rattle.homeo_context.specs.Slots.{plain_spot}
use Rattle.homeo_context.proofs.SlotLists.{slot_of, left}
use Rattle.homeo_desugar.specs.inner.Made.{plain_target, both_tests, AreWithin, filled}
use Rattle.homeo_desugar.specs.declared.making.Target as code
use Rattle.homeo_context.specs.declared.slots.Slots.{Slots}
use Rattle.homeo_desugar.proofs.Makings.{both_both, made_push, tests_none, tests_tests}
use Rattle.homeo_desugar.proofs.SlotLists.{one_more}

-- what a chain ends with where there is no slot
pub zero_assigned : (t : Temp) → plain_lcommand (Assign t (Literal (pos 0))) ≡ L.Assign t (L.Literal (pos 0))
zero_assigned t = low_Assign t (Literal (pos 0)) ∙ ap (L.Assign t) (low_Literal (pos 0))

-- ---- one slot more
pub read_more : (s : Slots) (number : ℕ) (f : Spot) (e : L.Expr) (t : ℕ) (test : L.Cond) (here more chain : L.Command) → 0 < number → number ≤ s.count → chain ≡ L.If test here more → test ≡ one_test (equal e (pos (number - 1))) →
    here ≡ L.Assign (temp.Fresh t) (read (cell (slot_of s (number - 1)) f)) → more ≡ read_chain f e t (left s number) → chain ≡ read_chain f e t (left s (number - 1))
unfolding definitions meaning_definitions
read_more s number f e t test here more chain h k a b c d =
    a ∙ (λ i. L.If (b i) (c i) (d i)) ∙ sym (ap (read_chain f e t) (one_more s number h k))

pub write_more : (s : Slots) (number : ℕ) (f : Spot) (e v : L.Expr) (test : L.Cond) (here more chain : L.Command) → 0 < number → number ≤ s.count → chain ≡ L.If test here more → test ≡ one_test (equal e (pos (number - 1))) →
    here ≡ L.Write (split.Whole (cell (slot_of s (number - 1)) f)) v → more ≡ write_chain f e v (left s number) → chain ≡ write_chain f e v (left s (number - 1))
unfolding definitions meaning_definitions
write_more s number f e v test here more chain h k a b c d =
    a ∙ (λ i. L.If (b i) (c i) (d i)) ∙ sym (ap (write_chain f e v) (one_more s number h k))

pub fill_more : (s : Slots) (number : ℕ) (xs : List Target) (t : ℕ) (test : L.Cond) (here more chain : L.Command) → 0 < number → number ≤ s.count → chain ≡ L.If test here more → test ≡ one_test (equal (read (slot_of s (number - 1)).used) (pos 0)) →
    here ≡ filled (slot_of s (number - 1)) xs t → more ≡ fill_chain xs t (left s number) → chain ≡ fill_chain xs t (left s (number - 1))
unfolding definitions meaning_definitions
fill_more s number xs t test here more chain h k a b c d =
    a ∙ (λ i. L.If (b i) (c i) (d i)) ∙ sym (ap (fill_chain xs t) (one_more s number h k))

-- ---- targets
targets_next : (ts : List code.Target) (i : ℕ) (d : code.Target) → i < length ts → map plain_target (drop i ts) ≡ plain_target (get_or ts i d) ∷ map plain_target (drop (i + 1) ts)
targets_next ts i d h =
    let front : drop i ts ≡ get_or ts i d ∷ drop (i + 1) ts = rw add-one (drop-cons ts i d h) in
    ap (map plain_target) front

-- the tests of one target more
pub tests_step : (ts : List code.Target) (i : ℕ) (d : code.Target) (old new wanted : L.Cond) → i < length ts → new ≡ both_tests old (within (plain_spot (get_or ts i d).field) (fresh (get_or ts i d).temp) L.NoTest) →
    both_tests old (all_within (map plain_target (drop i ts))) ≡ wanted → both_tests new (all_within (map plain_target (drop (i + 1) ts))) ≡ wanted
unfolding definitions meaning_definitions
tests_step ts i d old new wanted h e left =
    let rest : L.Cond = all_within (map plain_target (drop (i + 1) ts)) in
    ap (λ c. both_tests c rest) e
    ∙ tests_tests old (within (plain_spot (get_or ts i d).field) (fresh (get_or ts i d).temp) L.NoTest) rest
    ∙ sym (ap (λ xs. both_tests old (all_within xs)) (targets_next ts i d h))
    ∙ left

pub tests_end : (ts : List code.Target) (i : ℕ) (made : L.Cond) → length ts ≤ i → both_tests made (all_within (map plain_target (drop i ts))) ≡ all_within (map plain_target ts) → made ≡ all_within (map plain_target ts)
unfolding definitions meaning_definitions
tests_end ts i made h left =
    sym (tests_none made) ∙ sym (ap (λ xs. both_tests made (all_within (map plain_target xs))) (drop_all i ts h)) ∙ left

-- the write of one target more
pub writes_step : (slot : Slot) (ts : List code.Target) (i : ℕ) (d : code.Target) (cs : List LCommand) (w : LCommand) (k : ℕ) (new : Listed LCommand) → i < length ts → new ≡ record { items = cs ++ w ∷ []; spare = k } →
    plain_lcommand w ≡ L.Write (split.Whole (cell slot (plain_spot (get_or ts i d).field))) (fresh (get_or ts i d).temp) →
    ((more : L.Commands) → both (low_commands (map plain_lcommand cs)) (field_writes slot (map plain_target (drop i ts)) more) ≡ field_writes slot (map plain_target ts) more) →
    (more : L.Commands) → both (low_commands (map plain_lcommand new.items)) (field_writes slot (map plain_target (drop (i + 1) ts)) more) ≡ field_writes slot (map plain_target ts) more
unfolding definitions meaning_definitions
writes_step slot ts i d cs w k new h pushed e left more =
    let rest : L.Commands = field_writes slot (map plain_target (drop (i + 1) ts)) more in
    ap (λ (l : Listed LCommand). both (low_commands (map plain_lcommand l.items)) rest) pushed
    ∙ ap (λ u. both u rest) (made_push cs w)
    ∙ both_both (low_commands (map plain_lcommand cs)) (one (plain_lcommand w)) rest
    ∙ ap (λ u. both (low_commands (map plain_lcommand cs)) (L.MoreCommand u rest)) e
    ∙ sym (ap (λ xs. both (low_commands (map plain_lcommand cs)) (field_writes slot xs more)) (targets_next ts i d h))
    ∙ left more

-- the write that says that the slot is used, and the assignment of its number
pub fill_end : (slot : Slot) (ts : List code.Target) (i into : ℕ) (cs : List LCommand) (a b : LCommand) (k m : ℕ) (mid new : Listed LCommand) → length ts ≤ i → mid ≡ record { items = cs ++ a ∷ []; spare = k } → new ≡ record { items = mid.items ++ b ∷ []; spare = m } →
    plain_lcommand a ≡ L.Write (split.Whole slot.used) (L.Literal (pos 1)) → plain_lcommand b ≡ L.Assign (temp.Named into) (L.Literal (pos (suc slot.number))) →
    ((more : L.Commands) → both (low_commands (map plain_lcommand cs)) (field_writes slot (map plain_target (drop i ts)) more) ≡ field_writes slot (map plain_target ts) more) →
    L.Seq (low_commands (map plain_lcommand new.items)) ≡ filled slot (map plain_target ts) into
unfolding definitions meaning_definitions
fill_end slot ts i into cs a b k m mid new h first second e f left =
    let made : L.Commands = low_commands (map plain_lcommand cs) in
    let last : L.Commands = L.MoreCommand (L.Write (split.Whole slot.used) (L.Literal (pos 1))) (one (L.Assign (temp.Named into) (L.Literal (pos (suc slot.number))))) in
    ap L.Seq (
    ap (λ (l : Listed LCommand). low_commands (map plain_lcommand l.items)) second
    ∙ ap (λ (l : Listed LCommand). low_commands (map plain_lcommand (l.items ++ b ∷ []))) first
    ∙ made_push (cs ++ a ∷ []) b
    ∙ ap (λ u. both u (one (plain_lcommand b))) (made_push cs a)
    ∙ both_both made (one (plain_lcommand a)) (one (plain_lcommand b))
    ∙ (λ i. both made (L.MoreCommand (e i) (one (f i))))
    ∙ sym (ap (λ xs. both made (field_writes slot (map plain_target xs) last)) (drop_all i ts h))
    ∙ left last
    )

-- each of the targets
pub place_within : (fields : List RangeDecl) (ts : List code.Target) (i : ℕ) (d : code.Target) → i < length ts → AreWithin fields ts → (get_or ts i d).field.place ≤ length fields
unfolding definitions
place_within fields ts i d h all = all i d h
