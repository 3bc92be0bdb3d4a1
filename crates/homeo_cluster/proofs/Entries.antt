-- What is written on the board: a head and prints.
use Rattle.homeo_history.specs.Key.{definitions as history_definitions}
use Rattle.homeo_assembly.specs.Key.{definitions}
use Rattle.std.proofs.Common.{◌≡◌, ℕ, List, ◌++◌, ◌∙◌, ap, sym}
use Rattle.std.specs.Prelude.{ℤ}
use Rattle.homeo_plan.specs.declared.treaty.Broken.{Broken}
use Rattle.homeo_history.specs.Answers.{Answer, local_answer}
use Rattle.homeo_history.specs.History.{Entry}
use Rattle.homeo_history.specs.declared.answer.Path.TheVariants.{Local, Cleanup}
use Rattle.homeo_assembly.specs.Written.{head_of, written}

pub written_entry : (round site : ℕ) (e : Entry) (head prints : List ℤ) → head ≡ head_of e.call.seq site round Local → prints ≡ e.prints → head ++ prints ≡ written (local_answer round site e)
unfolding definitions history_definitions
written_entry round site e head prints h p = λ i. h i ++ p i

pub written_closing : (a : Answer) (b : Broken) (head prints : List ℤ) → a.path ≡ Cleanup b → head ≡ head_of a.seq a.site a.round (Cleanup b) → prints ≡ a.prints → head ++ prints ≡ written a
unfolding definitions
written_closing a b head prints path h p = (λ i. h i ++ p i) ∙ ap (λ q. head_of a.seq a.site a.round q ++ a.prints) (sym path)
