use Rattle.homeo_history.specs.Key.{definitions as history_definitions}
use Rattle.std.proofs.Common.{◌≡◌, ℕ, List, ◌++◌, subst}
use Rattle.std.specs.Prelude.{ℤ}
use Rattle.homeo_history.specs.Answers.{local_answer}
use Rattle.homeo_history.specs.HistoryView.{plain_entry}
use Rattle.homeo_assembly.specs.Written.{written}
use Rattle.homeo_cluster.specs.inner.Grows.{Grew}
use Rattle.homeo_cluster.proofs.Entries.{written_entry}
use Rattle.homeo_cluster.proofs.frame.Frame.move_entry.Goals as goal
use Rattle.homeo_cluster.proofs.frame.Frame.move_entry.Goals.{After-extend_pair}
use Rattle.homeo_cluster.proofs.frame.Frame.move_entry.Given.{Over}

abbrev LineEntry : Type 0
LineEntry = ℕ × List ℤ

entry : (g : Over) (c : After-extend_pair g) → c.local_head-head.result ++ c.as_slice.result.now ≡ written (local_answer c.args.round c.args.number (plain_entry c.args.entry.now))
unfolding history_definitions
entry g c =
    written_entry c.args.round c.args.number (plain_entry c.args.entry.now) c.local_head-head.result c.as_slice.result.now c.local_head-head.ensures c.as_slice.ensures

pub returns-clause-site : goal.returns-clause-site
returns-clause-site g c =
    subst (λ (x : LineEntry). Grew c.args.site.now c.extend_pair.new.left x.0 x.1) (λ i. (c.shut-shut.ensures i, entry g c i)) c.extend_pair.ensures.left

pub returns-clause-book : goal.returns-clause-book
returns-clause-book g c =
    subst (λ (x : LineEntry). Grew c.args.book.now c.extend_pair.new.right x.0 x.1) (λ i. (c.kept-kept.ensures i, entry g c i)) c.extend_pair.ensures.right
