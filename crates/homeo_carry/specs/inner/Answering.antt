-- Answers that a node gives, as they lie in memory.
use Rattle.std.specs.Prelude.{◌≡◌, List, ◌++◌, map, ℤ}
use Rattle.homeo_history.specs.Answers.{Answer}
use Rattle.homeo_history.specs.History.{Closing}
use Rattle.homeo_history.specs.HistoryView.{plain_answer}
use Rattle.homeo_nodes.specs.declared.breach.Breach.{Breach}
use Rattle.homeo_carry.specs.declared.answers.Answers.{Answers}

-- the same node's, with these behind them
pub record AreMore (old new : Answers) (more : List Answer) : Type 0 where
  pub own : new.own ≡ old.own
  pub given : map plain_answer new.given.items ≡ map plain_answer old.given.items ++ more

abbrev pub closing_by : Breach → List ℤ → Closing
closing_by u prints = record { site = u.site; entry = record { call = u.call; prints = prints }; broken = u.broken }
