-- The view of each part of a history as it is made.
use Rattle.std.proofs.Common.{◌≡◌, map, refl}
use Rattle.std.specs.Option.{option_map}
use Rattle.homeo_history.specs.Key.{definitions}
use Rattle.homeo_history.specs.HistoryView.{plain_entry, plain_segment, plain_closing, plain_round, plain_history, plain_answer}
use Rattle.homeo_history.specs.declared.answer.Answer.{Answer}
use Rattle.homeo_history.specs.declared.history.Entry.{Entry}
use Rattle.homeo_history.specs.declared.history.Segment.{Segment}
use Rattle.homeo_history.specs.declared.history.Closing.{Closing}
use Rattle.homeo_history.specs.declared.history.Round.{Round}
use Rattle.homeo_history.specs.declared.history.History.{History}

pub plain_Entry : (e : Entry) → plain_entry e ≡ record { call = e.call; prints = e.prints.items }
unfolding definitions
plain_Entry e = refl

pub plain_Segment : (s : Segment) → plain_segment s ≡ map plain_entry s.entries.items
unfolding definitions
plain_Segment s = refl

pub plain_Closing : (c : Closing) → plain_closing c ≡ record { site = c.site; entry = plain_entry c.entry; broken = c.broken }
unfolding definitions
plain_Closing c = refl

pub plain_Round : (r : Round) → plain_round r ≡ record {
  base = r.base.items;
  segments = map plain_segment r.segments.items;
  closing = option_map plain_closing r.closing;
}
unfolding definitions
plain_Round r = refl

pub plain_History : (h : History) → plain_history h ≡ record { rounds = map plain_round h.rounds.items; last = h.last.items }
unfolding definitions
plain_History h = refl

pub plain_Answer : (a : Answer) → plain_answer a ≡ record {
  client = a.client;
  seq = a.seq;
  site = a.site;
  round = a.round;
  path = a.path;
  prints = a.prints.items;
}
unfolding definitions
plain_Answer a = refl

pub ruleset history_views = (plain_Entry, plain_Segment, plain_Closing, plain_Round, plain_History, plain_Answer)
