-- Histories as plain data.
use Rattle.std.specs.Prelude.{ℕ, ℤ, List, Option}
use Rattle.homeo_meaning.specs.declared.call.CallId.{CallId}
use Rattle.homeo_plan.specs.declared.treaty.Broken.{Broken}

pub record Entry : Type 0 where
  pub call : CallId
  pub prints : List ℤ

-- the call that closes a round, at its client's site, and what fails first of that site's treaty after it
pub record Closing : Type 0 where
  pub site : ℕ
  pub entry : Entry
  pub broken : Broken

-- a round: the database that it begins with, the entries of each site, and the call that closes it
pub record Round : Type 0 where
  pub base : List ℤ
  pub segments : List (List Entry)
  pub closing : Option Closing

pub record History : Type 0 where
  pub rounds : List Round
  pub last : List ℤ
