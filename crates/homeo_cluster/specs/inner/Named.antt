-- A workload of nothing, where none is named.
use Rattle.std.specs.Prelude.{[], pos, None}
use Rattle.homeo_syntax.specs.Source as s

abbrev pub no_workload : s.Workload
no_workload = record {
  version = 0;
  names = [];
  sites = record { value = pos 0; offset = 0 };
  objects = [];
  relations = [];
  transactions = [];
  clients = [];
  schedule = None;
  end = 0;
  weights = [];
}
