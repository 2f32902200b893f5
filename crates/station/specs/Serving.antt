-- A call put to a station: it runs by the rules over the station's table, and the system stays.
use Rattle.std.specs.Prelude.{◌≡◌}
use Rattle.labels.specs.System.{System}
use Rattle.station.specs.declared.call.Call.{Call}
use Rattle.station.specs.declared.station.Station.{Station}
use Rattle.station.specs.Questions.{Reply}
use Rattle.station.specs.Rules.{Ran}
use Rattle.station.specs.View.{table}

pub record Served {S : Type 0} (meaning : S → System) (before now : Station S) (call : Call) (r : Reply) : Type 0 where
  pub ran : Ran (meaning before.system) (table before) (table now) call r
  pub system : now.system ≡ before.system
