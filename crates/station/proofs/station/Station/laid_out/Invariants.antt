use Rattle.std.proofs.Common.{◌≡◌, ◌+◌, ◌++◌, length, drop}
use Rattle.station.specs.Layout.{laid_out}
use Rattle.station.proofs.station.Station.laid_out.Given as goal

abbrev pub invariant-loop-place : goal.invariant-loop-place
invariant-loop-place g l = record {
  so_far : l.rows.items ++ laid_out g.R.Laid.laid (l.place + 1) (drop l.place l.fn.self.rows.items) ≡ laid_out g.R.Laid.laid 1 l.fn.self.rows.items;
  one_each : length l.rows.items ≡ l.place;
}
