-- The table that a station holds.
use Rattle.station.specs.declared.station.Station.{Station}
use Rattle.station.specs.Table.{Table}

abbrev pub table : {S : Type 0} → Station S → Table
table st = st.rows.items
