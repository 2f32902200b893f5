-- What a station ends as, where the row of a seat is lent, and what the rows end as that it is lent out of.
use Rattle.std.specs.Prelude.{ℕ, ◌-◌, ◌≤◌, Result}
use Rattle.std.proofs.Common.{sym, subst}
use Rattle.std.proofs.lemmas.List.{length-set}
use Rattle.std.specs.Borrow.{LendsIfOk, Fml, RattleType, MutBor, unit}
use Rattle.arrayvec.specs.ArrayVec.{ArrayVec, with_item}
use Rattle.arrayvec.specs.contracts.array_vec.ArrayVec as vec
use Rattle.station.specs.declared.station.Station.{Station}
use Rattle.station.specs.declared.refusal.Refusal.{Refusal}
use Rattle.station.specs.declared.row.Row.{Row}
use Rattle.station.specs.contracts.station.Station.{the_row}
use Rattle.station.specs.contracts.row.Row as row

-- the rows stay as many as they were
abbrev pub with_row_of : {S : Type 0} → Station S → ℕ → Row → Station S
with_row_of st seat row = record st { rows = with_item st.rows (seat - 1) row; few = subst (λ n. n ≤ 20) (sym (length-set st.rows.items (seat - 1) row)) st.few }

abbrev pub LendsRow : (S : RattleType) → MutBor (Station S.Denot) → ℕ → Result (MutBor Row) Refusal → Fml
LendsRow S st seat r = LendsIfOk (the_row S) row.the_row st r (with_row_of st.now seat) st.now

-- with room for as many as `room` says
abbrev pub LendsRowOf : RattleType → MutBor (ArrayVec Row) → ℕ → Result (MutBor Row) Refusal → Fml
LendsRowOf room rows seat r = LendsIfOk (vec.the_row row.the_row room unit) row.the_row rows r (with_item rows.now (seat - 1)) rows.now
