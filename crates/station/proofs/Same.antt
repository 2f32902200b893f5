-- Two stations with the same system and the same rows are the same, since that the rows are few has one proof at most.
use Rattle.std.proofs.Common.{◌≡◌, ◌≤◌, ap, subst, ◌∙◌}
use Rattle.std.proofs.Props.{props}
use borrow.Follows.Closed.{read_of}
use Rattle.arrayvec.specs.ArrayVec.{ArrayVec, array_vec_len}
use Rattle.station.specs.declared.row.Row.{Row}
use Rattle.station.specs.declared.station.Station.{Station}

in_one_way : (rows : ArrayVec Row) → IsProp (array_vec_len rows ≤ 20)
in_one_way rows = Prim.hlevel props

pub same_station : {S : Type 0} (a b : Station S) → a.system ≡ b.system → a.rows ≡ b.rows → a ≡ b
same_station {S} a b system rows =
    let with_rows : (rows : ArrayVec Row) → Type 0 = λ rows. (few : array_vec_len rows ≤ 20) → ◌≡◌ {A = Station S} a (record { system = a.system; rows = rows; few = few }) in
    subst with_rows rows (λ few. ap (λ few. record { system = a.system; rows = a.rows; few = few }) (in_one_way a.rows a.few few)) b.few ∙ ap (λ system. record { system = system; rows = b.rows; few = b.few }) system

-- a loan of a row, told in two ways that leave the same system and the same rows
pub same_loan : {S : Type 0} (loan : _) (f g : Row → Station S) (a b : Station S) → ((row : Row) → (f row).system ≡ (g row).system) → ((row : Row) → (f row).rows ≡ (g row).rows) → a.system ≡ b.system → a.rows ≡ b.rows → read_of loan f a ≡ read_of loan g b
same_loan loan f g a b system rows system₀ rows₀ = λ t. read_of loan (λ row. same_station (f row) (g row) (system row) (rows row) t) (same_station a b system₀ rows₀ t)
