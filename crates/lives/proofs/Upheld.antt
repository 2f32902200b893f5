-- What the agreement of two stations takes from each of them.
use Rattle.std.proofs.Common.{◌≡◌, [], ◌∷◌, None}
use Rattle.labels.specs.System.{System}
use Rattle.station.specs.declared.call.Call.{Call}
use Rattle.station.specs.Table.{Table}
use Rattle.station.specs.Rules.{reply, next}
use Rattle.lives.specs.History.{History, seats, holder, waiting, standing}
use Rattle.lives.specs.Answers.{Nobody, Right}

-- an invariant between table and history that every call keeps, and what it gives
pub record Upheld (s : System) (Fits : Table → History → Type 0) : Type 0 where
  pub new : Fits [] []
  pub step : (t : Table) (past : History) (call : Call) → Fits t past → Fits (next s t call) (record { call = call; reply = reply s t call } ∷ past)
  pub right : (t : Table) (past : History) (call : Call) → Fits t past → Right s past (record { call = call; reply = reply s t call })
  -- before an opening nobody waits, nothing stands and nobody holds the start
  pub closed : (t : Table) (past : History) → Fits t past → seats past ≡ 0 → Nobody (waiting s past) × Nobody (standing s past) × (holder past ≡ None)
