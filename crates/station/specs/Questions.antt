-- Questions put to a call, in their order: a refusal is the first that is answered no.
use Rattle.std.specs.Prelude.{ℕ, Bool, cond, List, [], ◌∷◌, Some, None, Ok, Err, Option, Result}
use Rattle.station.specs.declared.refusal.Reason.{Reason}
use Rattle.station.specs.declared.refusal.Refusal.{Refusal}
use Rattle.station.specs.declared.answer.Answer.{Answer}

pub record Asked : Type 0 where
  pub holds : Bool
  pub reason : Reason
  pub seat : ℕ

abbrev pub ask : Bool → Reason → ℕ → Asked
ask holds reason seat = record { holds = holds; reason = reason; seat = seat }

abbrev pub first_no : List Asked → Option Refusal
first_no [] = None
first_no (q ∷ qs) = cond q.holds (first_no qs) (Some (record { reason = q.reason; seat = q.seat }))

abbrev pub Reply : Type 0
Reply = Result Answer Refusal

-- a call that is not refused is answered, and a refused call changes nothing
abbrev pub replied : Option Refusal → Answer → Reply
replied None a = Ok a
replied (Some e) a = Err e

abbrev pub settled : {X : Type 0} → Option Refusal → X → X → X
settled None before after = after
settled (Some e) before after = before

-- the reply of a call that answers more narrowly
abbrev pub told : {X : Type 0} → (X → Answer) → Result X Refusal → Reply
told f (Ok x) = Ok (f x)
told f (Err e) = Err e
