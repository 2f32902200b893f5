-- The questions put to a call over a table are those put over the facts that the table tells.
use Rattle.std.proofs.Common.{◌≡◌, ℕ, zero, suc, ◌-◌, ◌≤◌, Bool, cond, leb, List, [], ◌∷◌, get_or, set, is_some, Some, None, refl, ap, ◌∙◌, arith}
use Rattle.labels.specs.System.{System}
use Rattle.station.specs.declared.call.Call.{Call}
use Rattle.station.specs.declared.call.Call.TheVariants.{Open, Join, Leave, Start, Finish, Write, Strike, Read, Earlier, Newer, Label}
use Rattle.station.specs.declared.refusal.Reason.{Reason}
use Rattle.station.specs.declared.refusal.Reason.TheVariants.{NoSuchSeat, MapTooLarge, NotIdle, NotWaiting, NotHolding, NoWriting, NoLabelLeft}
use Rattle.station.specs.declared.row.Row.{Row}
use Rattle.station.specs.Table.{Table, blank, seated, row_of, is_idle, is_holding, waiting_label, standing_label}
use Rattle.station.specs.Questions.{Asked, ask, first_no}
use Rattle.station.specs.Facts.{questions_over}
use Rattle.station.specs.Rules.{waiting_choice, standing_entries, questions as asked_of}
use Rattle.station.specs.Told.{row_at, entries_beside, facts}
use Rattle.search.specs.Search.{labels_in}

place_before : (place : ℕ) → suc place - 1 ≡ place
place_before place = omega arith

-- a seat's row stands one place before its number, and so does its writing
pub row_alike : (t : Table) (seat : ℕ) → 1 ≤ seat → row_of t seat ≡ row_at t seat
row_alike t zero low = absurd (omega arith)
row_alike t (suc place) low = ap (λ p. get_or t p blank) (place_before place)

pub beside_alike : (t : Table) (seat : ℕ) → 1 ≤ seat → set (standing_entries t) (seat - 1) None ≡ entries_beside t seat
beside_alike t zero low = absurd (omega arith)
beside_alike t (suc place) low = ap (λ p. set (standing_entries t) p None) (place_before place)

-- what is asked after the first question
abbrev pub but_first : List Asked → List Asked
but_first [] = []
but_first (q ∷ qs) = qs

-- Where a seat does not exist, what is asked after that makes no difference.
after_seat : (t : Table) (seat : ℕ) (f g : List Asked) → (1 ≤ seat → first_no f ≡ first_no g) → first_no (ask (seated t seat) NoSuchSeat seat ∷ f) ≡ first_no (ask (seated t seat) NoSuchSeat seat ∷ g)
after_seat t zero f g same = refl
after_seat t (suc place) f g same = ap (λ o. cond (seated t (suc place)) o (Some (record { reason = NoSuchSeat; seat = suc place }))) (same (omega arith))

module _ (s : System) (t : Table) where
  -- of one seat, and of two, one thing is asked after that
  of_one : (test : Row → Bool) (reason : Reason) (seat : ℕ) (rest : List Asked) → 1 ≤ seat → first_no (ask (test (row_of t seat)) reason seat ∷ rest) ≡ first_no (ask (test (row_at t seat)) reason seat ∷ rest)
  of_one test reason seat rest low = ap (λ r. first_no (ask (test r) reason seat ∷ rest)) (row_alike t seat low)

  of_two : (test : Row → Bool) (reason : Reason) (a b : ℕ) → 1 ≤ a → 1 ≤ b → first_no (ask (test (row_of t a)) reason a ∷ ask (test (row_of t b)) reason b ∷ []) ≡ first_no (ask (test (row_at t a)) reason a ∷ ask (test (row_at t b)) reason b ∷ [])
  of_two test reason a b low_a low_b =
      of_one test reason a (ask (test (row_of t b)) reason b ∷ []) low_a
      ∙ ap (λ r. first_no (ask (test (row_at t a)) reason a ∷ ask (test r) reason b ∷ [])) (row_alike t b low_b)

  abbrev waiting : Row → Bool
  waiting row = is_some (waiting_label row)

  abbrev standing : Row → Bool
  standing row = is_some (standing_label row)

  abbrev over_table : Call → List Asked
  over_table call = but_first (asked_of s t call)

  abbrev over_facts : Call → List Asked
  over_facts call = but_first (questions_over (facts s t) call)

  pub asked_alike : (call : Call) → first_no (asked_of s t call) ≡ first_no (questions_over (facts s t) call)
  asked_alike (Open n) = refl
  asked_alike (Join seat) = after_seat t seat (over_table (Join seat)) (over_facts (Join seat)) (of_one is_idle NotIdle seat (ask (is_some (waiting_choice s t)) NoLabelLeft seat ∷ []))
  asked_alike (Leave seat) = after_seat t seat (over_table (Leave seat)) (over_facts (Leave seat)) (of_one waiting NotWaiting seat [])
  asked_alike Start = refl
  asked_alike (Finish seat) = after_seat t seat (over_table (Finish seat)) (over_facts (Finish seat)) (of_one is_holding NotHolding seat [])
  asked_alike (Write seat map) =
      after_seat t seat (over_table (Write seat map)) (over_facts (Write seat map))
      (λ low. ap (λ ls. first_no (ask (leb map 65535) MapTooLarge seat ∷ ask (is_some (s.choice (labels_in ls))) NoLabelLeft seat ∷ [])) (beside_alike t seat low))
  asked_alike (Strike seat) = after_seat t seat (over_table (Strike seat)) (over_facts (Strike seat)) (of_one standing NoWriting seat [])
  asked_alike Read = refl
  asked_alike (Earlier a b) =
      after_seat t a (over_table (Earlier a b)) (over_facts (Earlier a b))
      (λ low_a. after_seat t b (but_first (over_table (Earlier a b))) (but_first (over_facts (Earlier a b))) (of_two waiting NotWaiting a b low_a))
  asked_alike (Newer a b) =
      after_seat t a (over_table (Newer a b)) (over_facts (Newer a b))
      (λ low_a. after_seat t b (but_first (over_table (Newer a b))) (but_first (over_facts (Newer a b))) (of_two standing NoWriting a b low_a))
  asked_alike (Label seat) = after_seat t seat (over_table (Label seat)) (over_facts (Label seat)) (of_one standing NoWriting seat [])
