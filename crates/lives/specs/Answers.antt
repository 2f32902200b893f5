-- What a right reply is, after what is past.
use Rattle.std.specs.Prelude.{◌≡◌, ℕ, ◌<◌, Bool, true, ◌↔◌, ◌∷◌, length, Some, None, Ok, Err, Option, ◌≢◌}
use Rattle.labels.specs.System.{System}
use Rattle.station.specs.declared.call.Call.{Call}
use Rattle.station.specs.declared.call.Call.TheVariants.{Open, Join, Leave, Start, Finish, Write, Strike, Read, Earlier, Newer, Label}
use Rattle.station.specs.declared.answer.Answer.{Answer}
use Rattle.station.specs.declared.answer.Answer.TheVariants.{Done, Started, Reading, Verdict, Labelled}
use Rattle.station.specs.declared.refusal.Refusal.{Refusal}
use Rattle.station.specs.Numbers.{number}
use Rattle.station.specs.Questions.{Reply, first_no}
use Rattle.station.specs.Facts.{questions_over}
use Rattle.lives.specs.History.{Moment, History, Event, event, holder, Stay, Stays, Change, comes, line_change, register_change, waiting, standing, facts_told}

abbrev pub Nobody : Stays → Type 0
Nobody stays = (seat : ℕ) → stays seat ≡ None

-- the seat's stay is the one that has lasted longest
pub record Longest (stays : Stays) (seat : ℕ) : Type 0 where
  pub stay : Stay
  pub here : stays seat ≡ Some stay
  pub first : (other : ℕ) (w : Stay) → stays other ≡ Some w → (other ≢ seat) → stay.since < w.since

-- the seat's stay is the one that began last, and it began with this call
pub record Latest (stays : Stays) (seat : ℕ) (call : Call) : Type 0 where
  pub stay : Stay
  pub here : stays seat ≡ Some stay
  pub by : stay.by ≡ call
  pub last : (other : ℕ) (w : Stay) → stays other ≡ Some w → (other ≢ seat) → w.since < stay.since

-- the map number of the last accepted writing that stands, or none where nothing stands
abbrev pub InForce : Stays → Option ℕ → Type 0
InForce stays None = Nobody stays
InForce stays (Some map) = (seat : ℕ) × Latest stays seat (Write seat map)

-- both seats have a stay, and the verdict is yes exactly when the second's is the later
pub record Compared (stays : Stays) (first second : ℕ) (verdict : Bool) : Type 0 where
  pub one : Stay
  pub other : Stay
  pub one_here : stays first ≡ Some one
  pub other_here : stays second ≡ Some other
  pub right : (verdict ≡ true) ↔ (one.since < other.since)

-- the seat that waits longest, and the map in force
pub record Served (s : System) (past : History) (a : Answer) : Type 0 where
  pub seat : ℕ
  pub map : Option ℕ
  pub is : a ≡ Started (record { seat = seat; map = map })
  pub longest : Longest (waiting s past) seat
  pub in_force : InForce (standing s past) map

-- the last accepted writing that stands
pub record Read-right (s : System) (past : History) (a : Answer) : Type 0 where
  pub seat : ℕ
  pub map : ℕ
  pub is : a ≡ Reading (record { seat = seat; map = map })
  pub latest : Latest (standing s past) seat (Write seat map)

-- what a right answer to each call is
abbrev pub RightAnswer : System → History → Call → Answer → Type 0
RightAnswer s past (Open n) a = a ≡ Done
RightAnswer s past (Join seat) a = a ≡ Done
RightAnswer s past (Leave seat) a = a ≡ Done
RightAnswer s past Start a = Served s past a
RightAnswer s past (Finish seat) a = a ≡ Done
RightAnswer s past (Write seat map) a = a ≡ Done
RightAnswer s past (Strike seat) a = a ≡ Done
RightAnswer s past Read a = Read-right s past a
RightAnswer s past (Earlier first second) a =
    (verdict : Bool) × (a ≡ Verdict verdict) × Compared (waiting s past) first second verdict
RightAnswer s past (Newer first second) a =
    (verdict : Bool) × (a ≡ Verdict verdict) × Compared (standing s past) second first verdict
RightAnswer s past (Label seat) a = (w : Stay) × (standing s past seat ≡ Some w) × (a ≡ Labelled w.label)

abbrev pub refusal : Reply → Option Refusal
refusal (Ok a) = None
refusal (Err e) = Some e

-- the reply refuses with this number
abbrev pub RefusedWith : ℕ → Reply → Type 0
RefusedWith n r = (e : Refusal) × (r ≡ Err e) × (number e.reason ≡ n)

-- what this moment begins is there from now on
abbrev pub Begins : (History → Stays) → (Event → Change) → History → Moment → Type 0
Begins stays change past m =
    (seat : ℕ) → change (event m) ≡ comes seat
    → (w : Stay) × (stays (m ∷ past) seat ≡ Some w) × (w.since ≡ length past) × (w.by ≡ m.call)

pub record Right (s : System) (past : History) (m : Moment) : Type 0 where
  -- it is refused exactly with the first question that the history answers no
  pub refused : refusal m.reply ≡ first_no (questions_over (facts_told s past) m.call)
  -- an accepted call is answered rightly
  pub answered : (a : Answer) → m.reply ≡ Ok a → RightAnswer s past m.call a
  -- an accepted join begins a wait, an accepted writing a standing
  pub joins : Begins (waiting s) line_change past m
  pub writes : Begins (standing s) register_change past m
  -- start is refused 9 exactly while a seat holds the start
  pub start_taken : m.call ≡ Start → RefusedWith 9 m.reply ↔ ((seat : ℕ) × (holder past ≡ Some seat))
  -- nobody waits where that is said, and nothing stands where no reading is to be had
  pub nobody_waits : RefusedWith 10 m.reply → Nobody (waiting s past)
  pub nothing_stands : RefusedWith 12 m.reply → Nobody (standing s past)
  -- an endless system always has a label left
  pub never_spent : s.endless ≡ true → RefusedWith 13 m.reply → ⊥
