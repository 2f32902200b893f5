-- What the questions are about, and the questions put over that. A station's table tells these facts, and so does its
-- history.
use Rattle.std.specs.Prelude.{ℕ, Bool, ◌&&◌, List, [], ◌∷◌, ◌==◌, nat_le}
use Rattle.station.specs.declared.call.Call.{Call}
use Rattle.station.specs.declared.call.Call.TheVariants.{Open, Join, Leave, Start, Finish, Write, Strike, Read, Earlier, Newer, Label}
use Rattle.station.specs.declared.refusal.Reason.TheVariants.{AlreadyOpen, SeatCount, OrderTooSmall, NoSuchSeat, MapTooLarge, NotIdle, NotWaiting, NotHolding, StartTaken, NobodyWaits, NoWriting, NothingStands, NoLabelLeft}
use Rattle.station.specs.Questions.{Asked, ask}

pub record Facts : Type 0 where
  -- how many seats the station has, and the order of its label system
  pub seats : ℕ
  pub order : ℕ
  -- what each seat does in the start line, and whether it has a standing writing
  pub idle : ℕ → Bool
  pub waits : ℕ → Bool
  pub holds : ℕ → Bool
  pub stands : ℕ → Bool
  -- whether nobody holds the start, the waiting seats have a tail, the standing writings a head
  pub start_free : Bool
  pub has_tail : Bool
  pub has_head : Bool
  -- whether the system chooses a label for a seat that would wait, and for a writing of each seat
  pub label_to_wait : Bool
  pub label_to_write : ℕ → Bool

abbrev pub is_seat : Facts → ℕ → Bool
is_seat f seat = nat_le 1 seat && nat_le seat f.seats

-- the rules' questions to each call, put over facts
abbrev pub questions_over : Facts → Call → List Asked
questions_over f (Open n) =
    ask (f.seats == 0) AlreadyOpen 0
    ∷ ask (nat_le 1 n && nat_le n 20) SeatCount 0
    ∷ ask (nat_le n f.order) OrderTooSmall 0
    ∷ []
questions_over f (Join seat) =
    ask (is_seat f seat) NoSuchSeat seat
    ∷ ask (f.idle seat) NotIdle seat
    ∷ ask f.label_to_wait NoLabelLeft seat
    ∷ []
questions_over f (Leave seat) = ask (is_seat f seat) NoSuchSeat seat ∷ ask (f.waits seat) NotWaiting seat ∷ []
questions_over f Start = ask f.start_free StartTaken 0 ∷ ask f.has_tail NobodyWaits 0 ∷ []
questions_over f (Finish seat) = ask (is_seat f seat) NoSuchSeat seat ∷ ask (f.holds seat) NotHolding seat ∷ []
questions_over f (Write seat map) =
    ask (is_seat f seat) NoSuchSeat seat
    ∷ ask (nat_le map 65535) MapTooLarge seat
    ∷ ask (f.label_to_write seat) NoLabelLeft seat
    ∷ []
questions_over f (Strike seat) = ask (is_seat f seat) NoSuchSeat seat ∷ ask (f.stands seat) NoWriting seat ∷ []
questions_over f Read = ask f.has_head NothingStands 0 ∷ []
questions_over f (Earlier first second) =
    ask (is_seat f first) NoSuchSeat first
    ∷ ask (is_seat f second) NoSuchSeat second
    ∷ ask (f.waits first) NotWaiting first
    ∷ ask (f.waits second) NotWaiting second
    ∷ []
questions_over f (Newer first second) =
    ask (is_seat f first) NoSuchSeat first
    ∷ ask (is_seat f second) NoSuchSeat second
    ∷ ask (f.stands first) NoWriting first
    ∷ ask (f.stands second) NoWriting second
    ∷ []
questions_over f (Label seat) = ask (is_seat f seat) NoSuchSeat seat ∷ ask (f.stands seat) NoWriting seat ∷ []
