-- Trace words: the fields of a word, the word of a call, and the call of a word.
use Rattle.std.specs.Prelude.{ℕ, ◌+◌, ◌*◌, ◌/◌, ◌%◌, ◌^◌, cond, ◌&&◌, List, [], ◌∷◌, Some, None, Option, ◌==◌, nat_le, slice_index_or}
use Rattle.station.specs.declared.call.Call.{Call}
use Rattle.station.specs.declared.call.Call.TheVariants.{Open, Join, Leave, Start, Finish, Write, Strike, Read, Earlier, Newer, Label}

-- the kind, a seat or the first of two, the second seat, a map number
abbrev pub kind_of : ℕ → ℕ
kind_of w = w / 2 ^ 28

abbrev pub seat_of : ℕ → ℕ
seat_of w = (w / 2 ^ 20) % 256

abbrev pub second_of : ℕ → ℕ
second_of w = (w / 2 ^ 12) % 256

abbrev pub map_of : ℕ → ℕ
map_of w = w % 65536

-- a kind and a seat, each in its place
abbrev pub kind_seat : ℕ → ℕ → ℕ
kind_seat kind seat = kind * 2 ^ 28 + seat * 2 ^ 20

-- the word of a call; a field that the call does not have stays zero
abbrev pub word_of : Call → ℕ
word_of (Open seats) = kind_seat 1 seats
word_of (Join seat) = kind_seat 2 seat
word_of (Leave seat) = kind_seat 3 seat
word_of Start = kind_seat 4 0
word_of (Finish seat) = kind_seat 5 seat
word_of (Write seat map) = kind_seat 6 seat + map
word_of (Strike seat) = kind_seat 7 seat
word_of Read = kind_seat 8 0
word_of (Earlier first second) = kind_seat 9 first + second * 2 ^ 12
word_of (Newer first second) = kind_seat 10 first + second * 2 ^ 12
word_of (Label seat) = kind_seat 11 seat

-- the calls by kind, from 0, which is none
abbrev pub by_kind : ℕ → ℕ → ℕ → List (Option Call)
by_kind seat second map =
    None ∷ Some (Open seat) ∷ Some (Join seat) ∷ Some (Leave seat) ∷ Some Start ∷ Some (Finish seat) ∷ Some (Write seat map) ∷ Some (Strike seat) ∷ Some Read ∷ Some (Earlier seat second) ∷ Some (Newer seat second) ∷ Some (Label seat) ∷ []

-- the call that the fields of a word name
abbrev pub named_by : ℕ → Option Call
named_by w = slice_index_or (by_kind (seat_of w) (second_of w) (map_of w)) (kind_of w) None

-- a call is that of a word, unless the word has a bit that the call does not have
abbrev pub if_word : ℕ → Option Call → Option Call
if_word w None = None
if_word w (Some call) = cond (word_of call == w) (Some call) None

abbrev pub call_of : ℕ → Option Call
call_of w = if_word w (named_by w)

-- the map number of a call; 0 where it has none
abbrev pub map_in : Call → ℕ
map_in (Open seats) = 0
map_in (Join seat) = 0
map_in (Leave seat) = 0
map_in Start = 0
map_in (Finish seat) = 0
map_in (Write seat map) = map
map_in (Strike seat) = 0
map_in Read = 0
map_in (Earlier first second) = 0
map_in (Newer first second) = 0
map_in (Label seat) = 0

-- the head of a trace over a pile, and the pile in a head
abbrev pub head_word : ℕ → ℕ
head_word pile = 15 * 2 ^ 28 + pile

abbrev pub pile_of : ℕ → ℕ
pile_of w = w % 16

abbrev pub pile_in_head : ℕ → Option ℕ
pile_in_head w = cond (nat_le 1 (pile_of w) && nat_le (pile_of w) 4 && head_word (pile_of w) == w) (Some (pile_of w)) None
