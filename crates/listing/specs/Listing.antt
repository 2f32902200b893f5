-- The listing of a trace: from its bytes to words, from words to calls, from calls to the replies of a station's life, and
-- from replies to lines.
use Rattle.std.specs.Prelude.{ℕ, ◌+◌, ◌%◌, Bool, cond, ◌&&◌, List, [], ◌∷◌, ◌++◌, length, Some, None, Option, ◌==◌, nat_le}
use Rattle.labels.specs.System.{System}
use Rattle.over.specs.Piles.{pile_1, pile_2, pile_3, pile_4}
use Rattle.station.specs.declared.call.Call.{Call}
use Rattle.station.specs.Table.{Table}
use Rattle.station.specs.Questions.{Reply}
use Rattle.lives.specs.Lives.{replies}
use Rattle.lives.specs.Promises.{EveryLife}
use Rattle.trace.specs.declared.fault.WordFault.TheVariants.{NotACall, NotAHead}
use Rattle.trace.specs.Bytes.{from_bytes}
use Rattle.trace.specs.Words.{call_of, pile_in_head}
use Rattle.lines.specs.declared.entry.Entry.TheVariants.{Fault}
use Rattle.lines.specs.Replies.{entry_for}
use Rattle.lines.specs.Lines.{line_bytes}
use Rattle.listing.specs.declared.fault.Cause.TheVariants.{Length, Word}
use Rattle.listing.specs.Faults.{cause_number}

-- the words of a trace, each of four bytes
abbrev pub words_in : List ℕ → List ℕ
words_in [] = []
words_in (a ∷ []) = []
words_in (a ∷ b ∷ []) = []
words_in (a ∷ b ∷ c ∷ []) = []
words_in (a ∷ b ∷ c ∷ d ∷ rest) = from_bytes a b c d ∷ words_in rest

-- the calls that words hold, up to the first that holds none
abbrev pub and_calls : Option Call → List Call → List Call
and_calls None calls = []
and_calls (Some call) calls = call ∷ calls

abbrev pub calls_in : List ℕ → List Call
calls_in [] = []
calls_in (w ∷ ws) = and_calls (call_of w) (calls_in ws)

-- the index of the first word that holds no call, the first word having index k
abbrev pub or_here : Option Call → ℕ → Option ℕ → Option ℕ
or_here None k later = Some k
or_here (Some call) k later = later

abbrev pub no_call_at : ℕ → List ℕ → Option ℕ
no_call_at k [] = None
no_call_at k (w ∷ ws) = or_here (call_of w) k (no_call_at (k + 1) ws)

-- a line for each call, from index k on
abbrev pub lines_from : ℕ → List Call → List Reply → List ℕ
lines_from k [] rs = []
lines_from k (call ∷ calls) [] = []
lines_from k (call ∷ calls) (r ∷ rs) = line_bytes (record { index = k; entry = entry_for call r }) ++ lines_from (k + 1) calls rs

abbrev pub fault_line : ℕ → ℕ → List ℕ
fault_line k n = line_bytes (record { index = k; entry = Fault n })

abbrev pub ending : Option ℕ → List ℕ
ending None = []
ending (Some k) = fault_line k (cause_number (Word NotACall))

-- what words list from index k on, over a station with this table
abbrev pub listed : System → Table → ℕ → List ℕ → List ℕ
listed s t k ws = lines_from k (calls_in ws) (replies s t (calls_in ws)) ++ ending (no_call_at k ws)

-- the words after the head, over a new station on the pile that it names
abbrev pub over_pile : ℕ → List ℕ → List ℕ
over_pile pile ws =
    cond (pile == 1) (listed pile_1 [] 1 ws) (cond (pile == 2) (listed pile_2 [] 1 ws) (cond (pile == 3) (listed pile_3 [] 1 ws) (listed pile_4 [] 1 ws)))

abbrev pub after_head : Option ℕ → List ℕ → List ℕ
after_head None ws = fault_line 0 (cause_number (Word NotAHead))
after_head (Some pile) ws = over_pile pile ws

abbrev pub headed : List ℕ → List ℕ
headed [] = []
headed (w ∷ ws) = after_head (pile_in_head w) ws

-- a trace has from 4 to 16,384 bytes, a multiple of 4
abbrev pub fit_length : ℕ → Bool
fit_length n = n % 4 == 0 && nat_le 4 n && nat_le n 16384

abbrev pub listing_of : List ℕ → List ℕ
listing_of bytes = cond (fit_length (length bytes)) (headed (words_in bytes)) (fault_line 0 (cause_number Length))

-- the promises over lives, for the life that a trace tells over whichever pile
pub record EveryTrace : Type 0 where
  pub over_1 : EveryLife pile_1
  pub over_2 : EveryLife pile_2
  pub over_3 : EveryLife pile_3
  pub over_4 : EveryLife pile_4
