-- The number of each fault, and what is told in place of a word or a call.
use Rattle.std.specs.Prelude.{ℕ, cond, Some, None, Ok, Err, Option, Result, nat_le}
use Rattle.station.specs.declared.call.Call.{Call}
use Rattle.trace.specs.declared.fault.WordFault.{WordFault}
use Rattle.trace.specs.declared.fault.WordFault.TheVariants.{MapTooLarge, NotAHead, NotACall}
use Rattle.trace.specs.Words.{word_of, map_in}

abbrev pub fault_number : WordFault → ℕ
fault_number MapTooLarge = 5
fault_number NotAHead = 17
fault_number NotACall = 18

-- what a word holds, or the fault where it holds nothing
abbrev pub or_fault : {X : Type 0} → WordFault → Option X → Result X WordFault
or_fault fault None = Err fault
or_fault fault (Some x) = Ok x

-- the word of a call whose map number fits 16 bits
abbrev pub written : Call → Result ℕ WordFault
written call = cond (nat_le (map_in call) 65535) (Ok (word_of call)) (Err MapTooLarge)
