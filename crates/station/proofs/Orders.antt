-- Every call is orderly: one row changes at most, and none where it is refused.
use Rattle.std.proofs.Common.{◌≡◌, ℕ, zero, suc, ◌-◌, ◌≤◌, Bool, true, false, not, leb, eqb, ◌⊎◌, List, [], ◌∷◌, length, Some, None, Option, is_some, sym, refl, subst, inl, inr, arith}
use Rattle.std.proofs.lemmas.List.{length-set, get_or-set_other}
use Rattle.std.proofs.lemmas.Bool.{and_parts, leb-true, eqb-false}
use Rattle.labels.specs.System.{System}
use Rattle.search.specs.Search.{tail_of}
use Rattle.station.specs.declared.call.Call.{Call}
use Rattle.station.specs.declared.call.Call.TheVariants.{Open, Join, Leave, Start, Finish, Write, Strike, Read, Earlier, Newer, Label}
use Rattle.station.specs.declared.answer.Answer.{Answer}
use Rattle.station.specs.declared.refusal.Refusal.{Refusal}
use Rattle.station.specs.declared.refusal.Reason.{Reason}
use Rattle.station.specs.declared.refusal.Reason.TheVariants.{NoSuchSeat, StartTaken, NobodyWaits}
use Rattle.station.specs.declared.row.Row.{Row}
use Rattle.station.specs.Table.{Table, blank, seated, with_row}
use Rattle.station.specs.Facts.{Facts, questions_over}
use Rattle.station.specs.Questions.{Asked, ask, first_no, Reply, replied, settled}
use Rattle.station.specs.Told.{row_at}
use Rattle.station.specs.Rules.{waiting_entries, waiting_row, found_row, waiting_seat, line_tail, some_holds, answer, after, Ran, questions as asked_of}
use Rattle.station.proofs.Asking.{but_first}
use Rattle.station.specs.Orderly.{is_on, rise_from, Orderly}

pub other_row : (t : Table) (seat : ℕ) (row : Row) (other : ℕ) → 1 ≤ seat → eqb seat other ≡ false → row_at (with_row t seat row) other ≡ row_at t other
other_row t seat row zero low e = refl
other_row t seat row (suc q) low e = get_or-set_other t (seat - 1) q row blank (λ same. eqb-false seat (suc q) e (omega arith))

length_with_row : (t : Table) (seat : ℕ) (row : Row) → length (with_row t seat row) ≡ length t
length_with_row t seat row = length-set t (seat - 1) row

-- where no question is answered no
first_holds : (holds : Bool) (reason : Reason) (about : ℕ) (qs : List Asked) → first_no (ask holds reason about ∷ qs) ≡ None → holds ≡ true
first_holds true reason about qs e = refl
first_holds false reason about qs e = cc

rest_hold : (holds : Bool) (reason : Reason) (about : ℕ) (qs : List Asked) → first_no (ask holds reason about ∷ qs) ≡ None → first_no qs ≡ None
rest_hold true reason about qs e = e
rest_hold false reason about qs e = cc

from_one : (t : Table) (seat : ℕ) (qs : List Asked) → first_no (ask (seated t seat) NoSuchSeat seat ∷ qs) ≡ None → 1 ≤ seat
from_one t seat qs e = leb-true 1 seat (and_parts (leb 1 seat) (leb seat (length t)) (first_holds (seated t seat) NoSuchSeat seat qs e)).0

found_from_one : (t : Table) (place : Option ℕ) → is_some (found_row waiting_row t place) ≡ true → 1 ≤ waiting_seat (found_row waiting_row t place)
found_from_one t None e = let z : ◌≡◌ {A = ℕ} 0 1 = cc in absurd (omega arith)
found_from_one t (Some k) e = omega arith

start_from_one : (s : System) (t : Table) → first_no (asked_of s t Start) ≡ None → 1 ≤ waiting_seat (line_tail s t)
start_from_one s t e =
    found_from_one t (tail_of s (waiting_entries t)) (first_holds (is_some (line_tail s t)) NobodyWaits 0 [] (rest_hold (not (some_holds t)) StartTaken 0 (ask (is_some (line_tail s t)) NobodyWaits 0 ∷ []) e))

-- the table after an accepted call, but for the rows that the call is on
pub others_stay : (s : System) (t : Table) (call : Call) (seat : ℕ) → first_no (asked_of s t call) ≡ None → is_on call (answer s t call) seat ≡ false → row_at (after s t call) seat ≡ row_at t seat
others_stay s t (Open n) seat accepted e = let z : ◌≡◌ {A = ℕ} 0 1 = cc in absurd (omega arith)
others_stay s t (Join named) seat accepted e = other_row t named _ seat (from_one t named (but_first (asked_of s t (Join named))) accepted) e
others_stay s t (Leave named) seat accepted e = other_row t named _ seat (from_one t named (but_first (asked_of s t (Leave named))) accepted) e
others_stay s t Start seat accepted e = other_row t _ _ seat (start_from_one s t accepted) e
others_stay s t (Finish named) seat accepted e = other_row t named _ seat (from_one t named (but_first (asked_of s t (Finish named))) accepted) e
others_stay s t (Write named map) seat accepted e = other_row t named _ seat (from_one t named (but_first (asked_of s t (Write named map))) accepted) e
others_stay s t (Strike named) seat accepted e = other_row t named _ seat (from_one t named (but_first (asked_of s t (Strike named))) accepted) e
others_stay s t Read seat accepted e = refl
others_stay s t (Earlier first second) seat accepted e = refl
others_stay s t (Newer first second) seat accepted e = refl
others_stay s t (Label named) seat accepted e = refl

seats_stay : (s : System) (t : Table) (call : Call) → (length (after s t call) ≡ length t) ⊎ ((n : ℕ) × (call ≡ Open n))
seats_stay s t (Open n) = inr (n, refl)
seats_stay s t (Join named) = inl (length_with_row t named _)
seats_stay s t (Leave named) = inl (length_with_row t named _)
seats_stay s t Start = inl (length_with_row t _ _)
seats_stay s t (Finish named) = inl (length_with_row t named _)
seats_stay s t (Write named map) = inl (length_with_row t named _)
seats_stay s t (Strike named) = inl (length_with_row t named _)
seats_stay s t Read = inl refl
seats_stay s t (Earlier first second) = inl refl
seats_stay s t (Newer first second) = inl refl
seats_stay s t (Label named) = inl refl

by_rising_number : (s : System) (call : Call) (t : Table) → rise_from 1 (asked_of s t call) ≡ true
by_rising_number s (Open n) t = refl
by_rising_number s (Join named) t = refl
by_rising_number s (Leave named) t = refl
by_rising_number s Start t = refl
by_rising_number s (Finish named) t = refl
by_rising_number s (Write named map) t = refl
by_rising_number s (Strike named) t = refl
by_rising_number s Read t = refl
by_rising_number s (Earlier first second) t = refl
by_rising_number s (Newer first second) t = refl
by_rising_number s (Label named) t = refl

over_facts_too : (call : Call) (f : Facts) → rise_from 1 (questions_over f call) ≡ true
over_facts_too (Open n) f = refl
over_facts_too (Join named) f = refl
over_facts_too (Leave named) f = refl
over_facts_too Start f = refl
over_facts_too (Finish named) f = refl
over_facts_too (Write named map) f = refl
over_facts_too (Strike named) f = refl
over_facts_too Read f = refl
over_facts_too (Earlier first second) f = refl
over_facts_too (Newer first second) f = refl
over_facts_too (Label named) f = refl

settled_orderly : (s : System) (t : Table) (call : Call) (o : Option Refusal) → first_no (asked_of s t call) ≡ o → Orderly s t (settled o t (after s t call)) call (replied o (answer s t call))
settled_orderly s t call None accepted = record {
  asked = by_rising_number s call;
  asked_over = over_facts_too call;
  refused = λ e r. let z : ◌≡◌ {A = ℕ} 0 1 = cc in absurd (omega arith);
  others = λ a r seat e. let same : answer s t call ≡ a = cc in others_stay s t call seat accepted (subst (λ (x : Answer). is_on call x seat ≡ false) (sym same) e);
  seats = seats_stay s t call;
}
settled_orderly s t call (Some refusal) asked = record { asked = by_rising_number s call; asked_over = over_facts_too call; refused = λ e r. refl; others = λ a r seat e. refl; seats = inl refl }

pub orderly : (s : System) (before now : Table) (call : Call) (r : Reply) → Ran s before now call r → Orderly s before now call r
orderly s before now call r ran = rw (ran.answers, ran.leaves) (settled_orderly s before call (first_no (asked_of s before call)) refl)
