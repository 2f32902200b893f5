-- Stays as intervals: a stay lasts from the moment that began it, as long as no later moment begins or ends one of its seat.
use Rattle.std.specs.Prelude.{◌≡◌, ℕ, Bool, true, not, ◌↔◌, ◌∷◌, ◌++◌, length, Some, ◌==◌}
use Rattle.std.specs.List.{AllByRecursion}
use Rattle.labels.specs.System.{System}
use Rattle.lives.specs.History.{Moment, History, Event, event, seats, Stay, Stays, Change, comes, goes, same, labels_by_seat, stays}

abbrev pub leaves_alone : ℕ → Change → Bool
leaves_alone seat (comes named) = not (named == seat)
leaves_alone seat (goes named) = not (named == seat)
leaves_alone seat same = true

-- The stay began at a moment of what is past, with its call, and with the label that was chosen beside the others then.
pub record LastsSince (s : System) (change : Event → Change) (beside : Stays → ℕ → Stays) (past : History) (seat : ℕ) (w : Stay) : Type 0 where
  pub later : History
  pub beginning : Moment
  pub earlier : History
  pub split : past ≡ later ++ beginning ∷ earlier
  pub begins : change (event beginning) ≡ comes seat
  pub lasts : AllByRecursion (λ m. leaves_alone seat (change (event m)) ≡ true) later
  pub since : w.since ≡ length earlier
  pub by : w.by ≡ beginning.call
  pub label : s.choice (labels_by_seat (seats earlier) (beside (stays s change beside earlier) seat)) ≡ Some w.label

abbrev pub Intervals : System → (Event → Change) → (Stays → ℕ → Stays) → History → Type 0
Intervals s change beside past = (seat : ℕ) (w : Stay) → (stays s change beside past seat ≡ Some w) ↔ LastsSince s change beside past seat w
