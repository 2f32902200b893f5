-- When a system answers as another one does, and by which numbers a system is known.
use Rattle.std.specs.Prelude.{◌≡◌, ℕ, Bool, List}
use Rattle.labels.specs.System.{System}

-- every call over s is answered as over t
pub record AnswersAs (s t : System) : Type 0 where
  pub order : s.order ≡ t.order
  pub count : s.count ≡ t.count
  pub endless : s.endless ≡ t.endless
  pub beats : (a b : ℕ) → s.beats a b ≡ t.beats a b
  pub choice : (l : List ℕ) → s.choice l ≡ t.choice l

pub record KnownBy (s : System) (order count : ℕ) (endless : Bool) : Type 0 where
  pub order_is : s.order ≡ order
  pub count_is : s.count ≡ count
  pub endless_is : s.endless ≡ endless
