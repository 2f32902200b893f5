-- What the choice of one system over another amounts to, above the steps by which it is defined.
use Rattle.std.specs.Prelude.{◌≡◌, ℕ, ◌+◌, ◌*◌, ◌/◌, ◌%◌, ◌<◌, ◌≤◌, Bool, ◌↔◌, List, [], length, Some, Option, slice_index, slice_index_or}
use Rattle.std.specs.List.{AllByRecursion}
use Rattle.labels.specs.System.{System, LeadsAt}
use Rattle.labels.specs.Plain.{Distinct}
use Rattle.over.specs.Over.{outer_parts, under, over_order, over_count}

-- m stands at a place of l that leads all others
pub record LedBy (beats : ℕ → ℕ → Bool) (l : List ℕ) (m : ℕ) : Type 0 where
  pub place : ℕ
  pub leads : LeadsAt beats l place
  pub is : slice_index_or l place 0 ≡ m

-- how x comes to be chosen beside l
pub data Step (o i : System) (l : List ℕ) (x : ℕ) : Type 0 where
  -- nothing is listed, and both parts are first choices
  first : (a b : ℕ) → l ≡ [] → o.choice [] ≡ Some a → i.choice [] ≡ Some b → x ≡ a * i.count + b → Step o i l x
  -- the group under the leading outer part is not full, and x grows it
  grows : (m b : ℕ) → LedBy o.beats (outer_parts i.count l) m → length (under i.count m l) < i.order → i.choice (under i.count m l) ≡ Some b → x ≡ m * i.count + b → Step o i l x
  -- that group is full, and x goes outward to a new group
  outward : (m a b : ℕ) → LedBy o.beats (outer_parts i.count l) m → i.order ≤ length (under i.count m l) → o.choice (outer_parts i.count l) ≡ Some a → i.choice [] ≡ Some b → x ≡ a * i.count + b → Step o i l x

pub record Chosen (o i : System) (l : List ℕ) (x : ℕ) : Type 0 where
  pub room : length l < over_order o i
  pub labels : AllByRecursion (λ y. y < over_count o i) l
  pub step : Step o i l x

-- The choice r beside l is x exactly when one of the three steps gives x. The distinct outer parts are distinct, and
-- they are the outer parts of the listed labels. A label is made of its quotient and its remainder by the inner count.
pub record ChoosesByStep (o i : System) (l : List ℕ) (r : Option ℕ) : Type 0 where
  pub label_exactly : (x : ℕ) → (r ≡ Some x) ↔ Chosen o i l x
  pub parts_once : Distinct (outer_parts i.count l)
  pub parts_of_labels : (m : ℕ) → ((k : ℕ) × (k < length (outer_parts i.count l)) × (slice_index (outer_parts i.count l) k ≡ m)) ↔ ((k : ℕ) × (k < length l) × (slice_index l k / i.count ≡ m))
  pub label_of_parts : (x : ℕ) → x < over_count o i → (x / i.count < o.count) × (x % i.count < i.count) × (x / i.count * i.count + x % i.count ≡ x)
