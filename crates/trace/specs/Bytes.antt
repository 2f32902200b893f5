-- A word's bytes, highest first.
use Rattle.std.specs.Prelude.{ℕ, ◌+◌, ◌*◌, ◌^◌, List, slice_index}

abbrev pub from_bytes : ℕ → ℕ → ℕ → ℕ → ℕ
from_bytes a b c d = a * 2 ^ 24 + b * 2 ^ 16 + c * 2 ^ 8 + d

abbrev pub first_word : List ℕ → ℕ
first_word bs = from_bytes (slice_index bs 0) (slice_index bs 1) (slice_index bs 2) (slice_index bs 3)
