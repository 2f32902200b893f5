-- What is asked of a draft before more is put to it, and what it then holds.
use Rattle.std.specs.Prelude.{◌≡◌, ℕ, ◌+◌, ◌≤◌, List, ◌++◌, length}
use Rattle.arrayvec.specs.ArrayString.{ArrayString, array_string_len}

abbrev pub HasRoom : ArrayString → ℕ → Type 0
HasRoom draft n = array_string_len draft + n ≤ 32

-- a text of at most n bytes is put after what the draft held
pub record Puts (before now : ArrayString) (text : List ℕ) (n : ℕ) : Type 0 where
  pub after : now.bytes ≡ before.bytes ++ text
  pub short : length text ≤ n
