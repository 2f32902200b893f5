-- What writing a line into a buffer answers, and what the buffer then holds.
use Rattle.std.specs.Prelude.{◌≡◌, ℕ, ◌<◌, ◌≤◌, List, ◌++◌, length, drop, Ok, Err, Result}
use Rattle.lines.specs.declared.entry.Line.{Line}
use Rattle.lines.specs.declared.line_fault.LineFault.{LineFault}
use Rattle.lines.specs.Lines.{line_bytes}

-- the line stands at the front, and the bytes after it are as they were
pub record Stands (line : Line) (before now : List ℕ) (n : ℕ) : Type 0 where
  pub room : 32 ≤ length before
  pub size : n ≡ length (line_bytes line)
  pub bytes : now ≡ line_bytes line ++ drop n before

-- a buffer of fewer than 32 bytes is as it was
pub record Refused (before now : List ℕ) : Type 0 where
  pub small : length before < 32
  pub same : now ≡ before

abbrev pub Written : Line → List ℕ → List ℕ → Result ℕ LineFault → Type 0
Written line before now (Ok n) = Stands line before now n
Written line before now (Err e) = Refused before now
