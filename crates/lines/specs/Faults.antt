-- The number of each reason for not writing a line.
use Rattle.std.specs.Prelude.{ℕ}
use Rattle.lines.specs.declared.line_fault.LineFault.{LineFault}
use Rattle.lines.specs.declared.line_fault.LineFault.TheVariants.{ShortBuffer}

abbrev pub fault_number : LineFault → ℕ
fault_number ShortBuffer = 19
