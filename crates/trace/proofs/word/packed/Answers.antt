-- The fields of a word of two seats are those of its call.
use Rattle.std.proofs.Common.{◌≡◌, ℕ, ◌+◌, ◌*◌, ◌^◌, ◌<◌, arith}
use Rattle.std.proofs.lemmas.Bool.Decides.{nat_tests}
use Rattle.trace.specs.Words.{kind_of, seat_of, second_of}
use Rattle.trace.proofs.word.packed.Goals as goal

fields : (kind first second w : ℕ) → first < 256 → second < 256 → w ≡ kind * 2 ^ 28 + first * 2 ^ 20 + second * 2 ^ 12 → (kind_of w ≡ kind) × (seat_of w ≡ first) × (second_of w ≡ second)
fields kind first second w one two is = (omega arith, omega arith, omega arith)

pub returns-in-Earlier-clause-back : goal.returns-in-Earlier-clause-back
returns-in-Earlier-clause-back c =
    let f = fields 9 c.in-Earlier.first c.in-Earlier.second c.seats_word.result (omega arith) (omega arith) c.seats_word.ensures in
    grind (arith, nat_tests, f.0, f.1, f.2)

pub returns-in-Newer-clause-back : goal.returns-in-Newer-clause-back
returns-in-Newer-clause-back c =
    let f = fields 10 c.in-Newer.first c.in-Newer.second c.seats_word-in-Newer.result (omega arith) (omega arith) c.seats_word-in-Newer.ensures in
    grind (arith, nat_tests, f.0, f.1, f.2)
