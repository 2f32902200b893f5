-- One word more of a trace.
use Rattle.std.proofs.Common.{◌≡◌, ℕ, ◌+◌, ◌≤◌, true, not, List, [], ◌∷◌, ◌++◌, length, is_some, Some, None, Option, arith}
use Rattle.std.proofs.lemmas.List.{append_assoc}
use Rattle.labels.specs.System.{System}
use Rattle.station.specs.declared.call.Call.{Call}
use Rattle.station.specs.Table.{Table}
use Rattle.station.specs.Rules.{reply, next}
use Rattle.lives.specs.Lives.{replies}
use Rattle.trace.specs.Words.{call_of}
use Rattle.lines.specs.Lines.{line_bytes}
use Rattle.lines.specs.Replies.{entry_for}
use Rattle.listing.specs.Steps.{answered, left, placed, entry_from, entry_told, ends}
use Rattle.listing.specs.Listing.{words_in, calls_in, and_calls, no_call_at, or_here, lines_from, ending, listed}

-- The line for a word

pub entry_is : (s : System) (t : Table) (k : ℕ) (o : Option Call) → entry_from o (placed k (answered s t o)) ≡ entry_told s t o
entry_is s t k o = grind arith

pub goes_on_is : (s : System) (t : Table) (k : ℕ) (o : Option Call) → not (ends (placed k (answered s t o))) ≡ is_some o
goes_on_is s t k o = grind arith

-- the words of bytes are fewer than the bytes
pub few_words : (bytes : List ℕ) → length (words_in bytes) ≤ length bytes
few_words [] = omega arith
few_words (a ∷ []) = omega arith
few_words (a ∷ b ∷ []) = omega arith
few_words (a ∷ b ∷ c ∷ []) = omega arith
few_words (a ∷ b ∷ c ∷ d ∷ rest) = omega (arith, few_words rest)

-- What words list

-- it is the first word's line, and, where that word holds a call, what the later words list
listed_more : (s : System) (t : Table) (k : ℕ) (ws : List ℕ) (o : Option Call) → is_some o ≡ true
    → lines_from k (and_calls o (calls_in ws)) (replies s t (and_calls o (calls_in ws))) ++ ending (or_here o k (no_call_at (k + 1) ws)) ≡ line_bytes (record { index = k; entry = entry_told s t o }) ++ listed s (left s t o) (k + 1) ws
listed_more s t k ws None some = cc
listed_more s t k ws (Some call) some =
    append_assoc (line_bytes (record { index = k; entry = entry_for call (reply s t call) })) (lines_from (k + 1) (calls_in ws) (replies s (next s t call) (calls_in ws))) (ending (no_call_at (k + 1) ws))

-- a word with index k was put to a station, and its line was added
pub turned : {X : Type 0} (meaning : X → System) (x : X) (t : Table) (k w : ℕ) (out : List ℕ) {y : X} {now : Table} {i j : ℕ} {more words rest all : List ℕ}
    → out ++ listed (meaning x) t i words ≡ all → k ≡ i → j ≡ k + 1 → words ≡ w ∷ rest → is_some (call_of w) ≡ true
    → more ≡ out ++ line_bytes (record { index = k; entry = entry_told (meaning x) t (call_of w) }) → now ≡ left (meaning x) t (call_of w) → y ≡ x
    → more ++ listed (meaning y) now j rest ≡ all
turned meaning x t k w out {rest = rest} so_far here next is some put leaves same =
    let line = line_bytes (record { index = k; entry = entry_told (meaning x) t (call_of w) }) in
    let onward = listed (meaning x) (left (meaning x) t (call_of w)) (k + 1) rest in
    let first : listed (meaning x) t k (w ∷ rest) ≡ line ++ onward = listed_more (meaning x) t k rest (call_of w) some in
    cc (first, append_assoc out line onward)
