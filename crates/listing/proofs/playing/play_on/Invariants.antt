use Rattle.std.proofs.Common.{◌≡◌, ◌+◌, ◌≤◌, ◌++◌, length, vec_items}
use Rattle.station.specs.View.{table}
use Rattle.listing.specs.Listing.{listed, words_in}
use Rattle.listing.proofs.playing.play_on.Given as goal

-- what is listed so far and what the words that are left list are the whole listing
abbrev pub invariant-loop-index : goal.invariant-loop-index
invariant-loop-index g l =
    let index = l.index-iterator.a.start in
    let words = words_in l.index-iterator.b.bytes.now in
    (vec_items l.out ++ listed (g.S.LabelSystem.meaning l.station.system) (table l.station) index words ≡ listed (g.S.LabelSystem.meaning l.initial.station.system) (table l.initial.station) 1 (words_in l.fn.words.bytes.now))
    × (l.station.system ≡ l.initial.station.system)
    × (index + length words ≤ 16385)
