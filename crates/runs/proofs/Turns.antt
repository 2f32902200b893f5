-- One call more of those that are put to a station.
use Rattle.std.proofs.Common.{◌≡◌, ℕ, ◌+◌, ◌<◌, ◌≤◌, List, [], ◌∷◌, ◌++◌, length, get_or, drop, sym, ap, ◌∙◌}
use Rattle.std.proofs.lemmas.List.{append_assoc, append-nil, at_drop_more, at_drop_all}
use Rattle.labels.specs.System.{System}
use Rattle.station.specs.declared.call.Call.{Call}
use Rattle.station.specs.Table.{Table}
use Rattle.station.specs.Questions.{Reply}
use Rattle.station.specs.Rules.{reply, Ran}
use Rattle.lives.specs.Lives.{replies}

module _ {X : Type 0} (meaning : X → System) (x : X) (t : Table) (given all : List Reply) (calls : List Call) (i : ℕ) (so_far : given ++ replies (meaning x) t (drop i calls) ≡ all) where
  -- what is given and the replies still to come stay the replies to all calls
  pub served : (y : X) (now : Table) (more : List Reply) (d : Call) (r : Reply) → i < length calls → y ≡ x → Ran (meaning x) t now (get_or calls i d) r → more ≡ given ++ r ∷ [] → more ++ replies (meaning y) now (drop (i + 1) calls) ≡ all
  served y now more d r lt same ran is =
      let rest = drop (i + 1) calls in
      ap (λ z. more ++ replies (meaning z) now rest) same
      ∙ ap (λ l. l ++ replies (meaning x) now rest) is
      ∙ append_assoc given (r ∷ []) (replies (meaning x) now rest)
      ∙ ap (λ l. given ++ l) (ap (λ z. z ∷ replies (meaning x) now rest) ran.answers ∙ ap (λ u. reply (meaning x) t (get_or calls i d) ∷ replies (meaning x) u rest) ran.leaves ∙ sym (at_drop_more (replies (meaning x) t) calls i d lt))
      ∙ so_far

  -- after the last call nothing is still to come
  pub all_served : length calls ≤ i → given ≡ all
  all_served done = sym (append-nil given) ∙ ap (λ l. given ++ l) (sym (at_drop_all (replies (meaning x) t) calls i done)) ∙ so_far
