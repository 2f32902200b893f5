-- A short list with one number more, and that the places after it stay zeros.
use Rattle.std.proofs.Common.{◌≡◌, ℕ, ◌+◌, ◌-◌, ◌<◌, ◌≤◌, List, [], ◌∷◌, ◌++◌, length, take, drop, replicate, set, sym, ap, ◌∙◌, arith}
use Rattle.std.proofs.lemmas.List.{take_all, take-append-le, length_push, length-take-le, drop-set-lt, drop-drop, drop-replicate}

-- within the room, nothing is cut off
pub pushed_whole : (l : List ℕ) (x : ℕ) → length l < 20 → take 20 (l ++ x ∷ []) ≡ l ++ x ∷ []
pushed_whole l x lt = take_all 20 (l ++ x ∷ []) (omega (arith, length_push l x))

module _ (items : List ℕ) (len x : ℕ) (wide : length items ≡ 20) where
  pub full : len ≤ 20 → 20 ≤ len → take len items ≡ take 20 (take len items ++ x ∷ [])
  full le ge =
      let size : length (take len items) ≡ 20 = length-take-le len items (omega arith) ∙ omega arith in
      sym (take-append-le 20 (take len items) (x ∷ []) (omega arith) ∙ take_all 20 (take len items) (omega arith))

  pub rest_stays : len < 20 → drop len items ≡ replicate (20 - len) 0 → drop (len + 1) (set items len x) ≡ replicate (20 - (len + 1)) 0
  rest_stays lt rest =
      drop-set-lt (len + 1) items len x (omega arith) ∙ sym (drop-drop 1 len items) ∙ ap (drop 1) rest ∙ drop-replicate 1 (20 - len) 0 ∙ ap (λ k. replicate k 0) (omega arith)
