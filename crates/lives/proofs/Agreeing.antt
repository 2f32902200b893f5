-- Two stations opened with equal seats and then given the same calls agree, whatever was called before.
use Rattle.std.proofs.Common.{◌≡◌, ℕ, ◌≤◌, ◌⊎◌, List, [], ◌∷◌, length, Some, None, Ok, Err, sym, refl, ap, ◌∙◌, subst, inl, inr, ⊎_elim, arith}
use Rattle.std.proofs.lemmas.Bool.{cases_eq}
use Rattle.std.proofs.lemmas.Option.{none-some}
use Rattle.labels.specs.System.{System}
use Rattle.station.specs.declared.call.Call.{Call}
use Rattle.station.specs.declared.refusal.Refusal.{Refusal}
use Rattle.station.specs.Numbers.{number}
use Rattle.station.specs.Table.{Table}
use Rattle.station.specs.Questions.{Reply}
use Rattle.station.specs.Rules.{reply, next}
use Rattle.lives.specs.History.{History, Event, opened, joined, left, started, finished, written, struck, nothing, event_of, seats, holder, waiting, standing, facts_told}
use Rattle.lives.specs.Answers.{Nobody, RefusedWith, Right}
use Rattle.lives.specs.Lives.{replies, Opened, or_opened, since_opening}
use Rattle.lives.specs.Promises.{Agree, over, alike, spent, LivesAgree}
use Rattle.lives.proofs.Upheld.{Upheld}
use Rattle.lives.proofs.Twins.{Twin, pair_none}
use Rattle.lives.proofs.TwinReplies.{opening_told, replies_alike, twins_after}

-- a reply says that no label is left, or it does not
spent_or_not : (r : Reply) → RefusedWith 13 r ⊎ (RefusedWith 13 r → ⊥)
spent_or_not (Ok a) = inr (λ h. let is = h.1 in let z : ◌≡◌ {A = ℕ} 0 1 = cc in omega arith)
spent_or_not (Err e) = ⊎_elim {C = RefusedWith 13 (Err e) ⊎ (RefusedWith 13 (Err e) → ⊥)} (λ is. inl (e, refl, is)) (λ ne. inr (other ne)) (cases_eq (number e.reason) 13)
  where
    other : (number e.reason ≡ 13 → ⊥) → RefusedWith 13 (Err e) → ⊥
    other ne (d, is, what) = let one : e ≡ d = cc in ne (ap (λ (x : Refusal). number x.reason) one ∙ what)

-- a station just opened with n seats: nobody holds the start, nobody waits, nothing stands
record New (s : System) (past : History) (n : ℕ) : Type 0 where
  seats_are : seats past ≡ n
  some : 1 ≤ n
  unheld : holder past ≡ None
  line : Nobody (waiting s past)
  register : Nobody (standing s past)

-- an accepted opening leaves a station new
new_after : (s : System) (past : History) (n : ℕ) (call : Call) (r : Reply) → event_of call r ≡ opened n → Right s past (record { call = call; reply = r })
    → (seats past ≡ 0 → Nobody (waiting s past) × Nobody (standing s past) × (holder past ≡ None)) → New s (record { call = call; reply = r } ∷ past) n
new_after s past n call r is right closed =
    let (shut, some) = opening_told (facts_told s past) n call r right.refused is in
    let (line, register, unheld) = closed shut in
    record { seats_are = rw is; some = some; unheld = rw is unheld; line = λ seat. rw is (line seat); register = λ seat. rw is (register seat) }

-- a moment at which a station was new, with the calls and replies still to come
record Opening (s : System) (Fits : Table → History → Type 0) (o : Opened) : Type 0 where
  table : Table
  past : History
  fits : Fits table past
  new : New s past o.seats
  onward : o.replies ≡ replies s table o.calls

-- a station that has been opened was new then
find_opening : (s : System) (Fits : Table → History → Type 0) → Upheld s Fits → (calls : List Call) (t : Table) (past : History) → Fits t past
    → (o : Opened) → since_opening calls (replies s t calls) ≡ Some o → Opening s Fits o
find_opening s Fits up [] t past fits o e = absurd (none-some _ e)
find_opening s Fits up (call ∷ calls) t past fits o e =
    let t' = next s t call in
    let past' : History = record { call = call; reply = reply s t call } ∷ past in
    go (event_of call (reply s t call)) refl e (find_opening s Fits up calls t' past' (up.step t past call fits) o)
  where
    go : (e : Event) → event_of call (reply s t call) ≡ e
        → or_opened e calls (replies s (next s t call) calls) (since_opening calls (replies s (next s t call) calls)) ≡ Some o
        → (since_opening calls (replies s (next s t call) calls) ≡ Some o → Opening s Fits o) → Opening s Fits o
    go (opened n) is e later =
        let rs = replies s (next s t call) calls in
        let past' : History = record { call = call; reply = reply s t call } ∷ past in
        let now : Opened = record { seats = n; calls = calls; replies = rs } in
        let one : now ≡ o = cc in
        let opening : Opening s Fits now = record {
          table = next s t call;
          past = past';
          fits = up.step t past call fits;
          onward = refl;
          new = new_after s past n call (reply s t call) is (up.right t past call fits) (up.closed t past fits);
        } in
        subst (λ (o : Opened). Opening s Fits o) one opening
    go (joined seat) is e later = later e
    go (left seat) is e later = later e
    go (started seat) is e later = later e
    go (finished seat) is e later = later e
    go (written seat) is e later = later e
    go (struck seat) is e later = later e
    go nothing is e later = later e

-- two new stations with equal seats are twins
new_twins : (s u : System) (past then : History) (n : ℕ) → New s past n → New u then n → Twin s u (length past) (length then) past then
new_twins s u past then n h k =
    let a = length past in
    let b = length then in
    let is = h.seats_are in
    let some = h.some in
    record {
      seats_same = h.seats_are ∙ sym k.seats_are;
      some = omega arith;
      holder_same = h.unheld ∙ sym k.unheld;
      clock = omega arith;
      line = λ seat. pair_none a b (waiting s past seat) (waiting u then seat) (h.line seat) (k.line seat);
      register = λ seat. pair_none a b (standing s past seat) (standing u then seat) (h.register seat) (k.register seat);
    }

module _ (s u : System) (Fits-s Fits-u : Table → History → Type 0) (up-s : Upheld s Fits-s) (up-u : Upheld u Fits-u) where
  -- twins agree on one call, and on the later calls if they do as the twins that they then are
  agree_more : (call : Call) (calls : List Call) (rs qs : List Reply) (a b : ℕ) (t v : Table) (past then : History) → Fits-s t past → Fits-u v then
      → Twin s u a b past then
      → (Twin s u a b (record { call = call; reply = reply s t call } ∷ past) (record { call = call; reply = reply u v call } ∷ then) → Agree calls rs qs)
      → Agree (call ∷ calls) (reply s t call ∷ rs) (reply u v call ∷ qs)
  agree_more call calls rs qs a b t v past then fits-s fits-u tw later = go (spent_or_not r) (spent_or_not q)
    where
      r : Reply
      r = reply s t call

      q : Reply
      q = reply u v call

      go : (RefusedWith 13 r ⊎ (RefusedWith 13 r → ⊥)) → (RefusedWith 13 q ⊎ (RefusedWith 13 q → ⊥)) → Agree (call ∷ calls) (r ∷ rs) (q ∷ qs)
      go (inl h) k = spent (inl h)
      go (inr has-s) (inl k) = spent (inr k)
      go (inr has-s) (inr has-u) =
          let right-s = up-s.right t past call fits-s in
          let right-u = up-u.right v then call fits-u in
          let h = replies_alike s u a b past then tw call r q right-s right-u has-s has-u in
          alike h (later (twins_after s u a b past then tw call r q right-s right-u h))

  -- twins agree on all calls to come
  twins_agree : (calls : List Call) (a b : ℕ) (t v : Table) (past then : History) → Fits-s t past → Fits-u v then → Twin s u a b past then
      → Agree calls (replies s t calls) (replies u v calls)
  twins_agree [] a b t v past then fits-s fits-u tw = over
  twins_agree (call ∷ calls) a b t v past then fits-s fits-u tw =
      let t' = next s t call in
      let v' = next u v call in
      let past' : History = record { call = call; reply = reply s t call } ∷ past in
      let then' : History = record { call = call; reply = reply u v call } ∷ then in
      agree_more call calls (replies s t' calls) (replies u v' calls) a b t v past then fits-s fits-u tw
      (twins_agree calls a b t' v' past' then' (up-s.step t past call fits-s) (up-u.step v then call fits-u))

  -- two stations opened with equal seats agree on what is called since then
  pub lives_agree : LivesAgree s u
  lives_agree one other calls n rs qs e d =
      let o : Opened = record { seats = n; calls = calls; replies = rs } in
      let p : Opened = record { seats = n; calls = calls; replies = qs } in
      let h = find_opening s Fits-s up-s one [] [] up-s.new o e in
      let k = find_opening u Fits-u up-u other [] [] up-u.new p d in
      let a = length h.past in
      let b = length k.past in
      let tw = new_twins s u h.past k.past n h.new k.new in
      rw (h.onward, k.onward) (twins_agree calls a b h.table k.table h.past k.past h.fits k.fits tw)
