-- One call on two stations that are twins: unless one of them has no label left, the replies are alike and the stations remain twins.
use Rattle.std.proofs.Common.{◌≡◌, ℕ, ◌≤◌, Bool, true, false, ◌&&◌, eqb, leb, [], ◌∷◌, is_some, Some, None, Ok, Err, Option, sym, refl, ap, ◌∙◌, arith}
use Rattle.std.proofs.lemmas.Bool.{ne_eqb, eqb-true, leb-true, and_parts}
use Rattle.std.proofs.lemmas.Option.{none-some}
use Rattle.labels.specs.System.{System}
use Rattle.station.specs.declared.call.Call.{Call}
use Rattle.station.specs.declared.call.Call.TheVariants.{Open, Join, Leave, Start, Finish, Write, Strike, Read, Earlier, Newer, Label}
use Rattle.station.specs.declared.answer.Answer.{Answer}
use Rattle.station.specs.declared.answer.Answer.TheVariants.{Done, Started, Reading, Verdict, Labelled}
use Rattle.station.specs.declared.refusal.Reason.{Reason}
use Rattle.station.specs.declared.refusal.Reason.TheVariants.{AlreadyOpen, SeatCount, OrderTooSmall, NoSuchSeat, MapTooLarge, NotIdle, NoLabelLeft}
use Rattle.station.specs.declared.refusal.Refusal.{Refusal}
use Rattle.station.specs.Numbers.{number}
use Rattle.station.specs.Questions.{Reply, ask, first_no}
use Rattle.station.specs.Facts.{Facts, is_seat, questions_over}
use Rattle.lives.specs.History.{Moment, History, Event, opened, joined, left, started, finished, written, struck, nothing, event_of, seats, seats_after, line_change, register_change, everyone, others, waiting, standing, rising, facts_told}
use Rattle.lives.specs.Answers.{RightAnswer, refusal, RefusedWith, Right}
use Rattle.lives.specs.Promises.{Alike, equal, labels}
use Rattle.lives.proofs.Twins.{Twin, pair_isSome, someone_same, longest_same, latest_same, in_force_same, compared_same, pairs_after}

-- The questions

-- what two stations are asked about is the same, but for their systems
record SameFacts (F G : Facts) : Type 0 where
  seats : F.seats ≡ G.seats
  some : 1 ≤ F.seats
  idle : (seat : ℕ) → F.idle seat ≡ G.idle seat
  waits : (seat : ℕ) → F.waits seat ≡ G.waits seat
  holds : (seat : ℕ) → F.holds seat ≡ G.holds seat
  stands : (seat : ℕ) → F.stands seat ≡ G.stands seat
  start_free : F.start_free ≡ G.start_free
  has_tail : F.has_tail ≡ G.has_tail
  has_head : F.has_head ≡ G.has_head

-- twins tell the same facts
facts_same : (s u : System) (a b : ℕ) (past then : History) → Twin s u a b past then → SameFacts (facts_told s past) (facts_told u then)
facts_same s u a b past then tw = record {
  seats = tw.seats_same;
  some = tw.some;
  idle = λ seat. rw (line seat, tw.holder_same);
  waits = line;
  holds = λ seat. rw tw.holder_same;
  stands = register;
  start_free = rw tw.holder_same;
  has_tail = rw tw.seats_same (someone_same a b (waiting s past) (waiting u then) tw.line (rising (seats then)));
  has_head = rw tw.seats_same (someone_same a b (standing s past) (standing u then) tw.register (rising (seats then)));
}
  where
    line : (seat : ℕ) → is_some (waiting s past seat) ≡ is_some (waiting u then seat)
    line seat = pair_isSome a b (waiting s past seat) (waiting u then seat) (tw.line seat)

    register : (seat : ℕ) → is_some (standing s past seat) ≡ is_some (standing u then seat)
    register seat = pair_isSome a b (standing s past seat) (standing u then seat) (tw.register seat)

-- this is no refusal for want of a label
abbrev Unspent : Option Refusal → Type 0
Unspent o = (e : Refusal) → o ≡ Some e → number e.reason ≡ 13 → ⊥

-- three questions to a seat, of which the last is whether a label is left
abbrev three : ℕ → Reason → Reason → Bool → Bool → Bool → Option Refusal
three seat d e p q x = first_no (ask p d seat ∷ ask q e seat ∷ ask x NoLabelLeft seat ∷ [])

-- where the first two are answered alike in both stations, the first no is the same, unless no label is left
same_three : (seat : ℕ) (d e : Reason) (p q x y : Bool) → Unspent (three seat d e p q x) → Unspent (three seat d e p q y)
    → three seat d e p q x ≡ three seat d e p q y
same_three seat d e false q x y has-x has-y = refl
same_three seat d e true false x y has-x has-y = refl
same_three seat d e true true true true has-x has-y = refl
same_three seat d e true true false y has-x has-y = absurd (has-x (record { reason = NoLabelLeft; seat = seat }) refl refl)
same_three seat d e true true true false has-x has-y = absurd (has-y (record { reason = NoLabelLeft; seat = seat }) refl refl)

-- over the same facts the same question is the first to be answered no, unless no label is left
same_no : (F G : Facts) → SameFacts F G → (call : Call) → Unspent (first_no (questions_over F call)) → Unspent (first_no (questions_over G call))
    → first_no (questions_over F call) ≡ first_no (questions_over G call)
same_no F G e (Open n) has-f has-g =
    let some = e.some in
    let one = e.seats in
    rw (ne_eqb F.seats 0 (λ z. omega arith), ne_eqb G.seats 0 (λ z. omega arith))
same_no F G e (Join seat) has-f has-g =
    rw (e.seats, e.idle seat)
    (same_three seat NoSuchSeat NotIdle (is_seat G seat) (G.idle seat) F.label_to_wait G.label_to_wait (rw (e.seats, e.idle seat) at has-f) has-g)
same_no F G e (Leave seat) has-f has-g = rw (e.seats, e.waits seat)
same_no F G e Start has-f has-g = rw (e.start_free, e.has_tail)
same_no F G e (Finish seat) has-f has-g = rw (e.seats, e.holds seat)
same_no F G e (Write seat map) has-f has-g =
    rw e.seats
    (same_three seat NoSuchSeat MapTooLarge (is_seat G seat) (leb map 65535) (F.label_to_write seat) (G.label_to_write seat) (rw e.seats at has-f) has-g)
same_no F G e (Strike seat) has-f has-g = rw (e.seats, e.stands seat)
same_no F G e Read has-f has-g = rw e.has_head
same_no F G e (Earlier i j) has-f has-g = rw (e.seats, e.waits i, e.waits j)
same_no F G e (Newer i j) has-f has-g = rw (e.seats, e.stands i, e.stands j)
same_no F G e (Label seat) has-f has-g = rw (e.seats, e.stands seat)

-- The answers

-- equal replies are alike
alike_equal : (call : Call) (r q : Reply) → r ≡ q → Alike call r q
alike_equal call r q e = rw e equal

-- two answers that are equal to a third are alike
alike_both : (call : Call) (a b c : Answer) → a ≡ c → b ≡ c → Alike call (Ok a) (Ok b)
alike_both call a b c e d = alike_equal call (Ok a) (Ok b) (cc)

module _ (s u : System) (a b : ℕ) (past then : History) (tw : Twin s u a b past then) where
  -- right answers of twins are alike
  alike_right : (call : Call) (x y : Answer) → RightAnswer s past call x → RightAnswer u then call y → Alike call (Ok x) (Ok y)
  alike_right (Open n) x y h k = alike_both (Open n) x y Done h k
  alike_right (Join seat) x y h k = alike_both (Join seat) x y Done h k
  alike_right (Leave seat) x y h k = alike_both (Leave seat) x y Done h k
  alike_right Start x y h k =
      let seats = longest_same a b (waiting s past) (waiting u then) tw.line h.seat k.seat h.longest k.longest in
      let maps = in_force_same a b (standing s past) (standing u then) tw.register h.map k.map h.in_force k.in_force in
      alike_both Start x y (Started (record { seat = k.seat; map = k.map })) (h.is ∙ rw (seats, maps)) k.is
  alike_right (Finish seat) x y h k = alike_both (Finish seat) x y Done h k
  alike_right (Write seat map) x y h k = alike_both (Write seat map) x y Done h k
  alike_right (Strike seat) x y h k = alike_both (Strike seat) x y Done h k
  alike_right Read x y h k =
      let (seats, calls) = latest_same a b (standing s past) (standing u then) tw.register h.seat k.seat (Write h.seat h.map) (Write k.seat k.map) h.latest k.latest in
      let maps : h.map ≡ k.map = cc in
      alike_both Read x y (Reading (record { seat = k.seat; map = k.map })) (h.is ∙ rw (seats, maps)) k.is
  alike_right (Earlier i j) x y (v, e, h) (w, d, k) =
      alike_both (Earlier i j) x y (Verdict w) (e ∙ ap Verdict (compared_same a b (waiting s past) (waiting u then) tw.line i j v w h k)) d
  alike_right (Newer i j) x y (v, e, h) (w, d, k) =
      alike_both (Newer i j) x y (Verdict w) (e ∙ ap Verdict (compared_same a b (standing s past) (standing u then) tw.register j i v w h k)) d
  alike_right (Label seat) x y (v, _, e) (w, _, d) = rw (e, d) labels

-- The next moment

-- alike replies bring about the same
alike_event : (call : Call) (r q : Reply) → Alike call r q → event_of call r ≡ event_of call q
alike_event call r q equal = refl
alike_event call r q labels = refl

-- an opening is accepted only where there are no seats yet, and for one seat at least
pub opening_told : (F : Facts) (n : ℕ) (call : Call) (r : Reply) → refusal r ≡ first_no (questions_over F call) → event_of call r ≡ opened n → (F.seats ≡ 0) × (1 ≤ n)
opening_told F n call (Err e) h is = let z : ◌≡◌ {A = ℕ} 0 1 = cc in absurd (omega arith)
opening_told F n (Open m) (Ok a) h is =
    let (shut, count) = none_no (eqb F.seats 0) (leb 1 m && leb m 20) h in
    let same_count : m ≡ n = cc in
    (eqb-true F.seats 0 shut, omega (arith, leb-true 1 m (and_parts (leb 1 m) (leb m 20) count).0))
  where
    none_no : (p q : Bool) → None ≡ first_no (ask p AlreadyOpen 0 ∷ ask q SeatCount 0 ∷ ask (leb m F.order) OrderTooSmall 0 ∷ []) → (p ≡ true) × (q ≡ true)
    none_no true true e = (refl, refl)
    none_no true false e = absurd (none-some _ e)
    none_no false q e = absurd (none-some _ e)
opening_told F n (Join seat) (Ok a) h is = let z : ◌≡◌ {A = ℕ} 0 1 = cc in absurd (omega arith)
opening_told F n (Leave seat) (Ok a) h is = let z : ◌≡◌ {A = ℕ} 0 1 = cc in absurd (omega arith)
opening_told F n Start (Ok Done) h is = let z : ◌≡◌ {A = ℕ} 0 1 = cc in absurd (omega arith)
opening_told F n Start (Ok (Started x)) h is = let z : ◌≡◌ {A = ℕ} 0 1 = cc in absurd (omega arith)
opening_told F n Start (Ok (Reading x)) h is = let z : ◌≡◌ {A = ℕ} 0 1 = cc in absurd (omega arith)
opening_told F n Start (Ok (Verdict x)) h is = let z : ◌≡◌ {A = ℕ} 0 1 = cc in absurd (omega arith)
opening_told F n Start (Ok (Labelled x)) h is = let z : ◌≡◌ {A = ℕ} 0 1 = cc in absurd (omega arith)
opening_told F n (Finish seat) (Ok a) h is = let z : ◌≡◌ {A = ℕ} 0 1 = cc in absurd (omega arith)
opening_told F n (Write seat map) (Ok a) h is = let z : ◌≡◌ {A = ℕ} 0 1 = cc in absurd (omega arith)
opening_told F n (Strike seat) (Ok a) h is = let z : ◌≡◌ {A = ℕ} 0 1 = cc in absurd (omega arith)
opening_told F n Read (Ok a) h is = let z : ◌≡◌ {A = ℕ} 0 1 = cc in absurd (omega arith)
opening_told F n (Earlier i j) (Ok a) h is = let z : ◌≡◌ {A = ℕ} 0 1 = cc in absurd (omega arith)
opening_told F n (Newer i j) (Ok a) h is = let z : ◌≡◌ {A = ℕ} 0 1 = cc in absurd (omega arith)
opening_told F n (Label seat) (Ok a) h is = let z : ◌≡◌ {A = ℕ} 0 1 = cc in absurd (omega arith)

-- a station with seats has seats after any event, if an opening gives it some
seats_kept : (e : Event) (n : ℕ) → 1 ≤ n → ((m : ℕ) → e ≡ opened m → 1 ≤ m) → 1 ≤ seats_after e n
seats_kept (opened m) n some opens = opens m refl
seats_kept (joined seat) n some opens = some
seats_kept (left seat) n some opens = some
seats_kept (started seat) n some opens = some
seats_kept (finished seat) n some opens = some
seats_kept (written seat) n some opens = some
seats_kept (struck seat) n some opens = some
seats_kept nothing n some opens = some

module _ (s u : System) (a b : ℕ) (past then : History) (tw : Twin s u a b past then) (call : Call) (r q : Reply)
    (right-s : Right s past (record { call = call; reply = r })) (right-u : Right u then (record { call = call; reply = q })) where
  -- unless one is refused for want of a label, the replies are alike
  pub replies_alike : (RefusedWith 13 r → ⊥) → (RefusedWith 13 q → ⊥) → Alike call r q
  replies_alike has-s has-u = go r q refl refl
    where
      unspent : (x : Reply) (o : Option Refusal) → refusal x ≡ o → (RefusedWith 13 x → ⊥) → Unspent o
      unspent (Ok y) o e has d is what = absurd (none-some _ (e ∙ is))
      unspent (Err y) o e has d is what = has (d, cc, what)

      no : refusal r ≡ refusal q
      no =
          let F = facts_told s past in
          let G = facts_told u then in
          let has-f = unspent r (first_no (questions_over F call)) right-s.refused has-s in
          let has-g = unspent q (first_no (questions_over G call)) right-u.refused has-u in
          right-s.refused ∙ same_no F G (facts_same s u a b past then tw) call has-f has-g ∙ sym right-u.refused

      go : (x y : Reply) → r ≡ x → q ≡ y → Alike call r q
      go (Ok x) (Ok y) e d = rw (e, d) (alike_right s u a b past then tw call x y (right-s.answered x e) (right-u.answered y d))
      go (Ok x) (Err y) e d = absurd (none-some _ (sym (ap refusal e) ∙ no ∙ ap refusal d))
      go (Err x) (Ok y) e d = absurd (none-some _ (sym (ap refusal d) ∙ sym no ∙ ap refusal e))
      go (Err x) (Err y) e d =
          let errors : Some x ≡ Some y = sym (ap refusal e) ∙ no ∙ ap refusal d in
          alike_equal call r q (cc)

  -- after alike replies the stations remain twins
  pub twins_after : Alike call r q → Twin s u a b (record { call = call; reply = r } ∷ past) (record { call = call; reply = q } ∷ then)
  twins_after alike =
      let event = alike_event call r q alike in
      let clock = tw.clock in
      let m : Moment = record { call = call; reply = r } in
      let k : Moment = record { call = call; reply = q } in
      record {
        seats_same = rw (event, tw.seats_same);
        some = seats_kept (event_of call r) (seats past) tw.some (λ n is. (opening_told (facts_told s past) n call r right-s.refused is).1);
        holder_same = rw (event, tw.holder_same);
        clock = omega arith;
        line = pairs_after s u line_change everyone a b past then m k tw.line event refl clock right-s.joins right-u.joins;
        register = pairs_after s u register_change others a b past then m k tw.register event refl clock right-s.writes right-u.writes;
      }
