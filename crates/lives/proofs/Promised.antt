-- Every life is sound, its table shows its history, and any two lives agree.
use Rattle.std.proofs.Common.{◌≡◌, ℕ, true, List, [], ◌∷◌, length, Some, sym, ◌∙◌}
use Rattle.labels.specs.System.{System, Laws}
use Rattle.station.specs.declared.call.Call.{Call}
use Rattle.station.specs.Table.{Table, is_holding}
use Rattle.station.specs.Told.{row_at}
use Rattle.station.specs.Rules.{reply, next}
use Rattle.lives.specs.History.{History, seats, holder, line_change, register_change, everyone, others, waiting, standing}
use Rattle.lives.specs.Lives.{replies, table_after, recorded}
use Rattle.lives.specs.Promises.{LabelsInOrder, Sound, Shows, EveryLife, Promised}
use Rattle.lives.proofs.Shown.{size, row_shown, holds_told, is_seat_true}
use Rattle.lives.proofs.Steps.{Fits, closed, step, fits_new}
use Rattle.lives.proofs.Rights.{right}
use Rattle.lives.proofs.Lasting.{intervals}
use Rattle.lives.proofs.Upheld.{Upheld}
use Rattle.lives.proofs.Agreeing.{lives_agree}

module _ (s : System) (laws : Laws s) where
  in_order : (t : Table) (past : History) → Fits s t past → LabelsInOrder s past
  in_order t past h = record { line = h.line.order; register = h.register.order }

  sound_from : (calls : List Call) (t : Table) (past : History) → Fits s t past → Sound s past → Sound s (recorded past calls (replies s t calls))
  sound_from [] t past h sound = sound
  sound_from (call ∷ later) t past h sound =
      let next_fits = step s laws t past h call in
      sound_from later (next s t call) (record { call = call; reply = reply s t call } ∷ past) next_fits (sound, right s laws t past h call, in_order (next s t call) (record { call = call; reply = reply s t call } ∷ past) next_fits)

  shows : (t : Table) (past : History) → Fits s t past → Shows s t past
  shows t past h = record {
    seats_told = size s laws t (seats past) (waiting s past) (standing s past) (holder past) (length past) h;
    rows_told = row_shown s laws t (seats past) (waiting s past) (standing s past) (holder past) (length past) h;
    one_holder = λ a b e d. let one = holds a e in let other = holds b d in cc;
  }
    where
      holds : (seat : ℕ) → is_holding (row_at t seat) ≡ true → holder past ≡ Some seat
      holds seat e = is_seat_true (holder past) seat (sym (holds_told s laws t (seats past) (waiting s past) (standing s past) (holder past) (length past) h seat) ∙ e)

  shown_from : (calls : List Call) (t : Table) (past : History) → Fits s t past → Shows s (table_after s t calls) (recorded past calls (replies s t calls))
  shown_from [] t past h = shows t past h
  shown_from (call ∷ later) t past h = shown_from later (next s t call) (record { call = call; reply = reply s t call } ∷ past) (step s laws t past h call)

  pub every_life : EveryLife s
  every_life = record { sound = λ calls. sound_from calls [] [] (fits_new s laws) (in_order [] [] (fits_new s laws)); shown = λ calls. shown_from calls [] [] (fits_new s laws); waits_since = intervals s line_change everyone; stands_since = intervals s register_change others }

  upheld : Upheld s (Fits s)
  upheld = record { new = fits_new s laws; step = λ t past call h. step s laws t past h call; right = λ t past call h. right s laws t past h call; closed = λ t past h. closed s laws t past h }

pub promised : (s u : System) → Laws s → Laws u → Promised s u
promised s u laws-s laws-u = record {
  first = every_life s laws-s;
  second = every_life u laws-u;
  agree = lives_agree s u (Fits s) (Fits u) (upheld s laws-s) (upheld u laws-u);
}
