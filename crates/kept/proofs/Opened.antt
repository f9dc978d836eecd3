-- From opening on: whatever honest blocks are filed in a ledger that `open` opened, it holds exactly what they told.
-- Assumes nothing.
use mathlib.Core.Path.{◌≡◌, refl, sym, ap, ◌∙◌}
use mathlib.Core.Logic.{◌↔◌}
use mathlib.Core.Bool.{true}
use mathlib.Core.List.{List, [], ◌∷◌, Memᴰ}
use Prim.Native.Nat.{ℕ}
use lib.ListN.{length}
use borrow.Author.Tests.{eq-eqb}
use Rattle.days.specs.Day.{History}
use Rattle.days.specs.Desk.{Filed, Desk, Laws, run, fresh, day_in}
use Rattle.days.specs.Told.{AllHonest, Kept}
use Rattle.days.specs.Energy.{Steady, Metered, Unbroken, Close}
use Rattle.days.proofs.Fold.{reaches, cuts, run_fresh}
use Rattle.days.proofs.Stretch.{energy_kept}
use Rattle.ledger.specs.Layout.{length_of, days_of}
use Rattle.ledger.specs.Rooms.{pack}
use Rattle.ledger.specs.Open.{head_of, open_ok, open_checks, open_answer, open_of}
use Rattle.ledger.proofs.Opening.{Opens, opens_of, days_written, first_written, head_good, count_good}
use Rattle.filing.specs.File.{file_of}
use Rattle.kept.specs.Desk.{filed_as, desk, file_all}
use Rattle.kept.proofs.Laws.{laws, ledger_kept, bytes_same}

module _ (id : List ℕ) (first days : ℕ) (ok : open_ok id first days ≡ true) where
  abbrev here : Desk (List ℕ) (List ℕ)
  here = desk (head_of id first days)

  given : Opens id first days
  given = opens_of id first days ok

  pub opened_laws : Laws (desk (head_of id first days))
  opened_laws = laws (head_of id first days) (count_good id first days given) (head_good id first days given)

  -- what `open` leaves is the theory's fresh ledger
  pub opened_fresh : (l : List ℕ) → length l ≡ length_of days → (open_of l id first days).ledger ≡ fresh (desk (head_of id first days))
  unfolding open_of open_answer open_checks fresh
  opened_fresh l h = rw (ok, eq-eqb (length l) (length_of days) h, days_written id first days given)

  -- the window is the one that was asked for
  pub window : ((desk (head_of id first days)).first ≡ first) × ((desk (head_of id first days)).days ≡ days)
  window = (first_written id first days given, days_written id first days given)

  pub opened_kept : (h : History) (bs : List (List ℕ)) → AllHonest (desk (head_of id first days)) h bs → Kept (desk (head_of id first days)) h bs
  opened_kept h bs hs = ledger_kept (head_of id first days) (count_good id first days given) (head_good id first days given) h bs hs

  -- the energy of any stretch of half-hours that is held
  pub opened_energy : (h : History) (bs : List (List ℕ)) → AllHonest (desk (head_of id first days)) h bs → (t : ℕ → ℕ) → Metered h t → Steady t → (q n : ℕ)
      → Unbroken (day_in here (run here (fresh here) bs).ledger) q n → Close t (day_in here (run here (fresh here) bs).ledger) q n
  opened_energy h bs hs t m s q n u = energy_kept here opened_laws h bs hs t m s q n u

  -- the theory's run is `file_of`, block by block
  pub run_bytes : (l : List ℕ) (bs : List (List ℕ)) → (run (desk (head_of id first days)) l bs).ledger ≡ file_all l bs
  unfolding run file_all filed_as
  run_bytes l [] = refl
  run_bytes l (b ∷ bs) = run_bytes (file_of l b).ledger bs

  -- the bytes: the history cut at the furthest that any of the blocks reaches
  pub opened_packed : (l : List ℕ) → length l ≡ length_of days → (h : History) (bs : List (List ℕ)) → AllHonest (desk (head_of id first days)) h bs
      → file_all (open_of l id first days).ledger bs ≡ pack (head_of id first days) (days_of (head_of id first days)) (cuts here opened_laws h (reaches here opened_laws h bs))
  opened_packed l hl h bs hs =
      ap (λ (m : List ℕ). file_all m bs) (opened_fresh l hl)
      ∙ sym (run_bytes (fresh here) bs)
      ∙ ap (λ (r : Filed (List ℕ)). r.ledger) (run_fresh here opened_laws h bs hs)

  -- the same blocks in whatever order, however often each: the same bytes
  pub any_order : (l m : List ℕ) → length l ≡ length_of days → length m ≡ length_of days → (h : History) (bs cs : List (List ℕ))
      → AllHonest (desk (head_of id first days)) h bs → ((b : List ℕ) → Memᴰ b bs ↔ Memᴰ b cs)
      → file_all (open_of l id first days).ledger bs ≡ file_all (open_of m id first days).ledger cs
  any_order l m hl hm h bs cs hs same =
      rw (opened_fresh l hl, opened_fresh m hm)
      (sym (run_bytes (fresh here) bs)
      ∙ bytes_same (head_of id first days) (count_good id first days given) (head_good id first days given) h bs cs hs same
      ∙ run_bytes (fresh here) cs)
