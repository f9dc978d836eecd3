-- Two deliveries of the same blocks, in whatever order and however often each, leave the same memory.
-- Assumes nothing.
use mathlib.Core.Path.{◌≡◌, refl, sym, ap, ◌∙◌, fun_ext}
use mathlib.Core.Logic.{◌↔◌}
use mathlib.Core.List.{List, [], ◌∷◌, Memᴰ}
use Prim.Native.Nat.{ℕ, ◌≤◌}
use native.Mathlib.Omega.{arith}
use Rattle.days.specs.Day.{History}
use Rattle.days.specs.Desk.{Desk, Laws, Filed, run, fresh}
use Rattle.days.specs.Told.{AllHonest}
use Rattle.days.proofs.Fold.{reaches, cuts, run_fresh}
use Rattle.days.proofs.Held.{reach_le_reaches}

module _ {L B : Type 0} (D : Desk L B) (W : Laws D) (h : History) where
  reaches_sub : (bs cs : List B) → ((b : B) → Memᴰ b bs → Memᴰ b cs) → (d : ℕ) → reaches D W h bs d ≤ reaches D W h cs d
  reaches_sub [] cs sub d = omega arith
  reaches_sub (b ∷ bs) cs sub d =
      omega (arith, reach_le_reaches D W h d (sub b (Memᴰ.head refl)), reaches_sub bs cs (λ c m. sub c (Memᴰ.tail m)) d)

  pub same_ledger : (bs cs : List B) → AllHonest D h bs → ((b : B) → Memᴰ b bs ↔ Memᴰ b cs)
      → (run D (fresh D) bs).ledger ≡ (run D (fresh D) cs).ledger
  same_ledger bs cs hs same =
      ap (λ (r : Filed L). r.ledger) (run_fresh D W h bs hs)
      ∙ ap (λ (e : ℕ → ℕ). D.pack (cuts D W h e)) (fun_ext (λ d. omega (arith, reaches_sub bs cs (λ b. (same b).0) d, reaches_sub cs bs (λ b. (same b).1) d)))
      ∙ sym (ap (λ (r : Filed L). r.ledger) (run_fresh D W h cs (λ b m. hs b ((same b).1 m))))
