-- Filing: from a ledger that is the history cut at extents e, blocks that are honest or not taken leave the history cut at e joined with their reaches.
-- Assumes nothing.
use mathlib.Core.Path.{◌≡◌, refl, ap, ◌∙◌, fun_ext}
use mathlib.Core.Bool.{true, false, cond}
use mathlib.Core.List.Memᴰ
use mathlib.Core.List.{List, [], ◌∷◌}
use Prim.Native.Nat.{ℕ, zero, suc, ◌<◌, ◌≤◌, ◌+◌, ◌-◌, max}
use native.Mathlib.Omega.{arith}
use native.Mathlib.Decide.{dec_lt}
use Rattle.laws.proofs.Split.{by_test, by_dec}
use Rattle.laws.specs.Tests.{sum_below}
use Rattle.laws.proofs.Tests.{sum_same, sum_le}
use Rattle.days.specs.Day.{History, Day, cut, count}
use Rattle.days.specs.Agree.{same_day}
use Rattle.days.specs.View.{Honest, offer, reach}
use Rattle.days.specs.Desk.{Desk, Fitting, joined, held_in, held_by, Laws, run, fresh}
use Rattle.days.specs.Told.{untaken, AllHonest}
use Rattle.days.proofs.Cut.{same_cut, join_cut, count_cut}
use Rattle.days.proofs.Offer.{offer_cut, reach_le}

-- extents: 0 absent, suc k held with k half-hours. Two joined
abbrev pub join_e : (ℕ → ℕ) → (ℕ → ℕ) → ℕ → ℕ
join_e e f d = max (e d) (f d)

module _ {L B : Type 0} (D : Desk L B) (W : Laws D) (h : History) where
  -- the reach of a block that the desk takes, 0 of another; the furthest of a list
  unfoldable pub reach_b : B → ℕ → ℕ
  reach_b b d = cond (D.takes b) (reach (D.view b) d) 0

  abbrev pub reaches : List B → ℕ → ℕ
  reaches [] d = 0
  reaches (b ∷ bs) d = max (reach_b b d) (reaches bs d)

  -- the history cut at extents e, as days of the window and as memory
  unfoldable pub cuts : (ℕ → ℕ) → ℕ → Day
  cuts e i = cut h (D.first + i) (e (D.first + i))

  unfoldable pub held_at : (ℕ → ℕ) → ℕ
  held_at e = sum_below (λ i. e (D.first + i) - 1) D.days

  -- no day has more than 48
  abbrev pub Short : (ℕ → ℕ) → Type 0
  Short e = (d : ℕ) → e d ≤ 49

  -- each day of the window fits the memory
  abbrev pub Fit : (ℕ → ℕ) → Type 0
  Fit e = Fitting D (cuts e)

  fit_join : (e f : ℕ → ℕ) → Fit e → Fit f → Fit (join_e e f)
  unfolding cuts
  fit_join e f p q i l =
      by_dec (dec_lt (e (D.first + i)) (f (D.first + i)))
      (λ a. let m : max (e (D.first + i)) (f (D.first + i)) ≡ f (D.first + i) = omega arith in rw m (q i l))
      (λ a. let m : max (e (D.first + i)) (f (D.first + i)) ≡ e (D.first + i) = omega arith in rw m (p i l))

  fit_none : Fit (λ _. 0)
  unfolding cuts
  fit_none i l = W.absent_fits

  fit_block : (b : B) → (D.takes b ≡ true → Honest h (D.view b)) → Fit (reach_b b)
  unfolding cuts reach_b
  fit_block b hb i l =
      by_test (D.takes b)
      (λ t. rw (t, ← offer_cut h (D.view b) (hb t) (D.first + i)) (W.offer_fits b t (D.first + i)))
      (λ t. rw t W.absent_fits)

  pub fit_blocks : (bs : List B) → AllHonest D h bs → Fit (reaches bs)
  fit_blocks [] hs = fit_none
  fit_blocks (b ∷ bs) hs = fit_join (reach_b b) (reaches bs) (fit_block b (hs b (Memᴰ.head refl))) (fit_blocks bs (λ c m. hs c (Memᴰ.tail m)))

  pub slot_cuts : (e : ℕ → ℕ) → Fit e → (i : ℕ) → i < D.days → D.slot (D.pack (cuts e)) i ≡ cuts e i
  slot_cuts e s i l = W.slot_pack (cuts e) s i l

  count_cuts : (e : ℕ → ℕ) → held_in D (cuts e) ≡ held_at e
  unfolding cuts held_at held_in
  count_cuts e = sum_same _ _ D.days (λ i l. count_cut h (D.first + i) (e (D.first + i)))

  held_same_lem : (f g : ℕ → Day) → ((i : ℕ) → i < D.days → f i ≡ g i) → held_in D f ≡ held_in D g
  unfolding held_in
  held_same_lem f g e = sum_same _ _ D.days (λ i l. ap count (e i l))

  pub held_cuts : (e : ℕ → ℕ) → Fit e → held_by D (D.pack (cuts e)) ≡ held_at e
  held_cuts e s = held_same_lem _ _ (slot_cuts e s) ∙ count_cuts e

  agreed : (b : B) → Honest h (D.view b) → (e : ℕ → ℕ) (i : ℕ) → i < D.days → same_day (cuts e i) (offer (D.view b) (D.first + i)) ≡ true
  unfolding cuts
  agreed b hb e i l = rw (offer_cut h (D.view b) hb (D.first + i)) (same_cut h (D.first + i) (e (D.first + i)) (reach (D.view b) (D.first + i)))

  joins : (b : B) → D.takes b ≡ true → Honest h (D.view b) → (e : ℕ → ℕ) (i : ℕ) → joined D (cuts e) b i ≡ cuts (join_e e (reach_b b)) i
  unfolding cuts reach_b
  joins b t hb e i = rw (t, offer_cut h (D.view b) hb (D.first + i)) (join_cut h (D.first + i) (e (D.first + i)) (reach (D.view b) (D.first + i)))

  -- one honest block
  file_honest : (b : B) → D.takes b ≡ true → Honest h (D.view b) → (e : ℕ → ℕ) → Fit e →
      D.file (D.pack (cuts e)) b ≡ record { ledger = D.pack (cuts (join_e e (reach_b b))); refused = 0; newly = held_at (join_e e (reach_b b)) - held_at e }
  file_honest b t hb e s =
      W.file_good (cuts e) b s t agrees
      ∙ λ k. record { ledger = W.pack_same _ _ each k; refused = 0; newly = less k }
    where
      agrees : (i : ℕ) → i < D.days → same_day (cuts e i) (offer (D.view b) (D.first + i)) ≡ true
      agrees = agreed b hb e

      each : (i : ℕ) → i < D.days → joined D (cuts e) b i ≡ cuts (join_e e (reach_b b)) i
      each i l = joins b t hb e i

      less : held_in D (joined D (cuts e) b) - held_in D (cuts e) ≡ held_at (join_e e (reach_b b)) - held_at e
      less = omega (arith, count_cuts e, count_cuts (join_e e (reach_b b)), held_same_lem (joined D (cuts e) b) (cuts (join_e e (reach_b b))) each)

  -- a block that the desk does not take changes nothing
  file_untaken : (b : B) → D.takes b ≡ false → (e : ℕ → ℕ) → Fit e →
      D.file (D.pack (cuts e)) b ≡ record { ledger = D.pack (cuts (join_e e (reach_b b))); refused = 1; newly = held_at (join_e e (reach_b b)) - held_at e }
  unfolding reach_b
  file_untaken b t e s =
      rw (W.file_bad (cuts e) b s t, same)
      λ k. record { ledger = D.pack (cuts e); refused = 1; newly = none_new k }
    where
      same : join_e e (reach_b b) ≡ e
      same = fun_ext (λ d. rw t (omega arith))

      none_new : 0 ≡ held_at e - held_at e
      none_new = omega arith

  file_any : (b : B) → (D.takes b ≡ true → Honest h (D.view b)) → (e : ℕ → ℕ) → Fit e →
      D.file (D.pack (cuts e)) b ≡ record { ledger = D.pack (cuts (join_e e (reach_b b))); refused = cond (D.takes b) 0 1; newly = held_at (join_e e (reach_b b)) - held_at e }
  file_any b hb e s = by_test (D.takes b) (λ t. rw t (file_honest b t (hb t) e s)) (λ t. rw t (file_untaken b t e s))

  pub reach_b_le : (b : B) (d : ℕ) → reach_b b d ≤ 49
  unfolding reach_b
  reach_b_le b d = by_test (D.takes b) (λ t. rw t (reach_le (D.view b) d)) (λ t. rw t (omega arith))

  pub reaches_le : (bs : List B) → Short (reaches bs)
  reaches_le [] d = omega arith
  reaches_le (b ∷ bs) d = omega (arith, reach_b_le b d, reaches_le bs d)

  held_grows : (e f : ℕ → ℕ) → held_at e ≤ held_at (join_e e f)
  unfolding held_at
  held_grows e f = sum_le _ _ D.days (λ i l. omega arith)

  run_is : (bs : List B) → AllHonest D h bs → (e : ℕ → ℕ) → Fit e →
      run D (D.pack (cuts e)) bs ≡ record { ledger = D.pack (cuts (join_e e (reaches bs))); refused = untaken D bs; newly = held_at (join_e e (reaches bs)) - held_at e }
  unfolding run
  run_is [] hs e s = rw unit λ i. record { ledger = D.pack (cuts e); refused = 0; newly = none_new i }
    where
      unit : join_e e (λ _. 0) ≡ e
      unit = fun_ext (λ d. omega arith)

      none_new : 0 ≡ held_at e - held_at e
      none_new = omega arith
  run_is (b ∷ bs) hs e s =
      rw (file_any b (hs b (Memᴰ.head refl)) e s, run_is bs (λ c m. hs c (Memᴰ.tail m)) (join_e e (reach_b b)) (fit_join e (reach_b b) s (fit_block b (hs b (Memᴰ.head refl)))), assoc)
      λ i. record { ledger = D.pack (cuts (join_e e (reaches (b ∷ bs)))); refused = untaken D (b ∷ bs); newly = sum i }
    where
      assoc : join_e (join_e e (reach_b b)) (reaches bs) ≡ join_e e (join_e (reach_b b) (reaches bs))
      assoc = fun_ext (λ d. omega arith)

      sum : held_at (join_e e (reach_b b)) - held_at e + (held_at (join_e e (join_e (reach_b b) (reaches bs))) - held_at (join_e e (reach_b b))) ≡ held_at (join_e e (join_e (reach_b b) (reaches bs))) - held_at e
      sum = omega (arith, held_grows e (reach_b b), rw assoc at (held_grows (join_e e (reach_b b)) (reaches bs)))

  held_zero : held_at (λ _. 0) ≡ 0
  unfolding held_at sum_below
  held_zero = none D.days
    where
      none : (n : ℕ) → sum_below (λ i. 0 - 1) n ≡ 0
      none zero = refl
      none (suc n) = omega (arith, none n)

  -- THE FOLD: from a fresh ledger, honest blocks in any order, any of them repeated or left out, and blocks that are not taken in between
  pub run_fresh : (bs : List B) → AllHonest D h bs →
      run D (fresh D) bs ≡ record { ledger = D.pack (cuts (reaches bs)); refused = untaken D bs; newly = held_at (reaches bs) }
  unfolding fresh cuts
  run_fresh bs hs =
      run_is bs hs (λ _. 0) fit_none
      ∙ λ i. record { ledger = D.pack (cuts (unit i)); refused = untaken D bs; newly = less i }
    where
      unit : join_e (λ _. 0) (reaches bs) ≡ reaches bs
      unit = fun_ext (λ d. omega arith)

      less : held_at (join_e (λ _. 0) (reaches bs)) - held_at (λ _. 0) ≡ held_at (reaches bs)
      less = rw (unit, held_zero) (omega arith)
