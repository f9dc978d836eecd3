-- Switching tables: what each return says.
-- Assumes nothing.
use Prim.Native.Nat.{ℕ, ◌≤◌, ◌<◌}
use mathlib.Core.Path.{◌≡◌, ap, ◌∙◌}
use mathlib.Core.List.{List}
use native.Mathlib.Omega.{arith}
use lib.Dec.{eqb, leb}
use lib.ListN.{length}
use lib.Seq.{sets}
use borrow.Author.Tests.{ne_eqb, le-leb, lt-leb}
use Rattle.laws.proofs.Split.{by_test}
use Rattle.block.specs.Answers.{answer}
use Rattle.std.specs.Prelude.{Result, Ok, Err}
use Rattle.std.specs.Result.{result_and}
use Rattle.answers.specs.declared.Refusal.{Refusal}
use Rattle.answers.specs.declared.Refusal.TheVariants.{Range}
use Rattle.answers.specs.Answer.{Answer, answered, judged_as, number_of as name}
use Rattle.answers.proofs.Numbers.{above_0}
use Rattle.drawn.proofs.Answered.{carries_none}
use Rattle.lines.specs.Listing.{shown}
use Rattle.tariff.specs.Judge.{judged}
use Rattle.tariff.specs.Rate.{rate_at}
use Rattle.drawn.specs.Week.{week_text}
use Rattle.drawn.specs.Asked.{week_judged, week_answer, week_shown}
use Rattle.desk.specs.Numbers.{one_number, number_of}
use Rattle.desk.specs.Given.{given, give_row}
use Rattle.desk.specs.Tables.{rate_judged, rate_number, give_week}

-- ---- a judgement

pub table_told : (l : List ℕ) (r : Result (Unit {0}) Refusal) → judged_as r ≡ judged l → number_of (answered (result_and r (Ok 0))) ≡ one_number (judged l) 0
table_told l (Ok u) e = rw (← e)
table_told l (Err r) e = rw (← e, carries_none l r e)

-- ---- the rate

module _ (l : List ℕ) (t : ℕ) where
  pub rate_late : 3155760000 ≤ t → number_of (answered (Err Range)) ≡ rate_number l t
  unfolding rate_number rate_judged
  rate_late h = rw (le-leb 3155760000 t h)

  module _ (h : t < 3155760000) where
    pub rate_refused : (r : Refusal) → name r ≡ judged l → number_of (answered (Err r)) ≡ rate_number l t
    unfolding rate_number rate_judged
    rate_refused r e = rw (lt-leb 3155760000 t h, ne_eqb (judged l) 0 (λ z. omega (arith, e, z, above_0 r)), carries_none l r e, e)

    pub rate_given_lem : (rate : ℕ) → 0 ≡ judged l → rate ≡ rate_at l t → number_of (answered (Ok rate)) ≡ rate_number l t
    unfolding rate_number rate_judged
    rate_given_lem rate z p = rw (lt-leb 3155760000 t h, ← z, p)

-- ---- the week

number_with : (m : List ℕ) (a : Answer) (r n c : ℕ) → r ≡ one_number a.number a.carried → a ≡ answer n c → given m r ≡ given m (one_number n c)
number_with m a r n c f e = ap (λ (x : ℕ). given m x) (f ∙ ap (λ (x : Answer). one_number x.number x.carried) e)

pub week_given : (l out m : List ℕ) (d r : ℕ) (a : Answer) → m ≡ week_shown l d out → a ≡ week_answer l d (length out) → r ≡ one_number a.number a.carried
    → given m r ≡ give_week l d out
unfolding give_week give_row week_shown week_answer shown
week_given l out m d r a p e f =
    by_test (eqb (week_judged l d) 0)
    (λ t. by_test (leb (length (week_text l d)) (length out))
    (λ s. rw (p, t, s) (number_with (sets out 0 (week_text l d)) a r 0 (length (week_text l d)) f (rw (t, s) at e)))
    (λ s. rw (p, t, s) (number_with out a r 7 (length (week_text l d)) f (rw (t, s) at e))))
    (λ t. rw (p, t) (number_with out a r (week_judged l d) 0 f (rw t at e)))
