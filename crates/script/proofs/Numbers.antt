-- Six digits make a number below a million.
-- Assumes nothing.
use Prim.Native.Nat.{ℕ, ◌<◌}
use mathlib.Core.Path.{◌≡◌, sym}
use mathlib.Core.List.{List}
use Rattle.std.specs.Prelude.{Option, Some, None, IfSome}
use Rattle.format.specs.Answers.{number_at}
use Rattle.format.specs.Numbers.{decimal}
use Rattle.format.proofs.Numbers.{good_at_lem, num_lt}
use Rattle.format.proofs.Reading.{number_is}

pub six_below : (w : List ℕ) (n : Option ℕ) → n ≡ number_at w 0 6 → IfSome n (λ (x : ℕ). x < 1000000)
six_below w (Some x) e = let p = number_is w 0 6 x (sym e) in rw p.1 (num_lt decimal w 0 6 (good_at_lem decimal w 0 6 p.0))
six_below w None e = tt
