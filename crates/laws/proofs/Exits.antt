-- What `?` hands on: at its exit the function returns the error that the call gave.
-- Assumes nothing.
use Rattle.std.specs.Prelude.{Result, Err}
use Rattle.std.specs.Result.{IsErrAnd}
use Rattle.std.proofs.lemmas.Result.{err_from_is_err_and}
use mathlib.Core.Path.{◌≡◌}

module _ {T E : Type 0} {k : E} {r : Result T E} (h : IsErrAnd r (λ y. y ≡ k)) where
  pub exit_is : r ≡ Err k
  exit_is = let p = err_from_is_err_and r h in rw (p.1, p.2)

  pub exits : {x : Result T E} → Err k ≡ x → r ≡ x
  exits e = rw exit_is e

  -- of what a function makes of the result
  pub exits_as : {A : Type 0} (f : Result T E → A) {x : A} → f (Err k) ≡ x → f r ≡ x
  exits_as f e = rw exit_is e
