-- What the code keeps is what the definitions say of the slots that it has looked at.
-- Assumes nothing.
use Prim.Native.Nat.{ℕ, suc}
use mathlib.Core.Path.{◌≡◌, refl}
use mathlib.Core.Bool.{◌&&◌}
use mathlib.Core.List.{List, [], ◌∷◌}
use Rattle.tariff.specs.declared.Today.{Today}
use Rattle.tariff.specs.Table.{Entry, default}
use Rattle.tariff.specs.Rate.{covers, higher, ruled, applies, mark_of, later, latest}
use Rattle.tariff.specs.declared.Ruler.{Ruler}
use Rattle.tariff.specs.declared.Force.{Force}
use Rattle.tariff.specs.Scans.{ruler_of, outranked, force_of, followed}
use Rattle.laws.proofs.Split.{by_test}
use lib.Dec.{ltb}

module _ (k : Today) where
  pub ruler_none : ◌≡◌ {A = Ruler} (record { kind = suc default; daytype = 0 }) (ruler_of (ruled k []))
  unfolding ruled
  ruler_none = refl

  pub ruler_next : (e : Entry) (es : List Entry) → outranked k e (ruler_of (ruled k es)) ≡ ruler_of (ruled k (e ∷ es))
  unfolding outranked ruled higher
  ruler_next e es = by_test (covers k e && ltb e.kind (ruled k es).kind) (λ h. rw h) (λ h. rw h)

module _ (daytype clock : ℕ) where
  pub force_none : ◌≡◌ {A = Force} (record { mark = 0; rate = 0 }) (force_of (latest daytype clock []))
  unfolding latest
  force_none = refl

  pub force_next : (e : Entry) (es : List Entry) → followed daytype clock e (force_of (latest daytype clock es)) ≡ force_of (latest daytype clock (e ∷ es))
  unfolding followed latest later
  force_next e es = by_test (applies daytype clock e && ltb (mark_of (latest daytype clock es)) (mark_of e)) (λ h. rw h) (λ h. rw h)
