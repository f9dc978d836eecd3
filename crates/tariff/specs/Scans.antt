-- What the code keeps while it looks at one slot after another: of the entry that rules its kind and day type, of the switching time in force its mark and rate.
-- And what a closure says of slots: the answers of a test, or what is kept after one more.
use Rattle.std.specs.Prelude.{ℕ, ◌≡◌, Bool, cond, ◌&&◌, List, ◌∷◌, ltb}
use Rattle.tariff.specs.declared.Today.{Today}
use Rattle.tariff.specs.declared.Ruler.{Ruler}
use Rattle.tariff.specs.declared.Force.{Force}
use Rattle.tariff.specs.Table.{Entry}
use Rattle.tariff.specs.Rate.{covers, applies, mark_of}

abbrev pub ruler_of : Entry → Ruler
ruler_of e = record { kind = e.kind; daytype = e.daytype }

unfoldable pub outranked : Today → Entry → Ruler → Ruler
outranked k e best = cond (covers k e && ltb e.kind best.kind) (ruler_of e) best

abbrev pub force_of : Entry → Force
force_of e = record { mark = mark_of e; rate = e.z }

unfoldable pub followed : ℕ → ℕ → Entry → Force → Force
followed daytype clock e best = cond (applies daytype clock e && ltb best.mark (mark_of e)) (force_of e) best

-- a closure answers as a test does, and keeps of one slot more what a definition says of the longer list
abbrev pub Answers : (Entry → Bool → Type 0) → (Entry → Bool) → Type 0
Answers post test = (e : Entry) (b : Bool) → post e b → b ≡ test e

abbrev pub Keeps : {A : Type 0} → (A → Entry → A → Type 0) → (List Entry → A) → Type 0
Keeps {A} post kept = (e : Entry) (es : List Entry) (next : A) → post (kept es) e next → next ≡ kept (e ∷ es)
