-- Rows that are met: a list's rows by themselves, since one computation of all would be too long, and lists joined.
-- Assumes nothing.
use mathlib.Core.Path.{◌≡◌, sym, ◌∙◌}
use mathlib.Core.List.{List, ◌++◌, map, map-append}
use Rattle.cases.specs.Cases.{Case}

pub record Met (cs : List Case) : Type 0 where
  pub is : map (λ (c : Case). c.given) cs ≡ map (λ (c : Case). c.due) cs

pub both : {a b : List Case} → Met a → Met b → Met (a ++ b)
both {a} {b} p q = record { is = map-append (λ (c : Case). c.given) a b ∙ (λ i. p.is i ++ q.is i) ∙ sym (map-append (λ (c : Case). c.due) a b) }
