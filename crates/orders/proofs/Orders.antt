-- The orders: one statement over one list.
-- Assumes nothing.
use mathlib.Core.Path.{◌≡◌, refl}
use mathlib.Core.List.{map}
use Rattle.cases.specs.Cases.{Case}
use Rattle.orders.proofs.Opens.{opens}
use Rattle.orders.proofs.Rows.{Met, both}
use Rattle.orders.specs.Orders.{reading, writing, parsing, opening, filing, comparing, asking, orders}

reading_met : Met reading
unfolding opens
reading_met = record { is = refl }

writing_met : Met writing
unfolding opens
writing_met = record { is = refl }

parsing_met : Met parsing
unfolding opens
parsing_met = record { is = refl }

opening_met : Met opening
unfolding opens
opening_met = record { is = refl }

filing_met : Met filing
unfolding opens
filing_met = record { is = refl }

comparing_met : Met comparing
unfolding opens
comparing_met = record { is = refl }

asking_met : Met asking
unfolding opens
asking_met = record { is = refl }

pub in_order : map (λ (c : Case). c.given) orders ≡ map (λ (c : Case). c.due) orders
in_order = (both reading_met (both writing_met (both parsing_met (both opening_met (both filing_met (both comparing_met asking_met)))))).is
