-- The bytes: one statement over one list.
-- Assumes nothing.
use mathlib.Core.Path.{◌≡◌, refl}
use mathlib.Core.List.{map}
use Rattle.cases.specs.Cases.{Case}
use Rattle.orders.proofs.Opens.{opens}
use Rattle.orders.proofs.Rows.{Met, both}
use Rattle.octets.specs.Bytes.{sent, of_one, of_two, most, bytes}

sent_met : Met sent
unfolding opens
sent_met = record { is = refl }

of_one_met : Met of_one
unfolding opens
of_one_met = record { is = refl }

of_two_met : Met of_two
unfolding opens
of_two_met = record { is = refl }

most_met : Met most
unfolding opens
most_met = record { is = refl }

pub written_out : map (λ (c : Case). c.given) bytes ≡ map (λ (c : Case). c.due) bytes
written_out = (both sent_met (both of_one_met (both of_two_met most_met))).is
