use Rattle.std.proofs.Common.{◌<◌, get_or, rules, arith, ltb-true, lt-ltb}
use Rattle.std.specs.Prelude.{◌↔◌, EachIndex, IsTrue}
use Rattle.laws.proofs.Bools.{bool_eq}
use Rattle.laws.proofs.Tests.{all_at, all_of}
use Rattle.quantity.specs.Units.{total_round}
use Rattle.registers.specs.Energy.{rate_test, rates_ok, no_energy}
use Rattle.registers.proofs.rates_ok.Goals as goal

pub returns : goal.returns
unfolding rates_ok
returns c =
    let rates = c.args.rates in
    let h : IsTrue c.all.result ↔ EachIndex rates (λ k. (get_or rates k no_energy).0 < total_round) = search rules in
    bool_eq _ _ (λ e. all_of (rate_test rates) 8 (λ k l. lt-ltb _ _ (h.0 e k (omega arith))))
    (λ e. h.1 (λ k l. ltb-true _ _ (all_at (rate_test rates) 8 e k (omega arith))))
