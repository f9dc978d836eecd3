use Rattle.std.proofs.Common.{rules, tests}
use Rattle.std.proofs.lemmas.Iterator.{YieldsList-from_slice}
use Rattle.std.proofs.lemmas.Iterator.Search.{all_from_yields_List}
use Rattle.script.specs.Hex.{is_hex}
use Rattle.script.proofs.Digits.{all_hex}
use Rattle.script.proofs.hexadecimal.hex_ok.Goals as goal

pub returns : goal.returns
returns c =
    all_hex _ c.all.result
    (all_from_yields_List is_hex _ _ c.all.result c.all.ensures.ran (YieldsList-from_slice _ c.iter.ensures.rest) (λ x b q k. search (rules, tests)))
    (search rules) c.if-word-ne0.false
