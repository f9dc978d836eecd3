-- What makes a desk take a block.
-- Assumes nothing.
use mathlib.Core.Path.{◌≡◌, sym, ap, ◌∙◌}
use mathlib.Core.Bool.{true}
use mathlib.Core.List.{List}
use Prim.Native.Nat.{ℕ, ◌<◌, ◌+◌}
use native.Mathlib.Omega.{arith}
use lib.ListN.{get_or}
use borrow.Author.Tests.{lt-ltb}
use Rattle.laws.proofs.Tests.{all_at}
use Rattle.format.specs.Numbers.{binary, is_digit, num_at, digit_at}
use Rattle.format.specs.Identifier.{ident_length, ident_test, ident_ok, SameMeter}
use Rattle.format.proofs.Numbers.{byte_num, good_at_lem, bytes_good}
use Rattle.block.specs.Fields.{ident_in}
use Rattle.block.specs.Parse.{fields, parse}
use Rattle.block.proofs.Checking.{ident_small}
use Rattle.block.proofs.Positions.{ident_at_lem}
use Rattle.block.proofs.Ranges.{parsed_byte}
use Rattle.reader.proofs.Answers.{parsed_is}
use Rattle.ledger.specs.Open.{head_of}
use Rattle.ledger.proofs.Opening.{head_at, head_ident}
use Rattle.filing.proofs.Meter.{meter_iff}
use Rattle.filing.proofs.Offered.{number_parsed}
use Rattle.kept.specs.Desk.{taken_by}

-- ---- a block that a ledger of its meter takes: one whose own identifier is of the meter that the ledger was opened for

module _ (id own : List ℕ) (first days : ℕ) (ident : ident_ok own 0 ≡ true) (meter : SameMeter id own) where
  own_digit : (q : ℕ) → q < ident_length → is_digit binary (get_or own (0 + q) 0) ≡ true
  unfolding is_digit ident_ok ident_test
  own_digit q h = lt-ltb (get_or own (0 + q) 0) 256 (ident_small q (get_or own (0 + q) 0) (all_at (ident_test own 0) ident_length ident q h))

  module _ (b : List ℕ) (n : ℕ) (vs : List ℕ) (read : parse b ≡ fields n vs) (same : ident_in vs ≡ num_at binary own 0 ident_length) where
    ident_same : num_at binary b 5 ident_length ≡ num_at binary own 0 ident_length
    ident_same = sym (ident_at_lem b) ∙ ap (λ (z : List ℕ). ident_in z) (sym (parsed_is b n vs read).2) ∙ same

    own_same : (p : ℕ) → p < ident_length → get_or own p 0 ≡ get_or b (5 + p) 0
    own_same p h =
        let z : 0 + p ≡ p = omega arith in
        ap (λ (k : ℕ). get_or own k 0) (sym z)
        ∙ sym (byte_num binary own 0 ident_length own_digit p h)
        ∙ ap (λ (x : ℕ). digit_at binary ident_length x p) (sym ident_same)
        ∙ byte_num binary b 5 ident_length (good_at_lem binary b 5 ident_length (bytes_good b (parsed_byte b n vs read) 5 ident_length)) p h

    pub parsed_taken : taken_by (head_of id first days) b ≡ true
    unfolding taken_by
    parsed_taken =
        rw (number_parsed b n vs read)
        ((meter_iff (head_of id first days) b).1 (λ q past h. head_at id first days q (omega arith) ∙ head_ident id first days q h ∙ meter q past h ∙ own_same q h))
