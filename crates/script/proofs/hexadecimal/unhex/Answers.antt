use Rattle.script.proofs.Digits.{put_none, put_on, not_bytes, no_room, bytes_read}
use Rattle.script.proofs.hexadecimal.unhex.Goals as goal

pub returns-then-not-hex_ok : goal.returns-then-not-hex_ok
returns-then-not-hex_ok c = search not_bytes

pub returns-then-out-n : goal.returns-then-out-n
returns-then-out-n c = search no_room

pub loop-i-init : goal.loop-i-init
loop-i-init c = search put_none

pub loop-i-preserved : goal.loop-i-preserved
loop-i-preserved c = search put_on

pub returns : goal.returns
returns c = search bytes_read
