use borrow.Author.Rules.{rules}
use Rattle.printed.proofs.Written.{listing_shown}
use Rattle.printed.proofs.listing.Goals as goal

pub returns : goal.returns
returns g c = rw (← listing_shown _ _ _ _ (search rules) c.listed-n.ensures.0 c.listed-n.ensures.1) (c.write_all.ensures.bytes)
