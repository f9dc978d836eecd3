use Rattle.calendar.proofs.Direct.{year_short, month_below, month_last, month_rest, month_at}
use borrow.Author.Rules.{rules}
use Rattle.calendar.proofs.month_at.Goals as goal

pub shifted-s-requires : goal.shifted-s-requires
shifted-s-requires c = search (year_short, rules)

pub returns : goal.returns
returns c = (search month_at, search month_last, search month_rest)
