use Rattle.timing.proofs.Laws.{product_fits}
use borrow.Author.Rules.{rules}
use Rattle.timing.proofs.time_at.Goals as goal

pub overflow_mul-result : goal.overflow_mul-result
overflow_mul-result c = search (product_fits, rules)
