-- `line_check::judge` meets its contract: each way that it can go is a law of `Check`, at the counts that its two
-- callees give.
use borrow.Author.Rules.{rules}
use Rattle.line_check.proofs.Later.{decoys_small, product_fits}
use Rattle.line_check.proofs.Check.{rate_small, own_fails, own_qualifies}
use Rattle.line_check.proofs.judge.Goals as goal

pub overflow_mul-per : goal.overflow_mul-per
overflow_mul-per c =
    product_fits _ _ (rw c.per_decoy-per.ensures (rate_small _))
    (decoys_small _ _ (search rules) c.count_to-own.ensures (search rules))

pub returns-then-own-per : goal.returns-then-own-per
returns-then-own-per c =
    own_fails _ _ _ c.count_to-own.ensures
    c.last_later-last.ensures (search rules) (search rules)

pub returns : goal.returns
returns c =
    own_qualifies _ _ _ c.count_to-own.ensures
    c.last_later-last.ensures (search rules) (search rules) (search rules)
