-- `competition::fresh_table` meets its contract: the questions' answer picks what is answered and left.
use Rattle.std.proofs.lemmas.Result.{err_from_is_err_and}
use Rattle.competition.specs.Tables.{fresh_table}
use Rattle.competition.proofs.table.fresh_table.Goals as goal

pub returns-in_err-ask_fresh : goal.returns-in_err-ask_fresh
unfolding fresh_table
returns-in_err-ask_fresh c =
    let asked = rw c.read.ensures at c.ask_fresh.ensures in
    let p = err_from_is_err_and c.from_residual.result c.from_residual.ensures.1 in
    rw (p.1, p.2, ← asked, c.in_err-ask_fresh.was)

pub returns : goal.returns
unfolding fresh_table
returns c =
    let asked = rw c.read.ensures at c.ask_fresh.ensures in
    rw (
      c.fill.ensures.after (λ y e. e),
      c.fill-2.ensures.after (λ y e. e),
      c.fill-3.ensures.after (λ y e. e),
      c.fill-4.ensures.after (λ y e. e),
      c.default-fresh.ensures,
      ← asked,
      c.in_ok-ask_fresh.was,
    )
