-- `precursor::precursor_order` meets its contract: the questions' answer picks what is answered and left (`ordered`).
use borrow.Author.Rules.{rules}
use mathlib.Core.Path.{sym, ap, ◌∙◌}
use mathlib.Core.List.{[]}
use Rattle.ranking.specs.Sorted.{sorted}
use Rattle.precursor.specs.Precursors.{precursor_order}
use Rattle.precursor.proofs.Questions.{order_lengths}
use Rattle.precursor.proofs.Keyed.{keyed_rows}
use Rattle.precursor.proofs.Joined.{ordered}
use Rattle.precursor.proofs.precursor_order.Goals as goal

pub returns-in-Err : goal.returns-in-Err
unfolding precursor_order
returns-in-Err c =
    rw (c.clear.ensures.keys, c.clear.ensures.spare, c.blank.ensures, ← c.ask_order.ensures, c.in-Err.is)

pub returns : goal.returns
unfolding precursor_order
returns c =
    let a = c.args in
    rw (c.clear-2.ensures.keys, c.clear-2.ensures.spare, ← c.ask_order.ensures, c.in_default.is)
    (ordered [] a.scores.now a.keys.now a.spare.now (order_lengths _ _ _ _ (sym c.ask_order.ensures ∙ c.in_default.is)) _ (c.sort.ensures.keys ∙ ap sorted (keyed_rows [] (λ place decoy h t. search rules) c.pack.ensures))
    _ c.sort.new.spare c.write_order.ensures c.sort.ensures.spare)
