-- `agreement::make_and_check` meets its contract: what each call gives is handed on to the next (`checked_is`).
use Rattle.agreement.proofs.PrecursorLine.{picked_ok, picked_is, order_ok, order_is, reads, checked_is}
use Rattle.agreement.proofs.make_and_check.Goals as goal

pub unwrap-requires : goal.unwrap-requires
unwrap-requires c =
    let p = c.args in
    picked_ok p.labels.now p.scores.now p.keys.now p.spare.now p.ranked.now p.order.now p.q.now c.requires _ _ _ _
    c.picked_precursor.ensures

pub unwrap-requires-2 : goal.unwrap-requires-2
unwrap-requires-2 c =
    let p = c.args in
    let picked = picked_is p.labels.now p.scores.now p.keys.now p.spare.now p.ranked.now p.order.now p.q.now c.requires _ _ _ _
    c.picked_precursor.ensures in
    order_ok p.labels.now p.scores.now p.keys.now p.spare.now p.ranked.now p.order.now p.q.now c.requires _ _ _ _ _ _
    picked.1 picked.2 c.precursor_order.ensures

pub read_ranked-line-requires-clause-order_in_bounds : goal.read_ranked-line-requires-clause-order_in_bounds
read_ranked-line-requires-clause-order_in_bounds c =
    let p = c.args in
    let picked = picked_is p.labels.now p.scores.now p.keys.now p.spare.now p.ranked.now p.order.now p.q.now c.requires _ _ _ _
    c.picked_precursor.ensures in
    let order = order_is p.labels.now p.scores.now p.keys.now p.spare.now p.ranked.now p.order.now p.q.now c.requires _ _ _ _ _ _
    picked.1 picked.2 c.precursor_order.ensures in
    reads p.labels.now p.scores.now p.keys.now p.spare.now p.ranked.now p.order.now p.q.now c.requires _ order.0

pub returns : goal.returns
returns c =
    let p = c.args in
    let picked = picked_is p.labels.now p.scores.now p.keys.now p.spare.now p.ranked.now p.order.now p.q.now c.requires _ _ _ _
    c.picked_precursor.ensures in
    let order = order_is p.labels.now p.scores.now p.keys.now p.spare.now p.ranked.now p.order.now p.q.now c.requires _ _ _ _ _ _
    picked.1 picked.2 c.precursor_order.ensures in
    checked_is p.labels.now p.scores.now p.keys.now p.spare.now p.ranked.now p.order.now p.q.now c.requires _ _ _ _ _ _ _ _
    picked.0 order.1 order.2 order.0 c.read_ranked-line.ensures.count c.read_ranked-line.ensures.column
    c.check_line-answer.ensures (c.fill.ensures.after (λ y e. e))
