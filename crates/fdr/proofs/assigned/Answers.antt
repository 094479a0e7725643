-- `fdr::assigned` meets its contract: the laws of proofs/Joined.antt, filled with what the calls ensure.
use lib.ListN.{take}
use Rattle.fdr.proofs.Joined.{Packs, packs, Ranks, ranks, rank_asks, names_ask, rows_ask, assigned_all}
use Rattle.fdr.proofs.assigned.Goals as goal
use Rattle.fdr.proofs.assigned.Goals.{After-pack-rows, After-rank-passing}

-- what is known after the call of `pack`, and after that of `rank`
packed : (c : After-pack-rows)
    → Packs c.args.bins.now c.args.table.now c.args.slots.now c.args.labels.now c.args.keys.now c.args.spare.now
    c.args.q.now c.pack-rows.result c.pack-rows.new.keys
packed c =
    let w = c.pack-rows.ensures in
    packs c.args.bins.now c.args.labels.now c.args.keys.now c.args.spare.now c.args.q.now c.pack-rows.new.keys c.requires
    w.scores w.few c.pack-rows.auto.keys w.keys

ranked : (c : After-rank-passing)
    → Ranks c.args.settings c.args.bins.now c.args.table.now (take c.pack-rows.result c.pack-rows.new.keys)
    (take c.pack-rows.result c.args.spare.now) c.rank-passing.result c.rank-passing.new.keys c.rank-passing.new.spare
ranked c =
    let w = c.rank-passing in
    ranks c.args.settings c.args.bins.now c.args.table.now _ _ w.new.keys w.new.spare w.ensures.count w.ensures.keys
    w.auto.keys w.auto.spare

pub rank-passing-requires-clause-ratios_ready : goal.rank-passing-requires-clause-ratios_ready
rank-passing-requires-clause-ratios_ready c =
    rank_asks (packed (goal.at.rank-passing-requires-clause-ratios_ready c).After-pack-rows)

pub name_q_values-requires : goal.name_q_values-requires
name_q_values-requires c =
    let at = goal.at.name_q_values-requires c in
    names_ask (packed at.After-pack-rows) (ranked at.After-rank-passing)

pub write_rows-requires : goal.write_rows-requires
write_rows-requires c =
    let at = goal.at.write_rows-requires c in
    let asks = rows_ask (packed at.After-pack-rows) (ranked at.After-rank-passing) _ c.name_q_values.ensures in
    record { bits = asks.0; slots_in_bounds = asks.1.0; lengths = asks.1.1 }

pub returns : goal.returns
returns c =
    let at = goal.at.returns c in
    let all = assigned_all (packed at.After-pack-rows) (ranked at.After-rank-passing) _ c.name_q_values.ensures
    _ c.write_rows.ensures _ _ c.clear.ensures.keys c.clear.ensures.spare in
    record { count = all.0; column = all.1.0; keys = all.1.1.0; spare = all.1.1.1 }
