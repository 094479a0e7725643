-- `fdr::ratios::rank` meets its contract: the laws of proofs/Joined.antt, filled with what the calls ensure.
use Rattle.fdr.proofs.Joined.{still_ready, minima_ask, rank_done}
use Rattle.fdr.proofs.ratios.rank.Goals as goal

pub write_ratios-requires : goal.write_ratios-requires
write_ratios-requires c = still_ready _ _ c.sort.ensures.keys c.requires.ratios_ready

pub take_minima-requires : goal.take_minima-requires
take_minima-requires c =
    let a = c.args in
    minima_ask a.settings a.bins.now a.table.now c.sort.new.keys _ c.write_ratios.ensures

pub returns : goal.returns
returns c =
    let a = c.args in
    let w = rank_done a.settings a.bins.now a.table.now c.sort.new.keys _ c.sort.ensures.keys _
    c.write_ratios.ensures _ _ c.take_minima.ensures.count c.take_minima.ensures.keys in
    record { count = w.0; keys = w.1 }
