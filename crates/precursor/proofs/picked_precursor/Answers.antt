-- `precursor::picked_precursor` meets its contract: the questions' answer picks what is answered and left (`picked`).
use borrow.Author.Rules.{rules}
use mathlib.Core.Path.{refl, sym, ap, ◌∙◌}
use Rattle.ranking.specs.Sorted.{sorted}
use Rattle.precursor.specs.Precursors.{picked_precursor}
use Rattle.precursor.proofs.Questions.{precursor_lengths}
use Rattle.precursor.proofs.Keyed.{keyed_rows}
use Rattle.precursor.proofs.Joined.{places_asked, picked}
use Rattle.precursor.proofs.picked_precursor.Goals as goal

pub assign_q_value-passing-requires-clause-places_in_bounds
    : goal.assign_q_value-passing-requires-clause-places_in_bounds
assign_q_value-passing-requires-clause-places_in_bounds c =
    let a = c.args in
    places_asked a.labels.now a.scores.now a.keys.now a.spare.now
    (precursor_lengths _ _ _ _ _ (sym c.ask.ensures ∙ c.in_default.is)).1 _
    (c.sort.ensures.keys ∙ ap sorted (keyed_rows a.labels.now (λ place decoy h t. search rules) c.pack.ensures))

pub returns-in-Err : goal.returns-in-Err
unfolding picked_precursor
returns-in-Err c =
    rw (c.clear.ensures.keys, c.clear.ensures.spare, c.blank.ensures, ← c.ask.ensures, c.in-Err.is)

pub returns : goal.returns
unfolding picked_precursor
returns c =
    let a = c.args in
    let m = precursor_lengths _ _ _ _ _ (sym c.ask.ensures ∙ c.in_default.is) in
    rw (c.clear-2.ensures.keys, c.clear-2.ensures.spare, ← c.ask.ensures, c.in_default.is)
    (picked a.labels.now a.scores.now a.keys.now a.spare.now m.1 _ (c.sort.ensures.keys ∙ ap sorted (keyed_rows a.labels.now (λ place decoy h t. search rules) c.pack.ensures)) a.q.now refl m.0
    _ _ c.sort.new.spare c.assign_q_value-passing.ensures.count c.assign_q_value-passing.ensures.column c.sort.ensures.spare)
