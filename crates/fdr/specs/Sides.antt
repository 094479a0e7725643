-- A competition's sides, ranked. Document 01, module 5: "Seen sides become ranked rows: forward before reverse, slots
-- in order, then a stable descending ranking by total_cmp."
use Rattle.std.specs.Prelude.{List, [], ◌∷◌, ◌++◌, map, Bool, true, false, cond, ℕ, zero, suc, length, get_or, Float}
use Rattle.std.specs.Float.{nan}
use Rattle.ranking.specs.Ranking.{ranked}
use Rattle.competition.specs.Tables.{Table, is_seen}

-- one side of a slot: the reverse one is the decoy
pub record Side : Type 0 where
  pub slot : ℕ
  pub decoy : Bool
  pub score : Float

abbrev pub side_of : Table → ℕ → Bool → Side
side_of t slot decoy =
    record { slot = slot; decoy = decoy; score = cond decoy (get_or t.reverse slot nan) (get_or t.forward slot nan) }

-- the side, where its mark is seen
abbrev pub if_seen : ℕ → Side → List Side
if_seen mark side = cond (is_seen mark) (side ∷ []) []

-- "forward before reverse"
abbrev pub slot_sides : Table → ℕ → List Side
slot_sides t slot =
    if_seen (get_or t.forward_seen slot 0) (side_of t slot false)
    ++ if_seen (get_or t.reverse_seen slot 0) (side_of t slot true)

-- "slots in order": those of slot, slot + 1, and so on, k slots
unfoldable pub sides_from : Table → ℕ → ℕ → List Side
sides_from t slot zero = []
sides_from t slot (suc k) = slot_sides t slot ++ sides_from t (suc slot) k

abbrev pub seen_sides : Table → List Side
seen_sides t = sides_from t 0 (length t.forward)

-- "then a stable descending ranking by total_cmp"
unfoldable pub ranked_sides : Table → List Side
unfolding sides_from
ranked_sides t =
    let sides = seen_sides t in
    map (λ r. get_or sides r.place (side_of t 0 false)) (ranked (map (λ (s : Side). s.score) sides))
