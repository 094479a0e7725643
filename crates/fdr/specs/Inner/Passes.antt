-- What the working columns carry from pass to pass, and what each pass asks of them. A side's key has ranking's layout,
-- with the side's slot for the place.
use Rattle.std.specs.Prelude.{◌≡◌, List, [], ◌∷◌, map, true, not, cond, ℕ, ◌+◌, ◌-◌, ◌*◌, ◌≤◌, ◌<◌, T, eqb, ℤ, length, get_or, set, Float}
use Rattle.std.specs.Float.{nan, binary32}
use Rattle.std.specs.Float.Ieee.{fits, is_nan, of_bits, to_bits}
use Rattle.folds.specs.Inner.Each.{Each}
use Rattle.floats.specs.Constants.{f32_one}
use Rattle.floats.specs.MinMax.{min_number}
use Rattle.columns.specs.Refusals.{longest}
use Rattle.counting.specs.Labels.{is_decoy}
use Rattle.ranking.specs.Inner.Layout.{packed, payload, upper_of, place_of, decoy_bit, with_upper}
use Rattle.kde.specs.Bins.{InRange}
use Rattle.competition.specs.Tables.{Table}
use Rattle.competition.specs.Batches.{no_part, all_allowed}
use Rattle.competition.specs.Inner.Ready.{LengthsMatch}
use Rattle.fdr.specs.declared.Names.{Names}
use Rattle.fdr.specs.declared.Settings.{Settings}
use Rattle.fdr.specs.Sides.{Side, side_of}
use Rattle.fdr.specs.SideQValues.{ratios_from}
use Rattle.fdr.specs.NameQValues.{name_of}

-- ---- a side's key, and the side of a key

abbrev pub side_payload : Side → ℕ
side_payload s = payload s.slot s.decoy

abbrev pub side_key : Side → ℕ
side_key s = packed s.score (side_payload s)

abbrev pub key_side : Table → ℕ → Side
key_side t key = side_of t (place_of key) (eqb (decoy_bit key) 1)

-- how many keys are of targets
unfoldable pub target_keys : List ℕ → ℕ
target_keys [] = 0
target_keys (k ∷ ks) = 1 - decoy_bit k + target_keys ks

-- ---- numbers in the scores' places: each key holds the bits of its number in its upper half

abbrev pub with_number : Float → ℕ → ℕ
with_number q key = with_upper (to_bits binary32 q) key

unfoldable pub with_numbers : List Float → List ℕ → List ℕ
with_numbers [] keys = []
with_numbers (q ∷ qs) [] = []
with_numbers (q ∷ qs) (k ∷ ks) = with_number q k ∷ with_numbers qs ks

abbrev pub key_number : ℕ → Float
key_number key = of_bits binary32 (upper_of key)

-- the ratios of the keys' sides, from a sum and a count on; a ratio above 1.0 and a NaN stand as 1.0, and a minimum
-- that starts there comes out the same
abbrev pub capped_ratios : Settings → List Float → Table → Float → ℕ → List ℕ → List Float
capped_ratios settings bins t sum targets keys =
    map (min_number f32_one) (ratios_from settings bins sum targets (map (key_side t) keys))

-- ---- the names' column: the bits of each name's q-value

abbrev pub key_name : Names → ℕ → ℕ
key_name names key = name_of names (place_of key) (eqb (decoy_bit key) 1)

-- each key's bits at its name, a later key's over an earlier one's
unfoldable pub written_at_names : Names → List ℕ → List ℕ → List ℕ
written_at_names names [] column = column
written_at_names names (k ∷ ks) column = written_at_names names ks (set column (key_name names k) (upper_of k))

-- what a feature row reads at its name
abbrev pub read_at_name : Names → List ℕ → ℕ → ℤ → Float
read_at_name names column slot label =
    cond (eqb slot no_part) f32_one (of_bits binary32 (get_or column (name_of names slot (is_decoy label)) 0))

-- ---- what passes ask

-- the key's slot is one of n
abbrev pub SlotInBounds : ℕ → ℕ → Type 0
SlotInBounds n key = place_of key < n

-- both names of a slot are places of a column
abbrev pub NamesInBounds : ℕ → ℕ → Type 0
NamesInBounds column slot = slot * 2 + 1 < column

-- the bits of a float that is no NaN
pub record NumberBits (n : ℕ) : Type 0 where
  pub small : n < 4294967296
  pub number : T (not (is_nan (of_bits binary32 n)))

abbrev pub HoldsNumber : ℕ → Type 0
HoldsNumber key = NumberBits (upper_of key)

-- a table's columns have one entry per slot, and there are two keys to a slot
pub record PackReady (t : Table) (keys : ℕ) : Type 0 where
  pub short : length t.forward ≤ longest
  pub lengths : LengthsMatch t
  pub keys_length : keys ≡ 2 * length t.forward

-- the scores of the first n slots are f32s, as those of every column are
pub record ScoresFit (t : Table) (n : ℕ) : Type 0 where
  pub forward : (slot : ℕ) → slot < n → T (fits binary32 (get_or t.forward slot nan))
  pub reverse : (slot : ℕ) → slot < n → T (fits binary32 (get_or t.reverse slot nan))

-- bins in range, all keys' slots in the table, and targets few enough to be counted in f32
pub record RatiosReady (bins : ℕ) (t : Table) (keys : List ℕ) : Type 0 where
  pub range : InRange bins
  pub reverse_length : length t.reverse ≡ length t.forward
  pub in_bounds : Each (SlotInBounds (length t.forward)) keys
  pub countable : target_keys keys ≤ longest

-- ---- what the questions let pass

pub record AssignReady (t : Table) (bins : ℕ) (slots : List ℕ) (labels keys spare q : ℕ) : Type 0 where
  pub pack : PackReady t keys
  pub spare_length : spare ≡ 2 * length t.forward
  pub labels_length : labels ≡ length slots
  pub q_length : q ≡ length slots
  pub range : InRange bins
  pub slots_allowed : all_allowed (length t.forward) slots ≡ true
