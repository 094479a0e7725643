-- `fdr::naming::row_q` meets its contract: a row that takes part reads the place of its name.
use mathlib.Core.Path.{◌≡◌, sym, subst}
use mathlib.Core.Bool.{Bool, false, not}
use mathlib.Core.List.{List}
use Prim.Native.Nat.{ℕ, ◌<◌}
use borrow.Author.Tests.{ne_eqb}
use lib.Dec.{T, eqb}
use lib.ListN.{length, get_or}
use lib.Ieee.{binary32}
use lib.Ieee.Bits.{nan_bits_is}
use Rattle.folds.specs.Inner.Each.{Each}
use Rattle.folds.proofs.Writing.{all_at}
use Rattle.competition.specs.Batches.{no_part}
use Rattle.fdr.specs.NameQValues.{name_of}
use Rattle.fdr.specs.declared.Names.{Names}
use Rattle.fdr.specs.Inner.Passes.{NamesInBounds, NumberBits}
use Rattle.fdr.proofs.NameColumn.{name_in_bounds}
use Rattle.fdr.proofs.naming.row_q.Goals as goal

-- the place of a row that takes part
in_bounds : (column : List ℕ) (names : Names) {slot name : ℕ} (bit : Bool)
    → (eqb slot no_part ≡ false → NamesInBounds (length column) slot) → (slot ≡ no_part → ⊥)
    → name ≡ name_of names slot bit
    → name < length column
in_bounds column names {slot} bit b n e =
    subst (λ (n : ℕ). n < length column) (sym e) (name_in_bounds names slot bit _ (b (ne_eqb slot no_part n)))

bits_at : (column : List ℕ) (names : Names) {slot name : ℕ} (bit : Bool) → Each NumberBits column
    → (eqb slot no_part ≡ false → NamesInBounds (length column) slot) → (slot ≡ no_part → ⊥)
    → name ≡ name_of names slot bit
    → NumberBits (get_or column name 0)
bits_at column names {slot} {name} bit w b n e = all_at NumberBits 0 column w name (in_bounds column names bit b n e)

pub float_from_bits-result : goal.float_from_bits-result
float_from_bits-result c =
    subst (λ (b : Bool). T (not b)) (sym (nan_bits_is binary32 _))
    (bits_at c.args.column.now c.args.names _ c.requires.bits c.requires.names_in_bounds c.if-slot-eq-NO_PART.false c.name_of-name.ensures).number
