-- The column of names: written down the ranked rows, it holds the q-value of the last row that has the name.
use mathlib.Core.Path.{◌≡◌, refl, sym, ap, ap₂, ◌∙◌, subst}
use mathlib.Core.List.{List, [], ◌∷◌, map}
use mathlib.Core.Bool.{Bool, true, false}
use Prim.Native.Nat.{ℕ, zero, suc, ◌+◌, ◌*◌, ◌≤◌, ◌<◌}
use native.Mathlib.Numerals.{add-one}
use native.Mathlib.Omega.{arith}
use lib.Dec.{eqb, lit<}
use borrow.Author.Tests.{eqb-false}
use lib.ListN.{length, get_or, drop, set, replicate, length-set, drop_of_length-le}
use lib.Seq.{drop-cons}
use lib.Ieee.{binary32, is_nan, of_bits, to_bits}
use Rattle.floats.proofs.Fields.{bits_cond}
use Rattle.folds.specs.Inner.Each.{Each}
use Rattle.folds.proofs.Writing.{set_reads, all_set}
use Rattle.folds.proofs.Tests.{both_true}
use Rattle.ranking.specs.Inner.Layout.{place_of, decoy_bit, upper_of}
use Rattle.competition.proofs.Questions.{slot_in_bounds}
use Rattle.competition.specs.Tables.{Table}
use Rattle.competition.specs.Batches.{no_part, allowed, all_allowed}
use Rattle.fdr.specs.declared.Names.{Names}
use Rattle.fdr.specs.declared.Names.TheVariants.{Two, One}
use Rattle.fdr.specs.NameQValues.{name_of, q_of}
use Rattle.fdr.specs.Inner.Passes.{key_side, key_number, key_name, written_at_names, NamesInBounds, NumberBits, HoldsNumber}

-- ---- a name's number

pub name_in_bounds : (names : Names) (slot : ℕ) (decoy : Bool) (n : ℕ) → NamesInBounds n slot
    → name_of names slot decoy < n
name_in_bounds Two slot true n h = h
name_in_bounds Two slot false n h = omega arith
name_in_bounds One slot decoy n h = omega arith

-- ---- the loop

pub record Naming (names : Names) (keys column₀ : List ℕ) (i : ℕ) (column : List ℕ) : Type 0 where
  pub high : i ≤ length keys
  pub same : length column ≡ length column₀
  pub is : written_at_names names (drop i keys) column ≡ written_at_names names keys column₀

module _ (names : Names) (keys column₀ : List ℕ) {i : ℕ} {column : List ℕ} (w : Naming names keys column₀ i column)
  where
    pub naming_done : length keys ≤ i → column ≡ written_at_names names keys column₀
    unfolding written_at_names
    naming_done h = ap (λ (ks : List ℕ). written_at_names names ks column) (sym (drop_of_length-le keys h)) ∙ w.is

    module _ (h : i < length keys) {place bit : ℕ} (p : place ≡ place_of (get_or keys i 0))
        (b : bit ≡ decoy_bit (get_or keys i 0))
        (name : ℕ) (n : name ≡ name_of names place (eqb bit 1)) where
      e : name ≡ key_name names (get_or keys i 0)
      e = n ∙ ap₂ (λ (x y : ℕ). name_of names x (eqb y 1)) p b

      pub naming_step : (upper : ℕ) → upper ≡ upper_of (get_or keys i 0)
          → Naming names keys column₀ (i + 1) (set column name upper)
      unfolding written_at_names
      naming_step upper u = record {
        high = omega arith;
        same = length-set column name upper ∙ w.same;
        is = ap₂ (λ (m v : ℕ). written_at_names names (drop (i + 1) keys) (set column m v)) e u
            ∙ ap (λ (n : ℕ). written_at_names names (drop n keys) (set column (key_name names (get_or keys i 0)) (upper_of (get_or keys i 0)))) (add-one i)
            ∙ ap (λ (ks : List ℕ). written_at_names names ks column) (sym (drop-cons keys i 0 h))
            ∙ w.is;
      }

-- ---- what a name reads

pub names_read : (names : Names) (t : Table) (keys column : List ℕ) (name : ℕ)
    → Each (λ k. NamesInBounds (length column) (place_of k)) keys
    → of_bits binary32 (get_or (written_at_names names keys column) name 0)
    ≡ q_of names (map (key_side t) keys) (map key_number keys) name (of_bits binary32 (get_or column name 0))
unfolding written_at_names q_of
names_read names t [] column name w = refl
names_read names t (k ∷ ks) column name w =
    let n = key_name names k in
    let h : n < length column = name_in_bounds names (place_of k) _ (length column) w.0 in
    names_read names t ks (set column n (upper_of k)) name
    (subst (λ (m : ℕ). Each (λ x. NamesInBounds m (place_of x)) ks) (sym (length-set column n (upper_of k))) w.1)
    ∙ ap (q_of names (map (key_side t) ks) (map key_number ks) name) (ap (of_bits binary32) (set_reads column n (upper_of k) name 0 h) ∙ bits_cond binary32 (eqb n name) (upper_of k) (get_or column name 0))

-- ---- each place holds the bits of a number

pub names_bits : (names : Names) (keys column : List ℕ) → Each HoldsNumber keys → Each NumberBits column
    → Each NumberBits (written_at_names names keys column)
unfolding written_at_names
names_bits names [] column w h = h
names_bits names (k ∷ ks) column w h =
    names_bits names ks (set column (key_name names k) (upper_of k)) w.1 (all_set NumberBits column (key_name names k) (upper_of k) h w.0)

pub one_bits : to_bits binary32 (of_bits binary32 1065353216) ≡ 1065353216
unfolding to_bits of_bits
one_bits = refl

pub ones_bits : (n : ℕ) → Each NumberBits (replicate n 1065353216)
ones_bits zero = tt
ones_bits (suc n) = (record { small = lit< tt; number = unfold is_nan of_bits in tt }, ones_bits n)

pub length_names : (names : Names) (keys column : List ℕ) → length (written_at_names names keys column) ≡ length column
unfolding written_at_names
length_names names [] column = refl
length_names names (k ∷ ks) column =
    length_names names ks (set column (key_name names k) (upper_of k)) ∙ length-set column (key_name names k) (upper_of k)

-- ---- the rows' slots

pub slots_in_bounds : (count n : ℕ) → n ≡ 2 * count → (slots : List ℕ) → all_allowed count slots ≡ true
    → Each (λ s. eqb s no_part ≡ false → NamesInBounds n s) slots
unfolding all_allowed
slots_in_bounds count n e [] h = tt
slots_in_bounds count n e (s ∷ ss) h =
    let b = both_true (allowed count s) (all_allowed count ss) h in
    ((λ p. omega (arith, slot_in_bounds count s b.0 (eqb-false s no_part p))), slots_in_bounds count n e ss b.1)
