-- The line check's answer: one law for each way that the call can go. A line is right exactly where no later row
-- qualifies and the line is 0 or its own row qualifies; `answers_right` and `right_answered` say so of the definition.
use mathlib.Core.Path.{◌≡◌, refl, sym, ap, ◌∙◌}
use mathlib.Core.Logic.{◌⊎◌, inl, inr}
use mathlib.Core.List.{List}
use mathlib.Core.Bool.{Bool, true, false, false≢true}
use Prim.Native.Nat.{ℕ, ◌*◌, ◌≤◌, ◌<◌, max}
use native.Mathlib.Omega.{arith}
use borrow.Author.Tests.{le-leb, lt-leb, eq-eqb, ne_eqb, eqb-true, eqb-false}
use lib.Dec.{leb, eqb}
use lib.IntN.{ℤ}
use lib.ListN.{length}
use Rattle.columns.specs.Refusals.{longest}
use Rattle.std.specs.Prelude.{Ok}
use Rattle.folds.proofs.Tests.{lt_or_ge}
use Rattle.counting.specs.Lines.{qualifies, RightLine, right_line}
use Rattle.counting.proofs.Lines.{last_own, last_upper, right_line_lem, right_line_only}
use Rattle.line_check.specs.Check.{per_of, counts_at, judgement, line_answer}
use Rattle.line_check.specs.declared.Counts.{Counts}
use Rattle.line_check.specs.declared.Line.TheVariants.{Right, Wrong}
use Rattle.line_check.specs.declared.Rate.{Rate}
use Rattle.line_check.specs.declared.Rate.TheVariants.{OneIn100, OneIn20}

pub rate_small : (rate : Rate) → per_of rate ≤ 100
rate_small OneIn100 = omega arith
rate_small OneIn20 = omega arith

-- no row after this one qualifies
abbrev pub NoneLater : ℕ → List ℤ → ℕ → Type 0
NoneLater per labels row = (later : ℕ) → row < later → later ≤ length labels → qualifies per labels later ≡ false

module _ (per : ℕ) (labels : List ℤ) (line : ℕ) where
  -- the row whose numbers a wrong line gets: the last later row that qualifies, or, if none does, the line itself
  pub wrong_row : let row = max line (right_line per labels) in
      ((line < row) × (qualifies per labels row ≡ true) × NoneLater per labels row) ⊎
      ((row ≡ line) × NoneLater per labels line)
  wrong_row = elim (lt_or_ge line (right_line per labels)) [
    | inl h ↦
        let e : max line (right_line per labels) ≡ right_line per labels = omega arith in
        let r = right_line_lem per labels in
        inl (omega arith, rw e (elim r.own [ inl z ↦ absurd (omega (arith, z)) | inr q ↦ q ]), rw e r.none_later)
    | inr h ↦ inr (omega arith, λ (later : ℕ) (k : line < later) (l : later ≤ length labels). (right_line_lem per labels).none_later later (omega arith) l)
  ]

  right_judged : line ≡ right_line per labels → judgement per labels line ≡ Right (counts_at labels line)
  right_judged e = rw (eq-eqb line (right_line per labels) e)

  wrong_judged : (line ≡ right_line per labels → ⊥)
      → judgement per labels line ≡ Wrong (counts_at labels (max line (right_line per labels)))
  wrong_judged n = rw (ne_eqb line (right_line per labels) n)

  -- ---- accepted

  module _ (short : length labels ≤ longest) (listed : line ≤ length labels) where
    accepted : line_answer per labels line ≡ Ok (judgement per labels line)
    unfolding line_answer
    accepted = rw (le-leb (length labels) longest short, le-leb line (length labels) listed)

    -- a right line is answered with its own three numbers
    pub right_answered : RightLine per labels line → line_answer per labels line ≡ Ok (Right (counts_at labels line))
    right_answered r = accepted ∙ ap Ok (right_judged (right_line_only per labels line r listed))

    -- any other with those of the last later row that qualifies, or of the line itself
    pub wrong_answered : (RightLine per labels line → ⊥)
        → line_answer per labels line ≡ Ok (Wrong (counts_at labels (max line (right_line per labels))))
    wrong_answered n = accepted ∙ ap Ok (wrong_judged (λ (e : line ≡ right_line per labels). n (rw e (right_line_lem per labels))))

    -- only a right line is answered with Right
    pub answers_right : {c : Counts} → line_answer per labels line ≡ Ok (Right c) → RightLine per labels line
    answers_right {c} e = go (eqb line (right_line per labels)) refl
      where
        go : (b : Bool) → eqb line (right_line per labels) ≡ b → RightLine per labels line
        go true t = rw (eqb-true line (right_line per labels) t) (right_line_lem per labels)
        go false t =
            let z : ◌≡◌ {A = ℕ} 0 1 = cc (accepted ∙ ap Ok (wrong_judged (eqb-false line (right_line per labels) t))) in
            absurd (omega arith)

  -- ---- as the call finds it, from the counts at the line and at the last later row that qualifies

  module _ {own last : Counts} (o : own ≡ counts_at labels line)
      (l : last ≡ counts_at labels (max own.row (right_line per labels))) where
    last_is : last ≡ counts_at labels (max line (right_line per labels))
    last_is = l ∙ ap (λ (c : Counts). counts_at labels (max c.row (right_line per labels))) o

    last_row : last.row ≡ max line (right_line per labels)
    last_row = ap (λ (c : Counts). c.row) last_is

    own_test : leb (per * own.decoys_plus_one) own.targets ≡ qualifies per labels line
    own_test = ap (λ (c : Counts). leb (per * c.decoys_plus_one) c.targets) o

    wrong : (line ≡ right_line per labels → ⊥) → Wrong last ≡ judgement per labels line
    wrong n = ap Wrong last_is ∙ sym (wrong_judged n)

    right : line ≡ right_line per labels → Right own ≡ judgement per labels line
    right e = ap Right o ∙ sym (right_judged e)

    pub own_fails : (line ≡ 0 → ⊥) → own.targets < per * own.decoys_plus_one
        → Wrong last ≡ judgement per labels line
    own_fails n h = wrong (λ (e : line ≡ right_line per labels). elim (last_own (qualifies per labels) (length labels)) [
      | inl z ↦ n (e ∙ z)
      | inr t ↦ false≢true (sym (lt-leb (per * own.decoys_plus_one) own.targets h) ∙ own_test ∙ ap (qualifies per labels) e ∙ t)
    ])

    pub own_qualifies : line ≤ length labels → last.row ≤ line → per * own.decoys_plus_one ≤ own.targets
        → Right own ≡ judgement per labels line
    own_qualifies h₀ h k =
        let q : qualifies per labels line ≡ true = sym own_test ∙ le-leb (per * own.decoys_plus_one) own.targets k in
        right (omega (arith, last_row, last_upper (qualifies per labels) (length labels) line q h₀))
