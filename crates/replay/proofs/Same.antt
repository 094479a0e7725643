-- A place more of two columns that are compared.
use Rattle.std.proofs.Common.{◌≡◌, ◌==◌, ◌&&◌, ◌↔◌, ◌∷◌, ℕ, List, Bool, true, false, IsTrue, arith}
use Rattle.std.proofs.lemmas.Grind.{common_steps}

pub place_more : (same : Bool) (x y : ℕ) (xs ys : List ℕ) {P : Type 0} → ((IsTrue same × (x ∷ xs ≡ y ∷ ys)) ↔ P)
    → ((IsTrue (same && (x == y)) × (xs ≡ ys)) ↔ P)
place_more false x y xs ys e =
    (λ h. grind (arith, common_steps, h), λ p. let h = e.1 p in grind (arith, common_steps, h))
place_more true x y xs ys e =
    (λ h. e.0 (grind (arith, common_steps, h)), λ p. let h = e.1 p in grind (arith, common_steps, h))
