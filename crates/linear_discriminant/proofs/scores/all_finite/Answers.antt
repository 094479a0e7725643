-- `linear_discriminant::scores::all_finite` meets its contract: the library's `all` answers for each coefficient.
use mathlib.Core.Path.{◌∙◌}
use borrow.Author.Rules.{rules}
use borrow.Author.Tests.{tests}
use Rattle.std.specs.Float.{float_is_finite}
use Rattle.std.proofs.lemmas.Iterator.{YieldsList-from_slice}
use Rattle.std.proofs.lemmas.Iterator.Search.{all_from_yields_List}
use Rattle.linear_discriminant.proofs.Coefficients.{all_finite_is}
use Rattle.linear_discriminant.proofs.scores.all_finite.Goals as goal

pub returns : goal.returns
returns c =
    all_from_yields_List float_is_finite _ _ _ c.all.ensures.ran (YieldsList-from_slice c.args.coefficients.now cc)
    (λ x b q k. search (rules, tests))
    ∙ all_finite_is c.args.coefficients.now c.told-coefficients
