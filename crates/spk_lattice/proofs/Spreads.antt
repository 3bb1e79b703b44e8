-- The spread of each style, by computing.
use Rattle.std.proofs.Common.{◌≡◌, ◌≤◌, ℕ, refl, true, arith}
use Rattle.std.proofs.lemmas.Bool.Decides.{nat_tests}
use Rattle.std.specs.Prelude.{nat_le}
use Rattle.spk_num.specs.declared.style.Style.{Style}
use Rattle.spk_num.specs.declared.style.Style.TheVariants.{Line2, Sq4, Sq8, Tri, Sc6, Sc26, Bcc, Fcc}
use Rattle.spk_lattice.specs.Spread.{spread, ball}
use Rattle.spk_lattice.specs.Neighbours.{offsets}

is_small : (style : Style) → nat_le (spread style 4) 729 ≡ true
unfolding spread ball offsets
is_small Line2 = refl
is_small Sq4 = refl
is_small Sq8 = refl
is_small Tri = refl
is_small Sc6 = refl
is_small Sc26 = refl
is_small Bcc = refl
is_small Fcc = refl

pub spread_four : (style : Style) → spread style 4 ≤ 729
spread_four style = let n : ℕ = spread style 4 in let is : nat_le n 729 ≡ true = is_small style in grind (arith, nat_tests)
