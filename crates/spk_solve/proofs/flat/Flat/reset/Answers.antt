use Rattle.std.proofs.Common.{arith, ◌≡◌, take, replicate, subst}
use Rattle.spk_solve.proofs.Keeps.{kept_zeros}
use Rattle.spk_solve.proofs.flat.Flat.reset.Goals as goal

pub invariant_of-self : goal.invariant_of-self
invariant_of-self c =
    let all : c.zeros.place ≡ c.args.n = omega arith in
    let zeros : take c.args.n c.zeros.self-inside.weights.items ≡ replicate c.args.n 0 =
    subst (λ n. take n c.zeros.self-inside.weights.items ≡ replicate n 0) all c.zeros.invariant.zeros in
    kept_zeros _ _ (omega (arith, c.zeros.invariant.all)) (omega arith) zeros
