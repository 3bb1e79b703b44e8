use Rattle.std.proofs.Common.{arith, refl, sym, ◌∙◌, get_or}
use Rattle.spk_turn.proofs.Adding.{place_longer}
use Rattle.spk_turn.proofs.Changing.{changed_none, changed_more, unchanged_more}
use Rattle.spk_turn.proofs.changes.gather_changed.Goals as goal
use Rattle.spk_turn.proofs.changes.gather_changed.Goals.{then-value-before, else-value-before}

pub loop-k-init : goal.loop-k-init
loop-k-init g c = rw c.clear.ensures (changed_none _ c.args.places.now c.args.before.now)

pub add-requires : goal.add-requires
add-requires g c = omega (arith, c.loop-k.invariant.few, place_longer c.loop-k.changed (get_or c.args.places.now c.loop-k.k 0), c.loop-k-test.true, c.requires.few)

pub loop-k-preserved : goal.loop-k-preserved
loop-k-preserved g c =
    elim c.if-value-before.branch [
      | then-value-before w ↦ rw (w.changed-is, w.add.ensures) (changed_more _ c.args.places.now c.args.before.now c.loop-k.changed c.loop-k.k c.loop-k-test.true (λ same. w.if-value-before.true (c.value.ensures ∙ sym same)) c.loop-k.invariant)
      | else-value-before w ↦ rw w.changed-is (unchanged_more _ c.args.places.now c.args.before.now c.loop-k.changed c.loop-k.k c.value.result _ c.value.ensures refl w.if-value-before.false c.loop-k.invariant)
    ]

pub returns-clause-all : goal.returns-clause-all
returns-clause-all g c = λ k less. c.loop-k.invariant.all k (omega (arith, less, c.loop-k-test.false))
