use Rattle.std.proofs.Common.{◌≡◌, ◌+◌, ◌-◌, List, ℕ, Bor, length, take, drop, sym, subst, arith}
use Rattle.std.specs.List.{All}
use Rattle.std.proofs.lemmas.List.{take_rest, length-drop}
use Rattle.spk_script.proofs.Allowed.{IsAllowed}
use Rattle.spk_script.proofs.Gathered.{reads_on, reads_open, run_is_allowed}
use Rattle.spk_script.proofs.Runs.{nows}
use Rattle.spk_script.proofs.logical.logical_lines.Goals as goal

pub logical_line-requires : goal.logical_line-requires
logical_line-requires c =
    let rest : take (length c.args.lines.now - c.loop-start.start) (drop c.loop-start.start c.args.lines.now) ≡ drop c.loop-start.start c.args.lines.now = take_rest c.args.lines.now c.loop-start.start in
    subst (λ (lines : List (Bor (List ℕ))). All IsAllowed (nows (take c.length_of_first-count.result lines))) (sym rest)
    (run_is_allowed c.args.lines.now c.loop-start.start c.length_of_first-count.result c.requires.allowed)

pub returns-in_default-clause-fault : goal.returns-in_default-clause-fault
returns-in_default-clause-fault c =
    let rest : take (length c.args.lines.now - c.loop-start.start) (drop c.loop-start.start c.args.lines.now) ≡ drop c.loop-start.start c.args.lines.now = take_rest c.args.lines.now c.loop-start.start in
    let within = rw rest at c.length_of_first-count.ensures.within in
    let cut = rw rest at c.length_of_first-count.ensures.cut in
    let line = rw rest at c.in_ok-line.ensures in
    reads_open _ c.loop-start.logical.items (drop c.loop-start.start c.args.lines.now) (c.loop-start.start + 1) c.length_of_first-count.result within cut (cc line) c.loop-start.invariant.read

pub loop-start-preserved : goal.loop-start-preserved
loop-start-preserved c =
    let rest : take (length c.args.lines.now - c.loop-start.start) (drop c.loop-start.start c.args.lines.now) ≡ drop c.loop-start.start c.args.lines.now = take_rest c.args.lines.now c.loop-start.start in
    let within = rw rest at c.length_of_first-count.ensures.within in
    let cut = rw rest at c.length_of_first-count.ensures.cut in
    let line = rw rest at c.in_ok-line.ensures in
    record {
      read = rw c.in_ok-put.ensures (reads_on _ c.loop-start.logical.items c.args.lines.now c.loop-start.start c.length_of_first-count.result _ within cut (cc line) c.loop-start.invariant.read);
      within = omega (arith, within, length-drop c.loop-start.start c.args.lines.now, c.loop-start-test.true);
    }
