use Rattle.std.proofs.Common.{◌≡◌, Some, None, get_or, rules}
use Rattle.std.proofs.lemmas.List.Sorted.{answers_always}
use Rattle.spk_script.specs.Lines.{line_numbered}
use Rattle.spk_script.proofs.Scripts.{found_line, no_line}
use Rattle.spk_script.proofs.script.Script.line_numbered.Goals as goal

-- the line that was read is the one that was found
pub returns-in-Ok : goal.returns-in-Ok
returns-in-Ok c =
    let equal = c.in-Ok.ensures.position (λ line. line.number) (answers_always _ _ _ (λ f a r g called. search rules)) in
    let found : line_numbered c.self.inside.lines.items c.args.number
    ≡ Some (get_or c.self.inside.lines.items c.in-Ok.place c.index.result.now) =
    found_line c.self.inside.lines.items c.self.invariant.rising c.args.number c.in-Ok.place c.index.result.now
    (rw c.deref.ensures.value at c.in-Ok.ensures.bound) (rw c.deref.ensures.value at equal) in
    cc

pub returns-in-Err : goal.returns-in-Err
returns-in-Err c =
    let parted = c.in-Err.ensures.position (λ line. line.number) (answers_always _ _ _ (λ f a r g called. search rules)) in
    let none : line_numbered c.self.inside.lines.items c.args.number ≡ None =
    no_line c.self.inside.lines.items c.self.invariant.rising c.args.number c.in-Err.field-0 (rw c.deref.ensures.value at parted) in
    cc
