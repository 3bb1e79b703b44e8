use Rattle.std.proofs.Common.{◌≡◌, ◌∙◌, ◌+◌, ◌-◌, ◌*◌, ◌<◌, arith, ap, length, get_or, true, false}
use Rattle.spk_solve.specs.Bins.{in_bin, members}
use Rattle.spk_solve.specs.Groups.{IsBinOf, count_in}
use Rattle.spk_solve.proofs.BinChanges.{count_none}
use Rattle.spk_solve.proofs.BlockMembers.{count_more, member_found, walked}
use Rattle.spk_solve.proofs.GroupChanges.{in_its_bin, in_no_other, one_if, one_if_not}
use Rattle.spk_solve.proofs.GroupStates.{byte_is, list_long}
use Rattle.spk_solve.proofs.group.Group.member_in.Goals as goal
use Rattle.spk_solve.proofs.group.Group.member_in.Goals.{then-index-bin+else-left-eq0, else-index-bin}

pub places-init : goal.places-init
places-init c =
    let none : 64 * c.args.block - 64 * c.args.block ≡ 0 = omega arith in
    omega (arith, ap (count_in c.args.self.now.list c.args.bin (64 * c.args.block)) none, count_none c.args.self.now.list c.args.bin (64 * c.args.block))

pub returns-then-left-eq0 : goal.returns-then-left-eq0
returns-then-left-eq0 c =
    let list = c.args.self.now.list in
    let bin = c.args.bin in
    let first = 64 * c.args.block in
    let place = c.places.place in
    let long : length list ≡ c.self.inside.used = list_long _ _ _ _ _ _ c.args.self.now c.self.invariant c.self.view_is in
    let inside : place < length list = omega arith in
    let byte : IsBinOf c.index.result.now (get_or list place 0) = byte_is _ _ _ _ _ _ c.args.self.now place c.index.result.now c.self.invariant c.self.view_is inside c.index.ensures in
    let there : in_bin bin (get_or list place 0) ≡ true = in_its_bin bin (get_or list place 0) (rw c.if-index-bin.true at byte) c.requires.number in
    let rest : count_in list bin first (place - first) ≡ c.args.rest = omega (arith, c.places.invariant) in
    record { member = member_found list bin first place c.places.auto.place inside there ∙ ap (λ n. get_or (members list bin) (count_in list bin 0 first + n) 0) rest }

pub places-preserved : goal.places-preserved
places-preserved c =
    let list = c.args.self.now.list in
    let bin = c.args.bin in
    let first = 64 * c.args.block in
    let place = c.places.place in
    let long : length list ≡ c.self.inside.used = list_long _ _ _ _ _ _ c.args.self.now c.self.invariant c.self.view_is in
    let inside : place < length list = omega arith in
    let byte : IsBinOf c.index.result.now (get_or list place 0) = byte_is _ _ _ _ _ _ c.args.self.now place c.index.result.now c.self.invariant c.self.view_is inside c.index.ensures in
    let more = count_more list bin first place c.places.auto.place in
    elim c.if-index-bin.branch [
      | then-index-bin+else-left-eq0 w ↦
          let there : in_bin bin (get_or list place 0) ≡ true = in_its_bin bin (get_or list place 0) (rw w.if-index-bin.true at byte) c.requires.number in
          omega (arith, c.places.invariant, more, one_if bin (get_or list place 0) there, w.left-is, w.if-left-eq0.false)
      | else-index-bin w ↦
          let not_there : in_bin bin (get_or list place 0) ≡ false = in_no_other c.index.result.now (get_or list place 0) bin byte c.requires.number w.if-index-bin.false in
          omega (arith, c.places.invariant, more, one_if_not bin (get_or list place 0) not_there, w.left-is)
    ]

pub unreachable-requires : goal.unreachable-requires
unreachable-requires c =
    let list = c.args.self.now.list in
    let long : length list ≡ c.self.inside.used = list_long _ _ _ _ _ _ c.args.self.now c.self.invariant c.self.view_is in
    walked list c.args.bin (64 * c.args.block) c.places.place c.places.left c.args.rest c.places.invariant c.requires.rest c.requires.block (omega arith)
