use Rattle.std.proofs.Common.{sym, subst}
use Rattle.std.proofs.lemmas.List.Elements.{All-get_or}
use Rattle.spk_run.specs.Snapshots.{HasRoomForDumps, HasTextRoom, scene_at}
use Rattle.spk_run.proofs.DumpTelling.{dumps_so_far_none, dumps_so_far_more, dumps_so_far_all, shows_itself, shows_on, text_room}
use Rattle.spk_run.proofs.teller.Teller.tell_dumps.Goals as goal

pub loop-dump-init : goal.loop-dump-init
loop-dump-init g c = record {
  telling = λ log values are. dumps_so_far_none log (scene_at c.args.self.now.writer c.args.time values) c.as_slice-dump-items.result.now _ _;
  can_tell = c.requires.can_tell;
  shows = shows_itself c.args.self.now.writer;
}

pub tell_dump-requires-clause-room : goal.tell_dump-requires-clause-room
tell_dump-requires-clause-room g c =
    let all : HasRoomForDumps c.args.self.now.writer c.as_slice-dump-items.result.now = subst (HasRoomForDumps c.args.self.now.writer) (sym c.as_slice-dump-items.ensures) c.requires.room in
    let here : HasTextRoom c.args.self.now.writer c.dump-item.result =
    subst (HasTextRoom c.args.self.now.writer) (sym c.dump-item.is) (All-get_or (HasTextRoom c.args.self.now.writer) c.as_slice-dump-items.result.now c.loop-dump.dump-index c.dump-item.result c.loop-dump-test.true all) in
    text_room c.args.self.now.writer c.loop-dump.self.writer c.dump-item.result c.loop-dump.invariant.shows here

pub tell_dump-requires-clause-pieces : goal.tell_dump-requires-clause-pieces
tell_dump-requires-clause-pieces g c = rw c.loop-dump.invariant.shows.sectors c.requires.pieces

pub loop-dump-preserved : goal.loop-dump-preserved
loop-dump-preserved g c = record {
  telling = λ log values are. dumps_so_far_more log c.args.self.now.writer c.loop-dump.self.writer c.args.time values _ c.loop-dump.dump-index c.dump-item.result _ _ _ _ _ _ c.loop-dump-test.true c.dump-item.is c.loop-dump.invariant.shows
      (c.loop-dump.invariant.telling log values are) (c.tell_dump.ensures.telling log values (rw c.loop-dump.invariant.shows.sectors are));
  can_tell = c.tell_dump.ensures.can_tell;
  shows = shows_on _ _ _ c.loop-dump.invariant.shows c.tell_dump.ensures.same;
}

pub returns-clause-telling : goal.returns-clause-telling
returns-clause-telling g c = λ log values are.
    dumps_so_far_all log (scene_at c.args.self.now.writer c.args.time values) _ c.args.dumps.now c.loop-dump.dump-index _ _ _ _ c.as_slice-dump-items.ensures c.loop-dump-test.false (c.loop-dump.invariant.telling log values are)
