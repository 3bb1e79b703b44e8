use Rattle.spk_turn.proofs.PatchSlots.{stored_box}
use Rattle.spk_turn.proofs.patch_turns.slots_of.Goals as goal

pub along-requires-clause-lo : goal.along-requires-clause-lo
along-requires-clause-lo c = (stored_box _ _ c.known.ensures.patch c.known.ensures.wrapped c.requires).x.lo.few

pub along-requires-clause-hi : goal.along-requires-clause-hi
along-requires-clause-hi c = (stored_box _ _ c.known.ensures.patch c.known.ensures.wrapped c.requires).x.hi.few

pub along-requires-2-clause-lo : goal.along-requires-2-clause-lo
along-requires-2-clause-lo c = (stored_box _ _ c.known.ensures.patch c.known.ensures.wrapped c.requires).y.lo.few

pub along-requires-2-clause-hi : goal.along-requires-2-clause-hi
along-requires-2-clause-hi c = (stored_box _ _ c.known.ensures.patch c.known.ensures.wrapped c.requires).y.hi.few

pub along-requires-3-clause-lo : goal.along-requires-3-clause-lo
along-requires-3-clause-lo c = (stored_box _ _ c.known.ensures.patch c.known.ensures.wrapped c.requires).z.lo.few

pub along-requires-3-clause-hi : goal.along-requires-3-clause-hi
along-requires-3-clause-hi c = (stored_box _ _ c.known.ensures.patch c.known.ensures.wrapped c.requires).z.hi.few
