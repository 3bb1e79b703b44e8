use Rattle.std.proofs.Common.{sym, ◌∙◌}
use Rattle.spk_world.proofs.Pieces.{after-adds-empty, added-prefix}
use Rattle.spk_world.proofs.memory.MemWorld.add_prefix.Goals as goal

pub returns-then-is_empty-clause-ok : goal.returns-then-is_empty-clause-ok
returns-then-is_empty-clause-ok c = sym (after-adds-empty _ _ _ (sym c.is_empty.ensures ∙ c.if-is_empty.true))

pub returns-clause-ok : goal.returns-clause-ok
returns-clause-ok c = added-prefix _ _ _ _ _ (sym c.is_empty.ensures ∙ c.if-is_empty.false) c.append.ensures.ok
