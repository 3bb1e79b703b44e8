use Rattle.spk_script.proofs.LineBuffers.{past_limit}
use Rattle.spk_script.proofs.line_buffer.LineBuffer.push_part.Goals as goal

pub returns-then-self : goal.returns-then-self
returns-then-self c = past_limit _ _ _ c.if-self.true
