use Rattle.std.proofs.Common.{length}
use denote.Text.{Utf8}
use denote.Shadow.{shadow}
use Rattle.spk_script.proofs.LineBuffers.{IsPushed}
use Rattle.spk_script.proofs.line_buffer.LineBuffer.push_bare.Given as goal

-- the text so far, and what is left
abbrev pub invariant-loop-part : goal.invariant-loop-part
invariant-loop-part l = record { utf8 : shadow (Utf8 l.left); pushed : IsPushed l.fn.self l.fn.text l.self l.left }

abbrev pub decreases-loop-part : goal.decreases-loop-part
decreases-loop-part l = length l.left
