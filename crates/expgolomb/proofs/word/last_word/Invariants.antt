use Rattle.std.proofs.Common.{◌≡◌, ◌++◌, take, replicate}
use Rattle.expgolomb.specs.Bits.{number, bits_of}
use Rattle.expgolomb.proofs.word.last_word.Given as goal

-- the number of the bytes so far
abbrev pub invariant-loop-i : goal.invariant-loop-i
invariant-loop-i l = l.word ≡ number (bits_of (take l.i (l.bytes ++ replicate 8 0)))
