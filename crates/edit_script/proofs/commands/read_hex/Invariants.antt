use Rattle.std.proofs.Common.{◌≡◌, drop, Some}
use Rattle.edit_script.specs.Words.{hex_of, texts_of, both}
use Rattle.edit_script.proofs.commands.read_hex.Given as goal

abbrev pub invariant-loop-word : goal.invariant-loop-word
invariant-loop-word l = hex_of (texts_of l.words) ≡ both (Some l.text.items) (hex_of (texts_of (drop l.word-index l.words)))
