use Rattle.std.proofs.Common.{◌≡◌, drop, Some}
use Rattle.edit_script.specs.Commands.{ids_of_words}
use Rattle.edit_script.specs.Words.{texts_of, both}
use Rattle.edit_script.proofs.commands.read_ids.Given as goal

abbrev pub invariant-loop-word : goal.invariant-loop-word
invariant-loop-word l = ids_of_words (texts_of l.words) ≡ both (Some l.ids.items) (ids_of_words (texts_of (drop l.word-index l.words)))
