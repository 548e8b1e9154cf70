use Rattle.std.proofs.Common.{◌++◌, string_bytes, [], ap, sym, ◌∙◌}
use Rattle.std.proofs.lemmas.List.{append-nil}
use Rattle.std.proofs.lemmas.Result.{on_ok_weaker}
use Rattle.draw_run.specs.Making.{line_words}
use Rattle.script_run.specs.GroupLines.{group_refused_line}
use Rattle.draw_run.proofs.edits.make.Goals as goal
use Rattle.draw_run.proofs.edits.make.Goals.{in-Ok-edit_group, in-Err-Memory-edit_group, in-Err-edit_group}

-- src/edits.rt:33:1
pub returns-after-edit_group : goal.returns-after-edit_group
returns-after-edit_group c =
    elim c.match-edit_group.branch [
      | in-Ok-edit_group w ↦
          rw (w.result-is, c.in-Group.is) (
            [],
            (c.edit_group.result, c.edit_group.ensures.answers, rw w.in-Ok-edit_group.is (λ i. [])),
            ap (λ told. string_bytes told) w.told-is ∙ sym (append-nil (string_bytes c.args.told.now)),
          )
      | in-Err-Memory-edit_group w ↦ rw w.result-is search
      | in-Err-edit_group w ↦
          let words = line_words c.args.number ++ group_refused_line w.in-Err-edit_group.refused in
          rw (w.result-is, w.told-is, c.in-Group.is)
          (on_ok_weaker w.tell_group.result
          (λ is. (words, (c.edit_group.result, c.edit_group.ensures.answers, rw w.in-Err-edit_group.is (λ i. words)), is))
          w.tell_group.ensures)
    ]
