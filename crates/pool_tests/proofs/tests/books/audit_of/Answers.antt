use Rattle.std.proofs.Common.{subst}
use Rattle.stream_edits.specs.Edits.{Register, Replays}
use Rattle.stream_edits.specs.Journals.{edits_of}
use Rattle.pool_tests.proofs.tests.books.audit_of.Goals as goal

pub audit-requires : goal.audit-requires
audit-requires c =
    let session = c.args.session.now in
    let none = c.began_without_units.ensures.0 c.if-not-began_without_units.false in (
      session.register,
      rw (c.journal.ensures.value)
          (subst (λ (origin : Register). Replays origin (edits_of session.journal) session.register) none c.journal.ensures.replayed),
    )
