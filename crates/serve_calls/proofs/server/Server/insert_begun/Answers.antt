use Rattle.std.proofs.Common.{Err, ap, inl, inr, refl, subst, sym}
use Rattle.serve_requests.specs.declared.failure.Failure.{Failure}
use Rattle.serve_calls.specs.Recording.{AreMadeBefore}
use Rattle.serve_calls.proofs.Recorded.{none-made}
use Rattle.serve_calls.proofs.server.Server.insert_begun.Goals as goal

pub returns-in-Err-clause-inserts : goal.returns-in-Err-clause-inserts
returns-in-Err-clause-inserts g c = inr (
  c.in-Err.why,
  ap Err c.unkept_failure.ensures,
  record { stays = c.begin_load.ensures.stays; sums = refl; source = refl; history = refl },
)

pub returns-clause-inserts : goal.returns-clause-inserts
returns-clause-inserts g c =
    let done = c.insert_all-inserted.new.self in
    inl (
      record c.args.self.now { backend = c.begin_load.new.self },
      done,
      record done { backend = c.end_load.new.self },
      c.insert_all-inserted.new.step,
      record { stays = c.begin_load.ensures.stays; sums = refl; source = refl; history = refl },
      c.insert_all-inserted.ensures.inserts,
      record { stays = c.end_load.ensures.stays; sums = refl; source = refl; history = refl },
      record {
        keeps = record { backend = refl; sums = refl; source = refl };
        adds = c.end.ensures.ends;
        last = c.end.ensures.done;
        nothing = c.end.ensures.nothing;
      },
    )

pub returns-in-Err-clause-recorded : goal.returns-in-Err-clause-recorded
returns-in-Err-clause-recorded g c = inr (
  refl,
  subst (λ (failure : Failure). AreMadeBefore failure 0) (sym c.unkept_failure.ensures) (none-made c.in-Err.why),
  c.in-Err.ensures.recorded,
)
