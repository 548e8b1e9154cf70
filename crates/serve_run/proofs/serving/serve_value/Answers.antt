use Rattle.std.proofs.Common.{Bool, subst}
use Rattle.serde_json.specs.Data.{Items}
use Rattle.serve_run.specs.Serving.{GoesOn, ServesAll}
use Rattle.serve_run.proofs.serving.serve_value.Goals as goal

pub returns : goal.returns
returns g c =
    let all = c.serve_all-is_last.ensures in (
      all.0,
      c.serve_all-is_last.new.wanted.items,
      subst (λ (items : Items). ServesAll g.B.LendsSession.is_session g.B.Backend.offers g.S.Source.file c.args.server.now
          c.args.writer.now.wanted.items items all.0 c.serve_all-is_last.new.server c.serve_all-is_last.new.wanted.items)
          c.messages_in-messages.ensures all.1,
      subst (λ (is_last : Bool). GoesOn is_last c.go_on.result) all.2 c.go_on.ensures,
    )
