use Rattle.std.proofs.Common.{◌≡◌, ◌||◌, List, drop}
use Rattle.serde_json.specs.View.{items_view}
use Rattle.serve_calls.specs.declared.requests.Served.{Served}
use Rattle.serve_calls.specs.declared.server.Server.{Server}
use Rattle.serve_calls.specs.declared.wanted_units.WantedUnit.{WantedUnit}
use Rattle.serve_run.specs.Serving.{ServesAll, end_any}
use Rattle.serve_run.proofs.serving.serve_all.Given as goal

-- what becomes of the messages that are left, behind those before them, becomes of all
abbrev pub invariant-loop-value : goal.invariant-loop-value
invariant-loop-value g l = (rest : List Served) (new : Server g.row.B.Denot g.row.S.Denot) (wants : List WantedUnit)
    → ServesAll g.B.LendsSession.is_session g.B.Backend.offers g.S.Source.file l.server l.wanted.items
    (items_view (drop l.value-index l.values)) rest new wants
    → (served : List Served)
    × ServesAll g.B.LendsSession.is_session g.B.Backend.offers g.S.Source.file l.fn.server l.fn.wanted.items
    (items_view l.values) served new wants
    × (end_any served ≡ (l.is_last || end_any rest))
